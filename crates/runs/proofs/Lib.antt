mod Held
mod Running
mod Renewing
mod Comparing
