mod Worths
mod Bounds
mod Fitting
mod Agreeing
