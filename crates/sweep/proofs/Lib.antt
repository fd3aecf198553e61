mod Elements
mod Indices
mod Joined
mod Own
mod Sound
mod Front
