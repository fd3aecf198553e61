pub mod Priors
pub mod Again
pub mod Back
