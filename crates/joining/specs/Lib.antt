pub mod Laws
pub mod Costs
pub mod LeastCosts
pub mod Admitting
pub mod Counting
pub mod AdmittingLemmas
pub mod CountingLemmas
pub mod LeastCostsLemmas
