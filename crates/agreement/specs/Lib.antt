pub mod Swept
pub mod Totals
pub mod Refusals
