pub mod Numbers
pub mod Shapes
pub mod Cells
pub mod Pairs
pub mod Arrivals
pub mod Worked
