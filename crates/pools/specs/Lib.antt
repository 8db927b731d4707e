pub mod Cells
pub mod GridPools
pub mod ListPools
pub mod Periods
pub mod Sets
pub mod Laws
