-- Proofs of the laws that periods and grids show. A law may cite only specs/, so they stand here; no contract means them.
pub mod Earlier
pub mod Grids
