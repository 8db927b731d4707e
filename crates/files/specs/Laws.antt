-- Proofs of the laws that columns show. A law may cite only specs/, so they stand here; no contract means them.
pub mod Columns
