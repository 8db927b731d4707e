-- Proofs of the laws that relations show. A law may cite only specs/, so they stand here; no contract means them.
pub mod Relations
