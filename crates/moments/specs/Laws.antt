-- Proofs of the laws that the kinds of moment show. A law may cite only specs/, so they stand here; no contract means them.
pub mod Readings
pub mod Numerals
pub mod DayTexts
pub mod Lex
pub mod Stamps
