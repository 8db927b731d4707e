-- Each column is one of the four.
use Rattle.std.proofs.Common.{refl}
use mathlib.Core.List.Memᴰ.{head as here, tail as there}
use mathlib.Core.List.{Memᴰ}
use Rattle.files.specs.declared.columns.RuleColumn.{RuleColumn}
use Rattle.files.specs.declared.columns.RuleColumn.TheVariants.{Label, First, How, Second}
use Rattle.files.specs.RuleFiles.{columns}

pub columns_complete : (c : RuleColumn) → Memᴰ c columns
columns_complete Label = here refl
columns_complete First = there (here refl)
columns_complete How = there (there (here refl))
columns_complete Second = there (there (there (here refl)))
