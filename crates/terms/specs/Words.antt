-- Words by which things are called.
use Rattle.std.specs.Prelude.{ℕ, List, Option}
use Rattle.std.specs.List.{find}
use Rattle.std.specs.Str.{bytes_eq}

-- The first thing whose word is the text, if one has it.
abbrev pub first_with : {A : Type 0} → (A → List ℕ) → List A → List ℕ → Option A
first_with word xs text = find (λ x. bytes_eq (word x) text) xs
