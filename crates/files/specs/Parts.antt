-- A text cut at a byte, and put together again.
use Rattle.std.specs.Prelude.{ℕ, cond, List, [], ◌∷◌, ◌++◌, ◌==◌, Some, None, Option}
use Rattle.std.specs.Borrow.{Bor}

-- The byte in front of the first part.
abbrev pub in_front : ℕ → List (List ℕ) → List (List ℕ)
in_front x [] = (x ∷ []) ∷ []
in_front x (p ∷ ps) = (x ∷ p) ∷ ps

-- The parts of a text between the bytes b: one more than there are such bytes.
abbrev pub split : ℕ → List ℕ → List (List ℕ)
split b [] = [] ∷ []
split b (x ∷ xs) = cond (x == b) ([] ∷ split b xs) (in_front x (split b xs))

-- The parts of what is left of a text, if something is.
abbrev pub parts_left : ℕ → Option (Bor (List ℕ)) → List (List ℕ)
parts_left b None = []
parts_left b (Some rest) = split b rest.now

-- The parts with the byte b between them.
abbrev pub joined : ℕ → List (List ℕ) → List ℕ
joined b [] = []
joined b (p ∷ []) = p
joined b (p ∷ q ∷ ps) = p ++ (b ∷ joined b (q ∷ ps))

-- Each part with the byte b after it.
abbrev pub ended : ℕ → List (List ℕ) → List ℕ
ended b [] = []
ended b (p ∷ ps) = p ++ (b ∷ ended b ps)
