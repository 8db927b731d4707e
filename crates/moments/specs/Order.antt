-- Strict total orders, and lists that ascend by one.
use Rattle.std.specs.Prelude.{◌≡◌, ℕ, suc, Bool, true, false, cond, not, ◌&&◌, ◌||◌, List, [], ◌∷◌, Some, None, Ok, Err, Option, Result}

-- Of two values exactly one comes before the other, unless they are the same.
pub record StrictTotalOrder {A : Type 0} (before : A → A → Bool) : Type 0 where
  pub irreflexive : (x : A) → before x x ≡ false
  pub connected : (x y : A) → before x y ≡ false → before y x ≡ false → x ≡ y
  pub transitive : (x y z : A) → before x y ≡ true → before y z ≡ true → before x z ≡ true

-- by one thing first, and where neither comes before the other there, by the rest
abbrev pub first_by : {X A : Type 0} → (A → A → Bool) → (X → A) → (X → X → Bool) → X → X → Bool
first_by before part rest x y = before (part x) (part y) || (not (before (part y) (part x)) && rest x y)

module _ {A : Type 0} (before : A → A → Bool) where
  -- x is before each of the list
  abbrev pub all_after : A → List A → Bool
  all_after x [] = true
  all_after x (y ∷ ys) = before x y && all_after x ys

  -- each before all that follow it
  abbrev pub ascends : List A → Bool
  ascends [] = true
  ascends (x ∷ xs) = all_after x xs && ascends xs

  abbrev pub Ascending : List A → Type 0
  Ascending xs = ascends xs ≡ true

  -- one of the list is neither before x nor after it
  abbrev pub among : A → List A → Bool
  among x [] = false
  among x (y ∷ ys) = (not (before x y) && not (before y x)) || among x ys

  -- how many of an ascending list come before x: the index of x
  abbrev pub rank : A → List A → ℕ
  rank x [] = 0
  rank x (y ∷ ys) = cond (before y x) (suc (rank x ys)) 0

  -- the ascending list with x, which it holds once
  abbrev pub with : A → List A → List A
  with x [] = x ∷ []
  with x (y ∷ ys) = cond (before x y) (x ∷ y ∷ ys) (cond (before y x) (y ∷ with x ys) (y ∷ ys))

  -- the first that comes after x
  abbrev pub least_after : A → List A → Option A
  least_after x [] = None
  least_after x (y ∷ ys) = cond (before x y) (Some y) (least_after x ys)

  -- the index of x if the list has it, else the index where it belongs
  abbrev pub found : A → List A → Result ℕ ℕ
  found x xs = cond (among x xs) (Ok (rank x xs)) (Err (rank x xs))

-- of an ascending list the first is the least
abbrev pub least : {A : Type 0} → List A → Option A
least [] = None
least (x ∷ xs) = Some x
