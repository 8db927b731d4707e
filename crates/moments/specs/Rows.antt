-- What a row keeps, and what adding to it answers and leaves.
use Rattle.std.specs.Prelude.{◌≡◌, ℕ, min, Bool, true, false, cond, ◌||◌, ◌⊎◌, List, length, take, is_ok, Ok, Err, Result, nat_lt}
use mathlib.Core.List.{Memᴰ}
use Rattle.terms.specs.declared.refusal.Refusal.{Refusal}
use Rattle.terms.specs.declared.refusal.Refusal.TheVariants.{Full}
use Rattle.moments.specs.declared.row.Row.{Row}
use Rattle.moments.specs.Order.{Ascending, among, with}

-- how many slots it has
abbrev pub slots_of : {A : Type 0} → Row A → ℕ
slots_of r = length r.slots.now

-- how many it keeps
abbrev pub count : {A : Type 0} → Row A → ℕ
count r = min r.len (slots_of r)

-- what stands in the first slots, up to the count
abbrev pub kept : {A : Type 0} → Row A → List A
kept r = take (count r) r.slots.now

-- whether it was new; a new one needs a slot
abbrev pub add_answer : {A : Type 0} → (A → A → Bool) → ℕ → List A → A → Result Bool Refusal
add_answer before slots xs x = cond (among before x xs) (Ok false) (cond (nat_lt (length xs) slots) (Ok true) (Err Full))

-- the list with x, unless x is new and finds no slot
abbrev pub added : {A : Type 0} → (A → A → Bool) → ℕ → List A → A → List A
added before slots xs x = cond (among before x xs || nat_lt (length xs) slots) (with before x xs) xs

-- Adding x to a row of so many slots that keeps xs answers r and leaves ys.
pub record Adds {A : Type 0} (before : A → A → Bool) (slots : ℕ) (xs : List A) (x : A) (r : Result Bool Refusal) (ys : List A) : Type 0 where
  pub answer : r ≡ add_answer before slots xs x
  pub after : ys ≡ added before slots xs x
  -- in words: what is kept still ascends; accepted, it is x and what was kept; refused, it is what was kept
  pub ascends : Ascending before ys
  pub only : is_ok r ≡ true → (y : A) → Memᴰ y ys → (y ≡ x) ⊎ Memᴰ y xs
  pub all : is_ok r ≡ true → (y : A) → (y ≡ x) ⊎ Memᴰ y xs → Memᴰ y ys
  pub same : is_ok r ≡ false → ys ≡ xs
