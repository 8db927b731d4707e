-- Finite sets of periods, as lists in ascending order.
use Rattle.std.specs.Prelude.{◌≡◌, ℕ, ◌≤◌, Bool, true, false, cond, ◌&&◌, ◌||◌, ◌⊎◌, List, [], ◌∷◌, length, is_ok, Ok, Err, Option, Result, nat_le, nat_lt}
use mathlib.Core.List.{Memᴰ}
use Rattle.terms.specs.declared.refusal.Refusal.{Refusal}
use Rattle.terms.specs.declared.refusal.Refusal.TheVariants.{Full, OffThePool}
use Rattle.pools.specs.declared.size.Size.{Size}
use Rattle.moments.specs.Order as order
use Rattle.pools.specs.Periods.{Span, sooner}

abbrev pub Ascending : List Span → Type 0
Ascending ps = order.Ascending sooner ps

abbrev pub member : Span → List Span → Bool
member p ps = order.among sooner p ps

-- the set with p
abbrev pub with : Span → List Span → List Span
with p ps = order.with sooner p ps

-- the first member that is later than p
abbrev pub least_after : Span → List Span → Option Span
least_after p ps = order.least_after sooner p ps

-- within the labels and places, and not backwards: what is not is off the pool
abbrev pub in_bounds : ℕ → ℕ → Span → Bool
in_bounds labels places p = nat_lt p.label.0 labels && (nat_lt p.end.0 places && nat_le p.start.0 p.end.0)

abbrev pub all_in_bounds : ℕ → ℕ → List Span → Bool
all_in_bounds labels places [] = true
all_in_bounds labels places (p ∷ ps) = in_bounds labels places p && all_in_bounds labels places ps

-- What holds of the members of every pool: each is before the next, they are no more than the capacity, and each is in bounds.
pub record Sound (size : Size) (ps : List Span) : Type 0 where
  pub ascending : Ascending ps
  pub bounded : length ps ≤ size.capacity
  pub inside : all_in_bounds size.labels size.places ps ≡ true

-- off the pool first; then a member is accepted, and a new one if there is room
abbrev pub put_answer : Size → List Span → Span → Result Unit Refusal
put_answer size ps p =
    cond (in_bounds size.labels size.places p) (cond (member p ps || nat_lt (length ps) size.capacity) (Ok tt) (Err Full)) (Err OffThePool)

-- the members with p where p is accepted, else as they were
abbrev pub set_after : Size → List Span → Span → List Span
set_after size ps p =
    cond (in_bounds size.labels size.places p && (member p ps || nat_lt (length ps) size.capacity)) (with p ps) ps

-- Putting p into a pool of that size with the members ps answers r and leaves the members qs.
pub record Puts (size : Size) (ps : List Span) (p : Span) (r : Result Unit Refusal) (qs : List Span) : Type 0 where
  pub answer : r ≡ put_answer size ps p
  pub after : qs ≡ set_after size ps p
  -- in words: accepted, the members are p and those before; refused, they are those before
  pub only : is_ok r ≡ true → (q : Span) → Memᴰ q qs → (q ≡ p) ⊎ Memᴰ q ps
  pub all : is_ok r ≡ true → (q : Span) → (q ≡ p) ⊎ Memᴰ q ps → Memᴰ q qs
  pub same : is_ok r ≡ false → qs ≡ ps
