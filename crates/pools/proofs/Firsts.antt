-- The first that `find_map` over a range of numbers gives.
use Rattle.std.proofs.Common.{◌≡◌, ℕ, zero, suc, ◌+◌, ◌-◌, ◌<◌, IsTrue, Some, None, Option, MatchOption, IfSome, IsSomeAnd, sym, refl, ap, ◌∙◌, subst, arith}
use denote.Param.Members.{Mut}
use Rattle.std.specs.Fn.{Called}
use Rattle.std.specs.Option.{option_or, option_map}
use Rattle.std.specs.Iterator.Runs.{SomeRun, AllItemsGive, IsFirstToGive, ItemsCountUp, CallKeepsClosure}
use Rattle.std.specs.declared.ops.Range.{Range}
use Rattle.std.proofs.iter.Yields.{nat_range_steps}
use Rattle.std.proofs.iter.runs.Sources.{range_runs}

module _ {B : Type 0} (h : ℕ → Option B) where
  -- what h gives first, of n numbers from a on
  abbrev pub first_in : ℕ → ℕ → Option B
  first_in a zero = None
  first_in a (suc n) = option_or (h a) (first_in (suc a) n)

  first_none : (a n : ℕ) → ((k : ℕ) → k < n → h (a + k) ≡ None) → first_in a n ≡ None
  first_none a zero e = refl
  first_none a (suc n) e =
      let here : h a ≡ None = ap h (omega arith) ∙ e 0 (omega arith) in
      rw here (first_none (suc a) n (λ k l. let q : suc a + k ≡ a + suc k = omega arith in ap h q ∙ e (suc k) (omega arith)))

  first_some : (a n i : ℕ) (y : B) → i < n → h (a + i) ≡ Some y → ((k : ℕ) → k < i → h (a + k) ≡ None) → first_in a n ≡ Some y
  first_some a zero i y l s e = absurd (omega arith)
  first_some a (suc n) zero y l s e = let here : h a ≡ Some y = ap h (omega arith) ∙ s in rw here refl
  first_some a (suc n) (suc i) y l s e =
      let here : h a ≡ None = ap h (omega arith) ∙ e 0 (omega arith) in
      let q : suc a + i ≡ a + suc i = omega arith in
      rw here (first_some (suc a) n i y (omega arith) (ap h q ∙ s) (λ k u. let v : suc a + k ≡ a + suc k = omega arith in ap h v ∙ e (suc k) (omega arith)))

at_number : (o : Option ℕ) (n : ℕ) (P : ℕ → Type 0) → option_map (λ y. y) o ≡ Some n → IfSome o P → P n
at_number (Some x) n P e h = let q : x ≡ n = cc in subst P q h
at_number None n P e h = let z : ◌≡◌ {A = ℕ} 0 1 = cc in absurd (omega arith)

from_some : {A : Type 0} (o : Option A) (P : A → Type 0) → IsSomeAnd o P → IfSome o P
from_some (Some x) P h = h
from_some None P h = absurd h

-- the clause `runs` of `find_map`, where the closure computes h
pub range_find_map : {F B : Type 0} {g : Mut F (ℕ × Unit {0}) (Option B)} (s : Range ℕ) (f : F) (r : Option B) (h : ℕ → Option B)
    → SomeRun nat_range_steps s (λ p. MatchOption r (IsTrue p.whole × AllItemsGive p g f None) (λ y. (i : ℕ) × (i < p.len) × (p.len ≡ i + 1) × IsFirstToGive p g f (Some y) None i))
    → ((x : ℕ) (o : Option B) (q : F) → Called g f (x, tt) o q → (q ≡ f) × (o ≡ h x)) → r ≡ first_in h s.start (s.end - s.start)
range_find_map {B = B} {g = g} s f r h ran called = by r ran.2
  where
    counts : ItemsCountUp ran.0 s.start s.end
    counts = subst (λ (v : Range ℕ). ItemsCountUp ran.0 v.start v.end) ran.1 (range_runs ran.0 ran.0.seen)

    keeps : CallKeepsClosure g f
    keeps a o q k = (called a.0 o q k).0

    answer : (o : Option B) (k : ℕ) → k < ran.0.len → IfSome (ran.0.at k) (λ x. Called g f (x, tt) o f) → h (s.start + k) ≡ o
    answer o k l e = sym (called (s.start + k) o f (at_number (ran.0.at k) (s.start + k) (λ x. Called g f (x, tt) o f) (counts.3 k l) e)).1

    by : (o : Option B) → MatchOption o (IsTrue ran.0.whole × AllItemsGive ran.0 g f None) (λ y. (i : ℕ) × (i < ran.0.len) × (ran.0.len ≡ i + 1) × IsFirstToGive ran.0 g f (Some y) None i) → o ≡ first_in h s.start (s.end - s.start)
    by None e = sym (first_none h s.start (s.end - s.start) (λ k l. answer None k (omega (arith, counts.1 e.0)) (e.1 keeps k)))
    by (Some y) e =
        let gave = e.3 keeps in
        sym (first_some h s.start (s.end - s.start) e.0 y (omega (arith, counts.0))
        (answer (Some y) e.0 e.1 (from_some (ran.0.at e.0) _ gave.0))
        (λ k l. answer None k (omega arith) (from_some (ran.0.at k) _ (gave.1 k l))))

pub same_option : {A : Type 0} (o : Option A) → o ≡ option_map (λ x. x) o
same_option (Some x) = refl
same_option None = refl
