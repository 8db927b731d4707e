use Rattle.std.proofs.Common.{◌≡◌, ℕ, ◌+◌, ◌≤◌, Bool, ◌&&◌, ◌||◌, ltb, cond, List, length, sym, refl, ap, ◌∙◌, inl, inr, arith, rules}
use Rattle.std.proofs.lemmas.List.{length-set}
use Rattle.std.proofs.lemmas.Bool.{lt-ltb, le-ltb, cases_lt}
use Rattle.rules.specs.declared.rule_set.RuleSet.{RuleSet}
use Rattle.rules.specs.RuleSets.{marked}
use Rattle.rules.proofs.Rows.{marked-set, marked_past, ltb_here, ltb_there}
use Rattle.rules.proofs.reach.through.Goals as goal

module _ (rows : List RuleSet) (k : ℕ) where
  abbrev wide : ℕ → ℕ → Bool
  wide m n = marked rows m n || (marked rows m k && marked rows k n)

  abbrev upto : ℕ → ℕ → ℕ → Bool
  upto i m n = cond (ltb m i) (wide m n) (marked rows m n)

  before : (i m n : ℕ) → i ≤ m → upto i m n ≡ marked rows m n
  before i m n h = rw (le-ltb m i h) refl

  -- the row at i is widened, and no other changes
  here : (i n : ℕ) (row : ℕ → Bool) → ((m : ℕ) → row m ≡ upto i i m) → (row n || (row k && marked rows k n)) ≡ upto (i + 1) i n
  here i n row h = rw (h n, h k, le-ltb i i (omega arith), ltb_here i) refl

  other : (i m n : ℕ) → (m ≡ i → ⊥) → upto i m n ≡ upto (i + 1) m n
  other i m n ne = ap (λ b. cond b (wide m n) (marked rows m n)) (ltb_there m i ne)

  whole : (i m n : ℕ) → length rows ≡ 48 → 48 ≤ i → upto i m n ≡ wide m n
  whole i m n e h = elim (cases_lt m i) [
    | inl l ↦ rw (lt-ltb m i l) refl
    | inr g ↦ rw (le-ltb m i g, marked_past rows m n (omega arith), marked_past rows m k (omega arith)) refl
  ]

pub loop-row-init : goal.loop-row-init
loop-row-init c = (search rules, λ m n. sym (before c.args.rows c.args.k 0 m n (omega arith)))

pub loop-row-preserved : goal.loop-row-preserved
loop-row-preserved c =
    let rows = c.args.rows in
    let k = c.args.k in
    let l = c.loop-row in
    let i = l.row-index in (
      length-set l.row-items i c.widened.result ∙ l.invariant.0,
      marked-set l.row-items c.widened.result i (upto rows k i) (upto rows k (i + 1)) (omega (arith, l.invariant.0)) l.invariant.1
          (λ n. c.widened.ensures n ∙ here rows k i n (marked l.row-items i) (l.invariant.1 i)) (other rows k i),
    )

pub returns : goal.returns
returns c = λ i j. c.loop-row.invariant.1 i j ∙ whole c.args.rows c.args.k c.loop-row.row-index i j (search rules) c.loop-row-test.false
