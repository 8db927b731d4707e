-- Rows of sets, one of which is written.
use Rattle.std.proofs.Common.{◌≡◌, ℕ, ◌+◌, ◌<◌, ◌≤◌, Bool, true, false, ltb, List, length, set, replicate, sym, ap, ◌∙◌, inl, inr, arith}
use Rattle.std.proofs.lemmas.List.{get_or-set_same, get_or-set_other, get_or-replicate, get_or_past, length-replicate}
use Rattle.std.proofs.lemmas.Bool.{lt-ltb, le-ltb, cases_lt, cases_eq}
use Rattle.rules.specs.declared.rule_set.RuleSet.{RuleSet}
use Rattle.rules.specs.RuleSets.{holds, marked}
use Rattle.rules.proofs.Marks.{holds_none}

abbrev empty : RuleSet
empty = record { 0 = 0 }

pub marked_past : (rows : List RuleSet) (i j : ℕ) → length rows ≤ i → marked rows i j ≡ false
marked_past rows i j h = ap (λ (x : RuleSet). holds x j) (get_or_past rows i empty h) ∙ holds_none j

pub ltb_here : (i : ℕ) → ltb i (i + 1) ≡ true
ltb_here i = lt-ltb i (i + 1) (omega arith)

pub ltb_there : (m i : ℕ) → (m ≡ i → ⊥) → ltb m i ≡ ltb m (i + 1)
ltb_there m i ne = elim (cases_lt m i) [
  | inl h ↦ lt-ltb m i h ∙ sym (lt-ltb m (i + 1) (omega arith))
  | inr h ↦ le-ltb m i h ∙ sym (le-ltb m (i + 1) (omega arith))
]

pub marked_none : (x : RuleSet) → ((j : ℕ) → holds x j ≡ false) → (n k m : ℕ) → marked (replicate n x) k m ≡ false
marked_none x h n k m = elim (cases_lt k n) [
  | inl l ↦ ap (λ (y : RuleSet). holds y m) (get_or-replicate n k x (record { 0 = 0 }) l) ∙ h m
  | inr g ↦ marked_past (replicate n x) k m (rw (length-replicate n x) g)
]

pub marked-set : (rows : List RuleSet) (x : RuleSet) (i : ℕ) (t u : ℕ → ℕ → Bool) → i < length rows → ((m n : ℕ) → marked rows m n ≡ t m n) → ((n : ℕ) → holds x n ≡ u i n)
    → ((m n : ℕ) → (m ≡ i → ⊥) → t m n ≡ u m n) → (m n : ℕ) → marked (set rows i x) m n ≡ u m n
marked-set rows x i t u l old new other m n = elim (cases_eq m i) [
  | inl e ↦ ap (λ (k : ℕ). marked (set rows i x) k n) e ∙ (ap (λ (y : RuleSet). holds y n) (get_or-set_same rows i x (record { 0 = 0 }) l) ∙ (new n ∙ ap (λ (k : ℕ). u k n) (sym e)))
  | inr ne ↦ ap (λ (y : RuleSet). holds y n) (get_or-set_other rows i m x (record { 0 = 0 }) ne) ∙ (old m n ∙ other m n ne)
]
