-- What sets hold: of none, of a join and of one more.
use Rattle.std.proofs.Common.{◌≡◌, ℕ, zero, suc, ◌*◌, ◌/◌, ◌%◌, ◌^◌, ◌<◌, ◌≤◌, false, max, ◌||◌, eqb, sym, refl, ap, ◌∙◌, inl, inr, arith}
use Rattle.std.specs.Int.{bit_at}
use lib.Bits.{bit_and, bit_or}
use Rattle.std.proofs.lemmas.Nat.{and_mask, one_shl}
use Rattle.std.proofs.lemmas.Nat.Bits.{bit_at-zero, bit_at-lt, bit_at_or, bit_at-pow_same, bit_at-pow_other, bit_at_above}
use Rattle.std.proofs.lemmas.Bool.{cases_eq, eq-eqb, ne_eqb}
use Rattle.rules.specs.declared.rule_set.RuleSet.{RuleSet}
use Rattle.rules.specs.RuleSets.{holds}

pub holds_none : (j : ℕ) → holds (record { 0 = 0 }) j ≡ false
unfolding holds
holds_none j = ap (λ x. eqb x 1) (bit_at-zero j)

pub has_holds : (s : RuleSet) (i : ℕ) → eqb (bit_and (s.0 / 2 ^ i) 1) 1 ≡ holds s i
unfolding holds
has_holds s i = ap (λ x. eqb x 1) (and_mask (s.0 / 2 ^ i) 1)

pub holds_past : (s : RuleSet) (i : ℕ) → s.0 < 2 ^ 64 → 64 ≤ i → holds s i ≡ false
unfolding holds
holds_past s i b h = ap (λ x. eqb x 1) (bit_at_above s.0 64 i b h)

or_low : (x y : ℕ) → x < 2 → y < 2 → eqb (max x y) 1 ≡ (eqb x 1 || eqb y 1)
or_low zero zero h k = refl
or_low zero (suc zero) h k = refl
or_low zero (suc (suc y)) h k = absurd (omega arith)
or_low (suc zero) zero h k = refl
or_low (suc zero) (suc zero) h k = refl
or_low (suc zero) (suc (suc y)) h k = absurd (omega arith)
or_low (suc (suc x)) y h k = absurd (omega arith)

pub holds-or : (m n j : ℕ) → holds (record { 0 = bit_or m n }) j ≡ (holds (record { 0 = m }) j || holds (record { 0 = n }) j)
unfolding holds
holds-or m n j = ap (λ x. eqb x 1) (bit_at_or m n j) ∙ or_low (bit_at m j) (bit_at n j) (bit_at-lt m j) (bit_at-lt n j)

holds_one : (i j : ℕ) → holds (record { 0 = 2 ^ i }) j ≡ eqb i j
unfolding holds
holds_one i j = elim (cases_eq j i) [
  | inl e ↦ ap (λ x. eqb (bit_at (2 ^ i) x) 1) e ∙ (ap (λ x. eqb x 1) (bit_at-pow_same i) ∙ sym (eq-eqb i j (sym e)))
  | inr ne ↦ ap (λ x. eqb x 1) (bit_at-pow_other i j ne) ∙ sym (ne_eqb i j (λ e. ne (sym e)))
]

pub holds_with : (n i j : ℕ) → i < 64 → holds (record { 0 = bit_or n ((1 * 2 ^ i) % 2 ^ 64) }) j ≡ (holds (record { 0 = n }) j || eqb i j)
holds_with n i j h =
    ap (λ x. holds (record { 0 = bit_or n x }) j) (one_shl i 64 h) ∙ (holds-or n (2 ^ i) j ∙ ap (λ b. holds (record { 0 = n }) j || b) (holds_one i j))
