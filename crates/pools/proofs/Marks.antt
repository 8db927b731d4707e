-- The bits of a list of words: of none, and of one more.
use Rattle.std.proofs.Common.{◌≡◌, ℕ, zero, suc, ◌+◌, ◌-◌, ◌/◌, ◌%◌, ◌^◌, ◌<◌, Bool, true, false, ◌||◌, eqb, ◌⊎◌, List, ◌++◌, length, get_or, set, replicate, sym, refl, ap, ◌∙◌, inl, inr, Some, None, Option, MatchOption, pow-suc, arith}
use native.Mathlib.Nat.{zero-div, div_self, div-eq_of_lt, mul-mod_left}
use denote.Ref.{Bor}
use lib.Bits.{bit_and, bit_or}
use Rattle.std.specs.Option.{option_map, unwrap_or}
use Rattle.std.proofs.lemmas.Nat.{pow_pos, pow-add, and_mask, or_shr, or_mod, shl-shr, pow_below, mod_below}
use Rattle.std.proofs.lemmas.List.{get_or-set_same, get_or-set_other, get_or_append_left, get_or-replicate, length-replicate}
use Rattle.std.proofs.lemmas.Bool.{cases_order, cases_eq, eq-eqb, ne_eqb}
use Rattle.pools.specs.Cells.{bit, bit_at, with_bit}

bit_none : (j : ℕ) → bit 0 j ≡ false
unfolding bit
bit_none j = ap (λ x. eqb (x % 2) 1) (zero-div (2 ^ j))

bit_has : (n i : ℕ) → eqb (bit_and (n / 2 ^ i) 1) 1 ≡ bit n i
unfolding bit
bit_has n i = ap (λ x. eqb x 1) (and_mask (n / 2 ^ i) 1)

low : (x : ℕ) → x < 2 → (x ≡ 0) ⊎ (x ≡ 1)
low zero h = inl refl
low (suc n) h = inr (omega arith)

or_low : (x y : ℕ) → x < 2 → y < 2 → eqb (bit_or x y) 1 ≡ (eqb x 1 || eqb y 1)
or_low x y h k = elim (low x h) [
  | inl p ↦ elim (low y k) [ inl q ↦ rw (p, q) refl | inr q ↦ rw (p, q) refl ]
  | inr p ↦ elim (low y k) [ inl q ↦ rw (p, q) refl | inr q ↦ rw (p, q) refl ]
]

bit-or : (m n j : ℕ) → bit (bit_or m n) j ≡ (bit m j || bit n j)
unfolding bit
bit-or m n j = ap (λ x. eqb (x % 2) 1) (or_shr m n j) ∙ (ap (λ x. eqb x 1) (or_mod (m / 2 ^ j) (n / 2 ^ j) 1) ∙ or_low (m / 2 ^ j % 2) (n / 2 ^ j % 2) (mod_below _ 2 (omega arith)) (mod_below _ 2 (omega arith)))

high_even : (i j d : ℕ) → i ≡ suc d + j → 2 ^ i / 2 ^ j % 2 ≡ 0
high_even i j d e =
    ap (λ x. 2 ^ x / 2 ^ j % 2) e ∙ (ap (λ x. x / 2 ^ j % 2) (pow-add 2 (suc d) j) ∙ (ap (λ x. x % 2) (shl-shr (2 ^ suc d) j) ∙ (ap (λ x. x % 2) (pow-suc 2 d) ∙ mul-mod_left (2 ^ d) 2)))

bit_one : (i j : ℕ) → bit (2 ^ i) j ≡ eqb i j
unfolding bit
bit_one i j = elim (cases_order i j) [
  | inl e ↦ ap (λ x. eqb (2 ^ x / 2 ^ j % 2) 1) e ∙ (ap (λ x. eqb (x % 2) 1) (div_self (pow_pos j)) ∙ sym (eq-eqb i j e))
  | inr o ↦ elim o [
    | inl l ↦ ap (λ x. eqb (x % 2) 1) (div-eq_of_lt (pow_below i j l)) ∙ sym (ne_eqb i j (λ e. omega arith))
    | inr g ↦ ap (λ x. eqb x 1) (high_even i j (i - j - 1) (omega arith)) ∙ sym (ne_eqb i j (λ e. omega arith))
  ]
]

bit_with : (n i j : ℕ) → bit (bit_or n (2 ^ i)) j ≡ (bit n j || eqb i j)
bit_with n i j = bit-or n (2 ^ i) j ∙ ap (λ b. bit n j || b) (bit_one i j)

or_none : (b : Bool) → (b || false) ≡ b
or_none true = refl
or_none false = refl

same_place : (k j : ℕ) → k / 32 ≡ j / 32 → eqb (k % 32) (j % 32) ≡ eqb k j
same_place k j q = elim (cases_eq (k % 32) (j % 32)) [
  | inl e ↦ eq-eqb (k % 32) (j % 32) e ∙ sym (eq-eqb k j (omega arith))
  | inr ne ↦ ne_eqb (k % 32) (j % 32) ne ∙ sym (ne_eqb k j (λ e. ne (ap (λ (x : ℕ). x % 32) e)))
]

-- one more bit is 1
pub marked_with : (words : List ℕ) (k j : ℕ) → k / 32 < length words → bit_at (with_bit words k) j ≡ (bit_at words j || eqb k j)
marked_with words k j l = let w = bit_or (get_or words (k / 32) 0) (2 ^ (k % 32)) in elim (cases_eq (j / 32) (k / 32)) [
  | inl q ↦ ap (λ (i : ℕ). bit (get_or (set words (k / 32) w) i 0) (j % 32)) q ∙ (ap (λ (x : ℕ). bit x (j % 32)) (get_or-set_same words (k / 32) w 0 l) ∙ (bit_with (get_or words (k / 32) 0) (k % 32) (j % 32) ∙ (ap (λ (i : ℕ). bit (get_or words i 0) (j % 32) || eqb (k % 32) (j % 32)) (sym q) ∙ ap (λ (b : Bool). bit_at words j || b) (same_place k j (sym q)))))
  | inr ne ↦ ap (λ (x : ℕ). bit x (j % 32)) (get_or-set_other words (k / 32) (j / 32) w 0 ne) ∙ sym (ap (λ (b : Bool). bit_at words j || b) (ne_eqb k j (λ e. ne (ap (λ (x : ℕ). x / 32) (sym e)))) ∙ or_none (bit_at words j))
]

pub marked_none : (n k : ℕ) (rest : List ℕ) → k / 32 < n → bit_at (replicate n 0 ++ rest) k ≡ false
marked_none n k rest l =
    let q : length (replicate {A = ℕ} n 0) ≡ n = length-replicate n 0 in
    ap (λ (x : ℕ). bit x (k % 32)) (get_or_append_left (replicate n 0) rest 0 (k / 32) (omega arith) ∙ get_or-replicate n (k / 32) 0 0 l) ∙ bit_none (k % 32)

-- a bit as `get` reads its word
pub bit_read : (words : List ℕ) (k : ℕ) (word : Option (Bor ℕ)) (r : Bool) → unwrap_or (option_map (λ w. w.now) word) 0 ≡ get_or words (k / 32) 0
    → MatchOption word (r ≡ false) (λ w. r ≡ eqb (bit_and (w.now / 2 ^ (k % 32)) 1) 1) → r ≡ bit_at words k
bit_read words k None r e h = h ∙ (sym (bit_none (k % 32)) ∙ ap (λ (x : ℕ). bit x (k % 32)) e)
bit_read words k (Some w) r e h = h ∙ (bit_has w.now (k % 32) ∙ ap (λ (x : ℕ). bit x (k % 32)) e)
