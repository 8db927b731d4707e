-- A reading of a text, by what is known of the field.
use Rattle.std.specs.Prelude.{◌≡◌, ℕ, Bool, true, List, Some, None, ◌≢◌}
use Rattle.std.proofs.Common.{sym, ap, ◌∙◌}
use Rattle.moments.specs.Moments.{ReadAs}

module _ {K : Type 0} (ranged : K → Bool) (written : K → List ℕ) (field : List ℕ) where
  pub read_none : ((m : K) → ranged m ≡ true → written m ≢ field) → ReadAs ranged written field None
  read_none n = record { accepted = tt; back = λ m r w. absurd (n m r w) }

  pub read_some : ((x y : K) → ranged x ≡ true → ranged y ≡ true → written x ≡ written y → x ≡ y) → (m : K) → ranged m ≡ true → written m ≡ field → ReadAs ranged written field (Some m)
  read_some apart m r w = record { accepted = (r, w); back = λ x s v. ap Some (apart m x r s (w ∙ sym v)) }
