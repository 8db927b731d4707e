-- What reading a moment's text answers.
use Rattle.std.specs.Prelude.{◌≡◌, ℕ, Bool, true, List, IfSome, Some, Option}

-- Of a field that is the text of a moment in range, that moment is read; of any other field, none.
pub record ReadAs {K : Type 0} (ranged : K → Bool) (written : K → List ℕ) (field : List ℕ) (r : Option K) : Type 0 where
  pub accepted : IfSome r (λ m. (ranged m ≡ true) × (written m ≡ field))
  pub back : (m : K) → ranged m ≡ true → written m ≡ field → r ≡ Some m
