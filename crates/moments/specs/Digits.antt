-- Numbers in decimal digits.
use Rattle.std.specs.Prelude.{◌≡◌, ℕ, ◌-◌, true, false, List, ◌++◌, length, replicate, decimal, Option, MatchOption}
use Rattle.std.specs.Str.Parse.{digits_value}
use Rattle.std.specs.Str.{all_ascii_digits}

-- the number that the digits write, if all bytes are digits
abbrev pub NumberOf : List ℕ → Option ℕ → Type 0
NumberOf bytes r = MatchOption r (all_ascii_digits bytes ≡ false) (λ n. (all_ascii_digits bytes ≡ true) × (n ≡ digits_value 10 bytes))

-- a number in decimal, with zeros (byte 48) in front up to the width
abbrev pub padded : ℕ → ℕ → List ℕ
padded width n = replicate (width - length (decimal n)) 48 ++ decimal n
