use Rattle.std.proofs.Common.{◌≡◌, true, take}
use Rattle.std.specs.Str.Parse.{digits_value}
use Rattle.std.specs.Str.{all_ascii_digits}
use Rattle.moments.proofs.digits.number.Given as goal

abbrev pub invariant-loop-d : goal.invariant-loop-d
invariant-loop-d l = (all_ascii_digits (take l.d-index l.digits) ≡ true) × (l.n ≡ digits_value 10 (take l.d-index l.digits))
