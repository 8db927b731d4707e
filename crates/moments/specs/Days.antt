-- Days: their order, their range and their text.
use Rattle.std.specs.Prelude.{ℕ, Bool, List, decimal, nat_le, nat_lt}
use Rattle.moments.specs.declared.day.Day.{Day}

abbrev pub day_before : Day → Day → Bool
day_before d e = nat_lt d.0 e.0

-- from 0 to 999,999
abbrev pub day_ranged : Day → Bool
day_ranged d = nat_le d.0 999999

-- in decimal, with no leading zero
abbrev pub day_written : Day → List ℕ
day_written d = decimal d.0
