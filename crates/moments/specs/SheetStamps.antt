-- Sheet stamps: their order, their range and their text.
use Rattle.std.specs.Prelude.{◌≡◌, ℕ, Bool, true, ◌&&◌, List, ◌∷◌, ◌++◌, IfSome, Some, Option, nat_lt}
use Rattle.std.specs.Int.{is_in_range}
use Rattle.moments.specs.Digits.{padded}
use Rattle.moments.specs.Order.{first_by}
use Rattle.moments.specs.declared.sheet_stamp.SheetStamp.{SheetStamp}

-- the first and the last of each part in range
abbrev pub first_season : ℕ
first_season = 0

abbrev pub last_season : ℕ
last_season = 99

abbrev pub first_sheet : ℕ
first_sheet = 1

abbrev pub last_sheet : ℕ
last_sheet = 9999

abbrev pub first_line : ℕ
first_line = 1

abbrev pub last_line : ℕ
last_line = 99

-- how many digits each part has
abbrev pub season_digits : ℕ
season_digits = 2

abbrev pub sheet_digits : ℕ
sheet_digits = 4

abbrev pub line_digits : ℕ
line_digits = 2

-- by season, then sheet, then line
abbrev pub stamp_before : SheetStamp → SheetStamp → Bool
stamp_before = first_by nat_lt (λ s. s.season) (first_by nat_lt (λ s. s.sheet) (λ s t. nat_lt s.line t.line))

abbrev pub stamp_ranged : SheetStamp → Bool
stamp_ranged s = is_in_range first_season last_season s.season && (is_in_range first_sheet last_sheet s.sheet && is_in_range first_line last_line s.line)

-- the three parts in decimal, with slashes (byte 47) between them
abbrev pub stamp_written : SheetStamp → List ℕ
stamp_written s = padded season_digits s.season ++ (47 ∷ (padded sheet_digits s.sheet ++ (47 ∷ padded line_digits s.line)))

-- Of a field that is the text of a stamp in range, that stamp; of any other field none, or a stamp out of range with that text.
pub record Parted (field : List ℕ) (r : Option SheetStamp) : Type 0 where
  pub accepted : IfSome r (λ s. stamp_written s ≡ field)
  pub back : (s : SheetStamp) → stamp_ranged s ≡ true → stamp_written s ≡ field → r ≡ Some s
