-- Labels as text: 1 to 16 bytes of a–z, 0–9 and hyphen, a letter first.
use Rattle.std.specs.Prelude.{ℕ, Bool, false, ◌&&◌, ◌||◌, List, [], ◌∷◌, length, ◌==◌, nat_le}
use Rattle.std.specs.List.{list_all}

-- a to z
abbrev pub letter : ℕ → Bool
letter b = nat_le 97 b && nat_le b 122

-- a letter, a digit or a hyphen
abbrev pub label_byte : ℕ → Bool
label_byte b = letter b || ((nat_le 48 b && nat_le b 57) || b == 45)

abbrev pub all_label_bytes : List ℕ → Bool
all_label_bytes bytes = list_all label_byte bytes

abbrev pub is_label : List ℕ → Bool
is_label [] = false
is_label (b ∷ bs) = letter b && (nat_le (length (b ∷ bs)) 16 && all_label_bytes (b ∷ bs))
