-- The grid: all periods of so many labels and places, and a bit for each.
use Rattle.std.specs.Prelude.{◌≡◌, ℕ, zero, suc, ◌+◌, ◌*◌, ◌/◌, ◌%◌, ◌^◌, ◌<◌, ◌≤◌, Bool, true, false, cond, not, ◌&&◌, List, [], ◌∷◌, ◌++◌, drop, replicate, filter, Ok, Err, Result, ◌==◌, bit_or, nat_le, nat_lt, slice_index, slice_set}
use Rattle.terms.specs.declared.refusal.Refusal.{Refusal}
use Rattle.terms.specs.declared.refusal.Refusal.TheVariants.{BadMeasure}
use Rattle.pools.specs.declared.size.Size.{Size}
use Rattle.pools.specs.Periods.{Span}
use Rattle.pools.specs.Sets.{in_bounds, member}

-- ---- all periods

-- the period of a label number from a start to an end
abbrev pub cell : ℕ → ℕ → ℕ → Span
cell l s e = record { label = record { 0 = l }; start = record { 0 = s }; end = record { 0 = e } }

-- of one label and start, n of them from an end on
abbrev pub by_end : ℕ → ℕ → ℕ → ℕ → List Span
by_end l s e zero = []
by_end l s e (suc n) = cell l s e ∷ by_end l s (suc e) n

-- of one label, from a start on that leaves n places
abbrev pub by_start : ℕ → ℕ → ℕ → List Span
by_start l s zero = []
by_start l s (suc n) = by_end l s s (suc n) ++ by_start l (suc s) n

-- of n labels from one on
abbrev pub by_label : ℕ → ℕ → ℕ → List Span
by_label places l zero = []
by_label places l (suc n) = by_start l 0 places ++ by_label places (suc l) n

-- all of them, by label, start and end
abbrev pub every : ℕ → ℕ → List Span
every labels places = by_label places 0 labels

-- ---- their bits

-- 0, 1, 3, 6 and so on: how many periods of one label lie within n places
unfoldable pub triangular : ℕ → ℕ
triangular n = n * (n + 1) / 2

-- the number of a period's bit
abbrev pub bit_number : ℕ → Span → ℕ
bit_number places p = p.label.0 * triangular places + (triangular p.end.0 + p.start.0)

-- bit j of a word, from the least significant on
unfoldable pub bit : ℕ → ℕ → Bool
bit n j = n / 2 ^ j % 2 == 1

-- bit k of the words, 32 to a word
abbrev pub bit_at : List ℕ → ℕ → Bool
bit_at words k = bit (slice_index words (k / 32)) (k % 32)

-- whether a period's bit is 1
abbrev pub has_bit : ℕ → List ℕ → Span → Bool
has_bit places words p = bit_at words (bit_number places p)

-- the members of a grid: of all periods those whose bit is 1
abbrev pub on_grid : ℕ → ℕ → List ℕ → List Span
on_grid labels places words = filter (has_bit places words) (every labels places)

-- ---- its measure

abbrev pub grid_size : ℕ → ℕ → Size
grid_size labels places = record { labels = labels; places = places; capacity = labels * triangular places }

-- the words that a bit for each period takes
abbrev pub needed : ℕ → ℕ → ℕ
needed labels places = (labels * triangular places + 31) / 32

-- 1 to 32 labels, 1 to 256 places, and words enough
abbrev pub measures : ℕ → ℕ → ℕ → Bool
measures labels places words = nat_lt 0 labels && (nat_le labels 32 && (nat_lt 0 places && (nat_le places 256 && nat_le (needed labels places) words)))

abbrev pub measure_answer : ℕ → ℕ → ℕ → Result Unit Refusal
measure_answer labels places words = cond (measures labels places words) (Ok tt) (Err BadMeasure)

-- ---- its words

-- the words with the bit k at 1
abbrev pub with_bit : List ℕ → ℕ → List ℕ
with_bit words k = slice_set words (k / 32) (bit_or (slice_index words (k / 32)) (2 ^ (k % 32)))

-- the words with all that are needed at 0
abbrev pub wiped_words : ℕ → ℕ → List ℕ → List ℕ
wiped_words labels places words = replicate (needed labels places) 0 ++ drop (needed labels places) words

-- the words after a put: a new period in bounds has its bit at 1 then, and nothing else changes
abbrev pub put_words : ℕ → ℕ → List ℕ → Span → List ℕ
put_words labels places words p = cond (in_bounds labels places p && not (has_bit places words p)) (with_bit words (bit_number places p)) words

-- What the words of a grid hold: the bit of each period that there can be is 1 exactly for a member, the bits of the last needed word that
-- stand for no period are 0, and the later words are what they were.
pub record Laid (labels places : ℕ) (were : List ℕ) (members : List Span) (words : List ℕ) : Type 0 where
  pub bits : (p : Span) → in_bounds labels places p ≡ true → bit_at words (bit_number places p) ≡ member p members
  pub spare : (k : ℕ) → labels * triangular places ≤ k → k / 32 < needed labels places → bit_at words k ≡ false
  pub later : drop (needed labels places) words ≡ drop (needed labels places) were
