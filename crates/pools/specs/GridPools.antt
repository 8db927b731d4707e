-- What a grid pool is: its members, its size and its words.
use Rattle.std.specs.Prelude.{ℕ, ◌-◌, List, Option, filter}
use Rattle.moments.specs.Order.{least}
use Rattle.pools.specs.declared.grid.GridPool.{GridPool}
use Rattle.pools.specs.declared.size.Size.{Size}
use Rattle.pools.specs.Periods.{Span}
use Rattle.pools.specs.Cells.{by_end, by_start, by_label, has_bit, on_grid, grid_size, put_words, wiped_words, Laid}

abbrev pub words_of : GridPool → List ℕ
words_of g = g.bits.words.now

abbrev pub members_of : GridPool → List Span
members_of g = on_grid g.measure.labels g.measure.places (words_of g)

abbrev pub size_of : GridPool → Size
size_of g = grid_size g.measure.labels g.measure.places

-- the words of a grid with the needed ones at 0, and those after a put
abbrev pub wiped : GridPool → List ℕ
wiped g = wiped_words g.measure.labels g.measure.places (words_of g)

abbrev pub put_into : GridPool → Span → List ℕ
put_into g p = put_words g.measure.labels g.measure.places (words_of g) p

-- the words hold the members, and nothing else has changed since they were others
abbrev pub LaidSince : List ℕ → GridPool → Type 0
LaidSince were g = Laid g.measure.labels g.measure.places were (members_of g) (words_of g)

-- the first member of one label and start from an end on, of one label from a start on, and from a label on
abbrev pub first_end : GridPool → ℕ → ℕ → ℕ → Option Span
first_end g l s from = least (filter (has_bit g.measure.places (words_of g)) (by_end l s from (g.measure.places - from)))

abbrev pub first_start : GridPool → ℕ → ℕ → Option Span
first_start g l from = least (filter (has_bit g.measure.places (words_of g)) (by_start l from (g.measure.places - from)))

abbrev pub first_label : GridPool → ℕ → Option Span
first_label g from = least (filter (has_bit g.measure.places (words_of g)) (by_label g.measure.places from (g.measure.labels - from)))
