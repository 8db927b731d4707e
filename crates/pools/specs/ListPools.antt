-- What a list pool is by its row: 32 labels, 256 places, and a capacity of as many slots as there are, 4,096 at most.
use Rattle.std.specs.Prelude.{ℕ, min, Bool, not, ◌&&◌, List, length, ◌==◌}
use Rattle.pools.specs.declared.size.Size.{Size}
use Rattle.pools.specs.Periods.{Span}
use Rattle.pools.specs.Sets.{member}

abbrev pub list_size : ℕ → Size
list_size slots = record { labels = 32; places = 256; capacity = min 4096 slots }

-- as many as may be, and p is none of them
abbrev pub shut_out : List Span → Span → Bool
shut_out ps p = length ps == 4096 && not (member p ps)
