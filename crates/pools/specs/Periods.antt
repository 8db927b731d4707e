-- The order of periods.
use Rattle.std.specs.Prelude.{Bool, nat_lt}
use Rattle.terms.specs.declared.numbers.Place.{Place}
use Rattle.pools.specs.declared.period.Period.{Period}
use Rattle.moments.specs.Order.{first_by}

-- by label number, then start, then end
abbrev pub earlier : {M : Type 0} → (M → M → Bool) → Period M → Period M → Bool
earlier before = first_by nat_lt (λ p. p.label.0) (first_by before (λ p. p.start) (λ p q. before p.end q.end))

-- a period from place to place
abbrev pub Span : Type 0
Span = Period Place

-- places are ordered by their numbers
abbrev pub sooner : Span → Span → Bool
sooner = earlier (λ p q. nat_lt p.0 q.0)
