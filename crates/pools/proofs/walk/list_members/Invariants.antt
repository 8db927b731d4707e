use Rattle.std.proofs.Common.{◌≡◌, ◌-◌, length, take, vec_items, vec_len}
use Rattle.std.specs.List.{slice_get}
use Rattle.pools.proofs.walk.list_members.Given as goal

abbrev pub invariant-loop-at : goal.invariant-loop-at
invariant-loop-at g l =
    (vec_items l.list ≡ take (vec_len l.list) (g.P.Pool.members l.pool)) × (l.at ≡ slice_get (g.P.Pool.members l.pool) (vec_len l.list))

abbrev pub decreases-loop-at : goal.decreases-loop-at
decreases-loop-at g l = length (g.P.Pool.members l.pool) - vec_len l.list
