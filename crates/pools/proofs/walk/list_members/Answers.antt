use Rattle.std.proofs.Common.{◌≡◌, ℕ, ◌+◌, take, Some, vec_items, vec_len, sym, ap, ◌∙◌, arith}
use Rattle.std.specs.List.{slice_get}
use Rattle.pools.specs.Periods.{sooner}
use Rattle.pools.specs.Laws.Earlier.{sooner_laws}
use Rattle.pools.proofs.Walks.{nth_some, walked_more, walked_all, after-nth}
use Rattle.pools.proofs.walk.list_members.Goals as goal

pub loop-at-smaller : goal.loop-at-smaller
loop-at-smaller g c =
    let q = nth_some (g.P.Pool.members c.args.pool.now) (vec_len c.loop-at.list) c.in-Some.p (sym c.in-Some.is ∙ c.loop-at.invariant.1) in
    omega (arith, q.0, c.in_ok-push.ensures.len)

pub loop-at-preserved : goal.loop-at-preserved
loop-at-preserved g c =
    let ms = g.P.Pool.members c.args.pool.now in
    let n = vec_len c.loop-at.list in
    let here : Some c.in-Some.p ≡ slice_get ms n = sym c.in-Some.is ∙ c.loop-at.invariant.1 in
    let long : vec_len c.push.new.self ≡ n + 1 = c.in_ok-push.ensures.len in (
      walked_more ms (vec_items c.loop-at.list) (vec_items c.push.new.self) n c.in-Some.p c.loop-at.invariant.0 here c.in_ok-push.ensures.items ∙ ap (λ (k : ℕ). take k ms) (sym long),
      c.next-at.ensures ∙ (after-nth sooner sooner_laws ms n c.in-Some.p (g.P.Pool.sound c.args.pool.now).ascending here ∙ ap (slice_get ms) (sym long)),
    )

pub returns : goal.returns
returns g c = walked_all (g.P.Pool.members c.args.pool.now) (vec_items c.loop-at.list) (vec_len c.loop-at.list) c.loop-at.invariant.0 (sym c.in_default.is ∙ c.loop-at.invariant.1)
