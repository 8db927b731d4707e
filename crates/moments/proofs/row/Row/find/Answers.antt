use Rattle.std.proofs.Common.{rules, ◌≡◌, sym, subst}
use Rattle.moments.specs.Order.{Ascending, rank}
use Rattle.moments.proofs.Searches.{found_at, not_found_at}
use Rattle.moments.proofs.row.Row.find.Goals as goal
use Rattle.moments.proofs.row.Row.find.Goals.{in_default-via-in-None-1, in_default-via-in-Some+else-not-precedes}

pub returns-clause-place : goal.returns-clause-place
returns-clause-place g c = λ h.
    let a = subst (Ascending g.T.Ordered.before) (sym c.kept.ensures) h in
    let p = subst (λ xs. c.rank-at.result ≡ rank g.T.Ordered.before c.args.x xs) (sym c.kept.ensures) (c.rank-at.ensures.place h) in
    rw (sym c.kept.ensures)
    (found_at g.T.Ordered.before g.met.T.Ordered.total c.args.x c.kept.result.now c.rank-at.result a (search rules) p (search rules))

pub returns-2-clause-place : goal.returns-2-clause-place
returns-2-clause-place g c = λ h.
    let a = subst (Ascending g.T.Ordered.before) (sym c.kept.ensures) h in
    let p = subst (λ xs. c.rank-at.result ≡ rank g.T.Ordered.before c.args.x xs) (sym c.kept.ensures) (c.rank-at.ensures.place h) in
    rw (sym c.kept.ensures)
    (not_found_at g.T.Ordered.before g.met.T.Ordered.total c.args.x c.kept.result.now c.rank-at.result a p (λ l. elim c.in_default.branch [ in_default-via-in-None-1 w ↦ search rules | in_default-via-in-Some+else-not-precedes w ↦ search rules ]))
