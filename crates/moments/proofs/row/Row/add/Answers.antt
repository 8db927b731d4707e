use Rattle.std.proofs.Common.{refl, arith}
use Rattle.moments.specs.Rows.{kept, slots_of}
use Rattle.moments.proofs.Additions.{add_there, add_full, add_new}
use Rattle.moments.proofs.row.Row.add.Goals as goal

pub returns-in_default-clause-answer : goal.returns-in_default-clause-answer
returns-in_default-clause-answer g c = λ a.
    add_there g.T.Ordered.before g.met.T.Ordered.total c.args.x (kept c.args.self.now) (kept c.args.self.now) (slots_of c.args.self.now) c.in_default.field-0 a (c.in_default.ensures.place a) refl

pub returns-then-len-slot_count-clause-answer : goal.returns-then-len-slot_count-clause-answer
returns-then-len-slot_count-clause-answer g c = λ a.
    add_full g.T.Ordered.before g.met.T.Ordered.total c.args.x (kept c.args.self.now) (kept c.args.self.now) (slots_of c.args.self.now) c.in-Err.at a (c.in-Err.ensures.place a) (omega (arith, c.len.ensures.kept)) refl

pub returns-clause-answer : goal.returns-clause-answer
returns-clause-answer g c = λ a.
    add_new g.T.Ordered.before g.met.T.Ordered.total c.args.x (kept c.args.self.now) _ (slots_of c.args.self.now) c.in-Err.at a (c.in-Err.ensures.place a) (omega (arith, c.len.ensures.kept)) c.insert.ensures.kept
