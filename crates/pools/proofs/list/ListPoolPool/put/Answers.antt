use Rattle.std.proofs.Common.{sym, arith}
use Rattle.std.proofs.lemmas.List.{length-take}
use Rattle.moments.specs.Rows.{count, kept, slots_of}
use Rattle.pools.proofs.Puts.{limit_kept, inside_added}
use Rattle.pools.proofs.list.ListPoolPool.put.Goals as goal

pub invariant_of-self : goal.invariant_of-self
invariant_of-self c =
    let g = c.args.self.now in
    let ans = c.add.ensures.answer g.sorted in
    let room = limit_kept (kept g.row) c.args.p 4096 (slots_of g.row) (omega (arith, g.few)) (sym c.if-shuts_out.ensures) (kept c.add.new.self) g.sorted ans.after in
    let long = length-take (count c.add.new.self) c.add.new.self.slots.now in
    record {
      sorted = ans.ascends;
      few = omega (arith, c.add.ensures.room);
      inside = inside_added 32 256 c.args.p (kept g.row) (kept c.add.new.self) (slots_of g.row) (sym c.if-not-fits.ensures) g.inside ans.after;
    }
