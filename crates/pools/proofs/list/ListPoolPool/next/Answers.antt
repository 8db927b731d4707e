use Rattle.moments.specs.Rows.{kept}
use Rattle.pools.specs.Periods.{sooner}
use Rattle.moments.proofs.Ascents.{next_there, next_new}
use Rattle.pools.specs.Laws.Earlier.{sooner_laws}
use Rattle.pools.proofs.list.ListPoolPool.next.Goals as goal

pub returns-in-Ok : goal.returns-in-Ok
returns-in-Ok c = next_there sooner sooner_laws c.args.after (kept c.args.self.now.row) c.in-Ok.i c.get.result c.args.self.now.sorted (c.in-Ok.ensures.place c.args.self.now.sorted) c.get.ensures

pub returns-in-Err : goal.returns-in-Err
returns-in-Err c = next_new sooner sooner_laws c.args.after (kept c.args.self.now.row) c.in-Err.i c.get-in-Err.result c.args.self.now.sorted (c.in-Err.ensures.place c.args.self.now.sorted) c.get-in-Err.ensures
