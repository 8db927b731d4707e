use Rattle.std.proofs.Common.{List, sym, subst}
use Rattle.rules.specs.declared.group.Group.{Group}
use Rattle.rules.specs.Tables.{rules_in, order_in}
use Rattle.rules.specs.Words.{Grouping}
use Rattle.rules.proofs.Closings.{table_closed}
use Rattle.rules.proofs.table.Table.groups.Goals as goal

pub returns : goal.returns
returns c =
    let k = table_closed c.args.self.now in
    record {
      value = c.as_slice.ensures.value;
      parts = subst (λ (gs : List Group). Grouping (rules_in c.args.self.now) (order_in c.args.self.now) gs) (sym c.as_slice.ensures.value) k.grouping;
      closed = k;
    }
