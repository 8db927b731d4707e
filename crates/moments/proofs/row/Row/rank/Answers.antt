use Rattle.std.proofs.Common.{rules}
use Rattle.std.proofs.lemmas.Grind.{common_steps}
use Rattle.std.proofs.lemmas.List.Sorted.{IsPartitionPoint-from_clause}
use Rattle.moments.specs.Rows.{kept}
use Rattle.moments.proofs.Searches.{rank_searched}
use Rattle.moments.proofs.row.Row.rank.Goals as goal

pub returns-clause-place : goal.returns-clause-place
returns-clause-place g c = λ a.
    rank_searched g.T.Ordered.before g.met.T.Ordered.total c.args.x (kept c.args.self.now) _ c.partition_point.result a (search (rules, common_steps)) c.partition_point.ensures.bound
    (λ s. IsPartitionPoint-from_clause (λ y. g.T.Ordered.before y c.args.x) _ c.partition_point.result c.partition_point.ensures.partitioned s (search rules))
