use Rattle.std.proofs.Common.{length, ◌∙◌, ◌||◌, eqb, arith, rules, tests}
use Rattle.std.specs.List.{range_with_len}
use Rattle.std.proofs.lemmas.Iterator.{YieldsList-from_range}
use Rattle.std.proofs.lemmas.Iterator.Consumers.{YieldsList-from_filter, count_from_yields_List}
use Rattle.std.proofs.lemmas.List.Sums.{length-filter}
use Rattle.rules.specs.Keys.{rank_of}
use Rattle.rules.specs.Reach.{leads_to}
use Rattle.rules.proofs.reach.Reach.rank.Goals as goal

pub returns : goal.returns
unfolding rank_of
returns c =
    count_from_yields_List _ _ c.count.ensures.ran
    (YieldsList-from_filter _ (λ m. eqb m c.args.i || leads_to c.args.self.now.rules.now m c.args.i) (YieldsList-from_range 0 _ (length c.args.self.now.rules.now) c.filter.ensures.source (omega arith)) c.filter.ensures.closure (λ x r q k. search (rules, tests)))
    ∙ length-filter _ (range_with_len 0 (length c.args.self.now.rules.now))
