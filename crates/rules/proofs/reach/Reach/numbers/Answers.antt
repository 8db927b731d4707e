use Rattle.std.proofs.Common.{arith, rules}
use Rattle.std.proofs.lemmas.Iterator.{items_from_collect, YieldsList-from_map, YieldsList-from_range}
use Rattle.rules.proofs.reach.Reach.numbers.Goals as goal

pub returns : goal.returns
returns c = items_from_collect _ c.collect.ensures.ran (YieldsList-from_map _ _ (YieldsList-from_range 1 _ _ c.map.ensures.source (omega arith)) c.map.ensures.closure (λ x r q k. search rules))
