use Rattle.std.proofs.Common.{◌-◌, List, length, subst, rules}
use Rattle.std.specs.List.Sorted.{IsPermutation}
use Rattle.std.proofs.lemmas.Fn.{always_returns_same}
use Rattle.terms.specs.declared.numbers.RuleNo.{RuleNo}
use Rattle.rules.specs.Keys.{key_of}
use Rattle.rules.specs.Reach.{leads_to}
use Rattle.rules.proofs.Sorting.{in_order}
use Rattle.rules.proofs.reach.Reach.working_order.Goals as goal

pub returns : goal.returns
returns c =
    let rs = c.args.self.now.rules.now in
    in_order (leads_to rs) (length rs) _ (subst (λ (xs : List RuleNo). IsPermutation xs c.sort_unstable_by_key.new.self.items) c.in_ok-order.ensures c.sort_unstable_by_key.ensures.permutation)
    (c.sort_unstable_by_key.ensures.sorted (λ no. key_of (leads_to rs) (length rs) (no.0 - 1)) (always_returns_same _ _ _ (λ a r f k. search rules)))
