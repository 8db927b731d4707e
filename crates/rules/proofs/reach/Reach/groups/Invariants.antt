use Rattle.std.proofs.Common.{◌≡◌, length, sum_by, vec_items}
use Rattle.rules.specs.Keys.{PartsTo}
use Rattle.rules.specs.Reach.{leads_to}
use Rattle.rules.proofs.reach.Reach.groups.Given as goal

abbrev pub invariant-loop-part : goal.invariant-loop-part
invariant-loop-part l =
    (l.start ≡ sum_by (λ x. length x.now) l.yielded) × PartsTo (leads_to l.self.rules.now) l.order (length l.order) (vec_items l.groups) l.start
