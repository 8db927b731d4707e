use Rattle.std.proofs.Common.{◌+◌, ◌≤◌, ℕ, length, vec_items, sym, refl, ap, ◌∙◌, subst, arith, rules}
use Rattle.std.proofs.lemmas.Fn.{always_returns_same}
use Rattle.std.proofs.lemmas.List.Sums.{sum_by_push}
use Rattle.rules.specs.Keys.{PartsTo}
use Rattle.rules.specs.Reach.{leads_to}
use Rattle.rules.proofs.Chunks.{long, alike, turn, part_of, ended}
use Rattle.rules.proofs.Parts.{parts_more}
use Rattle.rules.proofs.Paths.{leads_to_tells}
use Rattle.rules.proofs.reach.Reach.groups.Goals as goal

pub overflow_add-end : goal.overflow_add-end
overflow_add-end c =
    let o = turn _ (alike (leads_to c.args.self.now.rules.now)) c.loop-part.yielded c.into_iter-part-iterator.result c.loop-part.part-iterator c.next.new.self c.in-Some.part c.args.order.now c.loop-part.start
    c.loop-part.yielded_by (search rules) (always_returns_same _ _ _ (λ a r f k. search rules)) (rw c.in-Some.is at c.next.ensures.steps) c.loop-part.invariant.0 in
    let fits : c.loop-part.start + length c.in-Some.part.now ≤ length c.args.order.now = omega (arith, o.most, o.left.count) in
    search (rules, fits)

pub loop-part-preserved : goal.loop-part-preserved
loop-part-preserved c =
    let leads = leads_to c.args.self.now.rules.now in
    let order = c.args.order.now in
    let o = turn _ (alike (leads_to c.args.self.now.rules.now)) c.loop-part.yielded c.into_iter-part-iterator.result c.loop-part.part-iterator c.next.new.self c.in-Some.part c.args.order.now c.loop-part.start
    c.loop-part.yielded_by (search rules) (always_returns_same _ _ _ (λ a r f k. search rules)) (rw c.in-Some.is at c.next.ensures.steps) c.loop-part.invariant.0 in
    let end = c.loop-part.start + length c.in-Some.part.now in (
      ap (λ (n : ℕ). n + length c.in-Some.part.now) c.loop-part.invariant.0 ∙ sym (sum_by_push long c.loop-part.yielded c.in-Some.part),
      parts_more leads order (length order) (vec_items c.loop-part.groups) (vec_items c.push.new.self) (record { start = c.loop-part.start; end = end; ringed = c.leads-ringed.result }) c.loop-part.start end
          c.loop-part.invariant.1 c.in_ok-push.ensures.items refl refl
          (part_of c.args.self.now.rules.now leads (leads_to_tells c.args.self.now.rules.now) order c.in-Some.part.now c.loop-part.start o c.leads-ringed.result
          (c.leads-ringed.ensures ∙ ap (λ (k : ℕ). leads k k) c.index-first.ensures)),
    )

pub returns : goal.returns
returns c =
    let leads = leads_to c.args.self.now.rules.now in
    let order = c.args.order.now in
    let e = ended _ (alike leads) c.loop-part.yielded c.into_iter-part-iterator.result c.loop-part.part-iterator c.next.new.self order c.loop-part.start
    c.loop-part.yielded_by (search rules) (always_returns_same _ _ _ (λ a r f k. search rules)) (rw c.in-None.is at c.next.ensures.steps) c.loop-part.invariant.0 in
    subst (λ (n : ℕ). PartsTo leads order (length order) (vec_items c.loop-part.groups) n) e c.loop-part.invariant.1
