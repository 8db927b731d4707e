use Rattle.std.proofs.Common.{◌≡◌, List, length, vec_items, sym, refl, ◌∙◌, subst, rules}
use Rattle.std.proofs.lemmas.Grind.{common_steps}
use Rattle.std.proofs.lemmas.Result.{err_from_is_err_and}
use Rattle.rules.specs.declared.draft.Draft.{Draft}
use Rattle.rules.specs.declared.rule.Rule.{Rule}
use Rattle.rules.specs.Words.{Free, LowestBarred}
use Rattle.rules.specs.Keys.{InOrder}
use Rattle.rules.specs.Reach.{leads_to}
use Rattle.rules.specs.Texts.{texts}
use Rattle.rules.specs.Written.{rules_of}
use Rattle.rules.specs.Drafts.{drafted}
use Rattle.rules.proofs.Keeping.{kept_rules}
use Rattle.rules.proofs.Adding.{list_kept}
use Rattle.rules.proofs.Closings.{parts_of}
use Rattle.rules.proofs.draft.Draft.close.Goals as goal

-- what is read of a draft's rules is what the draft says
drafted_rules : (d : Draft) → vec_items d.list.rules ≡ rules_of (drafted d)
drafted_rules d = sym (kept_rules (texts (vec_items d.list.names)) (vec_items d.list.rules) (list_kept d.list))

pub returns-in-Some : goal.returns-in-Some
returns-in-Some c = subst (λ (rs : List Rule). LowestBarred rs c.in-Some.no) (c.of-reach.ensures ∙ drafted_rules c.args.self) c.in-Some.ensures

pub returns-in_err-order : goal.returns-in_err-order
returns-in_err-order c =
    let p = err_from_is_err_and c.from_residual.result c.from_residual.ensures.1 in
    rw (p.1, p.2) (subst (λ (rs : List Rule). Free rs) (c.of-reach.ensures ∙ drafted_rules c.args.self) c.in_default.ensures)

pub returns-in_err-groups : goal.returns-in_err-groups
returns-in_err-groups c =
    let p = err_from_is_err_and c.from_residual-in_err-groups.result c.from_residual-in_err-groups.ensures.1 in
    rw (p.1, p.2) (subst (λ (rs : List Rule). Free rs) (c.of-reach.ensures ∙ drafted_rules c.args.self) c.in_default.ensures)

pub returns : goal.returns
returns c = (refl, subst (λ (rs : List Rule). Free rs) (c.of-reach.ensures ∙ drafted_rules c.args.self) c.in_default.ensures)

pub invariant_of-result : goal.invariant_of-result
invariant_of-result c =
    let e = c.of-reach.ensures in
    let o = subst (λ (rs : List Rule). InOrder (leads_to rs) (length rs) (vec_items c.in_ok-order.order)) e c.in_ok-order.ensures in
    record {
      free = subst (λ (rs : List Rule). Free rs) e c.in_default.ensures;
      ordered = o;
      parted = parts_of c.of-reach.result.rules.now (vec_items c.args.self.list.rules) _ (vec_items c.in_ok-order.order) (vec_items c.in_ok-groups.groups) e (search (rules, common_steps)) o.long c.in_ok-groups.ensures;
    }
