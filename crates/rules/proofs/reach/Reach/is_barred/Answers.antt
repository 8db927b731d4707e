use Rattle.std.proofs.Common.{sym, ◌∙◌, rules}
use Rattle.rules.proofs.Paths.{leads_to_tells}
use Rattle.rules.proofs.Rings.{ring_leads, leads_ring}
use Rattle.rules.proofs.reach.Reach.is_barred.Goals as goal

pub returns-then-is_exclusive : goal.returns-then-is_exclusive
returns-then-is_exclusive c =
    let rs = c.args.self.now.rules.now in
    let tells = leads_to_tells rs c.args.i c.args.i in (
      λ h. record { in_table = search rules; kept = search rules; ringed = leads_ring rs c.args.i (tells.0 (sym c.leads.ensures ∙ h)) },
      λ b. c.leads.ensures ∙ tells.1 (ring_leads rs c.args.i b.ringed),
    )
