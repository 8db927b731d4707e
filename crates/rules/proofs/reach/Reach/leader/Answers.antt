use Rattle.std.proofs.Common.{◌≡◌, ◌∙◌, ◌&&◌, ℕ, Bool, true, false, rules, tests}
use Rattle.std.proofs.lemmas.Iterator.{first_from_Range}
use Rattle.rules.specs.Keys.{leader_of}
use Rattle.rules.specs.Reach.{leads_to}
use Rattle.rules.proofs.Counts.{lowest_is_first, lowest_found}
use Rattle.rules.proofs.reach.Reach.leader.Goals as goal

pub returns : goal.returns
unfolding leader_of
returns c =
    let p : ℕ → Bool = λ m. leads_to c.args.self.now.rules.now m c.args.i && leads_to c.args.self.now.rules.now c.args.i m in
    c.unwrap_or.ensures ∙ lowest_is_first p c.args.i _ (lowest_found p c.args.i c.find.result
    (first_from_Range _ _ _ _ (λ m. p m ≡ true) (λ m. p m ≡ false) c.find.ensures.ran (λ x q k. search (rules, tests)) (λ x q k. search (rules, tests))))
