use Rattle.std.proofs.Common.{◌≡◌, ℕ, length, ap, ◌∙◌, arith}
use Rattle.rules.specs.Words.{read_by}
use Rattle.rules.specs.Reach.{via, leads_to}
use Rattle.rules.proofs.reach.Reach.of.Goals as goal

pub invariant_of-result : goal.invariant_of-result
unfolding leads_to
invariant_of-result c =
    let rs = c.args.list.now.rules.items in
    let n : c.loop-k.k ≡ length rs = let e = ap length c.as_slice-rules.ensures.value in omega arith in
    rw c.as_slice-rules.ensures.value (record { few = c.args.list.now.few; tells = λ i j. c.loop-k.invariant i j ∙ ap (λ (k : ℕ). via (read_by rs) k i j) n })
