use Rattle.std.proofs.Common.{◌+◌, ◌&&◌, ltb, sym, refl, ap, ◌∙◌, arith}
use Rattle.std.proofs.lemmas.List.{length-set}
use Rattle.std.proofs.lemmas.Bool.{le-ltb, and_left}
use Rattle.std.proofs.lemmas.Bool.Decides.{same_from_decides}
use Rattle.rules.specs.Words.{read_by}
use Rattle.rules.proofs.Paths.{all_rows, read_by_true, true_read_by}
use Rattle.rules.proofs.Rows.{marked-set, marked_none, ltb_here, ltb_there}
use Rattle.rules.proofs.reach.first_steps.Goals as goal

pub loop-i-init : goal.loop-i-init
loop-i-init c = (refl, λ k m. marked_none c.none-rows.result c.none-rows.ensures 48 k m ∙ sym (and_left _ _ (le-ltb k 0 (omega arith))))

pub loop-i-preserved : goal.loop-i-preserved
loop-i-preserved c =
    let rs = c.args.list.now.rules.items in
    let i = c.loop-i.i in (
      length-set c.loop-i.rows i c.readers.result ∙ c.loop-i.invariant.0,
      marked-set c.loop-i.rows c.readers.result i
          (λ k m. ltb k i && read_by rs k m) (λ k m. ltb k (i + 1) && read_by rs k m)
          (omega arith) c.loop-i.invariant.1
          (λ n. same_from_decides _ _ (c.readers.ensures n) (read_by_true rs i n, true_read_by rs i n) ∙ sym (ap (λ b. b && read_by rs i n) (ltb_here i)))
          (λ m n ne. ap (λ b. b && read_by rs m n) (ltb_there m i ne)),
    )

pub returns : goal.returns
returns c = λ i j. c.loop-i.invariant.1 i j ∙ all_rows c.args.list.now.rules.items i j c.loop-i.i (omega arith)
