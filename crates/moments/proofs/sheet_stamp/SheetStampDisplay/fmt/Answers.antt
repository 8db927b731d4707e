use Rattle.std.proofs.Common.{◌∷◌, ◌++◌, ap}
use Rattle.std.specs.Fmt.{is_bare_number}
use Rattle.std.proofs.Output.{has_written_of_eq}
use Rattle.moments.proofs.Padding.{zeros_in_front}
use Rattle.moments.proofs.sheet_stamp.SheetStampDisplay.fmt.Goals as goal

pub returns-clause-writes : goal.returns-clause-writes
returns-clause-writes g c = λ p k.
    let season = zeros_in_front 2 c.args.self.now.season c.laid_out.result c.laid_out.ensures (ap is_bare_number c.laid_out.ensures) in
    let sheet = zeros_in_front 4 c.args.self.now.sheet c.laid_out-2.result c.laid_out-2.ensures (ap is_bare_number c.laid_out-2.ensures) in
    let line = zeros_in_front 2 c.args.self.now.line c.laid_out-3.result c.laid_out-3.ensures (ap is_bare_number c.laid_out-3.ensures) in
    has_written_of_eq _ _ _ _ _ (λ i. season i ++ (47 ∷ (sheet i ++ (47 ∷ line i)))) (c.write.ensures.writes p k)
