use Rattle.terms.proofs.Words.{found_of_all}
use Rattle.terms.proofs.worded.Worded.from_word.Goals as goal

pub returns-clause-named : goal.returns-clause-named
returns-clause-named g c = rw c.first_with_word.ensures (rw c.all.ensures (found_of_all g.Self.Worded.spelling c.args.word.now g.Self.Worded.every g.met.Self.Worded.complete))
