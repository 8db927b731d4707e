use Rattle.rules.proofs.Texts.{found_name}
use Rattle.rules.proofs.names.find_name.Goals as goal

pub returns : goal.returns
returns c = found_name c.args.names.now c.args.text.now c.first_like.result c.first_like.ensures
