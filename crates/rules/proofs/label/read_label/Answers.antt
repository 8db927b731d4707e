use Rattle.std.proofs.Common.{rules, sym}
use Rattle.rules.proofs.Spellings.{label_utf8}
use Rattle.rules.proofs.label.read_label.Goals as goal

pub returns : goal.returns
returns c = let utf8 = label_utf8 c.args.bytes.now (sym c.if-not-is_label.ensures) in search rules
