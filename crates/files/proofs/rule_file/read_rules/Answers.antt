use Rattle.files.proofs.Promises.{accepts_texts, reads_back}
use Rattle.files.proofs.rule_file.read_rules.Goals as goal

pub returns : goal.returns
returns c = record {
  says = c.read_table.ensures;
  accepts = accepts_texts c.args.bytes.now c.read_table.result c.read_table.ensures;
  reads_back = reads_back c.args.bytes.now c.read_table.result c.read_table.ensures;
}
