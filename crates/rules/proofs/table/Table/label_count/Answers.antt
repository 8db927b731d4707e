use Rattle.std.proofs.Common.{vec_items, string_bytes, sym, ◌∙◌}
use Rattle.std.proofs.lemmas.List.{length-map}
use Rattle.rules.proofs.table.Table.label_count.Goals as goal

pub returns : goal.returns
returns c = c.len.ensures ∙ (c.args.self.now.list.names.ok.0 ∙ sym (length-map (vec_items c.args.self.now.list.names) string_bytes))
