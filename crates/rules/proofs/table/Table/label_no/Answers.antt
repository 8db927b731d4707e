use Rattle.std.proofs.Common.{◌≡◌, ◌<◌, List, length, String, sym, ap, ◌∙◌, subst, arith}
use Rattle.std.specs.declared.alloc.Global.{Global}
use Rattle.rules.specs.Tables.{names_in, rules_in}
use Rattle.rules.specs.Texts.{texts}
use Rattle.rules.specs.Written.{index_of, name_at}
use Rattle.rules.proofs.Numbering.{index_name}
use Rattle.rules.proofs.Keeping.{kept_different}
use Rattle.rules.proofs.Closings.{table_kept}
use Rattle.rules.proofs.table.Table.label_no.Goals as goal

pub returns : goal.returns
returns c =
    let f = subst (λ (ns : List (String Global)). (c.in_ok-i.i < length (texts ns)) × (index_of (texts ns) c.args.name.now ≡ c.in_ok-i.i)) c.deref.ensures.value c.in_ok-i.ensures in
    let l : index_of (names_in c.args.self.now) c.args.name.now < length (names_in c.args.self.now) = let a = f.0 in let b = f.1 in omega arith in
    (f.0, ap (name_at (names_in c.args.self.now)) (sym f.1) ∙ index_name (names_in c.args.self.now) c.args.name.now l)

pub returns-in_err-i : goal.returns-in_err-i
returns-in_err-i c =
    let f = subst (λ (ns : List (String Global)). index_of (texts ns) c.args.name.now ≡ length (texts ns)) c.deref.ensures.value c.in_err-i.ensures in
    rw c.from_residual.ensures (λ label l e.
    let d = kept_different (names_in c.args.self.now) (rules_in c.args.self.now) (table_kept c.args.self.now) label.0 l in
    let g = ap (index_of (names_in c.args.self.now)) e in
    omega arith)
