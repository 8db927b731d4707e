use Rattle.std.proofs.Common.{◌≡◌, MatchResult, Ok, Err, rules}
use Rattle.std.proofs.lemmas.Result.{err_from_is_err_and}
use Rattle.rules.specs.Drafts.{drafted}
use Rattle.rules.specs.Drafts.{said_by}
use Rattle.files.specs.Faults.{unadded}
use Rattle.files.proofs.Following.{unadded_told}
use Rattle.files.proofs.rule_file.add_rule.Goals as goal

pub returns-in_err-map_err : goal.returns-in_err-map_err
returns-in_err-map_err c =
    let p = err_from_is_err_and c.from_residual.result c.from_residual.ensures.1 in
    let made : MatchResult c.add.result (λ number. c.map_err.result ≡ Ok number) (λ f. c.map_err.result ≡ Err (unadded f c.args.line)) = search rules in
    rw (p.1, p.2) (unadded_told c.args.line (drafted c.args.draft.now) (drafted c.add.new.self) (said_by c.args.words) c.add.result c.map_err.result c.in_err-map_err.field-0.0
    c.requires c.add.ensures made c.in_err-map_err.was)
