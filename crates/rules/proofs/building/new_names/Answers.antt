use Rattle.std.proofs.Common.{◌≡◌, ℕ, ◌+◌, Bool, false, cond, ◌||◌, length, sym, ap, ◌∙◌, rules}
use Rattle.std.specs.Str.{bytes_eq}
use Rattle.rules.specs.Texts.{texts}
use Rattle.rules.specs.Written.{known}
use Rattle.rules.proofs.Numbering.{brings_three}
use Rattle.rules.proofs.building.new_names.Goals as goal
use Rattle.rules.proofs.building.new_names.Goals.{then-eq, else-eq}

pub returns-clause-brings : goal.returns-clause-brings
returns-clause-brings c =
    let names = texts c.args.names.now in
    let r = c.args.rule in
    let there : c.if-eq.brings_one ≡ (bytes_eq r.first.now r.second.now || bytes_eq r.label.now r.second.now) =
    elim c.if-eq.branch [ then-eq w ↦ search rules | else-eq w ↦ search rules ] in
    let x : c.brings_one.result ≡ cond (false || known names r.label.now) 0 1 = c.brings_one.ensures in
    let y : c.brings_one-2.result ≡ cond (bytes_eq r.label.now r.first.now || known names r.first.now) 0 1 =
    c.brings_one-2.ensures ∙ ap (λ (t : Bool). cond (t || known names r.first.now) 0 1) c.eq.ensures in
    let z : c.brings_one-3.result ≡ cond ((bytes_eq r.first.now r.second.now || bytes_eq r.label.now r.second.now) || known names r.second.now) 0 1 =
    c.brings_one-3.ensures ∙ ap (λ (t : Bool). cond (t || known names r.second.now) 0 1) there in
    brings_three names r.label.now r.first.now r.second.now ∙ ap (λ (k : ℕ). length names + k) (sym (λ i. (x i + y i) + z i))
