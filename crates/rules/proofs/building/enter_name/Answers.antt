use Rattle.std.proofs.Common.{◌≡◌, ℕ, ◌<◌, List, length, vec_items, string_bytes, String, sym, refl, ap, ◌∙◌, subst, arith}
use Rattle.std.specs.declared.alloc.Global.{Global}
use Rattle.std.proofs.lemmas.List.{length-map}
use Rattle.std.proofs.lemmas.Result.{err_from_is_err_and}
use Rattle.rules.specs.Texts.{texts}
use Rattle.rules.specs.Written.{index_of}
use Rattle.rules.proofs.Drafting.{entered_there, entered_new, new_name}
use Rattle.rules.proofs.building.enter_name.Goals as goal

pub returns-in-Some : goal.returns-in-Some
returns-in-Some c =
    let f = subst (λ (ns : List (String Global)). (c.in-Some.i < length (texts ns)) × (index_of (texts ns) c.as_bytes.result.now ≡ c.in-Some.i)) c.deref.ensures.value c.in-Some.ensures in
    entered_there (vec_items c.args.names.now) c.args.text.now c.in-Some.i f.0
    (ap (λ (t : List ℕ). index_of (texts (vec_items c.args.names.now)) t) (sym c.as_bytes.ensures.value) ∙ f.1)

pub returns-in_err-from_str : goal.returns-in_err-from_str
returns-in_err-from_str c = let p = err_from_is_err_and c.from_residual.result c.from_residual.ensures.1 in rw p.1 refl

pub returns-in_err-push : goal.returns-in_err-push
returns-in_err-push c = let p = err_from_is_err_and c.from_residual-in_err-push.result c.from_residual-in_err-push.ensures.1 in rw p.1 c.in_err-push.ensures.items

pub returns : goal.returns
returns c =
    let n : c.len-count.result ≡ length (vec_items c.args.names.now) = omega (arith, c.len-count.ensures, c.args.names.now.ok.0) in
    rw n (entered_new (vec_items c.args.names.now) c.in_ok-from_str.field-0 (vec_items c.push.new.self) c.args.text.now
    c.in_ok-from_str.ensures.ok c.in_ok-push.ensures.items
    (new_name (vec_items c.args.names.now) c.deref.result.now c.args.text.now c.as_bytes.result.now c.deref.ensures.value c.as_bytes.ensures.value c.in_default.ensures))

pub overflow_cast-result-2 : goal.overflow_cast-result-2
overflow_cast-result-2 c =
    let n = length-map (vec_items c.args.names.now) string_bytes in
    omega (arith, c.len-count.ensures, c.args.names.now.ok.0, c.requires)
