-- What a list of rules holds after a rule was written.
use Rattle.std.proofs.Common.{◌≡◌, ◌<◌, ◌≤◌, true, false, List, [], ◌∷◌, ◌++◌, length, is_err, None, Ok, Err, vec_items, Result, String, sym, ap, ◌∙◌, subst, arith}
use Rattle.std.specs.declared.alloc.AllocError.{AllocError}
use Rattle.std.specs.declared.alloc.Global.{Global}
use Rattle.std.proofs.lemmas.Bool.{true≢false}
use Rattle.std.proofs.lemmas.List.{length-map}
use Rattle.terms.specs.declared.numbers.RuleNo.{RuleNo}
use Rattle.rules.specs.declared.rule.Rule.{Rule}
use Rattle.rules.specs.declared.rule_list.RuleList.{RuleList}
use Rattle.rules.specs.Texts.{texts}
use Rattle.rules.specs.Drafts.{add_refusal, Pushed, Wrote}
use Rattle.rules.specs.Written.{Written, enter_rule, number_rule, spell_rule, spell_rules, spelt}
use Rattle.rules.proofs.Keeping.{Kept, kept_more, written_more, accepted_parts}

pub list_kept : (l : RuleList) → Kept (texts (vec_items l.names)) (vec_items l.rules)
list_kept l = record { few = l.few; fewnames = l.fewnames; spelt = l.spelt; within = l.within; appear = l.appear }

module _ (names after : List (String Global)) (rules more : List Rule) (w : Written) where
  written_parts : (n : RuleNo) → Wrote names rules w after more (Ok n) → (texts after ≡ enter_rule (texts names) w) × (more ≡ rules ++ (number_rule (enter_rule (texts names) w) w ∷ []))
  written_parts n h = (h.0, h.1 ∙ ap (λ ns. rules ++ (number_rule ns w ∷ [])) h.0)

  written_kept : (n : RuleNo) → Wrote names rules w after more (Ok n) → Kept (texts names) rules → spelt w ≡ true → length rules < 48 → length (enter_rule (texts names) w) ≤ 32 → Kept (texts after) more
  written_kept n h k s l m =
      let p = written_parts n h in
      subst (λ ns. Kept ns more) (sym p.0) (subst (λ rs. Kept (enter_rule (texts names) w) rs) (sym p.1) (kept_more (texts names) rules w k s l m))

  written_pushed : (n : RuleNo) → Wrote names rules w after more (Ok n) → Kept (texts names) rules → Pushed (spell_rules (texts names) rules) w (spell_rules (texts after) more) (Ok n)
  written_pushed n h k =
      let p = written_parts n h in
      let c = length-map rules (spell_rule (texts names)) in
      let q = h.2 in
      ((λ i. spell_rules (p.0 i) (p.1 i)) ∙ written_more (texts names) rules w k, omega arith)

  -- A rule that nothing refuses was written.
  pub pushed : (r : Result RuleNo AllocError) → is_err r ≡ false → Wrote names rules w after more r → Kept (texts names) rules → add_refusal (spell_rules (texts names) rules) w ≡ None
      → Kept (texts after) more × Pushed (spell_rules (texts names) rules) w (spell_rules (texts after) more) r
  pushed (Ok n) e h k none = let a = accepted_parts (texts names) rules w k none in (written_kept n h k a.0 a.1 a.2, written_pushed n h k)
  pushed (Err f) e h k none = absurd (true≢false e)
