-- The groups of an order, part by part.
use Rattle.std.proofs.Common.{◌≡◌, ℕ, suc, ◌<◌, ◌≤◌, Bool, true, false, List, [], ◌∷◌, ◌++◌, length, sym, ap, ◌∙◌, subst, inl, inr, arith, length-append}
use Rattle.std.proofs.lemmas.List.{get_or_append_left, get_or_push}
use Rattle.std.proofs.lemmas.Bool.{cases_lt, cases_eq}
use Rattle.terms.specs.declared.numbers.RuleNo.{RuleNo}
use Rattle.rules.specs.declared.group.Group.{Group}
use Rattle.rules.specs.Words.{at, group_at}
use Rattle.rules.specs.Keys.{one_group, PartsTo}

abbrev nothing : Group
nothing = record { start = 0; end = 0; ringed = false }

old_group : (groups : List Group) (x : Group) (g : ℕ) → g < length groups → group_at (groups ++ (x ∷ [])) g ≡ group_at groups g
old_group groups x g l = get_or_append_left groups (x ∷ []) nothing g l

new_group : (groups : List Group) (x : Group) (g : ℕ) → length groups ≡ g → group_at (groups ++ (x ∷ [])) g ≡ x
new_group groups x g e = get_or_push groups x nothing g e

-- What one part keeps.
pub record Part (leads : ℕ → ℕ → Bool) (order : List RuleNo) (n : ℕ) (g : Group) : Type 0 where
  pub sized : (g.start < g.end) × (g.end ≤ n)
  pub inside : (q : ℕ) → g.start ≤ q → q < g.end → one_group leads (at order g.start) (at order q) ≡ true
  pub outside : g.end < n → one_group leads (at order g.start) (at order g.end) ≡ false
  pub ringed : g.ringed ≡ leads (at order g.start) (at order g.start)

module _ (leads : ℕ → ℕ → Bool) (order : List RuleNo) (n : ℕ) where
  each_part : (groups : List Group) (p : ℕ) → PartsTo leads order n groups p → (g : ℕ) → g < length groups → Part leads order n (group_at groups g)
  each_part groups p o g l = record { sized = o.sized g l; inside = λ q a b. o.inside g q (record { in_list = l; from = a; upto = b }); outside = o.outside g l; ringed = o.ringed g l }

  -- a loop's step
  pub parts_more : (groups more : List Group) (x : Group) (p e : ℕ) → PartsTo leads order n groups p → more ≡ groups ++ (x ∷ []) → x.start ≡ p → x.end ≡ e → Part leads order n x → PartsTo leads order n more e
  parts_more groups more x p e o is s t part = subst (λ gs. PartsTo leads order n gs e) (sym is)
      (let m = length-append groups (x ∷ []) in
      let each : (g : ℕ) → g < length (groups ++ (x ∷ [])) → Part leads order n (group_at (groups ++ (x ∷ [])) g) = λ g l. elim (cases_lt g (length groups)) [
        | inl h ↦ subst (λ (y : Group). Part leads order n y) (sym (old_group groups x g h)) (each_part groups p o g h)
        | inr h ↦ subst (λ (y : Group). Part leads order n y) (sym (new_group groups x g (omega arith))) part
      ] in
      record {
        sized = λ g l. (each g l).sized;
        inside = λ g q h. (each g h.in_list).inside q h.from h.upto;
        outside = λ g l. (each g l).outside;
        ringed = λ g l. (each g l).ringed;
        first = λ l. elim (cases_eq (length groups) 0) [
          | inl h ↦ ap (λ (y : Group). y.start) (new_group groups x 0 h) ∙ (s ∙ o.none h)
          | inr h ↦ ap (λ (y : Group). y.start) (old_group groups x 0 (omega arith)) ∙ o.first (omega arith)
        ];
        next = λ g l. elim (cases_lt (suc g) (length groups)) [
          | inl h ↦ ap (λ (y : Group). y.end) (old_group groups x g (omega arith)) ∙ (o.next g h ∙ sym (ap (λ (y : Group). y.start) (old_group groups x (suc g) h)))
          | inr h ↦ ap (λ (y : Group). y.end) (old_group groups x g (omega arith)) ∙ (o.last g (omega arith) ∙ (sym s ∙ sym (ap (λ (y : Group). y.start) (new_group groups x (suc g) (omega arith)))))
        ];
        last = λ g h. ap (λ (y : Group). y.end) (new_group groups x g (omega arith)) ∙ t;
        none = λ h. absurd (omega arith);
      })
