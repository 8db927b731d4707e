-- The groups of an order, as `chunk_by` cuts them.
use Rattle.std.proofs.Common.{◌≡◌, ℕ, zero, suc, ◌+◌, ◌-◌, ◌<◌, ◌≤◌, Bool, eqb, None, Some, true, false, List, [], ◌∷◌, length, get_or, sum_by, Decides, sym, ap, ◌∙◌, subst, inl, inr, add-zero, zero-add, arith, length-append}
use Rattle.std.specs.Fn.{ComputesOnPairs}
use Rattle.std.specs.Iterator.{Yields}
use Rattle.std.specs.List.{IsChunkByPrefix}
use Rattle.std.specs.Slice.Iter.{chunk_by_rest, chunk_by_callee, chunk_by_steps}
use Rattle.std.specs.declared.slice.ChunkBy.{ChunkBy}
use Rattle.std.proofs.lemmas.Bool.{or_left, eq-eqb, cases_Bool, both_ways}
use Rattle.std.proofs.lemmas.List.{get_or-append-add, get_or_append_left}
use Rattle.std.proofs.lemmas.List.Sums.{sum_by-cons}
use denote.Param.Members.{Mut}
use denote.Ref.{Bor}
use Rattle.terms.specs.declared.numbers.RuleNo.{RuleNo}
use Rattle.rules.specs.declared.rule.Rule.{Rule}
use Rattle.rules.specs.Words.{Leads, at}
use Rattle.rules.specs.Keys.{one_group}
use Rattle.rules.proofs.Groupings.{one_grouped, grouped_one}
use Rattle.rules.proofs.Ordering.{grouped_sym, grouped_trans}
use Rattle.rules.proofs.Parts.{Part}

-- Rules of one group, by their numbers.
abbrev pub alike : (ℕ → ℕ → Bool) → RuleNo → RuleNo → Bool
alike leads a b = one_group leads (a.0 - 1) (b.0 - 1)

abbrev pub long : Bor (List RuleNo) → ℕ
long part = length part.now

-- After parts of n rules in all, the rest of an order is left.
pub record Left (order rest : List RuleNo) (n : ℕ) : Type 0 where
  pub count : length order ≡ n + length rest
  pub same : (k : ℕ) (d : RuleNo) → get_or rest k d ≡ get_or order (n + k) d

-- A part that stands at the place `start`, at the front of what is left.
pub record Turn (e : RuleNo → RuleNo → Bool) (order : List RuleNo) (start : ℕ) (part : List RuleNo) : Type 0 where
  pub rest : List RuleNo
  pub left : Left order rest start
  pub some : 0 < length part
  pub most : length part ≤ length rest
  pub first : get_or rest 0 (record { 0 = 0 }) ≡ get_or part 0 (record { 0 = 0 })
  pub cut : IsChunkByPrefix e rest (length part)

module _ {F : Type 0} (g : Mut F (Bor RuleNo × (Bor RuleNo × Unit {0})) Bool) (e : RuleNo → RuleNo → Bool) where
  pub so_far : (parts : List (Bor (List RuleNo))) (s t : ChunkBy RuleNo F) → Yields (chunk_by_steps g) s parts t → ComputesOnPairs g e (chunk_by_callee s)
      → Left (chunk_by_rest s) (chunk_by_rest t) (sum_by long parts) × ComputesOnPairs g e (chunk_by_callee t)
  so_far [] s t y c = subst (λ (u : ChunkBy RuleNo F). Left (chunk_by_rest s) (chunk_by_rest u) 0 × ComputesOnPairs g e (chunk_by_callee u)) y
      (record { count = sym (zero-add (length (chunk_by_rest s))); same = λ k d. ap (λ (j : ℕ). get_or (chunk_by_rest s) j d) (sym (zero-add k)) }, c)
  so_far (x ∷ parts) s t y c =
      let more = so_far parts y.0 t y.2 (y.1.2 e c).0 in
      let n = sum_by-cons long x parts in (
        record {
          count = omega (arith, n, ap length y.1.0, length-append x.now (chunk_by_rest y.0), more.0.count);
          same = λ k d. more.0.same k d ∙ (sym (get_or-append-add x.now (chunk_by_rest y.0) (sum_by long parts + k) d) ∙ (ap (λ (l : List RuleNo). get_or l (length x.now + (sum_by long parts + k)) d) (sym y.1.0)
              ∙ ap (λ (j : ℕ). get_or (chunk_by_rest s) j d) (omega (arith, n))));
        },
        more.1,
      )

  -- what a turn of the loop finds: the part x at the front of what is left
  pub turn : (parts : List (Bor (List RuleNo))) (s t u : ChunkBy RuleNo F) (x : Bor (List RuleNo)) (order : List RuleNo) (start : ℕ) → Yields (chunk_by_steps g) s parts t → chunk_by_rest s ≡ order
      → ComputesOnPairs g e (chunk_by_callee s) → chunk_by_steps g t (Some x) u → start ≡ sum_by long parts → Turn e order start x.now
  turn parts s t u x order start y is c step at =
      let more = so_far parts s t y c in
      let left : Left order (chunk_by_rest t) start = subst (λ (n : ℕ). Left order (chunk_by_rest t) n) (sym at) (subst (λ (l : List RuleNo). Left l (chunk_by_rest t) (sum_by long parts)) is more.0) in
      record {
        rest = chunk_by_rest t;
        left = left;
        some = step.1;
        most = omega (arith, ap length step.0, length-append x.now (chunk_by_rest u));
        first = ap (λ (l : List RuleNo). get_or l 0 (record { 0 = 0 })) step.0 ∙ get_or_append_left x.now (chunk_by_rest u) (record { 0 = 0 }) 0 step.1;
        cut = (step.2 e more.1).1;
      }

  -- where no part is left, the parts have the whole order
  pub ended : (parts : List (Bor (List RuleNo))) (s t u : ChunkBy RuleNo F) (order : List RuleNo) (start : ℕ) → Yields (chunk_by_steps g) s parts t → chunk_by_rest s ≡ order
      → ComputesOnPairs g e (chunk_by_callee s) → chunk_by_steps g t None u → start ≡ sum_by long parts → start ≡ length order
  ended parts s t u order start y is c step at = omega (arith, (so_far parts s t y c).0.count, ap length is, step.0)

module _ (rules : List Rule) (leads : ℕ → ℕ → Bool) (tells : (i j : ℕ) → Decides (leads i j) (Leads rules i j)) where
  one_trans : (i j k : ℕ) → one_group leads i j ≡ true → one_group leads j k ≡ true → one_group leads i k ≡ true
  one_trans i j k a b = grouped_one rules leads tells i k (grouped_trans rules leads tells i j k (one_grouped rules leads tells i j a) (one_grouped rules leads tells j k b))

  one_sym : (i j : ℕ) → one_group leads i j ≡ true → one_group leads j i ≡ true
  one_sym i j a = grouped_one rules leads tells j i (grouped_sym rules leads tells i j (one_grouped rules leads tells i j a))

  module _ (order part : List RuleNo) (start : ℕ) (o : Turn (alike leads) order start part) where
    at_rest : (k : ℕ) → (get_or o.rest k (record { 0 = 0 })).0 - 1 ≡ at order (start + k)
    at_rest k = ap (λ (no : RuleNo). no.0 - 1) (o.left.same k (record { 0 = 0 }))

    along : (j k : ℕ) → one_group leads (at order (start + j)) (at order (start + k)) ≡ alike leads (get_or o.rest j (record { 0 = 0 })) (get_or o.rest k (record { 0 = 0 }))
    along j k = ap (λ (i : ℕ). one_group leads i (at order (start + k))) (sym (at_rest j)) ∙ ap (λ (i : ℕ). one_group leads ((get_or o.rest j (record { 0 = 0 })).0 - 1) i) (sym (at_rest k))

    -- the rules next to each other are of one group, so all are
    all_one : (k : ℕ) → k < length part → one_group leads (at order start) (at order (start + k)) ≡ true
    all_one zero l = or_left (eqb (at order start) (at order (start + 0))) _ (eq-eqb (at order start) (at order (start + 0)) (ap (at order) (omega arith)))
    all_one (suc k) l =
        let near : one_group leads (at order (start + k)) (at order (start + (k + 1))) ≡ true =
        along k (k + 1) ∙ o.cut.0 k (record { 0 = 0 }) (omega arith) in
        let e : start + (k + 1) ≡ start + suc k = omega arith in
        one_trans (at order start) (at order (start + k)) (at order (start + suc k)) (all_one k (omega arith)) (subst (λ (j : ℕ). one_group leads (at order (start + k)) (at order j) ≡ true) e near)

    -- the rule after them is of another
    outside : start + length part < length order → one_group leads (at order start) (at order (start + length part)) ≡ false
    outside l = elim (cases_Bool (one_group leads (at order start) (at order (start + length part)))) [
      | inl h ↦
          let last = start + (length part - 1) in
          let near = one_trans (at order last) (at order start) (at order (start + length part)) (one_sym (at order start) (at order last) (all_one (length part - 1) (omega arith))) h in
          let far : one_group leads (at order last) (at order (start + length part)) ≡ false =
          along (length part - 1) (length part) ∙ o.cut.1 (omega (arith, o.left.count)) (record { 0 = 0 }) in
          absurd (both_ways _ far near)
      | inr h ↦ h
    ]

    pub part_of : (ringed : Bool) → ringed ≡ leads ((get_or part 0 (record { 0 = 0 })).0 - 1) ((get_or part 0 (record { 0 = 0 })).0 - 1)
        → Part leads order (length order) (record { start = start; end = start + length part; ringed = ringed })
    part_of ringed r = record {
      sized = (let some = o.some in omega arith, omega (arith, o.left.count, o.most));
      inside = λ q low high. subst (λ (j : ℕ). one_group leads (at order start) (at order j) ≡ true) (omega arith) (all_one (q - start) (omega arith));
      outside = outside;
      ringed = r ∙ ap (λ (i : ℕ). leads i i) (sym (ap (λ (no : RuleNo). no.0 - 1) o.first) ∙ (at_rest 0 ∙ ap (at order) (add-zero start)));
    }
