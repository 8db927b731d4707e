-- The order of periods is strict and total, and that of std's comparisons; what it says at places.
use Rattle.std.specs.Prelude.{◌≡◌, ℕ, ◌<◌, ◌≤◌, Bool, true, false, not, ◌&&◌, ◌||◌, nat_lt, refl}
use Rattle.std.proofs.Common.{◌∙◌, ap, rules}
use Rattle.std.specs.declared.cmp.Ordering.{Ordering}
use Rattle.std.specs.declared.cmp.Ordering.TheVariants.{Less, Equal, Greater}
use Rattle.std.specs.Ordering.{is_lt, nat_cmp, ordering_reverse, ordering_then}
use Rattle.std.specs.Cmp.{IsTotalOrder}
use Rattle.std.proofs.lemmas.Cmp.{nat_cmp_total}
use Rattle.std.proofs.lemmas.Bool.{lt-ltb, le-ltb}
use Rattle.terms.specs.declared.numbers.Place.{Place}
use Rattle.pools.specs.declared.period.Period.{Period}
use Rattle.moments.specs.Order.{StrictTotalOrder, first_by}
use Rattle.moments.specs.Laws.Lex.{nat_lt_laws, first_less, first_more, first_same, first_irreflexive, first_transitive, first_connected}
use Rattle.pools.specs.Periods.{earlier, Span, sooner}

module _ {M : Type 0} (before : M → M → Bool) (laws : StrictTotalOrder before) where
  abbrev by_end : Period M → Period M → Bool
  by_end p q = before p.end q.end

  abbrev by_start : Period M → Period M → Bool
  by_start = first_by before (λ p. p.start) by_end

  pub earlier_laws : StrictTotalOrder (earlier before)
  earlier_laws = record {
    irreflexive = first_irreflexive nat_lt nat_lt_laws (λ p. p.label.0) by_start (first_irreflexive before laws (λ p. p.start) by_end (λ p. laws.irreflexive p.end));
    connected = λ p q h k.
        let a = first_connected nat_lt nat_lt_laws (λ r. r.label.0) by_start p q h k in
        let b = first_connected before laws (λ r. r.start) by_end p q a.1 a.2 in
        let c = laws.connected p.end q.end b.1 b.2 in
        λ i. record { label = record { 0 = a.0 i }; start = b.0 i; end = c i };
    transitive = first_transitive nat_lt nat_lt_laws (λ p. p.label.0) by_start (first_transitive before laws (λ p. p.start) by_end (λ p q r. laws.transitive p.end q.end r.end));
  }

-- ---- by std's comparisons
by_cases : (o n : Ordering) (rest : Bool) → rest ≡ is_lt n → (is_lt o || (not (is_lt (ordering_reverse o)) && rest)) ≡ is_lt (ordering_then o n)
by_cases Less n rest e = refl
by_cases Equal n rest e = e
by_cases Greater n rest e = refl

first_agrees : {X A : Type 0} (before : A → A → Bool) (cmp : A → A → Ordering) (total : IsTotalOrder cmp) (agrees : (a b : A) → before a b ≡ is_lt (cmp a b)) (part : X → A) (rest : X → X → Bool) (x y : X) (n : Ordering)
    → rest x y ≡ is_lt n → first_by before part rest x y ≡ is_lt (ordering_then (cmp (part x) (part y)) n)
first_agrees before cmp total agrees part rest x y n e =
    let back : before (part y) (part x) ≡ is_lt (ordering_reverse (cmp (part x) (part y))) = agrees (part y) (part x) ∙ ap is_lt (total.antisymm (part y) (part x)) in
    rw (agrees (part x) (part y), back) (by_cases (cmp (part x) (part y)) n (rest x y) e)

nat_agrees : (a b : ℕ) → nat_lt a b ≡ is_lt (nat_cmp a b)
nat_agrees a b = search rules

pub earlier_agrees : {M : Type 0} (before : M → M → Bool) (cmp : M → M → Ordering) (total : IsTotalOrder cmp) (agrees : (a b : M) → before a b ≡ is_lt (cmp a b)) (x y : Period M)
    → earlier before x y ≡ is_lt (ordering_then (nat_cmp x.label.0 y.label.0) (ordering_then (cmp x.start y.start) (cmp x.end y.end)))
earlier_agrees before cmp total agrees x y =
    first_agrees nat_lt nat_cmp nat_cmp_total nat_agrees (λ p. p.label.0) (first_by before (λ p. p.start) (λ p q. before p.end q.end)) x y _
    (first_agrees before cmp total agrees (λ p. p.start) (λ p q. before p.end q.end) x y _ (agrees x.end y.end))

-- ---- at places
abbrev place_before : Place → Place → Bool
place_before p q = nat_lt p.0 q.0

place_laws : StrictTotalOrder place_before
place_laws = record {
  irreflexive = λ p. nat_lt_laws.irreflexive p.0;
  connected = λ p q h k. let e = nat_lt_laws.connected p.0 q.0 h k in λ i. record { 0 = e i };
  transitive = λ p q r. nat_lt_laws.transitive p.0 q.0 r.0;
}

pub sooner_laws : StrictTotalOrder sooner
sooner_laws = earlier_laws place_before place_laws

pub same_period : (p q : Span) → p.label.0 ≡ q.label.0 → p.start.0 ≡ q.start.0 → p.end.0 ≡ q.end.0 → p ≡ q
same_period p q a b c = λ i. record { label = record { 0 = a i }; start = record { 0 = b i }; end = record { 0 = c i } }

-- ---- by the numbers
module _ (p q : Span) where
  abbrev starts : Span → Span → Bool
  starts = by_start place_before place_laws

  abbrev ends : Span → Span → Bool
  ends = by_end place_before place_laws

  same_label : p.label.0 ≡ q.label.0 → sooner p q ≡ starts p q
  same_label e = first_same nat_lt nat_lt_laws (λ r. r.label.0) starts p q e

  same_start : p.start.0 ≡ q.start.0 → starts p q ≡ ends p q
  same_start e = first_same place_before place_laws (λ r. r.start) ends p q (λ i. record { 0 = e i })

  pub by_label_less : p.label.0 < q.label.0 → sooner p q ≡ true
  by_label_less h = first_less nat_lt nat_lt_laws (λ r. r.label.0) starts p q (lt-ltb p.label.0 q.label.0 h)

  pub by_label_more : q.label.0 < p.label.0 → sooner p q ≡ false
  by_label_more h = first_more nat_lt nat_lt_laws (λ r. r.label.0) starts p q (lt-ltb q.label.0 p.label.0 h)

  pub by_start_less : p.label.0 ≡ q.label.0 → p.start.0 < q.start.0 → sooner p q ≡ true
  by_start_less e h = same_label e ∙ first_less place_before place_laws (λ r. r.start) ends p q (lt-ltb p.start.0 q.start.0 h)

  pub by_start_more : p.label.0 ≡ q.label.0 → q.start.0 < p.start.0 → sooner p q ≡ false
  by_start_more e h = same_label e ∙ first_more place_before place_laws (λ r. r.start) ends p q (lt-ltb q.start.0 p.start.0 h)

  pub by_end_less : p.label.0 ≡ q.label.0 → p.start.0 ≡ q.start.0 → p.end.0 < q.end.0 → sooner p q ≡ true
  by_end_less e f h = same_label e ∙ (same_start f ∙ lt-ltb p.end.0 q.end.0 h)

  pub by_end_more : p.label.0 ≡ q.label.0 → p.start.0 ≡ q.start.0 → q.end.0 ≤ p.end.0 → sooner p q ≡ false
  by_end_more e f h = same_label e ∙ (same_start f ∙ le-ltb p.end.0 q.end.0 h)
