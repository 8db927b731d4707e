-- Orders of the columns: no column stands twice, and fields and columns belong together.
use Rattle.std.proofs.Common.{◌≡◌, ℕ, zero, suc, ◌+◌, ◌<◌, get_or, suc-le-suc, Bool, true, false, not, ◌&&◌, ◌||◌, eqb, List, [], ◌∷◌, map, length, Some, None, IsSome, sym, refl, ap, ◌∙◌, inl, inr, arith}
use Rattle.std.proofs.lemmas.Bool.{lt-ltb, false≢true, both_ways, not-true, and_parts, or_cases, or_parts, eqb-true, cases_Bool, cond-true, cond-false}
use lib.ListN.{length-map}
use Rattle.std.specs.List.{position, position_or_len, list_any}
use Rattle.std.proofs.lemmas.List.{get_or-map}
use Rattle.std.proofs.lemmas.List.Quantifiers.{position-Some}
use Rattle.files.specs.declared.parts.Part.{Part}
use Rattle.files.specs.declared.columns.RuleColumn.{RuleColumn}
use Rattle.files.specs.contracts.columns.RuleColumnPartialEq.TheImpl.{ghosts}
use Rattle.files.specs.declared.columns.RuleColumn.TheVariants.{Label, First, How, Second}
use Rattle.files.specs.RuleFiles.{column_name, same_column, has_column, each_once, fits, misfit, first_misfit, bytes_under}
use Rattle.std.proofs.lemmas.Slice.Eq.{bytes_eq-Decides}
use Rattle.files.proofs.Names.{column_found}

-- ---- the same column

same_column_lem : (c d : RuleColumn) → same_column c d ≡ true → c ≡ d
same_column_lem c d h =
    let e : column_name c ≡ column_name d = (bytes_eq-Decides (column_name c) (column_name d)).0 h in
    let a = column_found c in
    let b = column_found d in
    cc

-- A column that is not the first is one of the others.
has_later : (c d : RuleColumn) (ds : List RuleColumn) → has_column c (d ∷ ds) ≡ true → same_column c d ≡ false → has_column c ds ≡ true
has_later c d ds h n = elim (or_cases (same_column c d) (has_column c ds) h) [
  | inl y ↦ absurd (both_ways (same_column c d) n y)
  | inr y ↦ y
]

-- ---- no column twice

-- No column stands twice.
abbrev apart : List RuleColumn → Bool
apart [] = true
apart (c ∷ cs) = not (has_column c cs) && apart cs

-- Each of the four columns passes.
abbrev for_each : (RuleColumn → Bool) → Bool
for_each p = p Label && (p First && (p How && p Second))

at_each : (p : RuleColumn → Bool) → for_each p ≡ true → (c : RuleColumn) → p c ≡ true
at_each p h c =
    let a = and_parts (p Label) _ h in
    let b = and_parts (p First) _ a.1 in
    let d = and_parts (p How) _ b.1 in
    go c a.0 b.0 d.0 d.1
  where
    go : (c : RuleColumn) → p Label ≡ true → p First ≡ true → p How ≡ true → p Second ≡ true → p c ≡ true
    go Label a b d e = a
    go First a b d e = b
    go How a b d e = d
    go Second a b d e = e

-- All lists of n columns pass.
abbrev tries : ℕ → (List RuleColumn → Bool) → Bool
tries zero p = p []
tries (suc n) p = for_each (λ c. tries n (λ cs. p (c ∷ cs)))

tried : (n : ℕ) (p : List RuleColumn → Bool) → tries n p ≡ true → (cs : List RuleColumn) → length cs ≡ n → p cs ≡ true
tried zero p h [] l = h
tried zero p h (c ∷ cs) l = absurd (omega arith)
tried (suc n) p h [] l = absurd (omega arith)
tried (suc n) p h (c ∷ cs) l = tried n (λ ds. p (c ∷ ds)) (at_each (λ d. tries n (λ ds. p (d ∷ ds))) h c) cs (omega arith)

pub once_four : (cs : List RuleColumn) → each_once cs ≡ true → length cs ≡ 4
once_four cs h = eqb-true (length cs) 4 (and_parts (eqb (length cs) 4) _ h).0

abbrev once_apart : List RuleColumn → Bool
once_apart cs = not (each_once cs) || apart cs

-- Where each column stands once, none stands twice: by trying all lists of four.
once_apart_lem : (cs : List RuleColumn) → each_once cs ≡ true → apart cs ≡ true
once_apart_lem cs h = elim (or_cases (not (each_once cs)) (apart cs) (tried 4 once_apart refl cs (once_four cs h))) [
  | inl e ↦ absurd (both_ways (each_once cs) (not-true (each_once cs) e) h)
  | inr e ↦ e
]

-- Where each column stands once, a given one stands somewhere.
pub once_has : (cs : List RuleColumn) → each_once cs ≡ true → (c : RuleColumn) → has_column c cs ≡ true
once_has cs h = at_each (λ c. has_column c cs) (and_parts (eqb (length cs) 4) _ h).1

-- ---- fields under columns

-- Where each field is f of its column, the field under a column is f of it.
pub under-map : (f : RuleColumn → List ℕ) (c : RuleColumn) (cs : List RuleColumn) → has_column c cs ≡ true → bytes_under c cs (map f cs) ≡ f c
under-map f c [] h = absurd (false≢true h)
under-map f c (d ∷ ds) h = elim (cases_Bool (same_column c d)) [
  | inl e ↦ cond-true (same_column c d) (f d) (bytes_under c ds (map f ds)) e ∙ ap f (sym (same_column_lem c d e))
  | inr e ↦ cond-false (same_column c d) (f d) (bytes_under c ds (map f ds)) e ∙ under-map f c ds (has_later c d ds h e)
]

under_at : (c : RuleColumn) (cs : List RuleColumn) (fs : List (List ℕ)) (i : ℕ) → i < length cs → length cs ≡ length fs → same_column c (get_or cs i Label) ≡ true →
    ((k : ℕ) → k < i → same_column c (get_or cs k Label) ≡ false) → bytes_under c cs fs ≡ get_or fs i []
under_at c [] fs i h l is others = absurd (omega arith)
under_at c (d ∷ ds) [] i h l is others = absurd (omega arith)
under_at c (d ∷ ds) (f ∷ fs) zero h l is others = cond-true (same_column c d) f (bytes_under c ds fs) is
under_at c (d ∷ ds) (f ∷ fs) (suc i) h l is others =
    cond-false (same_column c d) f (bytes_under c ds fs) (others 0 (omega arith))
    ∙ under_at c ds fs i (omega arith) (omega arith) is (λ k b. others (suc k) (suc-le-suc b))

-- The field under a column is the one at the place of the first such column.
pub under_place : (c : RuleColumn) (cs : List RuleColumn) (ps : List Part) (i : ℕ) (d : Part) → length cs ≡ length ps → position (λ e. same_column c e) cs ≡ Some i →
    (get_or ps i d).bytes.now ≡ bytes_under c cs (map (λ p. p.bytes.now) ps)
under_place c cs ps i d l e =
    let at = position-Some (λ e. same_column c e) cs i Label e in
    sym (under_at c cs (map (λ p. p.bytes.now) ps) i at.0 (simp length-map l) at.1 at.2 ∙ get_or-map (λ p. p.bytes.now) ps i d [] (omega (arith, at.0)))

has_first : (c : RuleColumn) (cs : List RuleColumn) → has_column c cs ≡ true → position_or_len (λ e. same_column c e) cs < length cs
has_first c [] h = absurd (false≢true h)
has_first c (d ∷ ds) h = elim (cases_Bool (same_column c d)) [
  | inl e ↦ rw e (omega arith)
  | inr e ↦ let more = has_first c ds (has_later c d ds h e) in rw e (omega arith)
]

-- A column that is there has a place.
pub has_place : (c : RuleColumn) (cs : List RuleColumn) → has_column c cs ≡ true → IsSome (position (λ e. same_column c e) cs)
has_place c cs h = rw (lt-ltb (position_or_len (λ e. same_column c e) cs) (length cs) (has_first c cs h)) refl

alike : Bool → Bool → Bool
alike true b = b
alike false b = not b

alike_is : (a b : Bool) → alike a b ≡ true → a ≡ b
unfolding alike
alike_is true b h = sym h
alike_is false b h = sym (not-true b h)

-- The comparison that is derived for columns.
eq_same : (c d : RuleColumn) → ghosts.eq d c ≡ same_column c d
unfolding alike
eq_same c d = alike_is (ghosts.eq d c) (same_column c d)
    (at_each (λ e. alike (ghosts.eq e c) (same_column c e)) (at_each (λ b. for_each (λ e. alike (ghosts.eq e b) (same_column b e))) refl c) d)

-- Whether a column is there, as `contains` finds it.
pub any_has : (c : RuleColumn) (cs : List RuleColumn) → list_any (λ d. ghosts.eq d c) cs ≡ has_column c cs
any_has c [] = refl
any_has c (d ∷ ds) = let one = eq_same c d in let more = any_has c ds in cc

-- A column and its field in front change nothing under the columns es that are others.
under_others : (d : RuleColumn) (f : List ℕ) (ds : List RuleColumn) (fs : List (List ℕ)) (es : List RuleColumn) → has_column d es ≡ false →
    map (λ c. bytes_under c (d ∷ ds) (f ∷ fs)) es ≡ map (λ c. bytes_under c ds fs) es
under_others d f ds fs [] h = refl
under_others d f ds fs (e ∷ es) h =
    let n = or_parts (same_column d e) (has_column d es) h in
    let other : same_column e d ≡ false = elim (cases_Bool (same_column e d)) [
      | inl y ↦ absurd (both_ways (same_column d e) n.0 (ap (same_column d) (same_column_lem e d y) ∙ (bytes_eq-Decides (column_name d) (column_name d)).1 refl))
      | inr y ↦ y
    ] in
    let one = cond-false (same_column e d) f (bytes_under e ds fs) other in
    let more = under_others d f ds fs es n.1 in
    cc

-- The fields under each of the columns are the fields.
under_each : (cs : List RuleColumn) (fs : List (List ℕ)) → apart cs ≡ true → length cs ≡ length fs → map (λ c. bytes_under c cs fs) cs ≡ fs
under_each [] [] h l = refl
under_each [] (f ∷ fs) h l = absurd (omega arith)
under_each (c ∷ cs) [] h l = absurd (omega arith)
under_each (c ∷ cs) (f ∷ fs) h l =
    let n = and_parts (not (has_column c cs)) (apart cs) h in
    let one = cond-true (same_column c c) f (bytes_under c cs fs) ((bytes_eq-Decides (column_name c) (column_name c)).1 refl) in
    let more = under_others c f cs fs cs (not-true (has_column c cs) n.0) ∙ under_each cs fs n.1 (omega arith) in
    cc

pub under_once : (cs : List RuleColumn) (fs : List (List ℕ)) → each_once cs ≡ true → length fs ≡ 4 → map (λ c. bytes_under c cs fs) cs ≡ fs
under_once cs fs h l = under_each cs fs (once_apart_lem cs h) (once_four cs h ∙ sym l)

-- ---- fields that are right under their columns

fit_first : (k : ℕ) (c : RuleColumn) (f : List ℕ) (cs : List RuleColumn) (fs : List (List ℕ)) → first_misfit k (c ∷ cs) (f ∷ fs) ≡ None →
    (fits c f ≡ true) × (first_misfit (k + 1) cs fs ≡ None)
fit_first k c f cs fs h = elim (cases_Bool (fits c f)) [
  | inl e ↦ (e, sym (cond-true (fits c f) (first_misfit (k + 1) cs fs) (Some (misfit c, k)) e) ∙ h)
  | inr e ↦
      let bad = sym (cond-false (fits c f) (first_misfit (k + 1) cs fs) (Some (misfit c, k)) e) ∙ h in
      let z : ◌≡◌ {A = ℕ} 0 1 = cc in absurd (omega arith)
]

-- Where no field is wrong, the field under a column is right.
pub under_fits : (k : ℕ) (c : RuleColumn) (cs : List RuleColumn) (fs : List (List ℕ)) → length cs ≡ length fs → has_column c cs ≡ true →
    first_misfit k cs fs ≡ None → fits c (bytes_under c cs fs) ≡ true
under_fits k c [] fs l h m = absurd (false≢true h)
under_fits k c (d ∷ ds) [] l h m = absurd (omega arith)
under_fits k c (d ∷ ds) (f ∷ fs) l h m =
    let p = fit_first k d f ds fs m in
    elim (cases_Bool (same_column c d)) [
      | inl e ↦ rw (cond-true (same_column c d) f (bytes_under c ds fs) e, same_column_lem c d e) p.0
      | inr e ↦ rw (cond-false (same_column c d) f (bytes_under c ds fs) e)
          (under_fits (k + 1) c ds fs (omega arith) (has_later c d ds h e) p.1)
    ]

-- Where f is right under each column, none of its fields is wrong.
pub map_fits : (f : RuleColumn → List ℕ) → ((c : RuleColumn) → fits c (f c) ≡ true) → (k : ℕ) (cs : List RuleColumn) →
    first_misfit k cs (map f cs) ≡ None
map_fits f h k [] = refl
map_fits f h k (c ∷ cs) = cond-true (fits c (f c)) (first_misfit (k + 1) cs (map f cs)) (Some (misfit c, k)) (h c) ∙ map_fits f h (k + 1) cs
