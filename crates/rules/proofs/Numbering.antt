-- The numbers that names get, and rules by number and by name.
use Rattle.std.proofs.Common.{◌≡◌, ℕ, ◌+◌, ◌<◌, ◌≤◌, Bool, true, false, cond, eqb, not, ◌||◌, List, [], ◌∷◌, ◌++◌, length, string_bytes, String, sym, refl, ap, ◌∙◌, inl, inr, append_assoc, add-zero, arith, length-append}
use Rattle.std.proofs.lemmas.List.Folds.{position_or_len_push, prefix_len-append}
use Rattle.std.proofs.lemmas.List.Sums.{passes_at_first, prefix_len-le-length}
use Rattle.std.proofs.lemmas.List.{map-append, append-nil}
use Rattle.std.proofs.lemmas.Bool.{eq-eqb, ne_eqb, ltb-true, lt-ltb, le-ltb, ltb-false, cond-true, cond-false, cases_Bool}
use Rattle.rules.specs.Texts.{texts}
use Rattle.std.specs.Str.{bytes_eq}
use Rattle.rules.specs.Drafts.{Extends}
use Rattle.std.specs.declared.alloc.Global.{Global}
use Rattle.rules.specs.Written.{index_of, known, enter, name_at}
use Rattle.std.proofs.lemmas.Slice.Eq.{bytes_eq-Decides}

-- ---- the index of a name

pub index_le : (names : List (List ℕ)) (t : List ℕ) → index_of names t ≤ length names
index_le names t = prefix_len-le-length (λ n. not (bytes_eq n t)) names

-- what is found is the name
pub index_name : (names : List (List ℕ)) (t : List ℕ) → index_of names t < length names → name_at names (index_of names t) ≡ t
index_name names t l = (bytes_eq-Decides (name_at names (index_of names t)) t).0 (passes_at_first (λ n. bytes_eq n t) names [] l)

-- more names after it change nothing
pub index-append : (names more : List (List ℕ)) (t : List ℕ) → index_of names t < length names → index_of (names ++ more) t ≡ index_of names t
index-append names more t l = prefix_len-append (λ n. not (bytes_eq n t)) names more ∙ cond-false (eqb (index_of names t) (length names)) _ _ (ne_eqb _ _ (λ e. omega (arith, e, l)))

-- a text that is no name, after one more
index_beyond : (names : List (List ℕ)) (a b : List ℕ) → index_of names b ≡ length names → index_of (names ++ (a ∷ [])) b ≡ length names + cond (bytes_eq a b) 0 1
index_beyond names a b e = position_or_len_push (λ n. bytes_eq n b) names a ∙ cond-true (eqb (index_of names b) (length names)) _ _ (eq-eqb _ _ e)

pub index_new : (names : List (List ℕ)) (t : List ℕ) → index_of names t ≡ length names → index_of (names ++ (t ∷ [])) t ≡ length names
index_new names t e = index_beyond names t t e ∙ (ap (λ (s : Bool). length names + cond s 0 1) ((bytes_eq-Decides t t).1 refl) ∙ add-zero (length names))

-- ---- names that are entered

known_index : (names : List (List ℕ)) (t : List ℕ) → known names t ≡ true → index_of names t < length names
known_index names t h = ltb-true (index_of names t) (length names) h

pub unknown_index : (names : List (List ℕ)) (t : List ℕ) → known names t ≡ false → index_of names t ≡ length names
unknown_index names t h = let a = ltb-false (index_of names t) (length names) h in let b = index_le names t in omega arith

pub enter_there : (names : List (List ℕ)) (t : List ℕ) → index_of names t < length names → enter names t ≡ names
enter_there names t l = cond-true (known names t) _ _ (lt-ltb (index_of names t) (length names) l)

pub enter_new : (names : List (List ℕ)) (t : List ℕ) → index_of names t ≡ length names → enter names t ≡ names ++ (t ∷ [])
enter_new names t e = cond-false (known names t) _ _ (le-ltb (index_of names t) (length names) (omega arith))

-- the old names, and then one or none
pub enter_extends : (names : List (List ℕ)) (t : List ℕ) → Extends names (enter names t)
enter_extends names t = elim (cases_Bool (known names t)) [
  | inl e ↦ ([], cond-true (known names t) _ _ e ∙ sym (append-nil names))
  | inr e ↦ (t ∷ [], cond-false (known names t) _ _ e)
]

-- a name that was entered is there
pub enter_index : (names : List (List ℕ)) (t : List ℕ) → index_of (enter names t) t < length (enter names t)
enter_index names t = elim (cases_Bool (known names t)) [
  | inl e ↦ rw e (known_index names t e)
  | inr e ↦ let i = index_new names t (unknown_index names t e) in let n = length-append names (t ∷ []) in rw e (omega arith)
]

pub extends_trans : {A : Type 0} (xs ys zs : List A) → Extends xs ys → Extends ys zs → Extends xs zs
extends_trans xs ys zs p q = (p.0 ++ q.0, q.1 ∙ (ap (λ l. l ++ q.0) p.1 ∙ append_assoc xs p.0 q.0))

pub extends-length : {A : Type 0} (xs ys : List A) → Extends xs ys → length xs ≤ length ys
extends-length xs ys p = let n = ap length p.1 ∙ length-append xs p.0 in omega arith

pub index_extends : (names after : List (List ℕ)) (t : List ℕ) → Extends names after → index_of names t < length names → index_of after t ≡ index_of names t
index_extends names after t p l = ap (λ ns. index_of ns t) p.1 ∙ index-append names p.0 t l

pub texts_extends : (xs ys : List (String Global)) → Extends xs ys → Extends (texts xs) (texts ys)
texts_extends xs ys p = (texts p.0, ap texts p.1 ∙ map-append string_bytes xs p.0)

-- ---- how many names there are then

pub enter-length : (names : List (List ℕ)) (t : List ℕ) → length (enter names t) ≡ length names + cond (known names t) 0 1
enter-length names t = elim (cases_Bool (known names t)) [
  | inl e ↦ rw e (sym (add-zero (length names)))
  | inr e ↦ rw e (length-append names (t ∷ []))
]

known_new : (names : List (List ℕ)) (a b : List ℕ) (s t : Bool) → bytes_eq a b ≡ s → known names b ≡ t → known (names ++ (a ∷ [])) b ≡ (s || t)
known_new names a b s true e f =
    let l = known_index names b f in
    let i = index-append names (a ∷ []) b l in
    let n = length-append names (a ∷ []) in
    lt-ltb (index_of (names ++ (a ∷ [])) b) (length (names ++ (a ∷ []))) (omega arith) ∙ sym (or_true s)
  where
    or_true : (x : Bool) → (x || true) ≡ true
    or_true true = refl
    or_true false = refl
known_new names a b true false e f =
    let i = index_beyond names a b (unknown_index names b f) ∙ ap (λ (x : Bool). length names + cond x 0 1) e in
    let n = length-append names (a ∷ []) in
    lt-ltb (index_of (names ++ (a ∷ [])) b) (length (names ++ (a ∷ []))) (omega arith)
known_new names a b false false e f =
    let i = index_beyond names a b (unknown_index names b f) ∙ ap (λ (x : Bool). length names + cond x 0 1) e in
    let n = length-append names (a ∷ []) in
    le-ltb (index_of (names ++ (a ∷ [])) b) (length (names ++ (a ∷ []))) (omega arith)

-- a text is a name then if it was, or is the one that was entered
pub known_enter : (names : List (List ℕ)) (a b : List ℕ) → known (enter names a) b ≡ (bytes_eq a b || known names b)
known_enter names a b = elim (cases_Bool (known names a)) [
  | inl e ↦ rw e (elim (cases_Bool (bytes_eq a b)) [
    | inl s ↦ rw s (ap (known names) (sym ((bytes_eq-Decides a b).0 s)) ∙ e)
    | inr s ↦ rw s refl
  ])
  | inr e ↦ rw e (known_new names a b (bytes_eq a b) (known names b) refl refl)
]

or-or : (a b c : Bool) → (a || (b || c)) ≡ ((a || b) || c)
or-or true b c = refl
or-or false b c = refl

-- what three names bring
pub brings_three : (names : List (List ℕ)) (a b c : List ℕ) →
    length (enter (enter (enter names a) b) c) ≡ length names + ((cond (false || known names a) 0 1 + cond (bytes_eq a b || known names b) 0 1) + cond ((bytes_eq b c || bytes_eq a c) || known names c) 0 1)
brings_three names a b c =
    let x = enter-length names a in
    let y = enter-length (enter names a) b ∙ ap (λ (t : Bool). length (enter names a) + cond t 0 1) (known_enter names a b) in
    let k : known (enter (enter names a) b) c ≡ ((bytes_eq b c || bytes_eq a c) || known names c) =
    known_enter (enter names a) b c ∙ (ap (λ (t : Bool). bytes_eq b c || t) (known_enter names a c) ∙ or-or (bytes_eq b c) (bytes_eq a c) (known names c)) in
    let z = enter-length (enter (enter names a) b) c ∙ ap (λ (t : Bool). length (enter (enter names a) b) + cond t 0 1) k in
    omega arith
