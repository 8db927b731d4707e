-- Names and rules that are added to a draft.
use Rattle.std.proofs.Common.{◌≡◌, ℕ, ◌+◌, ◌<◌, List, [], ◌∷◌, ◌++◌, length, Ok, string_bytes, String, sym, ap, ◌∙◌, subst, arith, length-append}
use Rattle.std.specs.declared.alloc.Global.{Global}
use Rattle.std.proofs.lemmas.List.{map-append, append-nil, length-map}
use Rattle.rules.specs.declared.rule.Rule.{Rule}
use Rattle.terms.specs.declared.numbers.LabelNo.{LabelNo}
use Rattle.rules.specs.Texts.{texts}
use Rattle.rules.specs.Drafts.{Entered, Wrote, Extends}
use Rattle.rules.specs.Written.{Written, index_of, enter, enter_rule, label_number, number_rule}
use Rattle.rules.proofs.Numbering.{index_extends, enter_there, enter_new, enter_index, extends_trans, texts_extends, index_new}

-- ---- a name is entered

-- what is known of a name by one list and text is known of it by equal ones
pub new_name : (names slice : List (String Global)) (t bytes : List ℕ) → slice ≡ names → bytes ≡ t → index_of (texts slice) bytes ≡ length (texts slice) → index_of (texts names) t ≡ length (texts names)
new_name names slice t bytes e f h = ap (λ (b : List ℕ). index_of (texts names) b) (sym f) ∙ subst (λ (ns : List (String Global)). index_of (texts ns) bytes ≡ length (texts ns)) e h

pub entered_there : (names : List (String Global)) (t : List ℕ) (i : ℕ) → i < length (texts names) → index_of (texts names) t ≡ i → Entered names t names (Ok (record { 0 = i }))
entered_there names t i l e = (sym (enter_there (texts names) t (omega arith)), sym e, omega arith, ([], sym (append-nil names)))

pub entered_new : (names : List (String Global)) (s : String Global) (after : List (String Global)) (t : List ℕ) → string_bytes s ≡ t → after ≡ names ++ (s ∷ []) → index_of (texts names) t ≡ length (texts names)
    → Entered names t after (Ok (record { 0 = length names }))
entered_new names s after t e a new =
    let n = length-map names string_bytes in
    let more : texts after ≡ texts names ++ (t ∷ []) = ap texts a ∙ (map-append string_bytes names (s ∷ []) ∙ ap (λ (w : List ℕ). texts names ++ (w ∷ [])) e) in
    let m = ap length more ∙ length-append (texts names) (t ∷ []) in
    let i : index_of (texts after) t ≡ length (texts names) = ap (λ ns. index_of ns t) more ∙ index_new (texts names) t new in
    (more ∙ sym (enter_new (texts names) t new), omega arith, omega arith, (s ∷ [], a))

-- ---- a rule is written

-- A name's number stays when more names come.
stays : (old names after : List (String Global)) (t : List ℕ) (a : LabelNo) → Entered old t names (Ok a) → Extends names after → a ≡ label_number (texts after) t
stays old names after t a o p =
    let l : index_of (texts names) t < length (texts names) = subst (λ ns. index_of ns t < length ns) (sym o.0) (enter_index (texts old) t) in
    let e : a.0 ≡ index_of (texts after) t = o.1 ∙ sym (index_extends (texts names) (texts after) t (texts_extends names after p) l) in
    λ i. record { 0 = e i }

pub wrote_all : (names one two three : List (String Global)) (rules more : List Rule) (w : Written) (a b d : LabelNo) (count : ℕ)
    → Entered names w.label one (Ok a) → Entered one w.first two (Ok b) → Entered two w.second three (Ok d)
    → more ≡ rules ++ (record { label = a; first = b; how = w.how; second = d } ∷ []) → count ≡ length rules → Wrote names rules w three more (Ok (record { 0 = count + 1 }))
wrote_all names one two three rules more w a b d count o p q e n =
    let all : texts three ≡ enter_rule (texts names) w = q.0 ∙ ap (λ ns. enter ns w.second) (p.0 ∙ ap (λ ns. enter ns w.first) o.0) in
    let ea = stays names one three w.label a o (extends_trans one two three p.3 q.3) in
    let eb = stays one two three w.first b p q.3 in
    let ed = stays two three three w.second d q ([], sym (append-nil three)) in
    let rule : ◌≡◌ {A = Rule} (record { label = a; first = b; how = w.how; second = d }) (number_rule (texts three) w) = λ i. record { label = ea i; first = eb i; how = w.how; second = ed i } in
    (all, e ∙ ap (λ (r : Rule). rules ++ (r ∷ [])) rule, ap (λ (k : ℕ). k + 1) n, extends_trans names one three o.3 (extends_trans one two three p.3 q.3))
