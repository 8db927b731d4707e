-- Words and names: each relation has one word and each column one name, and from the word or the name it is found again.
use Rattle.std.proofs.Common.{◌≡◌, ℕ, true, List, [], ◌∷◌, map, is_some, Some, None, Option, unwrap_or, refl, ap, ◌∙◌, arith}
use Rattle.std.proofs.lemmas.Bool.{false≢true}
use Rattle.rules.specs.declared.relation.Relation.{Relation}
use Rattle.rules.specs.declared.relation.Relation.TheVariants.{Before, Meet, During, Coincide, Start, Finish, Overlap, Slice, After, Follow, Contain}
use Rattle.rules.specs.Labels.{is_label}
use Rattle.rules.specs.Relations.{relation_word, relations, relation_named}
use Rattle.files.specs.declared.columns.RuleColumn.{RuleColumn}
use Rattle.files.specs.declared.columns.RuleColumn.TheVariants.{Label, First, How, Second}
use Rattle.files.specs.RuleFiles.{column_name, columns, column_named, columns_named}
use Rattle.terms.proofs.Words.{found_word}

-- ---- one name after another

pub none_some : {X : Type 0} (x : X) → ◌≡◌ {A = Option X} None (Some x) → ⊥
none_some x e = let z : ◌≡◌ {A = ℕ} 0 1 = cc in omega arith

-- ---- columns

pub column_found : (c : RuleColumn) → column_named (column_name c) ≡ Some c
column_found Label = refl
column_found First = refl
column_found How = refl
column_found Second = refl

column_named_lem : (name : List ℕ) (c : RuleColumn) → column_named name ≡ Some c → column_name c ≡ name
column_named_lem name c h = found_word column_name name columns c h

-- A column before others, if each is found.
abbrev pub before : Option RuleColumn → Option (List RuleColumn) → Option (List RuleColumn)
before o p = elim o [ None ↦ None | Some c ↦ elim p [ None ↦ None | Some cs ↦ Some (c ∷ cs) ] ]

pub columns_found : (cs : List RuleColumn) → columns_named (map column_name cs) ≡ Some cs
columns_found [] = refl
columns_found (c ∷ cs) =
    ap (λ (o : Option RuleColumn). before o (columns_named (map column_name cs))) (column_found c) ∙ ap (before (Some c)) (columns_found cs)

pub columns_named_lem : (names : List (List ℕ)) (cs : List RuleColumn) → columns_named names ≡ Some cs → map column_name cs ≡ names
columns_named_lem [] cs h = let e : cs ≡ [] = cc in rw e refl
columns_named_lem (name ∷ names) cs h = go (column_named name) (columns_named names) (column_named_lem name) (columns_named_lem names) h
  where
    go : (o : Option RuleColumn) (p : Option (List RuleColumn)) → ((c : RuleColumn) → o ≡ Some c → column_name c ≡ name) →
        ((ds : List RuleColumn) → p ≡ Some ds → map column_name ds ≡ names) → before o p ≡ Some cs → map column_name cs ≡ name ∷ names
    go None p a b e = absurd (none_some cs e)
    go (Some c) None a b e = absurd (none_some cs e)
    go (Some c) (Some ds) a b e =
        let both : cs ≡ c ∷ ds = cc in
        let one = a c refl in
        let others = b ds refl in
        rw both cc

-- A column's name is a label.
pub column_label : (c : RuleColumn) → is_label (column_name c) ≡ true
column_label Label = refl
column_label First = refl
column_label How = refl
column_label Second = refl

-- ---- relations

pub relation_found : (h : Relation) → relation_named (relation_word h) ≡ Some h
relation_found Before = refl
relation_found Meet = refl
relation_found During = refl
relation_found Coincide = refl
relation_found Start = refl
relation_found Finish = refl
relation_found Overlap = refl
relation_found Slice = refl
relation_found After = refl
relation_found Follow = refl
relation_found Contain = refl

relation_named_lem : (word : List ℕ) (h : Relation) → relation_named word ≡ Some h → relation_word h ≡ word
relation_named_lem word h e = found_word relation_word word relations h e

-- A field that names a relation is the word of what it names.
pub word_of_named : (word : List ℕ) → is_some (relation_named word) ≡ true → relation_word (unwrap_or (relation_named word) Before) ≡ word
word_of_named word h = go (relation_named word) refl h
  where
    go : (o : Option Relation) → relation_named word ≡ o → is_some o ≡ true → relation_word (unwrap_or o Before) ≡ word
    go None a e = absurd (false≢true e)
    go (Some r) a e = relation_named_lem word r a

-- A relation's word is a label.
pub word_label : (h : Relation) → is_label (relation_word h) ≡ true
word_label Before = refl
word_label Meet = refl
word_label During = refl
word_label Coincide = refl
word_label Start = refl
word_label Finish = refl
word_label Overlap = refl
word_label Slice = refl
word_label After = refl
word_label Follow = refl
word_label Contain = refl
