-- The eleven relations: which are exclusive, and their words in a rule file.
use Rattle.std.specs.Prelude.{ℕ, Bool, true, false, List, [], ◌∷◌, codes, Option}
use Rattle.terms.specs.Words.{first_with}
use Rattle.rules.specs.declared.relation.Relation.{Relation}
use Rattle.rules.specs.declared.relation.Relation.TheVariants.{Before, Meet, During, Coincide, Start, Finish, Overlap, Slice, After, Follow, Contain}

abbrev pub exclusive : Relation → Bool
exclusive Before = false
exclusive Meet = false
exclusive During = false
exclusive Coincide = false
exclusive Start = false
exclusive Finish = false
exclusive Overlap = false
exclusive Slice = false
exclusive After = true
exclusive Follow = true
exclusive Contain = true

abbrev pub relation_word : Relation → List ℕ
relation_word Before = codes "before"
relation_word Meet = codes "meet"
relation_word During = codes "during"
relation_word Coincide = codes "coincide"
relation_word Start = codes "start"
relation_word Finish = codes "finish"
relation_word Overlap = codes "overlap"
relation_word Slice = codes "slice"
relation_word After = codes "after"
relation_word Follow = codes "follow"
relation_word Contain = codes "contain"

-- All eleven.
abbrev pub relations : List Relation
relations = Before ∷ Meet ∷ During ∷ Coincide ∷ Start ∷ Finish ∷ Overlap ∷ Slice ∷ After ∷ Follow ∷ Contain ∷ []

-- The relation that has the word, if one has.
abbrev pub relation_named : List ℕ → Option Relation
relation_named word = first_with relation_word relations word
