-- The numbers and the words of the refusals.
use Rattle.std.specs.Prelude.{List, ℕ, codes}
use Rattle.terms.specs.declared.refusal.Refusal.{Refusal}
use Rattle.terms.specs.declared.refusal.Refusal.TheVariants.{Headless, Ragged, Misspelt, Unrelated, Overfull, Ringed, Unended, NoAct, Undated, Stranger, Noted, NotStanding, LogFull, Narrow, Crowded, Full, Unsettled, Backwards, PageShort, OffThePool, BadMeasure}

abbrev pub number_of : Refusal → ℕ
number_of Headless = 1
number_of Ragged = 2
number_of Misspelt = 3
number_of Unrelated = 4
number_of Overfull = 5
number_of Ringed = 6
number_of Unended = 7
number_of NoAct = 8
number_of Undated = 9
number_of Stranger = 10
number_of Noted = 11
number_of NotStanding = 12
number_of LogFull = 13
number_of Narrow = 14
number_of Crowded = 15
number_of Full = 16
number_of Unsettled = 17
number_of Backwards = 18
number_of PageShort = 19
number_of OffThePool = 20
number_of BadMeasure = 21

abbrev pub word_of : Refusal → List ℕ
word_of Headless = codes "headless"
word_of Ragged = codes "ragged"
word_of Misspelt = codes "misspelt"
word_of Unrelated = codes "unrelated"
word_of Overfull = codes "overfull"
word_of Ringed = codes "ringed"
word_of Unended = codes "unended"
word_of NoAct = codes "no act"
word_of Undated = codes "undated"
word_of Stranger = codes "stranger"
word_of Noted = codes "noted"
word_of NotStanding = codes "not standing"
word_of LogFull = codes "log full"
word_of Narrow = codes "narrow"
word_of Crowded = codes "crowded"
word_of Full = codes "full"
word_of Unsettled = codes "unsettled"
word_of Backwards = codes "backwards"
word_of PageShort = codes "page short"
word_of OffThePool = codes "off the pool"
word_of BadMeasure = codes "bad measure"
