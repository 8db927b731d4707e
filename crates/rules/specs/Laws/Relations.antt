-- Each relation is one of the eleven.
use Rattle.std.proofs.Common.{refl}
use mathlib.Core.List.Memᴰ.{head as here, tail as there}
use mathlib.Core.List.{Memᴰ}
use Rattle.rules.specs.declared.relation.Relation.{Relation}
use Rattle.rules.specs.declared.relation.Relation.TheVariants.{Before, Meet, During, Coincide, Start, Finish, Overlap, Slice, After, Follow, Contain}
use Rattle.rules.specs.Relations.{relations}

pub relations_complete : (h : Relation) → Memᴰ h relations
relations_complete Before = here refl
relations_complete Meet = there (here refl)
relations_complete During = there (there (here refl))
relations_complete Coincide = there (there (there (here refl)))
relations_complete Start = there (there (there (there (here refl))))
relations_complete Finish = there (there (there (there (there (here refl)))))
relations_complete Overlap = there (there (there (there (there (there (here refl))))))
relations_complete Slice = there (there (there (there (there (there (there (here refl)))))))
relations_complete After = there (there (there (there (there (there (there (there (here refl))))))))
relations_complete Follow = there (there (there (there (there (there (there (there (there (here refl)))))))))
relations_complete Contain = there (there (there (there (there (there (there (there (there (there (here refl))))))))))
