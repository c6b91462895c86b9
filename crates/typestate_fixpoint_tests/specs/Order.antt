-- Whether puts ascend, one by one.
use Rattle.std.specs.Prelude.{Bool, true, List, [], ◌∷◌}
use Rattle.c_tree.specs.declared.choice.Put.{Put}
use Rattle.c_tree.specs.Fill.{precedes}

-- a put comes before the next one, if there is one
abbrev pub precedes_next : Put → List Put → Bool
precedes_next p [] = true
precedes_next p (q ∷ qs) = precedes p q
