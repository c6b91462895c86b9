-- What an edit changes at one gap, from its old frees and those that the choice has.
use Rattle.std.specs.Prelude.{ℕ, Bool, true, false, not, ◌&&◌, ◌==◌, nat_le, nat_lt, if◌then◌else◌, List, [], ◌∷◌, ◌++◌, length, map, filter, Option, Some, None, IsTrue}
use Rattle.std.specs.List.{flat_map}
use Rattle.c_lexer.specs.declared.token.Token.{Token}
use Rattle.c_tree.specs.declared.choice.Put.{Put}
use Rattle.c_tree.specs.declared.expr.Expr.{Expr, Expr-F, out-Expr}
use Rattle.c_tree.specs.declared.expr.Expr.TheOpen.{Const, Null, Var, Field, Deref, Index, Unary, Binary}
use Rattle.c_tree.specs.declared.program.Gap.{Gap}
use Rattle.c_tree.specs.declared.program.Free.{Free}
use Rattle.c_tree.specs.Fill.{puts_at}
use Rattle.source_patcher.specs.declared.change.Change.{Change}
use Rattle.source_patcher.specs.declared.change.Writing.TheVariants as writing

-- the expression is the variable x
abbrev pub is_variable : ℕ → Expr-F Expr → Bool
is_variable x (Var y at) = y == x
is_variable x (Const n at) = false
is_variable x (Null at) = false
is_variable x (Field e f at) = false
is_variable x (Deref e at) = false
is_variable x (Index e i at) = false
is_variable x (Unary s e at) = false
is_variable x (Binary o a b at) = false

-- it is x->f
abbrev pub is_field : ℕ → ℕ → Expr-F Expr → Bool
is_field x f (Field e g at) = g == f && is_variable x (out-Expr e)
is_field x f (Const n at) = false
is_field x f (Null at) = false
is_field x f (Var y at) = false
is_field x f (Deref e at) = false
is_field x f (Index e i at) = false
is_field x f (Unary s e at) = false
is_field x f (Binary o a b at) = false

-- it is what the put frees
abbrev pub is_freed : Option ℕ → ℕ → Expr-F Expr → Bool
is_freed None x e = is_variable x e
is_freed (Some f) x e = is_field x f e

abbrev pub is_put : Free → Put → Bool
is_put f q = is_freed q.field q.var (out-Expr f.expr)

-- the lists are equal: the old frees are those of the puts, one by one
abbrev pub are_put : List Free → List Put → Bool
are_put [] [] = true
are_put [] (q ∷ qs) = false
are_put (f ∷ fs) [] = false
are_put (f ∷ fs) (q ∷ qs) = is_put f q && are_put fs qs

-- a token of an old free, but not its `;`, which is the last
abbrev pub is_within : Free → Token → Bool
is_within f t = nat_le f.start t.start && nat_lt t.end f.end

-- each of its bytes becomes a blank
abbrev pub blanked : Token → Change
blanked t = record { start = t.start; end = t.end; writing = writing.Blanks }

abbrev pub blanks : List Token → Free → List Change
blanks ts f = map blanked (filter (is_within f) ts)

-- a new free at an offset
abbrev pub freed_at : ℕ → Put → Change
freed_at at q = record { start = at; end = at; writing = writing.Free q }

-- a gap with equal lists keeps its bytes; another one has blanks in its old frees, and its new ones at an offset
abbrev pub gap_changes : List Token → List Put → ℕ → Gap → List Change
gap_changes ts puts at g =
    let new = puts_at puts g.number in
    if are_put g.frees new then [] else flat_map (blanks ts) g.frees ++ map (freed_at at) new

-- a free is written into the gap
abbrev pub writes : List Put → Gap → Bool
writes puts g = let new = puts_at puts g.number in not (are_put g.frees new) && nat_lt 0 (length new)

-- each token begins where the one before it ends or behind that, from an offset on
abbrev pub stand_in_order : ℕ → List Token → Bool
stand_in_order at [] = true
stand_in_order at (t ∷ ts) = nat_le at t.start && nat_le t.start t.end && stand_in_order t.end ts

abbrev pub AreInOrder : List Token → Type 0
AreInOrder ts = IsTrue (stand_in_order 0 ts)
