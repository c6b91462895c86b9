-- What is computed of a program once: the places of each function, and the numbers of the nodes of each context.
use Rattle.std.specs.Prelude.{ℕ, ◌+◌, Bool, true, false, List, [], ◌∷◌, length, None}
use Rattle.std.specs.List.{filter, flat_map}
use Rattle.c_tree.specs.declared.program.Program.{Program}
use Rattle.c_meaning.specs.Parts.{Invoke, Return, Close}
use Rattle.c_meaning.specs.Place.{Spot, AtGap, AtAction, Nowhere, result_slot}
use Rattle.call_contexts.specs.declared.context.Ctx.{Ctx}
use Rattle.c_graph.specs.Nodes.{spot_at, next_at, places}
use Rattle.cfg_lower.specs.Slots.{below_number}
use Rattle.cfg_lower.specs.declared.tables.CallSite.{CallSite}
use Rattle.cfg_lower.specs.declared.tables.Numbers.{Numbers}
use Rattle.cfg_lower.specs.declared.tables.Row.{Row}
use Rattle.cfg_lower.specs.declared.tables.Tables.{Tables}

-- whether something stands there
abbrev pub stands : Spot → Bool
stands (AtGap g) = true
stands (AtAction a) = true
stands Nowhere = false

-- the places of function f at which something stands
abbrev pub standing : Program → ℕ → List (List ℕ)
standing p f = filter (λ q. stands (spot_at p f q)) (places p f)

-- a call at a path of function f
abbrev pub site_at : Program → ℕ → List ℕ → Spot → List CallSite
site_at p f path (AtAction (Invoke number callee arguments target)) = record { number = number; target = target; behind = next_at p f None path } ∷ []
site_at p f path spot = []

-- function f
abbrev pub row : Program → ℕ → Row
row p f = record { slot = result_slot p f; places = standing p f; calls = flat_map (λ q. site_at p f q (spot_at p f q)) (standing p f) }

-- all functions by number
abbrev pub rows_of : Program → List Row
rows_of p = below_number (row p) (length p.funs)

-- how many nodes function f has in one context
abbrev pub size : Program → ℕ → ℕ
size p f = length (standing p f)

-- the numbers of the first nodes of contexts, that of the first of which is n
abbrev pub firsts_from : Program → ℕ → List Ctx → List ℕ
firsts_from p n [] = []
firsts_from p n (c ∷ cs) = n ∷ firsts_from p (n + size p c.fun) cs

-- how many nodes contexts have
abbrev pub inside : Program → List Ctx → ℕ
inside p [] = 0
inside p (c ∷ cs) = size p c.fun + inside p cs

abbrev pub numbers_of : Program → List Ctx → Numbers
numbers_of p cs = record { firsts = firsts_from p 0 cs; inside = inside p cs }

-- whether an exit stands behind a place of `main`
abbrev pub goes_out : Spot → Bool
goes_out (AtAction (Return value offset)) = true
goes_out (AtAction (Close goes_back offset)) = true
goes_out spot = false

-- the places of `main` behind which exits stand
abbrev pub exit_places : Program → List (List ℕ)
exit_places p = filter (λ q. goes_out (spot_at p p.main q)) (standing p p.main)

abbrev pub tables_of : Program → List Ctx → Tables
tables_of p cs = record { rows = rows_of p; firsts = firsts_from p 0 cs; inside = inside p cs; exits = exit_places p; count = inside p cs + length (exit_places p) }
