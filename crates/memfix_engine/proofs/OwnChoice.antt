-- The choice of a program's own frees: it is the one whose puts are found in the gaps, in their order.
use Rattle.std.proofs.Common.{◌≡◌, ℕ, zero, suc, ◌<◌, true, false, List, [], ◌∷◌, length, get_or, map, Option, Some, None, MatchOption, sym, ap, ◌∙◌, arith}
use Rattle.c_tree.specs.Fill.{IsAscending, ascends}
use Rattle.c_tree.specs.Numbers.{gaps_of}
use Rattle.c_tree.specs.WellFormed.{IsWellFormed}
use Rattle.c_tree.specs.declared.choice.Choice.{Choice}
use Rattle.c_tree.specs.declared.choice.Put.{Put}
use Rattle.c_tree.specs.declared.program.Program.{Program}
use Rattle.memfix_engine.specs.OwnFrees.{AreOwn}
use Rattle.memfix_engine.specs.OwnPuts.{own_puts}
use Rattle.memfix_engine.proofs.BareGaps.{alike_held, same_head, same_tail}
use Rattle.memfix_engine.proofs.FilledAlike.{held_alike}
use Rattle.memfix_engine.proofs.OwnFrees.{all_held, all_same, held_all, puts_below}

-- a choice of the own frees has the puts that are found
pub own_is : (p : Program) (s : Choice) → IsWellFormed p → AreOwn p s → own_puts p ≡ map Some s.puts
own_is p s well own = held_all s.puts (gaps_of p) p.gaps well.gaps own.ascending own.gaps (alike_held p s own.alike)

-- puts that are found and ascend are such a choice
pub is_own : (p : Program) (s : Choice) → IsWellFormed p → IsAscending s → own_puts p ≡ map Some s.puts → AreOwn p s
is_own p s well up found = record {
  ascending = up;
  gaps = puts_below (gaps_of p) p.gaps s.puts well.gaps found;
  alike = held_alike p s (all_held (gaps_of p) p.gaps s.puts well.gaps found);
}

-- there is no choice where a free has no put
pub none_found : (p : Program) → IsWellFormed p → ((puts : List Put) → own_puts p ≡ map Some puts → ⊥) → (s : Choice) → AreOwn p s → ⊥
none_found p well none s own = none s.puts (own_is p s well own)

-- nor where what is found doesn't ascend
pub none_ascends : (p : Program) (puts : List Put) → IsWellFormed p → own_puts p ≡ map Some puts → ascends puts ≡ false → (s : Choice) → AreOwn p s → ⊥
none_ascends p puts well found down s own =
    let same : puts ≡ s.puts = all_same puts s.puts (sym found ∙ own_is p s well own) in
    let up : false ≡ true = sym down ∙ ap ascends same ∙ own.ascending in
    absurd cc

-- what is found is the choice, where it ascends, and else there is none
pub chosen : (p : Program) (puts : List Put) (r : Option Choice) → IsWellFormed p → own_puts p ≡ map Some puts → MatchOption r (ascends puts ≡ false) (λ s. (s.puts ≡ puts) × IsAscending s)
    → MatchOption r ((s : Choice) → AreOwn p s → ⊥) (AreOwn p)
chosen p puts None well found is = none_ascends p puts well found is
chosen p puts (Some s) well found is = is_own p s well is.1 (found ∙ ap (map Some) (sym is.0))

-- a list in which one is missing is not of puts alone
pub none_here : (found : List (Option Put)) (k : ℕ) (puts : List Put) → get_or found k None ≡ None → k < length found → found ≡ map Some puts → ⊥
none_here [] k puts none below e = absurd (omega arith)
none_here (x ∷ xs) k [] none below e = absurd cc
none_here (x ∷ xs) zero (q ∷ qs) none below e =
    let here : None ≡ Some q = sym none ∙ same_head x (Some q) xs (map Some qs) e in
    absurd cc
none_here (x ∷ xs) (suc k) (q ∷ qs) none below e = none_here xs k qs none (omega (arith, below)) (same_tail x (Some q) xs (map Some qs) e)
