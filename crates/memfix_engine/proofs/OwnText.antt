-- The choice of a program's own frees leaves the text as it is, and there is only one.
use Rattle.std.proofs.Common.{◌≡◌, ℕ, List, sym, ap, ◌∙◌}
use Rattle.c_lexer.specs.declared.token.Token.{Token}
use Rattle.c_tree.specs.Alike.{IsAlike}
use Rattle.c_tree.specs.Fill.{IsAscending, fill}
use Rattle.c_tree.specs.WellFormed.{IsWellFormed}
use Rattle.c_tree.specs.declared.choice.Choice.{Choice}
use Rattle.c_tree.specs.declared.choice.Put.{Put}
use Rattle.c_tree.specs.declared.program.Program.{Program}
use Rattle.source_patcher.specs.Changes.{Changes}
use Rattle.source_patcher.specs.Edit.{edited, with_changes}
use Rattle.source_patcher.specs.InScope.{HaveGaps}
use Rattle.memfix_engine.specs.OwnFrees.{AreOwn}
use Rattle.memfix_engine.proofs.BareGaps.{alike_held}
use Rattle.memfix_engine.proofs.OwnChoice.{own_is}
use Rattle.memfix_engine.proofs.OwnFrees.{all_same}
use Rattle.memfix_engine.proofs.Unchanged.{no_changes}

-- where the gaps are filled with what stands there, the bytes stay
pub own_text : (p : Program) (s : Choice) (b : List ℕ) (tokens : List Token) → IsAlike (fill p s) p → edited b tokens p s ≡ b
own_text p s b tokens e = ap (λ (cs : Changes). with_changes p 0 cs b) (no_changes tokens s.puts p (alike_held p s e))

-- a program has one choice of its own frees at most
pub own_unique : (p : Program) (s t : Choice) → IsWellFormed p → AreOwn p s → AreOwn p t → s ≡ t
own_unique p s t well one other =
    let puts : s.puts ≡ t.puts = all_same s.puts t.puts (sym (own_is p s well one) ∙ own_is p t well other) in
    ap (λ (qs : List Put). record { puts = qs }) puts

-- a choice that fills the gaps with what stands there is that of the own frees
pub same_gaps_own : (p : Program) (t : Choice) → IsAscending t → HaveGaps p t.puts → IsAlike (fill p t) p → AreOwn p t
same_gaps_own p t up gaps alike = record { ascending = up; gaps = gaps; alike = alike }
