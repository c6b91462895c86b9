use Rattle.std.proofs.Common.{rules, ◌≡◌, ℕ, suc, ◌+◌, ◌<◌, ◌∷◌, List, None, length, drop, get_or, ap, sym, ◌∙◌, arith}
use Rattle.std.proofs.Math.Seq.{drop-cons}
use Rattle.call_contexts.specs.declared.context.Ctx.{Ctx}
use Rattle.c_graph.specs.Nodes.{placed_in, placed_from}
use Rattle.cfg_lower.specs.Sources.{program_of, contexts_of, grown_in}
use Rattle.cfg_lower.proofs.Turns.{context_turn}
use Rattle.cfg_lower.proofs.growing.add_contexts.Goals as goal

pub loop-ctx-preserved : goal.loop-ctx-preserved
loop-ctx-preserved c =
    let s = c.args.source in
    let list = c.as_slice-list.result.now in
    let k = c.loop-ctx.ctx in
    let nowhere : Ctx = record { fun = 0; home = None } in
    let here = get_or list k nowhere in
    let low : k < length list = search rules in
    let more : suc k ≡ k + 1 = omega arith in
    let next : c.add_context.new.graph ≡ grown_in s c.loop-ctx.graph (placed_in (program_of s) (contexts_of s) k here.fun) = search rules in
    let left : drop k list ≡ here ∷ drop (k + 1) list = drop-cons list k nowhere low ∙ ap (λ (n : ℕ). here ∷ drop n list) more in
    context_turn s c.loop-ctx.graph c.add_context.new.graph k here (drop (k + 1) list) next
    ∙ ap (λ (cs : List Ctx). grown_in s c.loop-ctx.graph (placed_from (program_of s) (contexts_of s) k cs)) (sym left)
    ∙ c.loop-ctx.invariant
