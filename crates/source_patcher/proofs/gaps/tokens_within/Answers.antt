-- The two binary searches give the bounds of the free's tokens.
use Rattle.std.proofs.Common.{List, nat_lt, rules, of_calls, subst, sym, ◌∙◌}
use Rattle.std.specs.List.Sorted.{IsNonDecreasingBy}
use Rattle.std.proofs.lemmas.Fn.{always_returns_same}
use Rattle.std.proofs.lemmas.List.Sorted.{IsPartitionedBy-ltb, IsNonDecreasingBy-drop}
use Rattle.c_lexer.specs.declared.token.Token.{Token}
use Rattle.source_patcher.proofs.TokensWithin.{starts_ascend, ends_ascend, around_from, part_of_free}
use Rattle.source_patcher.proofs.gaps.tokens_within.Goals as goal

pub returns : goal.returns
returns c =
    let ends = subst (λ (ts : List Token). IsNonDecreasingBy (λ (t : Token). t.end) ts) (sym c.split_at.ensures.back)
    (IsNonDecreasingBy-drop (λ (t : Token). t.end) c.partition_point-first.result c.args.tokens.now (ends_ascend c.args.tokens.now c.requires)) in
    let first = c.partition_point-first.ensures.partitioned (λ t. nat_lt t.start c.args.free.now.start) (always_returns_same _ _ _ (λ a r g k. search (rules, of_calls)))
    (IsPartitionedBy-ltb (λ (t : Token). t.start) c.args.tokens.now c.args.free.now.start (starts_ascend c.args.tokens.now c.requires)) in
    let last = c.partition_point-count.ensures.partitioned (λ t. nat_lt t.end c.args.free.now.end) (always_returns_same _ _ _ (λ a r g k. search (rules, of_calls)))
    (IsPartitionedBy-ltb (λ (t : Token). t.end) c.split_at.result.1.now c.args.free.now.end ends) in
    c.split_at-2.ensures.front
    ∙ part_of_free c.args.tokens.now c.args.free.now c.partition_point-first.result c.partition_point-count.result c.split_at.result.1.now
    c.partition_point-first.ensures.bound c.partition_point-count.ensures.bound c.split_at.ensures.back
    (around_from c.args.tokens.now c.args.free.now c.partition_point-first.result c.partition_point-count.result c.split_at.result.1.now first last)
