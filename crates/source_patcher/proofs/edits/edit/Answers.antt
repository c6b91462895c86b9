-- The edited text is that of the changes, and reads back as it says.
use Rattle.std.proofs.Common.{◌≡◌, ℕ, List, sym, subst, ◌∙◌}
use Rattle.c_lexer.specs.Scan.{HasTokens}
use Rattle.source_patcher.specs.Edit.{edited}
use Rattle.source_patcher.specs.Gaps.{AreInOrder}
use Rattle.source_patcher.specs.ReadsBack.{ReadsBack}
use Rattle.source_patcher.proofs.EditLaws.{edited_by, text_in_order}
use Rattle.source_patcher.proofs.ReadsBack.{has_tokens, reads_back}
use Rattle.source_patcher.proofs.edits.edit.Goals as goal

pub changes-requires : goal.changes-requires
changes-requires c = subst AreInOrder (sym c.as_slice-2.ensures) (text_in_order c.args.bytes.now c.in_ok-tokens.tokens c.in_ok-tokens.ensures)

pub returns-clause-text : goal.returns-clause-text
returns-clause-text c = λ ts has.
    edited_by c.args.bytes.now c.in_ok-tokens.tokens c.as_slice-2.result.now ts c.args.program.now c.args.choice.now c.in_ok-puts.puts c.in_ok-list.list c.as_slice-3.result.now c.in_ok-text.text.items c.from_vec.result
    c.in_ok-tokens.ensures has c.as_slice-2.ensures (c.in_ok-puts.ensures ∙ c.as_slice.ensures) c.in_ok-list.ensures c.as_slice-3.ensures c.in_ok-text.ensures c.from_vec.ensures

pub returns-clause-reads : goal.returns-clause-reads
returns-clause-reads c = λ read scope gaps.
    let ts = read.tokens.list in
    let has : HasTokens c.args.bytes.now ts = has_tokens c.args.bytes.now read.tokens read.are in
    let is : c.from_vec.result ≡ edited c.args.bytes.now ts c.args.program.now c.args.choice.now =
    edited_by c.args.bytes.now c.in_ok-tokens.tokens c.as_slice-2.result.now ts c.args.program.now c.args.choice.now c.in_ok-puts.puts c.in_ok-list.list c.as_slice-3.result.now c.in_ok-text.text.items c.from_vec.result
    c.in_ok-tokens.ensures has c.as_slice-2.ensures (c.in_ok-puts.ensures ∙ c.as_slice.ensures) c.in_ok-list.ensures c.as_slice-3.ensures c.in_ok-text.ensures c.from_vec.ensures in
    subst (λ (text : List ℕ). ReadsBack text c.args.program.now c.args.choice.now) (sym is) (reads_back c.args.bytes.now c.args.program.now c.args.choice.now ts has read scope gaps)
