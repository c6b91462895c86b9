-- Each form of an expression, by what is printed of its parts.
use Rattle.std.proofs.Common.{rules, ◌≡◌, [], ◌∷◌, ap, sym, ◌∙◌}
use Rattle.std.proofs.lemmas.Result.{on_ok_weaker}
use Rattle.c_lexer.specs.declared.token.Kind.TheVariants as kind
use Rattle.c_parser.specs.Printed.{const_kind, printed_expr}
use Rattle.c_parser.proofs.PrintedExpressions.{print_const, print_null, print_var, print_field, print_deref, print_index, print_unary, print_operands}
use Rattle.c_parser.proofs.PrintWork.{written_first, all_put_off, put_off_as}
use Rattle.c_parser.proofs.print_expressions.print_front.Goals as goal

pub returns-in-Const : goal.returns-in-Const
returns-in-Const c =
    let prints = print_const c.args.room c.in-Const.number c.in-Const.field-1 in
    let same : c.const_kind.result ≡ const_kind c.in-Const.number = search rules in
    on_ok_weaker c.push.result (written_first _ c.const_kind.result _ _ _ (ap (printed_expr c.args.room) c.in-Const.is ∙ prints ∙ ap (λ k. k ∷ []) (sym same))) c.push.ensures

pub returns-in-Null : goal.returns-in-Null
returns-in-Null c =
    let prints = print_null c.args.room c.in-Null.field-0 in
    on_ok_weaker c.key.result (written_first _ (kind.Key 1) _ _ _ (ap (printed_expr c.args.room) c.in-Null.is ∙ prints)) c.key.ensures

pub returns-in-Var : goal.returns-in-Var
returns-in-Var c =
    let prints = print_var c.args.room c.in-Var.word in
    on_ok_weaker c.name.result (written_first _ (kind.Name c.in-Var.word.text) _ _ _ (ap (printed_expr c.args.room) c.in-Var.is ∙ prints)) c.name.ensures

pub returns-in-Field : goal.returns-in-Field
returns-in-Field c =
    let prints = print_field c.args.room c.in-Field.of c.in-Field.name c.in-Field.field-2 in
    on_ok_weaker c.print_field.result (all_put_off _ _ _ _ _ (cc)) c.print_field.ensures

pub returns-in-Deref : goal.returns-in-Deref
returns-in-Deref c =
    let prints = print_deref c.args.room c.in-Deref.of c.in-Deref.field-1 in
    on_ok_weaker c.print_unary.result (put_off_as _ _ _ _ _ _ (cc)) c.print_unary.ensures

pub returns-in-Index : goal.returns-in-Index
returns-in-Index c =
    let prints = print_index c.args.room c.in-Index.of c.in-Index.index c.in-Index.field-2 in
    on_ok_weaker c.print_index.result (all_put_off _ _ _ _ _ (cc)) c.print_index.ensures

pub returns-in-Unary : goal.returns-in-Unary
returns-in-Unary c =
    let prints = print_unary c.args.room c.in-Unary.sign c.in-Unary.of c.in-Unary.field-2 in
    on_ok_weaker c.print_unary-in-Unary.result (put_off_as _ _ _ _ _ _ (cc)) c.print_unary-in-Unary.ensures

pub returns-in-Binary : goal.returns-in-Binary
returns-in-Binary c =
    let prints = print_operands c.args.room c.in-Binary.oper c.in-Binary.first c.in-Binary.second c.in-Binary.field-3 in
    on_ok_weaker c.print_binary.result (put_off_as _ _ _ _ _ _ (cc)) c.print_binary.ensures
