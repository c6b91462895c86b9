-- Texts of each production, and near misses with their places.
use Rattle.std.specs.Prelude.{◌≡◌, ℕ, ◌+◌, Bool, true, false, List, [], ◌∷◌, codes, length, Option, Some, None, option_map, pos, decimal, ◌==◌, ◌&&◌, nat_le, if◌then◌else◌, refl}
use Rattle.std.specs.Option.{is_some}
use Rattle.c_lexer.specs.declared.token.Token.{Token}
use Rattle.c_lexer.specs.declared.token.Tokens.{Tokens}
use Rattle.c_lexer.specs.declared.token.Kind.{Kind}
use Rattle.c_lexer.specs.declared.token.Kind.TheVariants as kind
use Rattle.c_lexer.specs.Words.{kind_of_word, punctuator_kind, or_else}
use Rattle.c_parser.specs.Term.{term_of, same}
use Rattle.c_parser.specs.Expressions.{oper_of}
use Rattle.c_parser.specs.Recogniser.{takes, may_end, advance, stop}
use Rattle.c_parser.specs.declared.symbol.Symbol.TheVariants.{File}
use Rattle.c_parser.specs.ReadExpressions.{read_posts, read_post, read_tail, read_level, read_unary}
use Rattle.c_parser.specs.ReadStatements.{read_base, read_unit, read_size, read_more_args, read_args, read_call, read_right, read_changed, read_simple, read_declr, read_declrs, read_decl}
use Rattle.c_parser.specs.ReadBlocks.{read_free, read_gap, read_test, read_for_start, read_for_test, read_for_step, read_for_head, read_pieces, read_block, read_body, read_arm, read_else, read_branch, read_while, read_for, read_return, read_plain_item, read_item}
use Rattle.c_parser.specs.ReadFile.{read_field_names, read_fields, read_struct_body, read_const, read_global, read_globals, read_param, read_more_params, read_params, read_typedef, read_tag, read_head, read_void, read_outer, read_top, read_file, read_tree}

abbrev or_kind : Option Kind → Kind → Kind
or_kind (Some k) other = k
or_kind None other = other

abbrev spelled : List ℕ → Kind
spelled [] = kind.Refused 0
spelled (b ∷ text) = if (nat_le 48 b) && (nat_le b 57) then kind.Number (pos 3) else (if b == 34 then kind.Text text else or_kind (punctuator_kind (b ∷ text)) (kind_of_word (b ∷ text)))

abbrev from : ℕ → List (List ℕ) → List Token
from n [] = []
from n (w ∷ ws) = record { kind = spelled w; start = n; end = n + 1 } ∷ from (n + 1) ws

abbrev whole : List (List ℕ) → Tokens
whole ws = record { list = from 0 ws; last_comment = None; size = length ws }

abbrev stop_place : Option (List Token) → ℕ → ℕ
stop_place None size = size
stop_place (Some []) size = size
stop_place (Some (t ∷ ts)) size = t.start

-- whether the text is read, whether the recogniser stops, and where
abbrev seen : List (List ℕ) → Bool × ℕ
seen ws = (is_some (read_tree (whole ws)), stop_place (stop (from 0 ws) (File ∷ [])) (length ws))

good1 : seen (codes "typedef" ∷ codes "struct" ∷ codes "node" ∷ codes "node_t" ∷ codes ";" ∷ []) ≡ (true, 5)
unfolding term_of same oper_of takes may_end advance read_posts read_post read_tail read_level read_unary read_base read_unit read_size read_more_args read_args read_call read_right read_changed read_simple read_declr read_declrs read_decl read_free read_gap read_test read_for_start read_for_test read_for_step read_for_head read_pieces read_block read_body read_arm read_else read_branch read_while read_for read_return read_plain_item read_item read_field_names read_fields read_struct_body read_const read_global read_globals read_param read_more_params read_params read_typedef read_tag read_head read_void read_outer read_top read_file read_tree
good1 = refl

good2 : seen (codes "typedef" ∷ codes "struct" ∷ codes "node" ∷ codes "{" ∷ codes "int" ∷ codes "v" ∷ codes ";" ∷ codes "struct" ∷ codes "node" ∷ codes "*" ∷ codes "next" ∷ codes "," ∷ codes "*" ∷ codes "prev" ∷ codes ";" ∷ codes "}" ∷ codes "node_t" ∷ codes ";" ∷ []) ≡ (true, 18)
unfolding term_of same oper_of takes may_end advance read_posts read_post read_tail read_level read_unary read_base read_unit read_size read_more_args read_args read_call read_right read_changed read_simple read_declr read_declrs read_decl read_free read_gap read_test read_for_start read_for_test read_for_step read_for_head read_pieces read_block read_body read_arm read_else read_branch read_while read_for read_return read_plain_item read_item read_field_names read_fields read_struct_body read_const read_global read_globals read_param read_more_params read_params read_typedef read_tag read_head read_void read_outer read_top read_file read_tree
good2 = refl

good3 : seen (codes "typedef" ∷ codes "struct" ∷ codes "{" ∷ codes "int" ∷ codes "v" ∷ codes ";" ∷ codes "}" ∷ codes "anon" ∷ codes ";" ∷ []) ≡ (true, 9)
unfolding term_of same oper_of takes may_end advance read_posts read_post read_tail read_level read_unary read_base read_unit read_size read_more_args read_args read_call read_right read_changed read_simple read_declr read_declrs read_decl read_free read_gap read_test read_for_start read_for_test read_for_step read_for_head read_pieces read_block read_body read_arm read_else read_branch read_while read_for read_return read_plain_item read_item read_field_names read_fields read_struct_body read_const read_global read_globals read_param read_more_params read_params read_typedef read_tag read_head read_void read_outer read_top read_file read_tree
good3 = refl

good4 : seen (codes "struct" ∷ codes "node" ∷ codes ";" ∷ []) ≡ (true, 3)
unfolding term_of same oper_of takes may_end advance read_posts read_post read_tail read_level read_unary read_base read_unit read_size read_more_args read_args read_call read_right read_changed read_simple read_declr read_declrs read_decl read_free read_gap read_test read_for_start read_for_test read_for_step read_for_head read_pieces read_block read_body read_arm read_else read_branch read_while read_for read_return read_plain_item read_item read_field_names read_fields read_struct_body read_const read_global read_globals read_param read_more_params read_params read_typedef read_tag read_head read_void read_outer read_top read_file read_tree
good4 = refl

good5 : seen (codes "struct" ∷ codes "node" ∷ codes "{" ∷ codes "int" ∷ codes "v" ∷ codes ";" ∷ codes "node_t" ∷ codes "*" ∷ codes "n" ∷ codes ";" ∷ codes "}" ∷ codes ";" ∷ []) ≡ (true, 12)
unfolding term_of same oper_of takes may_end advance read_posts read_post read_tail read_level read_unary read_base read_unit read_size read_more_args read_args read_call read_right read_changed read_simple read_declr read_declrs read_decl read_free read_gap read_test read_for_start read_for_test read_for_step read_for_head read_pieces read_block read_body read_arm read_else read_branch read_while read_for read_return read_plain_item read_item read_field_names read_fields read_struct_body read_const read_global read_globals read_param read_more_params read_params read_typedef read_tag read_head read_void read_outer read_top read_file read_tree
good5 = refl

good6 : seen (codes "int" ∷ codes "a" ∷ codes "," ∷ codes "*" ∷ codes "b" ∷ codes "=" ∷ codes "NULL" ∷ codes "," ∷ codes "c" ∷ codes "=" ∷ codes "-" ∷ codes "3" ∷ codes "," ∷ codes "d" ∷ codes "=" ∷ codes "EOF" ∷ codes ";" ∷ []) ≡ (true, 17)
unfolding term_of same oper_of takes may_end advance read_posts read_post read_tail read_level read_unary read_base read_unit read_size read_more_args read_args read_call read_right read_changed read_simple read_declr read_declrs read_decl read_free read_gap read_test read_for_start read_for_test read_for_step read_for_head read_pieces read_block read_body read_arm read_else read_branch read_while read_for read_return read_plain_item read_item read_field_names read_fields read_struct_body read_const read_global read_globals read_param read_more_params read_params read_typedef read_tag read_head read_void read_outer read_top read_file read_tree
good6 = refl

good7 : seen (codes "struct" ∷ codes "s" ∷ codes "*" ∷ codes "g" ∷ codes "=" ∷ codes "NULL" ∷ codes ";" ∷ codes "node_t" ∷ codes "*" ∷ codes "h" ∷ codes ";" ∷ []) ≡ (true, 11)
unfolding term_of same oper_of takes may_end advance read_posts read_post read_tail read_level read_unary read_base read_unit read_size read_more_args read_args read_call read_right read_changed read_simple read_declr read_declrs read_decl read_free read_gap read_test read_for_start read_for_test read_for_step read_for_head read_pieces read_block read_body read_arm read_else read_branch read_while read_for read_return read_plain_item read_item read_field_names read_fields read_struct_body read_const read_global read_globals read_param read_more_params read_params read_typedef read_tag read_head read_void read_outer read_top read_file read_tree
good7 = refl

good8 : seen (codes "void" ∷ codes "f" ∷ codes "(" ∷ codes ")" ∷ codes ";" ∷ []) ≡ (true, 5)
unfolding term_of same oper_of takes may_end advance read_posts read_post read_tail read_level read_unary read_base read_unit read_size read_more_args read_args read_call read_right read_changed read_simple read_declr read_declrs read_decl read_free read_gap read_test read_for_start read_for_test read_for_step read_for_head read_pieces read_block read_body read_arm read_else read_branch read_while read_for read_return read_plain_item read_item read_field_names read_fields read_struct_body read_const read_global read_globals read_param read_more_params read_params read_typedef read_tag read_head read_void read_outer read_top read_file read_tree
good8 = refl

good9 : seen (codes "void" ∷ codes "f" ∷ codes "(" ∷ codes "void" ∷ codes ")" ∷ codes ";" ∷ codes "int" ∷ codes "*" ∷ codes "f" ∷ codes "(" ∷ codes "int" ∷ codes "," ∷ codes "struct" ∷ codes "s" ∷ codes "*" ∷ codes "," ∷ codes "node_t" ∷ codes "*" ∷ codes "x" ∷ codes "," ∷ codes "int" ∷ codes "*" ∷ codes ")" ∷ codes ";" ∷ []) ≡ (true, 24)
unfolding term_of same oper_of takes may_end advance read_posts read_post read_tail read_level read_unary read_base read_unit read_size read_more_args read_args read_call read_right read_changed read_simple read_declr read_declrs read_decl read_free read_gap read_test read_for_start read_for_test read_for_step read_for_head read_pieces read_block read_body read_arm read_else read_branch read_while read_for read_return read_plain_item read_item read_field_names read_fields read_struct_body read_const read_global read_globals read_param read_more_params read_params read_typedef read_tag read_head read_void read_outer read_top read_file read_tree
good9 = refl

good10 : seen (codes "void" ∷ codes "f" ∷ codes "(" ∷ codes "void" ∷ codes ")" ∷ codes "{" ∷ codes "}" ∷ []) ≡ (true, 7)
unfolding term_of same oper_of takes may_end advance read_posts read_post read_tail read_level read_unary read_base read_unit read_size read_more_args read_args read_call read_right read_changed read_simple read_declr read_declrs read_decl read_free read_gap read_test read_for_start read_for_test read_for_step read_for_head read_pieces read_block read_body read_arm read_else read_branch read_while read_for read_return read_plain_item read_item read_field_names read_fields read_struct_body read_const read_global read_globals read_param read_more_params read_params read_typedef read_tag read_head read_void read_outer read_top read_file read_tree
good10 = refl

good11 : seen (codes "int" ∷ codes "f" ∷ codes "(" ∷ codes "void" ∷ codes ")" ∷ codes "{" ∷ codes ";" ∷ codes "free" ∷ codes "(" ∷ codes "p" ∷ codes ")" ∷ codes ";" ∷ codes ";" ∷ codes "x" ∷ codes "=" ∷ codes "1" ∷ codes ";" ∷ codes "free" ∷ codes "(" ∷ codes "p" ∷ codes "->" ∷ codes "q" ∷ codes ")" ∷ codes ";" ∷ codes "}" ∷ []) ≡ (true, 25)
unfolding term_of same oper_of takes may_end advance read_posts read_post read_tail read_level read_unary read_base read_unit read_size read_more_args read_args read_call read_right read_changed read_simple read_declr read_declrs read_decl read_free read_gap read_test read_for_start read_for_test read_for_step read_for_head read_pieces read_block read_body read_arm read_else read_branch read_while read_for read_return read_plain_item read_item read_field_names read_fields read_struct_body read_const read_global read_globals read_param read_more_params read_params read_typedef read_tag read_head read_void read_outer read_top read_file read_tree
good11 = refl

good12 : seen (codes "int" ∷ codes "f" ∷ codes "(" ∷ codes "void" ∷ codes ")" ∷ codes "{" ∷ codes "int" ∷ codes "x" ∷ codes "," ∷ codes "*" ∷ codes "y" ∷ codes "=" ∷ codes "NULL" ∷ codes "," ∷ codes "z" ∷ codes "=" ∷ codes "g" ∷ codes "(" ∷ codes "1" ∷ codes ")" ∷ codes ";" ∷ codes "node_t" ∷ codes "*" ∷ codes "n" ∷ codes "=" ∷ codes "malloc" ∷ codes "(" ∷ codes "sizeof" ∷ codes "(" ∷ codes "int" ∷ codes ")" ∷ codes ")" ∷ codes ";" ∷ codes "struct" ∷ codes "s" ∷ codes "*" ∷ codes "q" ∷ codes ";" ∷ codes "}" ∷ []) ≡ (true, 39)
unfolding term_of same oper_of takes may_end advance read_posts read_post read_tail read_level read_unary read_base read_unit read_size read_more_args read_args read_call read_right read_changed read_simple read_declr read_declrs read_decl read_free read_gap read_test read_for_start read_for_test read_for_step read_for_head read_pieces read_block read_body read_arm read_else read_branch read_while read_for read_return read_plain_item read_item read_field_names read_fields read_struct_body read_const read_global read_globals read_param read_more_params read_params read_typedef read_tag read_head read_void read_outer read_top read_file read_tree
good12 = refl

good13 : seen (codes "int" ∷ codes "f" ∷ codes "(" ∷ codes "void" ∷ codes ")" ∷ codes "{" ∷ codes "x" ∷ codes "=" ∷ codes "y" ∷ codes ";" ∷ codes "x" ∷ codes "+=" ∷ codes "1" ∷ codes ";" ∷ codes "x" ∷ codes "-=" ∷ codes "y" ∷ codes "*" ∷ codes "2" ∷ codes ";" ∷ codes "x" ∷ codes "*=" ∷ codes "3" ∷ codes ";" ∷ codes "x" ∷ codes "++" ∷ codes ";" ∷ codes "x" ∷ codes "--" ∷ codes ";" ∷ codes "++" ∷ codes "x" ∷ codes ";" ∷ codes "--" ∷ codes "x" ∷ codes ";" ∷ codes "*" ∷ codes "p" ∷ codes "=" ∷ codes "3" ∷ codes ";" ∷ codes "*" ∷ codes "*" ∷ codes "p" ∷ codes "+=" ∷ codes "1" ∷ codes ";" ∷ codes "p" ∷ codes "->" ∷ codes "q" ∷ codes "=" ∷ codes "3" ∷ codes ";" ∷ codes "a" ∷ codes "[" ∷ codes "3" ∷ codes "]" ∷ codes "=" ∷ codes "4" ∷ codes ";" ∷ codes "a" ∷ codes "[" ∷ codes "i" ∷ codes "]" ∷ codes "++" ∷ codes ";" ∷ codes "(" ∷ codes "*" ∷ codes "p" ∷ codes ")" ∷ codes "++" ∷ codes ";" ∷ codes "(" ∷ codes "x" ∷ codes ")" ∷ codes "=" ∷ codes "4" ∷ codes ";" ∷ codes "++" ∷ codes "*" ∷ codes "p" ∷ codes ";" ∷ codes "}" ∷ []) ≡ (true, 83)
unfolding term_of same oper_of takes may_end advance read_posts read_post read_tail read_level read_unary read_base read_unit read_size read_more_args read_args read_call read_right read_changed read_simple read_declr read_declrs read_decl read_free read_gap read_test read_for_start read_for_test read_for_step read_for_head read_pieces read_block read_body read_arm read_else read_branch read_while read_for read_return read_plain_item read_item read_field_names read_fields read_struct_body read_const read_global read_globals read_param read_more_params read_params read_typedef read_tag read_head read_void read_outer read_top read_file read_tree
good13 = refl

good14 : seen (codes "int" ∷ codes "f" ∷ codes "(" ∷ codes "void" ∷ codes ")" ∷ codes "{" ∷ codes "f" ∷ codes "(" ∷ codes ")" ∷ codes ";" ∷ codes "f" ∷ codes "(" ∷ codes "1" ∷ codes "," ∷ codes "2" ∷ codes "+" ∷ codes "3" ∷ codes ")" ∷ codes ";" ∷ codes "getchar" ∷ codes "(" ∷ codes ")" ∷ codes ";" ∷ codes "putchar" ∷ codes "(" ∷ codes "65" ∷ codes ")" ∷ codes ";" ∷ codes "printf" ∷ codes "(" ∷ codes "\"x\"" ∷ codes ")" ∷ codes ";" ∷ codes "printf" ∷ codes "(" ∷ codes "\"x\"" ∷ codes "," ∷ codes "1" ∷ codes "," ∷ codes "y" ∷ codes ")" ∷ codes ";" ∷ codes "malloc" ∷ codes "(" ∷ codes "sizeof" ∷ codes "(" ∷ codes "int" ∷ codes ")" ∷ codes ")" ∷ codes ";" ∷ codes "(" ∷ codes "int" ∷ codes "*" ∷ codes ")" ∷ codes "malloc" ∷ codes "(" ∷ codes "sizeof" ∷ codes "(" ∷ codes "int" ∷ codes ")" ∷ codes ")" ∷ codes ";" ∷ codes "}" ∷ []) ≡ (true, 63)
unfolding term_of same oper_of takes may_end advance read_posts read_post read_tail read_level read_unary read_base read_unit read_size read_more_args read_args read_call read_right read_changed read_simple read_declr read_declrs read_decl read_free read_gap read_test read_for_start read_for_test read_for_step read_for_head read_pieces read_block read_body read_arm read_else read_branch read_while read_for read_return read_plain_item read_item read_field_names read_fields read_struct_body read_const read_global read_globals read_param read_more_params read_params read_typedef read_tag read_head read_void read_outer read_top read_file read_tree
good14 = refl

good15 : seen (codes "int" ∷ codes "f" ∷ codes "(" ∷ codes "void" ∷ codes ")" ∷ codes "{" ∷ codes "x" ∷ codes "=" ∷ codes "malloc" ∷ codes "(" ∷ codes "sizeof" ∷ codes "(" ∷ codes "int" ∷ codes ")" ∷ codes ")" ∷ codes ";" ∷ codes "x" ∷ codes "=" ∷ codes "(" ∷ codes "int" ∷ codes "*" ∷ codes ")" ∷ codes "malloc" ∷ codes "(" ∷ codes "3" ∷ codes "*" ∷ codes "sizeof" ∷ codes "(" ∷ codes "int" ∷ codes ")" ∷ codes ")" ∷ codes ";" ∷ codes "x" ∷ codes "=" ∷ codes "(" ∷ codes "struct" ∷ codes "s" ∷ codes "*" ∷ codes ")" ∷ codes "malloc" ∷ codes "(" ∷ codes "sizeof" ∷ codes "(" ∷ codes "struct" ∷ codes "s" ∷ codes ")" ∷ codes "*" ∷ codes "3" ∷ codes ")" ∷ codes ";" ∷ codes "x" ∷ codes "=" ∷ codes "(" ∷ codes "n" ∷ codes "*" ∷ codes ")" ∷ codes "malloc" ∷ codes "(" ∷ codes "sizeof" ∷ codes "(" ∷ codes "n" ∷ codes ")" ∷ codes ")" ∷ codes ";" ∷ codes "x" ∷ codes "=" ∷ codes "malloc" ∷ codes "(" ∷ codes "a" ∷ codes "*" ∷ codes "b" ∷ codes "/" ∷ codes "c" ∷ codes "*" ∷ codes "sizeof" ∷ codes "*" ∷ codes "p" ∷ codes ")" ∷ codes ";" ∷ codes "x" ∷ codes "=" ∷ codes "malloc" ∷ codes "(" ∷ codes "sizeof" ∷ codes "(" ∷ codes "*" ∷ codes "p" ∷ codes ")" ∷ codes ")" ∷ codes ";" ∷ codes "x" ∷ codes "=" ∷ codes "malloc" ∷ codes "(" ∷ codes "sizeof" ∷ codes "*" ∷ codes "p" ∷ codes "*" ∷ codes "-" ∷ codes "3" ∷ codes ")" ∷ codes ";" ∷ codes "x" ∷ codes "=" ∷ codes "malloc" ∷ codes "(" ∷ codes "(" ∷ codes "a" ∷ codes "+" ∷ codes "b" ∷ codes ")" ∷ codes "*" ∷ codes "sizeof" ∷ codes "(" ∷ codes "int" ∷ codes ")" ∷ codes ")" ∷ codes ";" ∷ codes "x" ∷ codes "=" ∷ codes "malloc" ∷ codes "(" ∷ codes "a" ∷ codes "[" ∷ codes "3" ∷ codes "]" ∷ codes "->" ∷ codes "b" ∷ codes "*" ∷ codes "sizeof" ∷ codes "(" ∷ codes "int" ∷ codes ")" ∷ codes ")" ∷ codes ";" ∷ codes "}" ∷ []) ≡ (true, 136)
unfolding term_of same oper_of takes may_end advance read_posts read_post read_tail read_level read_unary read_base read_unit read_size read_more_args read_args read_call read_right read_changed read_simple read_declr read_declrs read_decl read_free read_gap read_test read_for_start read_for_test read_for_step read_for_head read_pieces read_block read_body read_arm read_else read_branch read_while read_for read_return read_plain_item read_item read_field_names read_fields read_struct_body read_const read_global read_globals read_param read_more_params read_params read_typedef read_tag read_head read_void read_outer read_top read_file read_tree
good15 = refl

good16 : seen (codes "int" ∷ codes "f" ∷ codes "(" ∷ codes "void" ∷ codes ")" ∷ codes "{" ∷ codes "x" ∷ codes "=" ∷ codes "(" ∷ codes "n" ∷ codes "*" ∷ codes "b" ∷ codes ")" ∷ codes ";" ∷ codes "x" ∷ codes "=" ∷ codes "(" ∷ codes "n" ∷ codes ")" ∷ codes ";" ∷ codes "x" ∷ codes "=" ∷ codes "(" ∷ codes "n" ∷ codes "*" ∷ codes "b" ∷ codes "+" ∷ codes "3" ∷ codes ")" ∷ codes "*" ∷ codes "4" ∷ codes ";" ∷ codes "x" ∷ codes "=" ∷ codes "(" ∷ codes "(" ∷ codes "a" ∷ codes ")" ∷ codes ")" ∷ codes ";" ∷ codes "x" ∷ codes "=" ∷ codes "(" ∷ codes "a" ∷ codes "->" ∷ codes "b" ∷ codes ")" ∷ codes "[" ∷ codes "3" ∷ codes "]" ∷ codes ";" ∷ codes "x" ∷ codes "=" ∷ codes "(" ∷ codes "a" ∷ codes "&&" ∷ codes "b" ∷ codes ")" ∷ codes "||" ∷ codes "c" ∷ codes "==" ∷ codes "d" ∷ codes ";" ∷ codes "}" ∷ []) ≡ (true, 64)
unfolding term_of same oper_of takes may_end advance read_posts read_post read_tail read_level read_unary read_base read_unit read_size read_more_args read_args read_call read_right read_changed read_simple read_declr read_declrs read_decl read_free read_gap read_test read_for_start read_for_test read_for_step read_for_head read_pieces read_block read_body read_arm read_else read_branch read_while read_for read_return read_plain_item read_item read_field_names read_fields read_struct_body read_const read_global read_globals read_param read_more_params read_params read_typedef read_tag read_head read_void read_outer read_top read_file read_tree
good16 = refl

good17 : seen (codes "int" ∷ codes "f" ∷ codes "(" ∷ codes "void" ∷ codes ")" ∷ codes "{" ∷ codes "x" ∷ codes "=" ∷ codes "a" ∷ codes "+" ∷ codes "b" ∷ codes "*" ∷ codes "c" ∷ codes "-" ∷ codes "d" ∷ codes "/" ∷ codes "e" ∷ codes "%" ∷ codes "f" ∷ codes "==" ∷ codes "g" ∷ codes "!=" ∷ codes "h" ∷ codes "<" ∷ codes "i" ∷ codes "<=" ∷ codes "j" ∷ codes ">" ∷ codes "k" ∷ codes ">=" ∷ codes "l" ∷ codes "&&" ∷ codes "m" ∷ codes "||" ∷ codes "n" ∷ codes ";" ∷ codes "x" ∷ codes "=" ∷ codes "-" ∷ codes "-" ∷ codes "!" ∷ codes "*" ∷ codes "a" ∷ codes "->" ∷ codes "b" ∷ codes "[" ∷ codes "c" ∷ codes "]" ∷ codes "->" ∷ codes "d" ∷ codes ";" ∷ codes "x" ∷ codes "=" ∷ codes "NULL" ∷ codes ";" ∷ codes "x" ∷ codes "=" ∷ codes "EOF" ∷ codes ";" ∷ codes "x" ∷ codes "=" ∷ codes "3" ∷ codes ";" ∷ codes "}" ∷ []) ≡ (true, 64)
unfolding term_of same oper_of takes may_end advance read_posts read_post read_tail read_level read_unary read_base read_unit read_size read_more_args read_args read_call read_right read_changed read_simple read_declr read_declrs read_decl read_free read_gap read_test read_for_start read_for_test read_for_step read_for_head read_pieces read_block read_body read_arm read_else read_branch read_while read_for read_return read_plain_item read_item read_field_names read_fields read_struct_body read_const read_global read_globals read_param read_more_params read_params read_typedef read_tag read_head read_void read_outer read_top read_file read_tree
good17 = refl

good18 : seen (codes "int" ∷ codes "f" ∷ codes "(" ∷ codes "void" ∷ codes ")" ∷ codes "{" ∷ codes "if" ∷ codes "(" ∷ codes "x" ∷ codes ")" ∷ codes "y" ∷ codes "=" ∷ codes "1" ∷ codes ";" ∷ codes "if" ∷ codes "(" ∷ codes "x" ∷ codes ")" ∷ codes "{" ∷ codes "}" ∷ codes "else" ∷ codes "z" ∷ codes "=" ∷ codes "3" ∷ codes ";" ∷ codes "if" ∷ codes "(" ∷ codes "x" ∷ codes ")" ∷ codes ";" ∷ codes "else" ∷ codes "if" ∷ codes "(" ∷ codes "y" ∷ codes ")" ∷ codes "free" ∷ codes "(" ∷ codes "p" ∷ codes ")" ∷ codes ";" ∷ codes "else" ∷ codes "if" ∷ codes "(" ∷ codes "z" ∷ codes ")" ∷ codes "{" ∷ codes "x" ∷ codes "=" ∷ codes "3" ∷ codes ";" ∷ codes "}" ∷ codes "else" ∷ codes ";" ∷ codes "}" ∷ []) ≡ (true, 54)
unfolding term_of same oper_of takes may_end advance read_posts read_post read_tail read_level read_unary read_base read_unit read_size read_more_args read_args read_call read_right read_changed read_simple read_declr read_declrs read_decl read_free read_gap read_test read_for_start read_for_test read_for_step read_for_head read_pieces read_block read_body read_arm read_else read_branch read_while read_for read_return read_plain_item read_item read_field_names read_fields read_struct_body read_const read_global read_globals read_param read_more_params read_params read_typedef read_tag read_head read_void read_outer read_top read_file read_tree
good18 = refl

good19 : seen (codes "int" ∷ codes "f" ∷ codes "(" ∷ codes "void" ∷ codes ")" ∷ codes "{" ∷ codes "if" ∷ codes "(" ∷ codes "x" ∷ codes ")" ∷ codes "if" ∷ codes "(" ∷ codes "y" ∷ codes ")" ∷ codes "z" ∷ codes "=" ∷ codes "1" ∷ codes ";" ∷ codes "else" ∷ codes "w" ∷ codes "=" ∷ codes "2" ∷ codes ";" ∷ codes "else" ∷ codes "v" ∷ codes "=" ∷ codes "3" ∷ codes ";" ∷ codes "while" ∷ codes "(" ∷ codes "x" ∷ codes ")" ∷ codes "if" ∷ codes "(" ∷ codes "y" ∷ codes ")" ∷ codes ";" ∷ codes "else" ∷ codes "while" ∷ codes "(" ∷ codes "z" ∷ codes ")" ∷ codes ";" ∷ codes "}" ∷ []) ≡ (true, 44)
unfolding term_of same oper_of takes may_end advance read_posts read_post read_tail read_level read_unary read_base read_unit read_size read_more_args read_args read_call read_right read_changed read_simple read_declr read_declrs read_decl read_free read_gap read_test read_for_start read_for_test read_for_step read_for_head read_pieces read_block read_body read_arm read_else read_branch read_while read_for read_return read_plain_item read_item read_field_names read_fields read_struct_body read_const read_global read_globals read_param read_more_params read_params read_typedef read_tag read_head read_void read_outer read_top read_file read_tree
good19 = refl

good20 : seen (codes "int" ∷ codes "f" ∷ codes "(" ∷ codes "void" ∷ codes ")" ∷ codes "{" ∷ codes "while" ∷ codes "(" ∷ codes "x" ∷ codes ")" ∷ codes "{" ∷ codes "break" ∷ codes ";" ∷ codes "continue" ∷ codes ";" ∷ codes "}" ∷ codes "for" ∷ codes "(" ∷ codes ";" ∷ codes ";" ∷ codes ")" ∷ codes ";" ∷ codes "for" ∷ codes "(" ∷ codes "i" ∷ codes "=" ∷ codes "0" ∷ codes ";" ∷ codes "i" ∷ codes "<" ∷ codes "3" ∷ codes ";" ∷ codes "i" ∷ codes "++" ∷ codes ")" ∷ codes "{" ∷ codes "}" ∷ codes "for" ∷ codes "(" ∷ codes "int" ∷ codes "i" ∷ codes "=" ∷ codes "0" ∷ codes "," ∷ codes "j" ∷ codes "=" ∷ codes "1" ∷ codes ";" ∷ codes "i" ∷ codes ";" ∷ codes "++" ∷ codes "i" ∷ codes ")" ∷ codes "x" ∷ codes "=" ∷ codes "3" ∷ codes ";" ∷ codes "for" ∷ codes "(" ∷ codes "node_t" ∷ codes "*" ∷ codes "p" ∷ codes "=" ∷ codes "h" ∷ codes ";" ∷ codes "p" ∷ codes ";" ∷ codes "p" ∷ codes "=" ∷ codes "p" ∷ codes "->" ∷ codes "next" ∷ codes ")" ∷ codes ";" ∷ codes "for" ∷ codes "(" ∷ codes "*" ∷ codes "p" ∷ codes "=" ∷ codes "1" ∷ codes ";" ∷ codes ";" ∷ codes "*" ∷ codes "p" ∷ codes "+=" ∷ codes "1" ∷ codes ")" ∷ codes ";" ∷ codes "for" ∷ codes "(" ∷ codes "(" ∷ codes "x" ∷ codes ")" ∷ codes "=" ∷ codes "1" ∷ codes ";" ∷ codes ";" ∷ codes "(" ∷ codes "x" ∷ codes ")" ∷ codes "++" ∷ codes ")" ∷ codes ";" ∷ codes "for" ∷ codes "(" ∷ codes "n" ∷ codes "->" ∷ codes "x" ∷ codes "=" ∷ codes "1" ∷ codes ";" ∷ codes ";" ∷ codes "n" ∷ codes "[" ∷ codes "1" ∷ codes "]" ∷ codes "=" ∷ codes "2" ∷ codes ")" ∷ codes ";" ∷ codes "for" ∷ codes "(" ∷ codes "struct" ∷ codes "s" ∷ codes "*" ∷ codes "p" ∷ codes ";" ∷ codes ";" ∷ codes ")" ∷ codes ";" ∷ codes "}" ∷ []) ≡ (true, 131)
unfolding term_of same oper_of takes may_end advance read_posts read_post read_tail read_level read_unary read_base read_unit read_size read_more_args read_args read_call read_right read_changed read_simple read_declr read_declrs read_decl read_free read_gap read_test read_for_start read_for_test read_for_step read_for_head read_pieces read_block read_body read_arm read_else read_branch read_while read_for read_return read_plain_item read_item read_field_names read_fields read_struct_body read_const read_global read_globals read_param read_more_params read_params read_typedef read_tag read_head read_void read_outer read_top read_file read_tree
good20 = refl

good21 : seen (codes "int" ∷ codes "f" ∷ codes "(" ∷ codes "void" ∷ codes ")" ∷ codes "{" ∷ codes "return" ∷ codes ";" ∷ codes "return" ∷ codes "3" ∷ codes ";" ∷ codes "return" ∷ codes "f" ∷ codes "(" ∷ codes "1" ∷ codes ")" ∷ codes ";" ∷ codes "return" ∷ codes "(" ∷ codes "int" ∷ codes "*" ∷ codes ")" ∷ codes "malloc" ∷ codes "(" ∷ codes "sizeof" ∷ codes "(" ∷ codes "int" ∷ codes ")" ∷ codes ")" ∷ codes ";" ∷ codes "return" ∷ codes "-" ∷ codes "x" ∷ codes ";" ∷ codes "{" ∷ codes "{" ∷ codes "}" ∷ codes "}" ∷ codes "if" ∷ codes "(" ∷ codes "x" ∷ codes ")" ∷ codes "int" ∷ codes "y" ∷ codes "=" ∷ codes "1" ∷ codes ";" ∷ codes "}" ∷ []) ≡ (true, 48)
unfolding term_of same oper_of takes may_end advance read_posts read_post read_tail read_level read_unary read_base read_unit read_size read_more_args read_args read_call read_right read_changed read_simple read_declr read_declrs read_decl read_free read_gap read_test read_for_start read_for_test read_for_step read_for_head read_pieces read_block read_body read_arm read_else read_branch read_while read_for read_return read_plain_item read_item read_field_names read_fields read_struct_body read_const read_global read_globals read_param read_more_params read_params read_typedef read_tag read_head read_void read_outer read_top read_file read_tree
good21 = refl

good22 : seen (codes "struct" ∷ codes "buf" ∷ codes "{" ∷ codes "int" ∷ codes "len" ∷ codes ";" ∷ codes "int" ∷ codes "*" ∷ codes "data" ∷ codes ";" ∷ codes "}" ∷ codes ";" ∷ codes "struct" ∷ codes "buf" ∷ codes "*" ∷ codes "make" ∷ codes "(" ∷ codes "int" ∷ codes "n" ∷ codes ")" ∷ codes "{" ∷ codes "struct" ∷ codes "buf" ∷ codes "*" ∷ codes "b" ∷ codes "=" ∷ codes "malloc" ∷ codes "(" ∷ codes "sizeof" ∷ codes "(" ∷ codes "struct" ∷ codes "buf" ∷ codes ")" ∷ codes ")" ∷ codes ";" ∷ codes "if" ∷ codes "(" ∷ codes "b" ∷ codes "==" ∷ codes "NULL" ∷ codes ")" ∷ codes "return" ∷ codes "NULL" ∷ codes ";" ∷ codes "b" ∷ codes "->" ∷ codes "data" ∷ codes "=" ∷ codes "malloc" ∷ codes "(" ∷ codes "n" ∷ codes "*" ∷ codes "sizeof" ∷ codes "(" ∷ codes "int" ∷ codes ")" ∷ codes ")" ∷ codes ";" ∷ codes "if" ∷ codes "(" ∷ codes "b" ∷ codes "->" ∷ codes "data" ∷ codes "==" ∷ codes "NULL" ∷ codes ")" ∷ codes "return" ∷ codes "NULL" ∷ codes ";" ∷ codes "b" ∷ codes "->" ∷ codes "len" ∷ codes "=" ∷ codes "n" ∷ codes ";" ∷ codes "return" ∷ codes "b" ∷ codes ";" ∷ codes "}" ∷ codes "int" ∷ codes "main" ∷ codes "(" ∷ codes "void" ∷ codes ")" ∷ codes "{" ∷ codes "int" ∷ codes "i" ∷ codes ";" ∷ codes "struct" ∷ codes "buf" ∷ codes "*" ∷ codes "b" ∷ codes "=" ∷ codes "make" ∷ codes "(" ∷ codes "4" ∷ codes ")" ∷ codes ";" ∷ codes "if" ∷ codes "(" ∷ codes "b" ∷ codes "==" ∷ codes "NULL" ∷ codes ")" ∷ codes "return" ∷ codes "1" ∷ codes ";" ∷ codes "for" ∷ codes "(" ∷ codes "i" ∷ codes "=" ∷ codes "0" ∷ codes ";" ∷ codes "i" ∷ codes "<" ∷ codes "b" ∷ codes "->" ∷ codes "len" ∷ codes ";" ∷ codes "i" ∷ codes "++" ∷ codes ")" ∷ codes "{" ∷ codes "b" ∷ codes "->" ∷ codes "data" ∷ codes "[" ∷ codes "i" ∷ codes "]" ∷ codes "=" ∷ codes "i" ∷ codes "*" ∷ codes "i" ∷ codes ";" ∷ codes "}" ∷ codes "printf" ∷ codes "(" ∷ codes "\"x\"" ∷ codes "," ∷ codes "b" ∷ codes "->" ∷ codes "data" ∷ codes "[" ∷ codes "3" ∷ codes "]" ∷ codes ")" ∷ codes ";" ∷ codes "free" ∷ codes "(" ∷ codes "b" ∷ codes ")" ∷ codes ";" ∷ codes "return" ∷ codes "0" ∷ codes ";" ∷ codes "}" ∷ []) ≡ (true, 156)
unfolding term_of same oper_of takes may_end advance read_posts read_post read_tail read_level read_unary read_base read_unit read_size read_more_args read_args read_call read_right read_changed read_simple read_declr read_declrs read_decl read_free read_gap read_test read_for_start read_for_test read_for_step read_for_head read_pieces read_block read_body read_arm read_else read_branch read_while read_for read_return read_plain_item read_item read_field_names read_fields read_struct_body read_const read_global read_globals read_param read_more_params read_params read_typedef read_tag read_head read_void read_outer read_top read_file read_tree
good22 = refl

bad1 : seen (codes "typedef" ∷ codes "int" ∷ codes "x" ∷ codes ";" ∷ []) ≡ (false, 1)
unfolding term_of same oper_of takes may_end advance read_posts read_post read_tail read_level read_unary read_base read_unit read_size read_more_args read_args read_call read_right read_changed read_simple read_declr read_declrs read_decl read_free read_gap read_test read_for_start read_for_test read_for_step read_for_head read_pieces read_block read_body read_arm read_else read_branch read_while read_for read_return read_plain_item read_item read_field_names read_fields read_struct_body read_const read_global read_globals read_param read_more_params read_params read_typedef read_tag read_head read_void read_outer read_top read_file read_tree
bad1 = refl

bad2 : seen (codes "typedef" ∷ codes "struct" ∷ codes ";" ∷ codes "x" ∷ codes ";" ∷ []) ≡ (false, 2)
unfolding term_of same oper_of takes may_end advance read_posts read_post read_tail read_level read_unary read_base read_unit read_size read_more_args read_args read_call read_right read_changed read_simple read_declr read_declrs read_decl read_free read_gap read_test read_for_start read_for_test read_for_step read_for_head read_pieces read_block read_body read_arm read_else read_branch read_while read_for read_return read_plain_item read_item read_field_names read_fields read_struct_body read_const read_global read_globals read_param read_more_params read_params read_typedef read_tag read_head read_void read_outer read_top read_file read_tree
bad2 = refl

bad3 : seen (codes "typedef" ∷ codes "struct" ∷ codes "node" ∷ codes ";" ∷ []) ≡ (false, 3)
unfolding term_of same oper_of takes may_end advance read_posts read_post read_tail read_level read_unary read_base read_unit read_size read_more_args read_args read_call read_right read_changed read_simple read_declr read_declrs read_decl read_free read_gap read_test read_for_start read_for_test read_for_step read_for_head read_pieces read_block read_body read_arm read_else read_branch read_while read_for read_return read_plain_item read_item read_field_names read_fields read_struct_body read_const read_global read_globals read_param read_more_params read_params read_typedef read_tag read_head read_void read_outer read_top read_file read_tree
bad3 = refl

bad4 : seen (codes "typedef" ∷ codes "struct" ∷ codes "{" ∷ codes "}" ∷ codes "x" ∷ codes ";" ∷ []) ≡ (false, 3)
unfolding term_of same oper_of takes may_end advance read_posts read_post read_tail read_level read_unary read_base read_unit read_size read_more_args read_args read_call read_right read_changed read_simple read_declr read_declrs read_decl read_free read_gap read_test read_for_start read_for_test read_for_step read_for_head read_pieces read_block read_body read_arm read_else read_branch read_while read_for read_return read_plain_item read_item read_field_names read_fields read_struct_body read_const read_global read_globals read_param read_more_params read_params read_typedef read_tag read_head read_void read_outer read_top read_file read_tree
bad4 = refl

bad5 : seen (codes "typedef" ∷ codes "struct" ∷ codes "{" ∷ codes "int" ∷ codes "," ∷ codes "a" ∷ codes ";" ∷ codes "}" ∷ codes "x" ∷ codes ";" ∷ []) ≡ (false, 4)
unfolding term_of same oper_of takes may_end advance read_posts read_post read_tail read_level read_unary read_base read_unit read_size read_more_args read_args read_call read_right read_changed read_simple read_declr read_declrs read_decl read_free read_gap read_test read_for_start read_for_test read_for_step read_for_head read_pieces read_block read_body read_arm read_else read_branch read_while read_for read_return read_plain_item read_item read_field_names read_fields read_struct_body read_const read_global read_globals read_param read_more_params read_params read_typedef read_tag read_head read_void read_outer read_top read_file read_tree
bad5 = refl

bad6 : seen (codes "struct" ∷ codes "{" ∷ codes "int" ∷ codes "x" ∷ codes ";" ∷ codes "}" ∷ codes ";" ∷ []) ≡ (false, 1)
unfolding term_of same oper_of takes may_end advance read_posts read_post read_tail read_level read_unary read_base read_unit read_size read_more_args read_args read_call read_right read_changed read_simple read_declr read_declrs read_decl read_free read_gap read_test read_for_start read_for_test read_for_step read_for_head read_pieces read_block read_body read_arm read_else read_branch read_while read_for read_return read_plain_item read_item read_field_names read_fields read_struct_body read_const read_global read_globals read_param read_more_params read_params read_typedef read_tag read_head read_void read_outer read_top read_file read_tree
bad6 = refl

bad7 : seen (codes "struct" ∷ codes "n" ∷ codes "{" ∷ codes "int" ∷ codes "a" ∷ codes ";" ∷ codes "}" ∷ codes "x" ∷ codes ";" ∷ []) ≡ (false, 7)
unfolding term_of same oper_of takes may_end advance read_posts read_post read_tail read_level read_unary read_base read_unit read_size read_more_args read_args read_call read_right read_changed read_simple read_declr read_declrs read_decl read_free read_gap read_test read_for_start read_for_test read_for_step read_for_head read_pieces read_block read_body read_arm read_else read_branch read_while read_for read_return read_plain_item read_item read_field_names read_fields read_struct_body read_const read_global read_globals read_param read_more_params read_params read_typedef read_tag read_head read_void read_outer read_top read_file read_tree
bad7 = refl

bad8 : seen (codes "int" ∷ codes ";" ∷ []) ≡ (false, 1)
unfolding term_of same oper_of takes may_end advance read_posts read_post read_tail read_level read_unary read_base read_unit read_size read_more_args read_args read_call read_right read_changed read_simple read_declr read_declrs read_decl read_free read_gap read_test read_for_start read_for_test read_for_step read_for_head read_pieces read_block read_body read_arm read_else read_branch read_while read_for read_return read_plain_item read_item read_field_names read_fields read_struct_body read_const read_global read_globals read_param read_more_params read_params read_typedef read_tag read_head read_void read_outer read_top read_file read_tree
bad8 = refl

bad9 : seen (codes "int" ∷ codes "a" ∷ codes "=" ∷ codes "x" ∷ codes ";" ∷ []) ≡ (false, 3)
unfolding term_of same oper_of takes may_end advance read_posts read_post read_tail read_level read_unary read_base read_unit read_size read_more_args read_args read_call read_right read_changed read_simple read_declr read_declrs read_decl read_free read_gap read_test read_for_start read_for_test read_for_step read_for_head read_pieces read_block read_body read_arm read_else read_branch read_while read_for read_return read_plain_item read_item read_field_names read_fields read_struct_body read_const read_global read_globals read_param read_more_params read_params read_typedef read_tag read_head read_void read_outer read_top read_file read_tree
bad9 = refl

bad10 : seen (codes "int" ∷ codes "a" ∷ codes "=" ∷ codes "-" ∷ codes "NULL" ∷ codes ";" ∷ []) ≡ (false, 4)
unfolding term_of same oper_of takes may_end advance read_posts read_post read_tail read_level read_unary read_base read_unit read_size read_more_args read_args read_call read_right read_changed read_simple read_declr read_declrs read_decl read_free read_gap read_test read_for_start read_for_test read_for_step read_for_head read_pieces read_block read_body read_arm read_else read_branch read_while read_for read_return read_plain_item read_item read_field_names read_fields read_struct_body read_const read_global read_globals read_param read_more_params read_params read_typedef read_tag read_head read_void read_outer read_top read_file read_tree
bad10 = refl

bad11 : seen (codes "int" ∷ codes "a" ∷ codes "int" ∷ []) ≡ (false, 2)
unfolding term_of same oper_of takes may_end advance read_posts read_post read_tail read_level read_unary read_base read_unit read_size read_more_args read_args read_call read_right read_changed read_simple read_declr read_declrs read_decl read_free read_gap read_test read_for_start read_for_test read_for_step read_for_head read_pieces read_block read_body read_arm read_else read_branch read_while read_for read_return read_plain_item read_item read_field_names read_fields read_struct_body read_const read_global read_globals read_param read_more_params read_params read_typedef read_tag read_head read_void read_outer read_top read_file read_tree
bad11 = refl

bad12 : seen (codes "int" ∷ codes "a" ∷ codes "," ∷ codes "(" ∷ codes ")" ∷ codes ";" ∷ []) ≡ (false, 3)
unfolding term_of same oper_of takes may_end advance read_posts read_post read_tail read_level read_unary read_base read_unit read_size read_more_args read_args read_call read_right read_changed read_simple read_declr read_declrs read_decl read_free read_gap read_test read_for_start read_for_test read_for_step read_for_head read_pieces read_block read_body read_arm read_else read_branch read_while read_for read_return read_plain_item read_item read_field_names read_fields read_struct_body read_const read_global read_globals read_param read_more_params read_params read_typedef read_tag read_head read_void read_outer read_top read_file read_tree
bad12 = refl

bad13 : seen (codes "void" ∷ codes "*" ∷ codes "f" ∷ codes "(" ∷ codes ")" ∷ codes ";" ∷ []) ≡ (false, 1)
unfolding term_of same oper_of takes may_end advance read_posts read_post read_tail read_level read_unary read_base read_unit read_size read_more_args read_args read_call read_right read_changed read_simple read_declr read_declrs read_decl read_free read_gap read_test read_for_start read_for_test read_for_step read_for_head read_pieces read_block read_body read_arm read_else read_branch read_while read_for read_return read_plain_item read_item read_field_names read_fields read_struct_body read_const read_global read_globals read_param read_more_params read_params read_typedef read_tag read_head read_void read_outer read_top read_file read_tree
bad13 = refl

bad14 : seen (codes "int" ∷ codes "f" ∷ codes "(" ∷ codes "void" ∷ codes "x" ∷ codes ")" ∷ codes ";" ∷ []) ≡ (false, 4)
unfolding term_of same oper_of takes may_end advance read_posts read_post read_tail read_level read_unary read_base read_unit read_size read_more_args read_args read_call read_right read_changed read_simple read_declr read_declrs read_decl read_free read_gap read_test read_for_start read_for_test read_for_step read_for_head read_pieces read_block read_body read_arm read_else read_branch read_while read_for read_return read_plain_item read_item read_field_names read_fields read_struct_body read_const read_global read_globals read_param read_more_params read_params read_typedef read_tag read_head read_void read_outer read_top read_file read_tree
bad14 = refl

bad15 : seen (codes "int" ∷ codes "f" ∷ codes "(" ∷ codes "int" ∷ codes "*" ∷ codes "*" ∷ codes ")" ∷ codes ";" ∷ []) ≡ (false, 5)
unfolding term_of same oper_of takes may_end advance read_posts read_post read_tail read_level read_unary read_base read_unit read_size read_more_args read_args read_call read_right read_changed read_simple read_declr read_declrs read_decl read_free read_gap read_test read_for_start read_for_test read_for_step read_for_head read_pieces read_block read_body read_arm read_else read_branch read_while read_for read_return read_plain_item read_item read_field_names read_fields read_struct_body read_const read_global read_globals read_param read_more_params read_params read_typedef read_tag read_head read_void read_outer read_top read_file read_tree
bad15 = refl

bad16 : seen (codes "int" ∷ codes "f" ∷ codes "(" ∷ codes "int" ∷ codes "a" ∷ codes "," ∷ codes ")" ∷ codes ";" ∷ []) ≡ (false, 6)
unfolding term_of same oper_of takes may_end advance read_posts read_post read_tail read_level read_unary read_base read_unit read_size read_more_args read_args read_call read_right read_changed read_simple read_declr read_declrs read_decl read_free read_gap read_test read_for_start read_for_test read_for_step read_for_head read_pieces read_block read_body read_arm read_else read_branch read_while read_for read_return read_plain_item read_item read_field_names read_fields read_struct_body read_const read_global read_globals read_param read_more_params read_params read_typedef read_tag read_head read_void read_outer read_top read_file read_tree
bad16 = refl

bad17 : seen (codes "int" ∷ codes "f" ∷ codes "(" ∷ codes "void" ∷ codes ")" ∷ codes "{" ∷ codes ")" ∷ []) ≡ (false, 6)
unfolding term_of same oper_of takes may_end advance read_posts read_post read_tail read_level read_unary read_base read_unit read_size read_more_args read_args read_call read_right read_changed read_simple read_declr read_declrs read_decl read_free read_gap read_test read_for_start read_for_test read_for_step read_for_head read_pieces read_block read_body read_arm read_else read_branch read_while read_for read_return read_plain_item read_item read_field_names read_fields read_struct_body read_const read_global read_globals read_param read_more_params read_params read_typedef read_tag read_head read_void read_outer read_top read_file read_tree
bad17 = refl

bad18 : seen (codes "int" ∷ codes "f" ∷ codes "(" ∷ codes "void" ∷ codes ")" ∷ codes "{" ∷ codes "x" ∷ codes ";" ∷ codes "}" ∷ []) ≡ (false, 7)
unfolding term_of same oper_of takes may_end advance read_posts read_post read_tail read_level read_unary read_base read_unit read_size read_more_args read_args read_call read_right read_changed read_simple read_declr read_declrs read_decl read_free read_gap read_test read_for_start read_for_test read_for_step read_for_head read_pieces read_block read_body read_arm read_else read_branch read_while read_for read_return read_plain_item read_item read_field_names read_fields read_struct_body read_const read_global read_globals read_param read_more_params read_params read_typedef read_tag read_head read_void read_outer read_top read_file read_tree
bad18 = refl

bad19 : seen (codes "int" ∷ codes "f" ∷ codes "(" ∷ codes "void" ∷ codes ")" ∷ codes "{" ∷ codes "x" ∷ codes "=" ∷ codes ";" ∷ codes "}" ∷ []) ≡ (false, 8)
unfolding term_of same oper_of takes may_end advance read_posts read_post read_tail read_level read_unary read_base read_unit read_size read_more_args read_args read_call read_right read_changed read_simple read_declr read_declrs read_decl read_free read_gap read_test read_for_start read_for_test read_for_step read_for_head read_pieces read_block read_body read_arm read_else read_branch read_while read_for read_return read_plain_item read_item read_field_names read_fields read_struct_body read_const read_global read_globals read_param read_more_params read_params read_typedef read_tag read_head read_void read_outer read_top read_file read_tree
bad19 = refl

bad20 : seen (codes "int" ∷ codes "f" ∷ codes "(" ∷ codes "void" ∷ codes ")" ∷ codes "{" ∷ codes "x" ∷ codes "+" ∷ codes "y" ∷ codes ";" ∷ codes "}" ∷ []) ≡ (false, 7)
unfolding term_of same oper_of takes may_end advance read_posts read_post read_tail read_level read_unary read_base read_unit read_size read_more_args read_args read_call read_right read_changed read_simple read_declr read_declrs read_decl read_free read_gap read_test read_for_start read_for_test read_for_step read_for_head read_pieces read_block read_body read_arm read_else read_branch read_while read_for read_return read_plain_item read_item read_field_names read_fields read_struct_body read_const read_global read_globals read_param read_more_params read_params read_typedef read_tag read_head read_void read_outer read_top read_file read_tree
bad20 = refl

bad21 : seen (codes "int" ∷ codes "f" ∷ codes "(" ∷ codes "void" ∷ codes ")" ∷ codes "{" ∷ codes "-" ∷ codes "x" ∷ codes "=" ∷ codes "3" ∷ codes ";" ∷ codes "}" ∷ []) ≡ (false, 6)
unfolding term_of same oper_of takes may_end advance read_posts read_post read_tail read_level read_unary read_base read_unit read_size read_more_args read_args read_call read_right read_changed read_simple read_declr read_declrs read_decl read_free read_gap read_test read_for_start read_for_test read_for_step read_for_head read_pieces read_block read_body read_arm read_else read_branch read_while read_for read_return read_plain_item read_item read_field_names read_fields read_struct_body read_const read_global read_globals read_param read_more_params read_params read_typedef read_tag read_head read_void read_outer read_top read_file read_tree
bad21 = refl

bad22 : seen (codes "int" ∷ codes "f" ∷ codes "(" ∷ codes "void" ∷ codes ")" ∷ codes "{" ∷ codes "*" ∷ codes "x" ∷ codes "++" ∷ codes ";" ∷ codes "}" ∷ []) ≡ (false, 8)
unfolding term_of same oper_of takes may_end advance read_posts read_post read_tail read_level read_unary read_base read_unit read_size read_more_args read_args read_call read_right read_changed read_simple read_declr read_declrs read_decl read_free read_gap read_test read_for_start read_for_test read_for_step read_for_head read_pieces read_block read_body read_arm read_else read_branch read_while read_for read_return read_plain_item read_item read_field_names read_fields read_struct_body read_const read_global read_globals read_param read_more_params read_params read_typedef read_tag read_head read_void read_outer read_top read_file read_tree
bad22 = refl

bad23 : seen (codes "int" ∷ codes "f" ∷ codes "(" ∷ codes "void" ∷ codes ")" ∷ codes "{" ∷ codes "++" ∷ codes "x" ∷ codes "=" ∷ codes "3" ∷ codes ";" ∷ codes "}" ∷ []) ≡ (false, 8)
unfolding term_of same oper_of takes may_end advance read_posts read_post read_tail read_level read_unary read_base read_unit read_size read_more_args read_args read_call read_right read_changed read_simple read_declr read_declrs read_decl read_free read_gap read_test read_for_start read_for_test read_for_step read_for_head read_pieces read_block read_body read_arm read_else read_branch read_while read_for read_return read_plain_item read_item read_field_names read_fields read_struct_body read_const read_global read_globals read_param read_more_params read_params read_typedef read_tag read_head read_void read_outer read_top read_file read_tree
bad23 = refl

bad24 : seen (codes "int" ∷ codes "f" ∷ codes "(" ∷ codes "void" ∷ codes ")" ∷ codes "{" ∷ codes "x" ∷ codes "=" ∷ codes "y" ∷ codes "=" ∷ codes "3" ∷ codes ";" ∷ codes "}" ∷ []) ≡ (false, 9)
unfolding term_of same oper_of takes may_end advance read_posts read_post read_tail read_level read_unary read_base read_unit read_size read_more_args read_args read_call read_right read_changed read_simple read_declr read_declrs read_decl read_free read_gap read_test read_for_start read_for_test read_for_step read_for_head read_pieces read_block read_body read_arm read_else read_branch read_while read_for read_return read_plain_item read_item read_field_names read_fields read_struct_body read_const read_global read_globals read_param read_more_params read_params read_typedef read_tag read_head read_void read_outer read_top read_file read_tree
bad24 = refl

bad25 : seen (codes "int" ∷ codes "f" ∷ codes "(" ∷ codes "void" ∷ codes ")" ∷ codes "{" ∷ codes "x" ∷ codes "+=" ∷ codes "f" ∷ codes "(" ∷ codes ")" ∷ codes ";" ∷ codes "}" ∷ []) ≡ (false, 9)
unfolding term_of same oper_of takes may_end advance read_posts read_post read_tail read_level read_unary read_base read_unit read_size read_more_args read_args read_call read_right read_changed read_simple read_declr read_declrs read_decl read_free read_gap read_test read_for_start read_for_test read_for_step read_for_head read_pieces read_block read_body read_arm read_else read_branch read_while read_for read_return read_plain_item read_item read_field_names read_fields read_struct_body read_const read_global read_globals read_param read_more_params read_params read_typedef read_tag read_head read_void read_outer read_top read_file read_tree
bad25 = refl

bad26 : seen (codes "int" ∷ codes "f" ∷ codes "(" ∷ codes "void" ∷ codes ")" ∷ codes "{" ∷ codes "x" ∷ codes "=" ∷ codes "1" ∷ codes "+" ∷ codes "f" ∷ codes "(" ∷ codes ")" ∷ codes ";" ∷ codes "}" ∷ []) ≡ (false, 11)
unfolding term_of same oper_of takes may_end advance read_posts read_post read_tail read_level read_unary read_base read_unit read_size read_more_args read_args read_call read_right read_changed read_simple read_declr read_declrs read_decl read_free read_gap read_test read_for_start read_for_test read_for_step read_for_head read_pieces read_block read_body read_arm read_else read_branch read_while read_for read_return read_plain_item read_item read_field_names read_fields read_struct_body read_const read_global read_globals read_param read_more_params read_params read_typedef read_tag read_head read_void read_outer read_top read_file read_tree
bad26 = refl

bad27 : seen (codes "int" ∷ codes "f" ∷ codes "(" ∷ codes "void" ∷ codes ")" ∷ codes "{" ∷ codes "a" ∷ codes "*" ∷ codes "b" ∷ codes "+=" ∷ codes "3" ∷ codes ";" ∷ codes "}" ∷ []) ≡ (false, 9)
unfolding term_of same oper_of takes may_end advance read_posts read_post read_tail read_level read_unary read_base read_unit read_size read_more_args read_args read_call read_right read_changed read_simple read_declr read_declrs read_decl read_free read_gap read_test read_for_start read_for_test read_for_step read_for_head read_pieces read_block read_body read_arm read_else read_branch read_while read_for read_return read_plain_item read_item read_field_names read_fields read_struct_body read_const read_global read_globals read_param read_more_params read_params read_typedef read_tag read_head read_void read_outer read_top read_file read_tree
bad27 = refl

bad28 : seen (codes "int" ∷ codes "f" ∷ codes "(" ∷ codes "void" ∷ codes ")" ∷ codes "{" ∷ codes "x" ∷ codes "=" ∷ codes "(" ∷ codes "n" ∷ codes "*" ∷ codes ")" ∷ codes ";" ∷ codes "}" ∷ []) ≡ (false, 12)
unfolding term_of same oper_of takes may_end advance read_posts read_post read_tail read_level read_unary read_base read_unit read_size read_more_args read_args read_call read_right read_changed read_simple read_declr read_declrs read_decl read_free read_gap read_test read_for_start read_for_test read_for_step read_for_head read_pieces read_block read_body read_arm read_else read_branch read_while read_for read_return read_plain_item read_item read_field_names read_fields read_struct_body read_const read_global read_globals read_param read_more_params read_params read_typedef read_tag read_head read_void read_outer read_top read_file read_tree
bad28 = refl

bad29 : seen (codes "int" ∷ codes "f" ∷ codes "(" ∷ codes "void" ∷ codes ")" ∷ codes "{" ∷ codes "x" ∷ codes "=" ∷ codes "(" ∷ codes "int" ∷ codes ")" ∷ codes "malloc" ∷ codes "(" ∷ codes "3" ∷ codes ")" ∷ codes ";" ∷ codes "}" ∷ []) ≡ (false, 10)
unfolding term_of same oper_of takes may_end advance read_posts read_post read_tail read_level read_unary read_base read_unit read_size read_more_args read_args read_call read_right read_changed read_simple read_declr read_declrs read_decl read_free read_gap read_test read_for_start read_for_test read_for_step read_for_head read_pieces read_block read_body read_arm read_else read_branch read_while read_for read_return read_plain_item read_item read_field_names read_fields read_struct_body read_const read_global read_globals read_param read_more_params read_params read_typedef read_tag read_head read_void read_outer read_top read_file read_tree
bad29 = refl

bad30 : seen (codes "int" ∷ codes "f" ∷ codes "(" ∷ codes "void" ∷ codes ")" ∷ codes "{" ∷ codes "x" ∷ codes "=" ∷ codes "malloc" ∷ codes "(" ∷ codes "3" ∷ codes ")" ∷ codes ";" ∷ codes "}" ∷ []) ≡ (false, 11)
unfolding term_of same oper_of takes may_end advance read_posts read_post read_tail read_level read_unary read_base read_unit read_size read_more_args read_args read_call read_right read_changed read_simple read_declr read_declrs read_decl read_free read_gap read_test read_for_start read_for_test read_for_step read_for_head read_pieces read_block read_body read_arm read_else read_branch read_while read_for read_return read_plain_item read_item read_field_names read_fields read_struct_body read_const read_global read_globals read_param read_more_params read_params read_typedef read_tag read_head read_void read_outer read_top read_file read_tree
bad30 = refl

bad31 : seen (codes "int" ∷ codes "f" ∷ codes "(" ∷ codes "void" ∷ codes ")" ∷ codes "{" ∷ codes "x" ∷ codes "=" ∷ codes "malloc" ∷ codes "(" ∷ codes "3" ∷ codes "+" ∷ codes "4" ∷ codes ")" ∷ codes ";" ∷ codes "}" ∷ []) ≡ (false, 11)
unfolding term_of same oper_of takes may_end advance read_posts read_post read_tail read_level read_unary read_base read_unit read_size read_more_args read_args read_call read_right read_changed read_simple read_declr read_declrs read_decl read_free read_gap read_test read_for_start read_for_test read_for_step read_for_head read_pieces read_block read_body read_arm read_else read_branch read_while read_for read_return read_plain_item read_item read_field_names read_fields read_struct_body read_const read_global read_globals read_param read_more_params read_params read_typedef read_tag read_head read_void read_outer read_top read_file read_tree
bad31 = refl

bad32 : seen (codes "int" ∷ codes "f" ∷ codes "(" ∷ codes "void" ∷ codes ")" ∷ codes "{" ∷ codes "x" ∷ codes "=" ∷ codes "malloc" ∷ codes "(" ∷ codes "sizeof" ∷ codes "(" ∷ codes "int" ∷ codes ")" ∷ codes "*" ∷ codes "sizeof" ∷ codes "(" ∷ codes "int" ∷ codes ")" ∷ codes ")" ∷ codes ";" ∷ codes "}" ∷ []) ≡ (false, 15)
unfolding term_of same oper_of takes may_end advance read_posts read_post read_tail read_level read_unary read_base read_unit read_size read_more_args read_args read_call read_right read_changed read_simple read_declr read_declrs read_decl read_free read_gap read_test read_for_start read_for_test read_for_step read_for_head read_pieces read_block read_body read_arm read_else read_branch read_while read_for read_return read_plain_item read_item read_field_names read_fields read_struct_body read_const read_global read_globals read_param read_more_params read_params read_typedef read_tag read_head read_void read_outer read_top read_file read_tree
bad32 = refl

bad33 : seen (codes "int" ∷ codes "f" ∷ codes "(" ∷ codes "void" ∷ codes ")" ∷ codes "{" ∷ codes "x" ∷ codes "=" ∷ codes "malloc" ∷ codes "(" ∷ codes "3" ∷ codes "*" ∷ codes "sizeof" ∷ codes "(" ∷ codes "int" ∷ codes ")" ∷ codes "*" ∷ codes "4" ∷ codes ")" ∷ codes ";" ∷ codes "}" ∷ []) ≡ (false, 16)
unfolding term_of same oper_of takes may_end advance read_posts read_post read_tail read_level read_unary read_base read_unit read_size read_more_args read_args read_call read_right read_changed read_simple read_declr read_declrs read_decl read_free read_gap read_test read_for_start read_for_test read_for_step read_for_head read_pieces read_block read_body read_arm read_else read_branch read_while read_for read_return read_plain_item read_item read_field_names read_fields read_struct_body read_const read_global read_globals read_param read_more_params read_params read_typedef read_tag read_head read_void read_outer read_top read_file read_tree
bad33 = refl

bad34 : seen (codes "int" ∷ codes "f" ∷ codes "(" ∷ codes "void" ∷ codes ")" ∷ codes "{" ∷ codes "x" ∷ codes "=" ∷ codes "sizeof" ∷ codes "(" ∷ codes "int" ∷ codes ")" ∷ codes ";" ∷ codes "}" ∷ []) ≡ (false, 8)
unfolding term_of same oper_of takes may_end advance read_posts read_post read_tail read_level read_unary read_base read_unit read_size read_more_args read_args read_call read_right read_changed read_simple read_declr read_declrs read_decl read_free read_gap read_test read_for_start read_for_test read_for_step read_for_head read_pieces read_block read_body read_arm read_else read_branch read_while read_for read_return read_plain_item read_item read_field_names read_fields read_struct_body read_const read_global read_globals read_param read_more_params read_params read_typedef read_tag read_head read_void read_outer read_top read_file read_tree
bad34 = refl

bad35 : seen (codes "int" ∷ codes "f" ∷ codes "(" ∷ codes "void" ∷ codes ")" ∷ codes "{" ∷ codes "else" ∷ codes "}" ∷ []) ≡ (false, 6)
unfolding term_of same oper_of takes may_end advance read_posts read_post read_tail read_level read_unary read_base read_unit read_size read_more_args read_args read_call read_right read_changed read_simple read_declr read_declrs read_decl read_free read_gap read_test read_for_start read_for_test read_for_step read_for_head read_pieces read_block read_body read_arm read_else read_branch read_while read_for read_return read_plain_item read_item read_field_names read_fields read_struct_body read_const read_global read_globals read_param read_more_params read_params read_typedef read_tag read_head read_void read_outer read_top read_file read_tree
bad35 = refl

bad36 : seen (codes "int" ∷ codes "f" ∷ codes "(" ∷ codes "void" ∷ codes ")" ∷ codes "{" ∷ codes "if" ∷ codes "(" ∷ codes "x" ∷ codes ")" ∷ codes "}" ∷ []) ≡ (false, 10)
unfolding term_of same oper_of takes may_end advance read_posts read_post read_tail read_level read_unary read_base read_unit read_size read_more_args read_args read_call read_right read_changed read_simple read_declr read_declrs read_decl read_free read_gap read_test read_for_start read_for_test read_for_step read_for_head read_pieces read_block read_body read_arm read_else read_branch read_while read_for read_return read_plain_item read_item read_field_names read_fields read_struct_body read_const read_global read_globals read_param read_more_params read_params read_typedef read_tag read_head read_void read_outer read_top read_file read_tree
bad36 = refl

bad37 : seen (codes "int" ∷ codes "f" ∷ codes "(" ∷ codes "void" ∷ codes ")" ∷ codes "{" ∷ codes "if" ∷ codes "(" ∷ codes "x" ∷ codes ")" ∷ codes ";" ∷ codes "else" ∷ codes "else" ∷ []) ≡ (false, 12)
unfolding term_of same oper_of takes may_end advance read_posts read_post read_tail read_level read_unary read_base read_unit read_size read_more_args read_args read_call read_right read_changed read_simple read_declr read_declrs read_decl read_free read_gap read_test read_for_start read_for_test read_for_step read_for_head read_pieces read_block read_body read_arm read_else read_branch read_while read_for read_return read_plain_item read_item read_field_names read_fields read_struct_body read_const read_global read_globals read_param read_more_params read_params read_typedef read_tag read_head read_void read_outer read_top read_file read_tree
bad37 = refl

bad38 : seen (codes "int" ∷ codes "f" ∷ codes "(" ∷ codes "void" ∷ codes ")" ∷ codes "{" ∷ codes "for" ∷ codes "(" ∷ codes "f" ∷ codes "(" ∷ codes ")" ∷ codes ";" ∷ codes ";" ∷ codes ")" ∷ codes ";" ∷ codes "}" ∷ []) ≡ (false, 9)
unfolding term_of same oper_of takes may_end advance read_posts read_post read_tail read_level read_unary read_base read_unit read_size read_more_args read_args read_call read_right read_changed read_simple read_declr read_declrs read_decl read_free read_gap read_test read_for_start read_for_test read_for_step read_for_head read_pieces read_block read_body read_arm read_else read_branch read_while read_for read_return read_plain_item read_item read_field_names read_fields read_struct_body read_const read_global read_globals read_param read_more_params read_params read_typedef read_tag read_head read_void read_outer read_top read_file read_tree
bad38 = refl

bad39 : seen (codes "int" ∷ codes "f" ∷ codes "(" ∷ codes "void" ∷ codes ")" ∷ codes "{" ∷ codes "for" ∷ codes "(" ∷ codes ";" ∷ codes ";" ∷ codes "f" ∷ codes "(" ∷ codes ")" ∷ codes ")" ∷ codes ";" ∷ codes "}" ∷ []) ≡ (false, 11)
unfolding term_of same oper_of takes may_end advance read_posts read_post read_tail read_level read_unary read_base read_unit read_size read_more_args read_args read_call read_right read_changed read_simple read_declr read_declrs read_decl read_free read_gap read_test read_for_start read_for_test read_for_step read_for_head read_pieces read_block read_body read_arm read_else read_branch read_while read_for read_return read_plain_item read_item read_field_names read_fields read_struct_body read_const read_global read_globals read_param read_more_params read_params read_typedef read_tag read_head read_void read_outer read_top read_file read_tree
bad39 = refl

bad40 : seen (codes "int" ∷ codes "f" ∷ codes "(" ∷ codes "void" ∷ codes ")" ∷ codes "{" ∷ codes "for" ∷ codes "(" ∷ codes ";" ∷ codes ";" ∷ codes "int" ∷ []) ≡ (false, 10)
unfolding term_of same oper_of takes may_end advance read_posts read_post read_tail read_level read_unary read_base read_unit read_size read_more_args read_args read_call read_right read_changed read_simple read_declr read_declrs read_decl read_free read_gap read_test read_for_start read_for_test read_for_step read_for_head read_pieces read_block read_body read_arm read_else read_branch read_while read_for read_return read_plain_item read_item read_field_names read_fields read_struct_body read_const read_global read_globals read_param read_more_params read_params read_typedef read_tag read_head read_void read_outer read_top read_file read_tree
bad40 = refl

bad41 : seen (codes "int" ∷ codes "f" ∷ codes "(" ∷ codes "void" ∷ codes ")" ∷ codes "{" ∷ codes "return" ∷ codes "x" ∷ codes "return" ∷ []) ≡ (false, 8)
unfolding term_of same oper_of takes may_end advance read_posts read_post read_tail read_level read_unary read_base read_unit read_size read_more_args read_args read_call read_right read_changed read_simple read_declr read_declrs read_decl read_free read_gap read_test read_for_start read_for_test read_for_step read_for_head read_pieces read_block read_body read_arm read_else read_branch read_while read_for read_return read_plain_item read_item read_field_names read_fields read_struct_body read_const read_global read_globals read_param read_more_params read_params read_typedef read_tag read_head read_void read_outer read_top read_file read_tree
bad41 = refl

bad42 : seen (codes "int" ∷ codes "f" ∷ codes "(" ∷ codes "void" ∷ codes ")" ∷ codes "{" ∷ codes "free" ∷ codes "(" ∷ codes ")" ∷ codes ";" ∷ codes "}" ∷ []) ≡ (false, 8)
unfolding term_of same oper_of takes may_end advance read_posts read_post read_tail read_level read_unary read_base read_unit read_size read_more_args read_args read_call read_right read_changed read_simple read_declr read_declrs read_decl read_free read_gap read_test read_for_start read_for_test read_for_step read_for_head read_pieces read_block read_body read_arm read_else read_branch read_while read_for read_return read_plain_item read_item read_field_names read_fields read_struct_body read_const read_global read_globals read_param read_more_params read_params read_typedef read_tag read_head read_void read_outer read_top read_file read_tree
bad42 = refl

bad43 : seen (codes "int" ∷ codes "f" ∷ codes "(" ∷ codes "void" ∷ codes ")" ∷ codes "{" ∷ codes "free" ∷ codes "(" ∷ codes "f" ∷ codes "(" ∷ codes ")" ∷ codes ")" ∷ codes ";" ∷ codes "}" ∷ []) ≡ (false, 9)
unfolding term_of same oper_of takes may_end advance read_posts read_post read_tail read_level read_unary read_base read_unit read_size read_more_args read_args read_call read_right read_changed read_simple read_declr read_declrs read_decl read_free read_gap read_test read_for_start read_for_test read_for_step read_for_head read_pieces read_block read_body read_arm read_else read_branch read_while read_for read_return read_plain_item read_item read_field_names read_fields read_struct_body read_const read_global read_globals read_param read_more_params read_params read_typedef read_tag read_head read_void read_outer read_top read_file read_tree
bad43 = refl

bad44 : seen (codes "int" ∷ codes "f" ∷ codes "(" ∷ codes "void" ∷ codes ")" ∷ codes "{" ∷ codes "f" ∷ codes "(" ∷ codes "1" ∷ codes "," ∷ codes ")" ∷ codes ";" ∷ codes "}" ∷ []) ≡ (false, 10)
unfolding term_of same oper_of takes may_end advance read_posts read_post read_tail read_level read_unary read_base read_unit read_size read_more_args read_args read_call read_right read_changed read_simple read_declr read_declrs read_decl read_free read_gap read_test read_for_start read_for_test read_for_step read_for_head read_pieces read_block read_body read_arm read_else read_branch read_while read_for read_return read_plain_item read_item read_field_names read_fields read_struct_body read_const read_global read_globals read_param read_more_params read_params read_typedef read_tag read_head read_void read_outer read_top read_file read_tree
bad44 = refl

bad45 : seen (codes "int" ∷ codes "f" ∷ codes "(" ∷ codes "void" ∷ codes ")" ∷ codes "{" ∷ codes "printf" ∷ codes "(" ∷ codes "x" ∷ codes ")" ∷ codes ";" ∷ codes "}" ∷ []) ≡ (false, 8)
unfolding term_of same oper_of takes may_end advance read_posts read_post read_tail read_level read_unary read_base read_unit read_size read_more_args read_args read_call read_right read_changed read_simple read_declr read_declrs read_decl read_free read_gap read_test read_for_start read_for_test read_for_step read_for_head read_pieces read_block read_body read_arm read_else read_branch read_while read_for read_return read_plain_item read_item read_field_names read_fields read_struct_body read_const read_global read_globals read_param read_more_params read_params read_typedef read_tag read_head read_void read_outer read_top read_file read_tree
bad45 = refl

bad46 : seen (codes "int" ∷ codes "f" ∷ codes "(" ∷ codes "void" ∷ codes ")" ∷ codes "{" ∷ codes "getchar" ∷ codes "(" ∷ codes "1" ∷ codes ")" ∷ codes ";" ∷ codes "}" ∷ []) ≡ (false, 8)
unfolding term_of same oper_of takes may_end advance read_posts read_post read_tail read_level read_unary read_base read_unit read_size read_more_args read_args read_call read_right read_changed read_simple read_declr read_declrs read_decl read_free read_gap read_test read_for_start read_for_test read_for_step read_for_head read_pieces read_block read_body read_arm read_else read_branch read_while read_for read_return read_plain_item read_item read_field_names read_fields read_struct_body read_const read_global read_globals read_param read_more_params read_params read_typedef read_tag read_head read_void read_outer read_top read_file read_tree
bad46 = refl

bad47 : seen (codes "int" ∷ codes "f" ∷ codes "(" ∷ codes "void" ∷ codes ")" ∷ codes "{" ∷ codes "x" ∷ codes "=" ∷ codes "3" ∷ codes ";" ∷ []) ≡ (false, 10)
unfolding term_of same oper_of takes may_end advance read_posts read_post read_tail read_level read_unary read_base read_unit read_size read_more_args read_args read_call read_right read_changed read_simple read_declr read_declrs read_decl read_free read_gap read_test read_for_start read_for_test read_for_step read_for_head read_pieces read_block read_body read_arm read_else read_branch read_while read_for read_return read_plain_item read_item read_field_names read_fields read_struct_body read_const read_global read_globals read_param read_more_params read_params read_typedef read_tag read_head read_void read_outer read_top read_file read_tree
bad47 = refl
