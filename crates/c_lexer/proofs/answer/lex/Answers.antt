use Rattle.c_lexer.proofs.Answered.{ok_answered}
use Rattle.c_lexer.proofs.Total.{reading_of}
use Rattle.c_lexer.proofs.Unique.{reading_unique, gives_for, is_answer_for}
use Rattle.c_lexer.proofs.answer.lex.Goals as goal

pub returns-clause-read : goal.returns-clause-read
returns-clause-read c = is_answer_for c.args.bytes.now c.in_ok-reading.reading c.answer_for.result c.in_ok-reading.ensures c.answer_for.ensures

pub returns-clause-only : goal.returns-clause-only
returns-clause-only c = λ r reads. gives_for c.args.bytes.now c.in_ok-reading.reading r c.answer_for.result c.in_ok-reading.ensures c.answer_for.ensures reads

pub returns-clause-tokens : goal.returns-clause-tokens
returns-clause-tokens c = ok_answered c.args.bytes.now c.answer_for.result (is_answer_for c.args.bytes.now c.in_ok-reading.reading c.answer_for.result c.in_ok-reading.ensures c.answer_for.ensures)

pub returns-in_err-reading-clause-some : goal.returns-in_err-reading-clause-some
returns-in_err-reading-clause-some c = reading_of c.args.bytes.now

pub returns-clause-some : goal.returns-clause-some
returns-clause-some c = reading_of c.args.bytes.now

pub returns-in_err-reading-clause-one : goal.returns-in_err-reading-clause-one
returns-in_err-reading-clause-one c = reading_unique c.args.bytes.now

pub returns-clause-one : goal.returns-clause-one
returns-clause-one c = reading_unique c.args.bytes.now
