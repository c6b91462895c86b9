-- The tree that is read is the only one, and where none is read the recogniser tells the place.
use Rattle.std.proofs.Common.{rules, ◌≡◌, Some, None}
use Rattle.c_parser.specs.ReadFile.{read_tree}
use Rattle.c_parser.specs.Recogniser.{place_of}
use Rattle.c_parser.proofs.Answered.{tree_answered, place_answered}
use Rattle.c_parser.proofs.parser.parse.Goals as goal

pub returns-in-Ok : goal.returns-in-Ok
returns-in-Ok c =
    let read : read_tree c.args.tokens.now ≡ Some c.in-Ok.tree = search rules in
    tree_answered c.in-Ok.tree c.args.tokens.now read

pub returns-in_ok-place_of-in-Err-NotHere : goal.returns-in_ok-place_of-in-Err-NotHere
returns-in_ok-place_of-in-Err-NotHere c =
    let read : read_tree c.args.tokens.now ≡ None = search rules in
    let place : c.in_ok-place_of-in-Err-NotHere.field-0 ≡ place_of c.args.tokens.now = search rules in
    place_answered c.in_ok-place_of-in-Err-NotHere.field-0 c.args.tokens.now read place
