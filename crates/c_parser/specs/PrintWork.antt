-- What is written, and what is left while an expression is printed: tokens and expressions in their rooms, of which the
-- last comes next.
use Rattle.std.specs.Prelude.{◌≡◌, ◌<◌, ℕ, ◌+◌, ◌*◌, Bool, true, false, List, [], ◌∷◌, ◌++◌, map, length, codes}
use Rattle.c_lexer.specs.declared.token.Kind.{Kind}
use Rattle.c_lexer.specs.declared.token.Token.{Token}
use Rattle.c_parser.specs.declared.work.Work.{Work}
use Rattle.c_parser.specs.declared.work.Work.TheVariants as work
use Rattle.c_parser.specs.Printed.{mark, printed_expr}

-- the kinds of tokens, which is all that contracts see of what is written
abbrev pub kinds : List Token → List Kind
kinds ts = map (λ t. t.kind) ts

-- what opens a group where one is needed, and what closes it

abbrev pub opening : Bool → List Kind
opening true = mark (codes "(") ∷ []
opening false = []

abbrev pub closing : Bool → List Kind
closing true = mark (codes ")") ∷ []
closing false = []

-- what is printed of work that is left, of the last first

abbrev pub printed_work : Work → List Kind
printed_work (work.Token kind) = kind ∷ []
printed_work (work.Whole expr room) = printed_expr room expr.now

abbrev pub printed_works : List Work → List Kind
printed_works [] = []
printed_works (w ∷ before) = printed_works before ++ printed_work w

-- more than the turns that it takes to print work that is left

abbrev pub work_weight : Work → ℕ
work_weight (work.Token kind) = 1
work_weight (work.Whole expr room) = 2 * length (printed_expr room expr.now)

abbrev pub weight : List Work → ℕ
weight [] = 0
weight (w ∷ before) = work_weight w + weight before

-- Of these tokens some are written and the others put off, and fewer turns are left than if all were put off.
pub record PutsOff (ks before after : List Kind) (rest rest_after : List Work) : Type 0 where
  pub printed : after ++ printed_works rest_after ≡ before ++ (ks ++ printed_works rest)
  pub lighter : weight rest_after < 2 * length ks + weight rest
