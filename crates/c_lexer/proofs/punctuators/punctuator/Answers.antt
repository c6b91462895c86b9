use Rattle.std.proofs.Common.{◌≡◌, None, take, sym, ◌∙◌, refl, arith}
use Rattle.c_lexer.specs.Words.{punctuator_kind}
use Rattle.c_lexer.proofs.Longest.{none_longer, none_from, none_of_nothing}
use Rattle.c_lexer.proofs.punctuators.punctuator.Goals as goal

pub loop-n-init : goal.loop-n-init
loop-n-init c = record {
  within = omega (arith, c.min-n.ensures);
  longer = λ m above within. none_longer c.args.rest.now m (omega (arith, c.min-n.ensures, c.most_bytes.ensures)) within;
}

pub loop-n-preserved : goal.loop-n-preserved
loop-n-preserved c =
    let here : punctuator_kind (take c.loop-n.n c.args.rest.now) ≡ None = sym c.punctuator_kind.ensures ∙ c.in_default.is in
    record {
      within = omega arith;
      longer = λ m above within. none_from c.args.rest.now c.loop-n.n here c.loop-n.invariant.longer m (omega arith) within;
    }

pub returns-clause-element : goal.returns-clause-element
returns-clause-element c = (
  refl,
  refl,
  λ m within. none_from c.args.rest.now 0 none_of_nothing (λ k above inside. c.loop-n.invariant.longer k (omega arith) inside) m (omega arith) within,
)
