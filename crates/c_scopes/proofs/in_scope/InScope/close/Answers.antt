use Rattle.std.proofs.Common.{rules, ◌≡◌, ◌∷◌, [], ◌++◌, List, ℕ, ap, take, ◌∙◌}
use Rattle.c_scopes.specs.Turns.{scope_of}
use Rattle.c_scopes.proofs.TurnLaws.{pops}
use Rattle.c_scopes.proofs.in_scope.InScope.close.Goals as goal

pub returns-in-Some : goal.returns-in-Some
returns-in-Some c =
    let s = c.args.self.now in
    let is : s.outer ≡ c.pop.new.self ++ c.in-Some.n ∷ [] = search rules in
    let kept : c.forget.new.vars ≡ take c.in-Some.n s.vars = search rules in
    ap (λ (xs : List ℕ). scope_of xs c.pop.new.self) kept ∙ pops s.outer c.pop.new.self c.in-Some.n is s.vars
