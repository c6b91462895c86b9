-- Arguments one by one.
use Rattle.std.proofs.Common.{◌≡◌, ℕ, ◌+◌, ◌<◌, List, [], ◌∷◌, ◌++◌, length, get_or, drop, slice_get, sym, ap, ap₂, ◌∙◌, append-nil, append_assoc}
use Rattle.std.proofs.lemmas.List.{drop_more}
use Rattle.c_tree.specs.declared.expr.Expr.{Expr as Made}
use Rattle.c_tree.specs.declared.program.Ty.{Ty}
use Rattle.c_tree.specs.declared.tree.Arg.{Arg}
use Rattle.c_types.specs.Calls.{argument, arguments_from, before, before_others}
use Rattle.c_types.specs.Judged.{checked}
use Rattle.c_types.specs.declared.faults.Fault.{Fault}
use Rattle.c_types.specs.declared.judged.Checked.{Checked}
use Rattle.c_types.specs.declared.scope.Scope.{Scope}

before_more : (es : List Made) (fs : List Fault) (c : Checked Made) (rest : Checked (List Made))
    → before (es ++ c.made ∷ []) (fs ++ c.faults) rest ≡ before es fs (before_others c rest)
before_more es fs c rest = ap₂ checked (append_assoc es (c.made ∷ []) rest.made) (append_assoc fs c.faults rest.faults)

-- the arguments so far and the next one
pub argument_more : (s : Scope) (ts : List Ty) (args : List Arg) (i : ℕ) (a : Arg) (es es' : List Made) (fs fs' : List Fault) (c : Checked Made)
    → i < length args → a ≡ get_or args i a → c ≡ argument s (slice_get ts i) a → es' ≡ es ++ c.made ∷ [] → fs' ≡ fs ++ c.faults
    → before es' fs' (arguments_from s ts (i + 1) (drop (i + 1) args)) ≡ before es fs (arguments_from s ts i (drop i args))
argument_more s ts args i a es es' fs fs' c below is judged pushed appended =
    let rest = arguments_from s ts (i + 1) (drop (i + 1) args) in
    ap₂ (λ xs gs. before xs gs rest) pushed appended
    ∙ before_more es fs c rest
    ∙ ap (λ x. before es fs (before_others x rest)) (judged ∙ ap (argument s (slice_get ts i)) is)
    ∙ sym (ap (λ xs. before es fs (arguments_from s ts i xs)) (drop_more args i a below))

-- all arguments
pub arguments_end : (es : List Made) (fs : List Fault) → checked es fs ≡ before es fs (checked [] [])
arguments_end es fs = sym (ap₂ checked (append-nil es) (append-nil fs))
