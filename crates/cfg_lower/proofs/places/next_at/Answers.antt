use Rattle.std.proofs.Common.{◌≡◌, ℕ, Option, ap, ◌∙◌}
use Rattle.std.proofs.lemmas.Result.{IfOk-weaker}
use Rattle.c_tree.specs.declared.program.FunDef.{FunDef}
use Rattle.c_meaning.specs.Place.{next, next_in_fun, onward_path}
use Rattle.cfg_lower.proofs.places.next_at.Goals as goal

pub returns-in_ok-onward-in-Some : goal.returns-in_ok-onward-in-Some
returns-in_ok-onward-in-Some c =
    let body = c.in-Some.def.now.body in
    IfOk-weaker c.path_onward.result _ (λ path. path ≡ next_in_fun c.args.program.now c.args.fun _ c.args.said c.args.path.now)
    (λ path behind.
    behind
    ∙ ap (onward_path body) c.in_ok-onward-in-Some.ensures
    ∙ ap (λ (s : Option ℕ). onward_path body (next s c.args.said c.args.path.now body)) c.requires
    ∙ ap (λ (d : Option FunDef). next_in_fun c.args.program.now c.args.fun d c.args.said c.args.path.now) c.in-Some.ensures.value)
    c.path_onward.ensures
