-- A list that is gathered from its front.
use Rattle.std.specs.Prelude.{List, ◌++◌, Result, Ok, Err}
use Rattle.c_meaning.specs.declared.machine.Stop.{Stop}

-- what was gathered so far, and behind it what is still to come, if that comes
abbrev pub behind : {A : Type 0} → List A → Result (List A) Stop → Result (List A) Stop
behind xs (Ok ys) = Ok (xs ++ ys)
behind xs (Err e) = Err e
