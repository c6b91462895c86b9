-- What comes later in a file: the variables are those of later functions or stand behind an offset, and so do the bodies of structs.
use Rattle.std.proofs.Common.{◌≡◌, ℕ, ◌+◌, ◌<◌, ◌≤◌, ℤ, Bool, true, false, ◌||◌, List, [], ◌∷◌, length, Option, Some, None, refl, ap, subst, ◌∙◌, arith, length-append}
use Rattle.std.specs.Prelude.{nat_le}
use Rattle.std.proofs.lemmas.Bool.{le-leb, leb-true}
use Rattle.c_tree.specs.declared.program.FunDef.{FunDef}
use Rattle.c_tree.specs.declared.program.Home.{Home}
use Rattle.c_tree.specs.declared.program.Home.TheVariants as home
use Rattle.c_tree.specs.declared.program.VarDef.{VarDef}
use Rattle.c_tree.specs.declared.tree.Block.{Block}
use Rattle.c_tree.specs.declared.tree.Body.{Body}
use Rattle.c_tree.specs.declared.tree.GlobalDecl.{GlobalDecl}
use Rattle.c_tree.specs.declared.tree.Head.{Head}
use Rattle.c_tree.specs.declared.tree.Spec.{Spec}
use Rattle.c_tree.specs.declared.tree.Top.{Top}
use Rattle.c_tree.specs.declared.tree.Top.TheVariants as top
use Rattle.c_tree.specs.declared.tree.Word.{Word}
use Rattle.c_parser.specs.Offsets.{AllHave, AnyHas, BodyHas, GlobalHas, InOrder, SpecHas, TopHas, WordHas}
use Rattle.c_scopes.specs.ScopeAt.{is_from}
use Rattle.c_types.specs.declared.scope.Returned.{Returned}
use Rattle.c_types.specs.declared.scope.StructRow.{StructRow}
use Rattle.c_types.specs.declared.scope.Walk.{Walk}
use Rattle.c_types.specs.Functions.{walked_fun, walked_proto}
use Rattle.c_types.specs.Program.{walked_from, walked_top}
use Rattle.c_types.specs.Scopes.{naming, word_or}
use Rattle.c_types.proofs.Functionwise.{definition_funs}
use Rattle.c_types.proofs.Passing.{made_of}
use Rattle.c_types.proofs.Rows.{all_weaker}
use Rattle.source_patcher.proofs.FileAdds.{Adds, AreAdded, Came, adds_both, adds_itself, function_adds, globals_add, heading_adds, struct_adds}
use Rattle.source_patcher.proofs.FramedTops.{globals_still, heading_framed, struct_still}

-- function f or a later one declares the variable, or it stands behind an offset
abbrev pub is_late : ℕ → ℕ → VarDef → Bool
is_late f from v = is_from f v.home || nat_le from v.at

abbrev pub IsBehind : ℕ → StructRow → ℕ → Type 0
IsBehind from row b = from ≤ b

-- from one walk to another only what is late comes
abbrev pub Later : ℕ → ℕ → Walk → Walk → Type 0
Later f from w u = Adds (is_late f from) (IsBehind from) w u

-- of a later function

from_earlier : (f g : ℕ) → f ≤ g → (h : Home) → is_from g h ≡ true → is_from f h ≡ true
from_earlier f g le (home.Global n) is = absurd cc
from_earlier f g le (home.Param k) is = le-leb f k (let on = leb-true g k is in omega (arith, le, on))
from_earlier f g le (home.Local k) is = le-leb f k (let on = leb-true g k is in omega (arith, le, on))
from_earlier f g le (home.Result k) is = le-leb f k (let on = leb-true g k is in omega (arith, le, on))

own_late : (f g from : ℕ) → f ≤ g → (v : VarDef) → is_from g v.home ≡ true → is_late f from v ≡ true
own_late f g from le v is = ap (λ (b : Bool). b || nat_le from v.at) (from_earlier f g le v.home is)

-- behind an earlier offset

late_sooner : (f from to : ℕ) → from ≤ to → (v : VarDef) → is_late f to v ≡ true → is_late f from v ≡ true
late_sooner f from to le v is = by_function (is_from f v.home) is
  where
    by_function : (b : Bool) → (b || nat_le to v.at) ≡ true → (b || nat_le from v.at) ≡ true
    by_function true is = refl
    by_function false is = le-leb from v.at (let on = leb-true to v.at is in omega (arith, le, on))

came_sooner : (from to : ℕ) → from ≤ to → (o : Option StructRow) (row : StructRow) (b : ℕ) → Came (IsBehind to) o row b → Came (IsBehind from) o row b
came_sooner from to le o row b (Came.before is) = Came.before is
came_sooner from to le o row b (Came.new on) = Came.new (omega (arith, le, on))

later_sooner : (f from to : ℕ) → from ≤ to → (w u : Walk) → Later f to w u → Later f from w u
later_sooner f from to le w u a = record {
  more = a.more;
  vars = a.vars;
  all = all_weaker (is_late f to) (is_late f from) (late_sooner f from to le) a.more a.all;
  bodies = λ s row b is has. came_sooner from to le _ row b (a.bodies s row b is has);
  names = a.names;
}

-- the functions so far stay

pub struct_funs : (tag : Option Word) (body : Option Body) (alias : Option Word) (w : Walk) → (walked_top w (top.Struct tag body alias)).funs ≡ w.funs
struct_funs tag body alias w = ap (λ (u : Walk). u.funs) (struct_still tag body alias w.funs w)

pub globals_funs : (ds : List GlobalDecl) (w : Walk) → (walked_top w (top.Globals ds)).funs ≡ w.funs
globals_funs ds w = ap (λ (u : Walk). u.funs) (globals_still ds w.funs w)

pub proto_funs : (h : Head) (w : Walk) → (walked_proto h w).funs ≡ w.funs
proto_funs h w = ap (λ (r : Walk × Returned). r.0.funs) (heading_framed h false w.funs w)

as_many : (f : ℕ) (w u : Walk) → u.funs ≡ w.funs → f ≤ length w.funs → f ≤ length u.funs
as_many f w u same le = let long : length u.funs ≡ length w.funs = ap (λ (ds : List FunDef). length ds) same in omega arith

-- a function more
pub one_more : (h : Head) (b : Block) (w : Walk) → length (walked_fun h b w).funs ≡ length w.funs + 1
one_more h b w = ap (λ (ds : List FunDef). length ds) (definition_funs h b w) ∙ length-append w.funs (made_of h b w ∷ [])

-- the declarations of a file, each with offsets before those of the next
abbrev pub AreOrdered : (ℤ → Type 0) → ℕ → List Top → Type 0
AreOrdered Q from [] = Unit {0}
AreOrdered Q from (x ∷ xs) = (to : ℕ) × (from ≤ to) × TopHas (λ at. (from ≤ at) × (at < to)) Q x × AreOrdered Q to xs

pub ordered : (Q : ℤ → Type 0) (from : ℕ) (xs : List Top) → InOrder Q from xs → AreOrdered Q from xs
ordered Q _ _ InOrder.ended = tt
ordered Q _ _ (InOrder.more {to = to} {others = others} on has rest) = (to, on, has, ordered Q to others rest)

-- a name's offset is one of its declaration
named_at : (P : ℕ → Type 0) (at : ℕ) (o : Option Word) → P at → AnyHas (WordHas P) o → P (word_or o at)
named_at P at None here has = here
named_at P at (Some n) here has = has

pub naming_has : (P : ℕ → Type 0) (d : Spec) → SpecHas P d → P (naming d)
naming_has P d has = named_at P d.at d.name has.0 has.2

module _ (Q : ℤ → Type 0) (f from to : ℕ) where
  abbrev IsWithin : ℕ → Type 0
  IsWithin at = (from ≤ at) × (at < to)

  globals_late : (ds : List GlobalDecl) → AllHave (GlobalHas IsWithin Q) ds → AreAdded (is_late f from) (IsBehind from) ds
  globals_late [] has = tt
  globals_late (d ∷ ds) has = (λ t. le-leb from (naming d.spec) (naming_has IsWithin d.spec has.0.0).0, globals_late ds has.1)

  body_late : (o : Option Body) → AnyHas (BodyHas IsWithin) o → (b : Body) → o ≡ Some b → from ≤ b.at
  body_late None has b is = absurd cc
  body_late (Some c) has b is = let same : c ≡ b = cc in subst (λ (x : Body). from ≤ x.at) same has.0.0

  top_later : (x : Top) → TopHas IsWithin Q x → (w : Walk) → f ≤ length w.funs → Later f from w (walked_top w x)
  top_later (top.Struct tag body alias) has w le =
      struct_adds (is_late f from) (IsBehind from) (length w.funs) (own_late f (length w.funs) from le) tag body alias w (body_late body has.1)
  top_later (top.Globals ds) has w le = globals_add (is_late f from) (IsBehind from) ds w (globals_late ds has)
  top_later (top.Proto h) has w le = heading_adds (is_late f from) (IsBehind from) (length w.funs) (own_late f (length w.funs) from le) h false w
  top_later (top.Fun h b) has w le = function_adds (is_late f from) (IsBehind from) h b w (own_late f (length w.funs) from le)

  more_funs : (x : Top) (w : Walk) → f ≤ length w.funs → f ≤ length (walked_top w x).funs
  more_funs (top.Struct tag body alias) w le = as_many f w (walked_top w (top.Struct tag body alias)) (struct_funs tag body alias w) le
  more_funs (top.Globals ds) w le = as_many f w (walked_top w (top.Globals ds)) (globals_funs ds w) le
  more_funs (top.Proto h) w le = as_many f w (walked_top w (top.Proto h)) (proto_funs h w) le
  more_funs (top.Fun h b) w le = let more : length (walked_fun h b w).funs ≡ length w.funs + 1 = one_more h b w in omega arith

-- what a definition adds is late at any offset
pub definition_later : (f from : ℕ) (h : Head) (b : Block) (w : Walk) → f ≤ length w.funs → Later f from w (walked_fun h b w)
definition_later f from h b w le = function_adds (is_late f from) (IsBehind from) h b w (own_late f (length w.funs) from le)

pub tops_later : (Q : ℤ → Type 0) (f from : ℕ) (xs : List Top) → AreOrdered Q from xs → (w : Walk) → f ≤ length w.funs → Later f from w (walked_from w xs)
tops_later Q f from [] order w le = adds_itself (is_late f from) (IsBehind from) w
tops_later Q f from (x ∷ xs) order w le =
    let to = order.0 in
    let v = walked_top w x in
    adds_both (is_late f from) (IsBehind from) w v (walked_from w (x ∷ xs)) (top_later Q f from to x order.2 w le)
    (later_sooner f from to order.1 v (walked_from v xs) (tops_later Q f to xs order.3 v (more_funs Q f from to x w le)))
