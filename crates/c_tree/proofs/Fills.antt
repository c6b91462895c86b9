-- Laws of `fill` and `skeleton`.
use Rattle.std.proofs.Common.{◌≡◌, List, [], ◌∷◌, map, refl, ap, ◌∙◌}
use Rattle.std.proofs.lemmas.List.{map-id}
use Rattle.c_tree.specs.Fill.{regapped_block, regapped_fun, regapped, emptied, filled, skeleton, fill}
use Rattle.c_tree.specs.Copies.{regapped_item, regapped_arm, regapped_piece}
use Rattle.c_tree.proofs.Rebuilds.{Maps, Layers, Commutes, Joins, rebuilt, rebuilt_rebuilds, as_it_stands, no_change, stands_rebuilds, after, after_rebuilds, same_item, same_arm, same_block, same_piece}
use Rattle.c_tree.specs.declared.choice.Choice.{Choice}
use Rattle.c_tree.specs.declared.program.Block.{Block}
use Rattle.c_tree.specs.declared.program.Piece.{Piece}
use Rattle.c_tree.specs.declared.program.Item.{Item}
use Rattle.c_tree.specs.declared.program.Arm.{Arm}
use Rattle.c_tree.specs.declared.program.Gap.{Gap}
use Rattle.c_tree.specs.declared.program.FunDef.{FunDef}
use Rattle.c_tree.specs.declared.program.Program.{Program}

-- what changes the gaps alone
abbrev pub gap_layers : (Gap → Gap) → Layers
gap_layers f = record { item = λ x. x; arm = λ x. x; block = λ x. record x { last_gap = f x.last_gap }; piece = λ x. record x { gap = f x.gap } }

pub gaps_commute : (g : Maps) (f : Gap → Gap) → Commutes g (gap_layers f)
gaps_commute g f = record { item = λ x. refl; arm = λ x. refl; block = λ x. refl; piece = λ x. refl }

-- each gap as it stands

pub kept_block : (b : Block) → regapped_block (λ g. g) b ≡ b
kept_block = same_block (rebuilt no_change) as_it_stands no_change (rebuilt_rebuilds no_change) stands_rebuilds

pub kept_piece : (p : Piece) → regapped_piece (λ g. g) p ≡ p
kept_piece = same_piece (rebuilt no_change) as_it_stands no_change (rebuilt_rebuilds no_change) stands_rebuilds

pub kept_item : (i : Item) → regapped_item (λ g. g) i ≡ i
kept_item = same_item (rebuilt no_change) as_it_stands no_change (rebuilt_rebuilds no_change) stands_rebuilds

pub kept_arm : (a : Arm) → regapped_arm (λ g. g) a ≡ a
kept_arm = same_arm (rebuilt no_change) as_it_stands no_change (rebuilt_rebuilds no_change) stands_rebuilds

pub kept_fun : (d : FunDef) → regapped_fun (λ g. g) d ≡ d
kept_fun d = ap (λ (b : Block). record d { body = b }) (kept_block d.body)

-- f after g on each element is h
pub map_joined : {A B C : Type 0} (f : B → C) (g : A → B) (h : A → C) → ((x : A) → f (g x) ≡ h x) → (xs : List A) → map f (map g xs) ≡ map h xs
map_joined f g h e [] = refl
map_joined {C} f g h e (x ∷ xs) = ap (λ (y : C). y ∷ map f (map g xs)) (e x) ∙ ap (λ (ys : List C). h x ∷ ys) (map_joined f g h e xs)

pub map_same : {A B : Type 0} (f h : A → B) → ((x : A) → f x ≡ h x) → (xs : List A) → map f xs ≡ map h xs
map_same f h e [] = refl
map_same {B} f h e (x ∷ xs) = ap (λ (y : B). y ∷ map f xs) (e x) ∙ ap (λ (ys : List B). h x ∷ ys) (map_same f h e xs)

pub kept : (p : Program) → regapped (λ g. g) p ≡ p
kept p = ap (λ (fs : List FunDef). record p { funs = fs }) (map_same (regapped_fun (λ g. g)) (λ d. d) kept_fun p.funs ∙ map-id p.funs)

-- f of g of each gap is h of it

gaps_join : (f g h : Gap → Gap) → ((x : Gap) → f (g x) ≡ h x) → Joins (gap_layers f) (gap_layers g) (gap_layers h)
gaps_join f g h e = record {
  item = λ x. refl;
  arm = λ x. refl;
  block = λ x. ap (λ (y : Gap). record x { last_gap = y }) (e x.last_gap);
  piece = λ x. ap (λ (y : Gap). record x { gap = y }) (e x.gap);
}

pub regapped_block_twice : (f g h : Gap → Gap) → ((x : Gap) → f (g x) ≡ h x) → (b : Block) → regapped_block f (regapped_block g b) ≡ regapped_block h b
regapped_block_twice f g h e = same_block (after (rebuilt (gap_layers f)) (rebuilt (gap_layers g))) (rebuilt (gap_layers h)) (gap_layers h)
    (after_rebuilds (rebuilt (gap_layers f)) (rebuilt (gap_layers g)) (gap_layers f) (gap_layers g) (gap_layers h) (rebuilt_rebuilds (gap_layers f)) (rebuilt_rebuilds (gap_layers g)) (gaps_commute (rebuilt (gap_layers f)) g) (gaps_join f g h e))
    (rebuilt_rebuilds (gap_layers h))

pub regapped_twice : (f g h : Gap → Gap) → ((x : Gap) → f (g x) ≡ h x) → (p : Program) → regapped f (regapped g p) ≡ regapped h p
regapped_twice f g h e p =
    let same = λ (d : FunDef). ap (λ (b : Block). record d { body = b }) (regapped_block_twice f g h e d.body) in
    ap (λ (fs : List FunDef). record p { funs = fs }) (map_joined (regapped_fun f) (regapped_fun g) (regapped_fun h) same p.funs)

-- to fill changes no skeleton
pub skeleton_fill : (p : Program) (s : Choice) → skeleton (fill p s) ≡ skeleton p
skeleton_fill p s = regapped_twice emptied (filled s.puts) emptied (λ g. refl) p

pub skeleton_skeleton : (p : Program) → skeleton (skeleton p) ≡ skeleton p
skeleton_skeleton p = regapped_twice emptied emptied emptied (λ g. refl) p

-- the frees that stood before make no difference
pub fill_skeleton : (p : Program) (s : Choice) → fill (skeleton p) s ≡ fill p s
fill_skeleton p s = regapped_twice (filled s.puts) emptied (filled s.puts) (λ g. refl) p

pub fill_fill : (p : Program) (s t : Choice) → fill (fill p s) t ≡ fill p t
fill_fill p s t = regapped_twice (filled t.puts) (filled s.puts) (filled t.puts) (λ g. refl) p

pub fill_none : (p : Program) → fill p (record { puts = [] }) ≡ skeleton p
fill_none p = refl
