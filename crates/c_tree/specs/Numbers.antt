-- The numbers of variables and gaps, by their places in the text.
use Rattle.std.specs.Prelude.{◌≡◌, ℕ, ◌+◌, Bool, ℤ, List, [], ◌∷◌, ◌++◌, length, map, Option, Some, None, IsTrue}
use Rattle.std.specs.List.{flat_map, range_with_len}
use Rattle.c_tree.specs.Scopes.{sees_all}
use Rattle.c_tree.specs.declared.program.Arm.{Arm-F}
use Rattle.c_tree.specs.declared.program.Block.{Block, Block-F, fold-Block}
use Rattle.c_tree.specs.declared.program.Declr.{Declr}
use Rattle.c_tree.specs.declared.program.FunDef.{FunDef}
use Rattle.c_tree.specs.declared.program.Gap.{Gap}
use Rattle.c_tree.specs.declared.program.Home.{Home}
use Rattle.c_tree.specs.declared.program.Home.TheVariants as home
use Rattle.c_tree.specs.declared.program.Item.{Item-F}
use Rattle.c_tree.specs.declared.program.Item.TheOpen.{Declare, Assign, Do, Nest, If, While, For, Break, Continue, Return}
use Rattle.c_tree.specs.declared.program.Piece.{Piece-F}
use Rattle.c_tree.specs.declared.program.Program.{Program}
use Rattle.c_tree.specs.declared.program.Start.{Start}
use Rattle.c_tree.specs.declared.program.Start.TheVariants as start
use Rattle.c_tree.specs.declared.program.Ty.{Ty}

-- what parts have, in turn

-- of all
abbrev pub from_all : {A : Type 0} → List (List A) → List A
from_all = flat_map (λ xs. xs)

-- of the block of a last else
abbrev pub from_last : {A : Type 0} → Option (List A) → List A
from_last None = []
from_last (Some xs) = xs

-- gaps: each before its item, and the last one of a block behind all of them, so an inner one comes before
-- an outer one at the same place

-- gaps in the order of the text
abbrev pub Gaps : Type 0
Gaps = List Gap

-- those of an item are those of its blocks
abbrev pub item_gaps : Item-F Gaps Gaps Gaps Gaps → Gaps
item_gaps (Nest b) = b
item_gaps (If arms last) = from_all arms ++ from_last last
item_gaps (While e b) = b
item_gaps (For h b) = b
item_gaps (Declare ds) = []
item_gaps (Assign s) = []
item_gaps (Do c) = []
item_gaps Break = []
item_gaps Continue = []
item_gaps (Return r at) = []

-- those of an arm
abbrev pub arm_gaps : Arm-F Gaps Gaps Gaps Gaps → Gaps
arm_gaps a = a.body

-- those of a block
abbrev pub block_gaps : Block-F Gaps Gaps Gaps Gaps → Gaps
block_gaps b = from_all b.items ++ b.last_gap ∷ []

-- those of a piece
abbrev pub piece_gaps : Piece-F Gaps Gaps Gaps Gaps → Gaps
piece_gaps p = p.gap ∷ p.item

-- all gaps of a block
abbrev pub gaps_in : Block → Gaps
gaps_in = fold-Block Gaps Gaps Gaps Gaps item_gaps arm_gaps block_gaps piece_gaps

-- all gaps of a program
abbrev pub gaps_of : Program → Gaps
gaps_of p = flat_map (λ (d : FunDef). gaps_in d.body) p.funs

-- variables that are declared in a block

-- numbers of variables in the order of their declarations
abbrev pub Numbers : Type 0
Numbers = List ℕ

-- before the first `;` of a for
abbrev pub start_locals : Start → Numbers
start_locals (start.Declare d) = d.var ∷ []
start_locals (start.Assign s) = []

-- in an item
abbrev pub item_locals : Item-F Numbers Numbers Numbers Numbers → Numbers
item_locals (Declare ds) = map (λ (d : Declr). d.var) ds
item_locals (Nest b) = b
item_locals (If arms last) = from_all arms ++ from_last last
item_locals (While e b) = b
item_locals (For h b) = flat_map start_locals h.start ++ b
item_locals (Assign s) = []
item_locals (Do c) = []
item_locals Break = []
item_locals Continue = []
item_locals (Return r at) = []

-- in an arm
abbrev pub arm_locals : Arm-F Numbers Numbers Numbers Numbers → Numbers
arm_locals a = a.body

-- in a block
abbrev pub block_locals : Block-F Numbers Numbers Numbers Numbers → Numbers
block_locals b = from_all b.items

-- in a piece
abbrev pub piece_locals : Piece-F Numbers Numbers Numbers Numbers → Numbers
piece_locals p = p.item

-- all that a block declares
abbrev pub locals_in : Block → Numbers
locals_in = fold-Block Numbers Numbers Numbers Numbers item_locals arm_locals block_locals piece_locals

-- what a function declares: its variables in the order of the text, and their homes; the nameless slot of its
-- result, which no declarator has, comes last. `sees` says whether all that stands in the body is visible
-- there, with these globals
pub record Own : Type 0 where
  pub declared : List ℕ
  pub homes : List Home
  pub sees : (globals : List ℕ) → Bool

-- the home of a result, if there is one
abbrev pub result_home : ℕ → Option Ty → List Home
result_home f None = []
result_home f (Some t) = home.Result f ∷ []

-- what function f declares
abbrev pub own_of : ℕ → FunDef → Own
own_of f d = record {
  declared = d.params ++ locals_in d.body;
  homes = map (λ x. home.Param f) d.params ++ map (λ x. home.Local f) (locals_in d.body) ++ result_home f d.result;
  sees = sees_all d;
}

-- what these functions declare, numbered from f on
abbrev pub owns_from : ℕ → List FunDef → List Own
owns_from f [] = []
owns_from f (d ∷ ds) = own_of f d ∷ owns_from (f + 1) ds

-- a file from some place on: these functions in turn, and globals before, between and behind them, declare the
-- variables with these homes, numbered from x on; `globals` are the ones before that place
pub data Declares : (x : ℕ) → (globals : List ℕ) → List Own → List Home → Type 0 where
  nothing : {x : ℕ} {globals : List ℕ} → Declares x globals [] []
  a_global : {x : ℕ} {globals : List ℕ} {owns : List Own} {homes : List Home} (n : ℤ)
      → Declares (x + 1) (x ∷ globals) owns homes → Declares x globals owns (home.Global n ∷ homes)
  a_function : {x : ℕ} {globals : List ℕ} {owns : List Own} {homes : List Home} (own : Own)
      → own.declared ≡ range_with_len x (length own.declared) → IsTrue (own.sees globals)
      → Declares (x + length own.homes) globals owns homes → Declares x globals (own ∷ owns) (own.homes ++ homes)
