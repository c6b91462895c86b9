-- The loops of the readers of lists are the readers, and what a turn tells of all of them.
use Rattle.std.proofs.Common.{◌≡◌, ℕ, zero, suc, Bool, true, false, if◌then◌else◌, List, [], ◌∷◌, ◌++◌, length, drop, Option, Some, None, refl, ap, sym, subst, ◌∙◌, ◌+◌, ◌-◌, ◌<◌, ◌≤◌, Result, Err, arith}
use Rattle.c_lexer.specs.declared.token.Token.{Token}
use Rattle.c_tree.specs.declared.tree.Arm.{Arm}
use Rattle.c_tree.specs.declared.tree.Block.{Block}
use Rattle.c_tree.specs.declared.tree.Free.{Free}
use Rattle.c_tree.specs.declared.tree.Item.{Item}
use Rattle.c_tree.specs.declared.tree.Item.TheVariants as item
use Rattle.c_tree.specs.declared.tree.Piece.{Piece}
use Rattle.c_parser.specs.declared.reading.Unread.{Unread}
use Rattle.c_parser.specs.declared.reading.Unread.TheVariants as unread
use Rattle.c_parser.specs.declared.term.Term.{Term}
use Rattle.c_parser.specs.declared.term.Term.TheVariants as term
use Rattle.c_parser.specs.declared.turn.Turn.{Turn}
use Rattle.c_parser.specs.declared.turn.Turn.TheVariants.{More, Done}
use Rattle.c_parser.specs.Answer.{Gives}
use Rattle.c_parser.specs.Term.{term_of, next, same}
use Rattle.c_parser.specs.Blocks.{piece, block}
use Rattle.c_parser.specs.ReadExpressions.{Read, mapped, chained}
use Rattle.c_parser.specs.ReadBlocks.{read_free, read_gap_at, read_gap, read_pieces_at, read_pieces, read_body, read_arm, read_else_at, read_else, read_item_by, read_item}
use Rattle.c_parser.specs.Loops.{behind, looped, gap_turn_at, gap_turn, piece_turn_at, piece_turn, else_turn_at, else_turn}
use Rattle.c_parser.proofs.Turns.{turn_left, none_left}

-- any loop

opened : {S R : Type 0} → (step : S → Read (Turn S R)) (all so_far : ℕ) (s : S) (ts : List Token) (answer : Option (R × List Token)) →
    so_far < all → looped step (all - so_far) s ts ≡ answer → answer ≡ chained (step s ts) (behind (looped step (all - (so_far + 1))))
unfolding looped
opened step all so_far s ts answer is reads = sym reads ∙ ap (λ n. looped step n s ts) (turn_left all so_far is)

pub turn_done : {S R : Type 0} → (step : S → Read (Turn S R)) (all so_far : ℕ) (s : S) (ts : List Token) (answer : Option (R × List Token)) (r : R) (us : List Token) →
    so_far < all → looped step (all - so_far) s ts ≡ answer → step s ts ≡ Some (Done r, us) → answer ≡ Some (r, us)
turn_done step all so_far s ts answer r us is reads turn =
    opened step all so_far s ts answer is reads ∙ ap (λ q. chained q (behind (looped step (all - (so_far + 1))))) turn

pub turn_more : {S R : Type 0} → (step : S → Read (Turn S R)) (all so_far : ℕ) (s : S) (ts : List Token) (answer : Option (R × List Token)) (new : S) (us : List Token) →
    so_far < all → looped step (all - so_far) s ts ≡ answer → step s ts ≡ Some (More new, us) → looped step (all - (so_far + 1)) new us ≡ answer
turn_more step all so_far s ts answer new us is reads turn =
    sym (opened step all so_far s ts answer is reads ∙ ap (λ q. chained q (behind (looped step (all - (so_far + 1))))) turn)

pub turn_fails : {S R A B : Type 0} → (step : S → Read (Turn S R)) (all so_far : ℕ) (s : S) (ts : List Token) (answer : Option (R × List Token))
    (f : A → Turn S R × List Token) (g : B → R × List Token) (turned : Result A Unread) (result : Result B Unread) (e : Unread) →
    so_far < all → looped step (all - so_far) s ts ≡ answer → turned ≡ Err e → result ≡ Err e → Gives f turned (step s ts) → Gives g result answer
turn_fails step all so_far s ts answer f g turned result unread.Memory is reads was fails gives = subst (λ q. Gives g q answer) (sym fails) tt
turn_fails step all so_far s ts answer f g turned result unread.NotHere is reads was fails gives =
    let none : step s ts ≡ None = subst (λ q. Gives f q (step s ts)) was gives in
    subst (λ q. Gives g q answer) (sym fails)
    (opened step all so_far s ts answer is reads ∙ ap (λ q. chained q (behind (looped step (all - (so_far + 1))))) none)

pub turns_end : {S R : Type 0} → (step : S → Read (Turn S R)) (all so_far : ℕ) (s : S) (ts : List Token) (answer : Option (R × List Token)) →
    all ≤ so_far → looped step (all - so_far) s ts ≡ answer → answer ≡ None
unfolding looped
turns_end step all so_far s ts answer is reads = sym reads ∙ ap (λ n. looped step n s ts) (none_left all so_far is)

-- a reader that reads a turn and goes on is a loop

pub mapped_behind : {A S R : Type 0} → (f : A → S) (on loop : S → Read R) (agree : (s : S) (us : List Token) → on s us ≡ loop s us) (r : Option (A × List Token)) →
    chained r (λ a us. on (f a) us) ≡ chained (mapped (λ a. More (f a)) r) (behind loop)
mapped_behind f on loop agree None = refl
mapped_behind f on loop agree (Some p) = agree (f p.0) p.1

-- gaps

gap_at_is : (depth : ℕ) (on loop : List Free → Read (List Free)) (agree : (s : List Free) (us : List Token) → on s us ≡ loop s us)
    (front : List Free) (x : Term) (t : Token) (ts : List Token) → read_gap_at depth on front x t ts ≡ chained (gap_turn_at depth front x t ts) (behind loop)
gap_at_is depth on loop agree front term.Semicolon t ts = agree front ts
gap_at_is depth on loop agree front term.Free t ts = mapped_behind (λ f. front ++ f ∷ []) on loop agree (read_free depth (t ∷ ts))
gap_at_is depth on loop agree front _ t ts = refl

pub gap_is : (depth n : ℕ) (front : List Free) (ts : List Token) → read_gap depth n front ts ≡ looped (gap_turn depth) n front ts
unfolding read_gap looped
gap_is depth zero front ts = refl
gap_is depth (suc n) front [] = refl
gap_is depth (suc n) front (t ∷ ts) =
    gap_at_is depth (read_gap depth n) (looped (gap_turn depth) n) (gap_is depth n) front (term_of t) t ts

-- pieces

pieces_at_is : (within : Read (Item × ℕ)) (begun : ℕ) (on loop : List Piece → Read (Block × ℕ)) (agree : (s : List Piece) (us : List Token) → on s us ≡ loop s us)
    (front : List Piece) (frees : List Free) (ts : List Token) →
    read_pieces_at within on begun front frees ts ≡ chained (piece_turn_at within begun front frees ts) (behind loop)
pieces_at_is within begun on loop agree front frees [] = refl
pieces_at_is within begun on loop agree front frees (t ∷ ts) = ended_at (same term.CloseBrace (term_of t))
  where
    ended_at : (b : Bool) →
        (if b then Some ((block front frees true begun t.end, t.end), ts) else chained (within (t ∷ ts)) (λ i us. on (front ++ piece frees i.0 t.start i.1 ∷ []) us))
        ≡ chained (if b then Some (Done (block front frees true begun t.end, t.end), ts) else mapped (λ i. More (front ++ piece frees i.0 t.start i.1 ∷ [])) (within (t ∷ ts))) (behind loop)
    ended_at true = refl
    ended_at false = mapped_behind (λ i. front ++ piece frees i.0 t.start i.1 ∷ []) on loop agree (within (t ∷ ts))

pieces_by : (within : Read (Item × ℕ)) (begun : ℕ) (on loop : List Piece → Read (Block × ℕ)) (agree : (s : List Piece) (us : List Token) → on s us ≡ loop s us)
    (front : List Piece) (gap : Option (List Free × List Token)) →
    chained gap (λ frees us. read_pieces_at within on begun front frees us) ≡ chained (chained gap (λ frees us. piece_turn_at within begun front frees us)) (behind loop)
pieces_by within begun on loop agree front None = refl
pieces_by within begun on loop agree front (Some p) = pieces_at_is within begun on loop agree front p.0 p.1

pub pieces_is : (depth : ℕ) (within : Read (Item × ℕ)) (begun n : ℕ) (front : List Piece) (ts : List Token) →
    read_pieces depth within begun n front ts ≡ looped (piece_turn depth within begun) n front ts
unfolding read_pieces looped
pieces_is depth within begun zero front ts = refl
pieces_is depth within begun (suc n) front ts =
    pieces_by within begun (read_pieces depth within begun n) (looped (piece_turn depth within begun) n) (pieces_is depth within begun n) front (read_gap depth (length ts) [] ts)

-- arms

else_at_is : (depth : ℕ) (within : Read (Item × ℕ)) (on : List Arm → ℕ → Read (Item × ℕ)) (loop : List Arm × ℕ → Read (Item × ℕ))
    (agree : (arms : List Arm) (end : ℕ) (us : List Token) → on arms end us ≡ loop (arms, end) us) (front : List Arm) (x : Term) (ts : List Token) →
    read_else_at depth within on front x ts ≡ chained (else_turn_at depth within front x ts) (behind loop)
else_at_is depth within on loop agree front term.If ts = arms_by (read_arm depth within (drop 1 ts))
  where
    arms_by : (r : Option ((Arm × ℕ) × List Token)) →
        chained r (λ a us. on (front ++ a.0 ∷ []) a.1 us) ≡ chained (mapped (λ a. More (front ++ a.0 ∷ [], a.1)) r) (behind loop)
    arms_by None = refl
    arms_by (Some p) = agree (front ++ p.0.0 ∷ []) p.0.1 p.1
else_at_is depth within on loop agree front _ ts = last_by (read_body depth within ts)
  where
    last_by : (r : Option ((Block × ℕ) × List Token)) →
        mapped (λ b. (item.If front (Some b.0), b.1)) r ≡ chained (mapped (λ b. Done (item.If front (Some b.0), b.1)) r) (behind loop)
    last_by None = refl
    last_by (Some p) = refl

else_by : (depth : ℕ) (within : Read (Item × ℕ)) (on : List Arm → ℕ → Read (Item × ℕ)) (loop : List Arm × ℕ → Read (Item × ℕ))
    (agree : (arms : List Arm) (end : ℕ) (us : List Token) → on arms end us ≡ loop (arms, end) us) (front : List Arm) (end : ℕ) (t : Token) (ts : List Token) (b : Bool) →
    (if b then read_else_at depth within on front (next ts) ts else Some ((item.If front None, end), t ∷ ts))
    ≡ chained (if b then else_turn_at depth within front (next ts) ts else Some (Done (item.If front None, end), t ∷ ts)) (behind loop)
else_by depth within on loop agree front end t ts true = else_at_is depth within on loop agree front (next ts) ts
else_by depth within on loop agree front end t ts false = refl

pub else_is : (depth : ℕ) (within : Read (Item × ℕ)) (n : ℕ) (front : List Arm) (end : ℕ) (ts : List Token) →
    read_else depth within n front end ts ≡ looped (else_turn depth within) n (front, end) ts
unfolding read_else looped
else_is depth within zero front end ts = refl
else_is depth within (suc n) front end [] = refl
else_is depth within (suc n) front end (t ∷ ts) =
    else_by depth within (read_else depth within n) (looped (else_turn depth within) n) (else_is depth within n) front end t ts (same term.Else (term_of t))

-- items

pub item_below : (depth : ℕ) (ts : List Token) → (depth ≡ 0 → ⊥) → read_item depth ts ≡ read_item_by depth (read_item (depth - 1)) ts
unfolding read_item
item_below zero ts deep = absurd (deep refl)
item_below (suc d) ts deep = let less : suc d - 1 ≡ d = omega arith in rw less refl
