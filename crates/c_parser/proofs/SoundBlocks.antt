-- What is read as a statement or a block is one.
use Rattle.std.proofs.Common.{◌≡◌, ℕ, zero, suc, true, false, List, [], ◌∷◌, ◌++◌, Option, Some, None, length, refl, ap, sym, ◌∙◌, append_assoc, append-nil}
use Rattle.std.specs.Option.{option_map}
use Rattle.c_lexer.specs.declared.token.Token.{Token}
use Rattle.c_tree.specs.declared.tree.Arm.{Arm}
use Rattle.c_tree.specs.declared.tree.Block.{Block}
use Rattle.c_tree.specs.declared.tree.Expr.{Expr}
use Rattle.c_tree.specs.declared.tree.Free.{Free}
use Rattle.c_tree.specs.declared.tree.Item.{Item}
use Rattle.c_tree.specs.declared.tree.Item.TheVariants as item
use Rattle.c_tree.specs.declared.tree.Piece.{Piece}
use Rattle.c_parser.specs.Blocks.{IsBlock, IsBody, IsElse, IsForHead, IsForStart, IsForStep, IsForTest, IsFree, IsGap, IsItem, IsPieces, IsTest, arm, block, piece}
use Rattle.c_parser.specs.ReadBlocks.{body_of, read_arm, read_block, read_body, read_body_at, read_branch, read_else, read_else_at, read_for, read_for_head, read_for_start, read_for_step, read_for_test, read_free, read_gap, read_gap_at, read_item, read_item_at, read_pieces, read_pieces_at, read_plain_item, read_return, read_test, read_while}
use Rattle.c_parser.specs.ReadExpressions.{Read}
use Rattle.c_parser.specs.ReadStatements.{begins_call, begins_decl}
use Rattle.c_parser.specs.Term.{next, same, sees, term_of}
use Rattle.c_parser.specs.declared.term.Term.{Term}
use Rattle.c_parser.specs.declared.term.Term.TheVariants as term
use Rattle.c_parser.proofs.Yields.{Yields, ReadsOnly, Appends, chains, maps, so, either, whether, want, with_end, appends_none, appends_more}
use Rattle.c_parser.proofs.SoundExpressions.{arg_sound, level_sound}
use Rattle.c_parser.proofs.SoundStatements.{call_sound, decl_sound, right_sound, simple_sound}

-- frees and gaps

free_sound : (depth : ℕ) → ReadsOnly IsFree (read_free depth)
unfolding read_free
free_sound depth ts =
    chains _ (want term.Free ts) (λ t us is. chains _ (want term.Open us) (λ o vs opens. chains _ (arg_sound depth vs) (λ a ws d.
    chains _ (want term.Close ws) (λ c xs close. maps _ (want term.Semicolon xs) (λ s ys ends.
    rw (is.list, opens.list) (IsFree.free is.term opens.term (rw (close.list, ends.list) at d) close.term ends.term))))))

gap_at_sound : (depth : ℕ) (on : List Free → Read (List Free)) → ((front : List Free) → ReadsOnly (Appends IsGap front) (on front))
    → (front : List Free) (x : Term) (t : Token) (ts : List Token) → term_of t ≡ x → Yields (λ all us. Appends IsGap front all (t ∷ ts) us) (read_gap_at depth on front x t ts)
gap_at_sound depth on rest front term.Semicolon t ts is = so (rest front ts) (λ all us q. record { others = q.others; list = q.list; is = IsGap.empty is q.is })
gap_at_sound depth on rest front term.Free t ts is =
    chains _ (free_sound depth (t ∷ ts)) (λ f us d. so (rest (front ++ f ∷ []) us) (λ all vs q. appends_more f q (λ others r. IsGap.free d r)))
gap_at_sound depth on rest front _ t ts is = Yields.found (appends_none IsGap.done)

more_gap_sound : (depth n : ℕ) (front : List Free) → ReadsOnly (Appends IsGap front) (read_gap depth n front)
unfolding read_gap
more_gap_sound depth zero front ts = Yields.nothing
more_gap_sound depth (suc n) front [] = Yields.nothing
more_gap_sound depth (suc n) front (t ∷ ts) = gap_at_sound depth (read_gap depth n) (more_gap_sound depth n) front (term_of t) t ts refl

gap_sound : (depth n : ℕ) → ReadsOnly IsGap (read_gap depth n [])
gap_sound depth n ts = so (more_gap_sound depth n [] ts) (λ frees us q. rw q.list q.is)

-- heads of statements

test_sound : (depth : ℕ) → ReadsOnly IsTest (read_test depth)
unfolding read_test
test_sound depth ts =
    chains _ (want term.Open ts) (λ o us opens. chains _ (level_sound depth 6 us) (λ e vs d. maps _ (want term.Close vs) (λ c ws close.
    rw opens.list (IsTest.test opens.term (rw close.list at d) close.term))))

for_start_sound : (depth : ℕ) → ReadsOnly IsForStart (read_for_start depth)
unfolding read_for_start
for_start_sound depth [] = Yields.nothing
for_start_sound depth (t ∷ ts) =
    whether term.Semicolon t
    (λ ends. Yields.found (IsForStart.none ends))
    (λ goes. either (begins_decl (t ∷ ts))
    (λ decl. maps _ (with_end (decl_sound depth (t ∷ ts))) (λ p us d. IsForStart.declare d.is d.term))
    (λ other. maps _ (with_end (simple_sound depth (t ∷ ts))) (λ p us d. IsForStart.assign d.is d.term)))

for_test_sound : (depth : ℕ) → ReadsOnly IsForTest (read_for_test depth)
unfolding read_for_test
for_test_sound depth [] = Yields.nothing
for_test_sound depth (t ∷ ts) =
    whether term.Semicolon t
    (λ ends. Yields.found (IsForTest.none ends))
    (λ goes. maps _ (with_end (level_sound depth 6 (t ∷ ts))) (λ p us d. IsForTest.test d.is d.term))

for_step_sound : (depth : ℕ) → ReadsOnly IsForStep (read_for_step depth)
unfolding read_for_step
for_step_sound depth [] = Yields.nothing
for_step_sound depth (t ∷ ts) =
    whether term.Close t
    (λ ends. Yields.found (IsForStep.none ends))
    (λ goes. chains _ (simple_sound depth (t ∷ ts)) (λ s us d. maps _ (want term.Close us) (λ c vs close. IsForStep.step (rw close.list at d) close.term)))

for_head_sound : (depth : ℕ) → ReadsOnly IsForHead (read_for_head depth)
unfolding read_for_head
for_head_sound depth ts =
    chains _ (want term.Open ts) (λ o us opens. chains _ (for_start_sound depth us) (λ starts vs d. chains _ (for_test_sound depth vs) (λ test ws p.
    maps _ (for_step_sound depth ws) (λ step xs q. rw opens.list (IsForHead.head opens.term d p q)))))

-- Blocks and bodies. The items in them are read by a reader whose outcomes are items.

abbrev Within : Read (Item × ℕ) → Type 0
Within within = ReadsOnly (λ i ts us. IsItem i.0 i.1 ts us) within

-- a block whose first pieces stand in front, and where it ends
record IsRest (begun : ℕ) (front : List Piece) (b : Block × ℕ) (ts us : List Token) : Type 0 where
  pub others : List Piece
  pub frees : List Free
  pub block : b.0 ≡ block (front ++ others) frees true begun b.1
  pub is : IsPieces others frees b.1 ts us

rest_done : (begun : ℕ) (front : List Piece) (t : Token) (frees : List Free) (ts us : List Token) → IsGap frees ts (t ∷ us) → term_of t ≡ term.CloseBrace
    → IsRest begun front (block front frees true begun t.end, t.end) ts us
rest_done begun front t frees ts us d is =
    record { others = []; frees = frees; block = ap (λ pieces. block pieces frees true begun t.end) (sym (append-nil front)); is = IsPieces.last d is }

rest_more : (begun : ℕ) (front : List Piece) (t : Token) (frees : List Free) (ts us : List Token) → IsGap frees ts (t ∷ us)
    → (i : Item × ℕ) (vs : List Token) → IsItem i.0 i.1 (t ∷ us) vs → (b : Block × ℕ) (ws : List Token)
    → IsRest begun (front ++ piece frees i.0 t.start i.1 ∷ []) b vs ws → IsRest begun front b ts ws
rest_more begun front t frees ts us d i vs is b ws q = record {
  others = piece frees i.0 t.start i.1 ∷ q.others;
  frees = q.frees;
  block = q.block ∙ ap (λ pieces. block pieces q.frees true begun b.1) (append_assoc front (piece frees i.0 t.start i.1 ∷ []) q.others);
  is = IsPieces.more d is q.is;
}

pieces_at_sound : (within : Read (Item × ℕ)) → Within within → (begun : ℕ) (on : List Piece → Read (Block × ℕ))
    → ((front : List Piece) → ReadsOnly (IsRest begun front) (on front))
    → (front : List Piece) (frees : List Free) (ts us : List Token) → IsGap frees ts us → Yields (λ b vs. IsRest begun front b ts vs) (read_pieces_at within on begun front frees us)
pieces_at_sound within sound begun on rest front frees ts [] d = Yields.nothing
pieces_at_sound within sound begun on rest front frees ts (t ∷ us) d =
    whether term.CloseBrace t
    (λ close. Yields.found (rest_done begun front t frees ts us d close))
    (λ other. chains _ (sound (t ∷ us)) (λ i vs is. so (rest (front ++ piece frees i.0 t.start i.1 ∷ []) vs) (λ b ws q.
    rest_more begun front t frees ts us d i vs is b ws q)))

pieces_sound : (depth : ℕ) (within : Read (Item × ℕ)) → Within within → (begun n : ℕ) (front : List Piece)
    → ReadsOnly (IsRest begun front) (read_pieces depth within begun n front)
unfolding read_pieces
pieces_sound depth within sound begun zero front ts = Yields.nothing
pieces_sound depth within sound begun (suc n) front ts =
    chains _ (gap_sound depth (length ts) ts) (λ frees us d.
    pieces_at_sound within sound begun (read_pieces depth within begun n) (pieces_sound depth within sound begun n) front frees ts us d)

block_within_sound : (depth : ℕ) (within : Read (Item × ℕ)) → Within within → ReadsOnly (λ b ts us. IsBlock b.0 b.1 ts us) (read_block depth within)
unfolding read_block
block_within_sound depth within sound ts =
    chains _ (want term.OpenBrace ts) (λ t us opens. so (pieces_sound depth within sound t.start (length us) [] us) (λ b vs q.
    rw (opens.list, q.block) (IsBlock.braces opens.term q.is)))

unbraced_sound : (within : Read (Item × ℕ)) → Within within → (t : Token) (ts : List Token) → same term.OpenBrace (term_of t) ≡ false
    → Yields (λ b us. IsBody b.0 b.1 (t ∷ ts) us) (option_map (λ p. (body_of t p.0, p.1)) (within (t ∷ ts)))
unbraced_sound within sound t ts is = maps _ (sound (t ∷ ts)) (λ i us d. IsBody.unbraced is d)

body_at_sound : (depth : ℕ) (within : Read (Item × ℕ)) → Within within → (x : Term) (t : Token) (ts : List Token) → term_of t ≡ x
    → Yields (λ b us. IsBody b.0 b.1 (t ∷ ts) us) (read_body_at depth within x t ts)
unfolding same
body_at_sound depth within sound term.OpenBrace t ts is = so (block_within_sound depth within sound (t ∷ ts)) (λ b us d. IsBody.braced d)
body_at_sound depth within sound term.Free t ts is = maps _ (free_sound depth (t ∷ ts)) (λ f us d. IsBody.free d)
body_at_sound depth within sound term.Semicolon t ts is = Yields.found (IsBody.empty is)
body_at_sound depth within sound _ t ts is = unbraced_sound within sound t ts (ap (same term.OpenBrace) is)

body_sound : (depth : ℕ) (within : Read (Item × ℕ)) → Within within → ReadsOnly (λ b ts us. IsBody b.0 b.1 ts us) (read_body depth within)
unfolding read_body
body_sound depth within sound [] = Yields.nothing
body_sound depth within sound (t ∷ ts) = body_at_sound depth within sound (term_of t) t ts refl

-- the test and the body of an arm
record IsArm (a : Arm × ℕ) (ts us : List Token) : Type 0 where
  pub test : Expr
  pub body : Block
  pub middle : List Token
  pub arm : a.0 ≡ arm test body
  pub tested : IsTest test ts middle
  pub is : IsBody body a.1 middle us

arm_sound : (depth : ℕ) (within : Read (Item × ℕ)) → Within within → ReadsOnly IsArm (read_arm depth within)
unfolding read_arm
arm_sound depth within sound ts =
    chains _ (test_sound depth ts) (λ e us d. maps _ (body_sound depth within sound us) (λ b vs q. record { test = e; body = b.0; middle = us; arm = refl; tested = d; is = q }))

-- an `if` whose first arms stand in front, the last of them up to an end
record IsArms (front : List Arm) (before : ℕ) (i : Item × ℕ) (ts us : List Token) : Type 0 where
  pub arms : List Arm
  pub last : Option Block
  pub item : i.0 ≡ item.If (front ++ arms) last
  pub is : IsElse arms last before i.1 ts us

arms_done : (front : List Arm) (before end : ℕ) (last : Option Block) (ts us : List Token) → IsElse [] last before end ts us → IsArms front before (item.If front last, end) ts us
arms_done front before end last ts us d = record { arms = []; last = last; item = ap (λ arms. item.If arms last) (sym (append-nil front)); is = d }

arms_more : (front : List Arm) (before : ℕ) (t o : Token) (ts us : List Token) → term_of t ≡ term.Else → term_of o ≡ term.If → (a : Arm × ℕ) → IsArm a ts us
    → (i : Item × ℕ) (vs : List Token) → IsArms (front ++ a.0 ∷ []) a.1 i us vs → IsArms front before i (t ∷ o ∷ ts) vs
arms_more front before t o ts us otherwise again a d i vs q = record {
  arms = a.0 ∷ q.arms;
  last = q.last;
  item = q.item ∙ ap (λ arms. item.If arms q.last) (append_assoc front (a.0 ∷ []) q.arms);
  is = rw d.arm (IsElse.else_if otherwise again d.tested d.is q.is);
}

else_body_sound : (depth : ℕ) (within : Read (Item × ℕ)) → Within within → (front : List Arm) (before : ℕ) (t : Token) (ts : List Token)
    → term_of t ≡ term.Else → sees term.If ts ≡ false
    → Yields (λ i us. IsArms front before i (t ∷ ts) us) (option_map (λ p. ((item.If front (Some p.0.0), p.0.1), p.1)) (read_body depth within ts))
else_body_sound depth within sound front before t ts otherwise other =
    maps _ (body_sound depth within sound ts) (λ b us d. arms_done front before b.1 (Some b.0) (t ∷ ts) us (IsElse.otherwise otherwise other d))

else_at_sound : (depth : ℕ) (within : Read (Item × ℕ)) → Within within → (on : List Arm → ℕ → Read (Item × ℕ))
    → ((front : List Arm) (before : ℕ) → ReadsOnly (IsArms front before) (on front before))
    → (front : List Arm) (before : ℕ) (t : Token) → term_of t ≡ term.Else → (x : Term) (o : Token) (ts : List Token) → term_of o ≡ x
    → Yields (λ i us. IsArms front before i (t ∷ o ∷ ts) us) (read_else_at depth within on front x (o ∷ ts))
unfolding same
else_at_sound depth within sound on rest front before t otherwise term.If o ts is =
    chains _ (arm_sound depth within sound ts) (λ a us d. so (rest (front ++ a.0 ∷ []) a.1 us) (λ i vs q. arms_more front before t o ts us otherwise is a d i vs q))
else_at_sound depth within sound on rest front before t otherwise _ o ts is = else_body_sound depth within sound front before t (o ∷ ts) otherwise (ap (same term.If) is)

else_behind_sound : (depth : ℕ) (within : Read (Item × ℕ)) → Within within → (on : List Arm → ℕ → Read (Item × ℕ))
    → ((front : List Arm) (before : ℕ) → ReadsOnly (IsArms front before) (on front before))
    → (front : List Arm) (before : ℕ) (t : Token) → term_of t ≡ term.Else → (ts : List Token)
    → Yields (λ i us. IsArms front before i (t ∷ ts) us) (read_else_at depth within on front (next ts) ts)
unfolding same
else_behind_sound depth within sound on rest front before t otherwise [] = else_body_sound depth within sound front before t [] otherwise refl
else_behind_sound depth within sound on rest front before t otherwise (o ∷ ts) = else_at_sound depth within sound on rest front before t otherwise (term_of o) o ts refl

else_sound : (depth : ℕ) (within : Read (Item × ℕ)) → Within within → (n : ℕ) (front : List Arm) (before : ℕ)
    → ReadsOnly (IsArms front before) (read_else depth within n front before)
unfolding read_else same
else_sound depth within sound zero front before ts = Yields.nothing
else_sound depth within sound (suc n) front before [] = Yields.found (arms_done front before before None [] [] (IsElse.none refl))
else_sound depth within sound (suc n) front before (t ∷ ts) =
    whether term.Else t
    (λ is. else_behind_sound depth within sound (read_else depth within n) (else_sound depth within sound n) front before t is ts)
    (λ other. Yields.found (arms_done front before before None (t ∷ ts) (t ∷ ts) (IsElse.none other)))

-- items

branch_sound : (depth : ℕ) (within : Read (Item × ℕ)) → Within within → (t : Token) (ts : List Token) → term_of t ≡ term.If
    → Yields (λ i us. IsItem i.0 i.1 (t ∷ ts) us) (read_branch depth within ts)
unfolding read_branch
branch_sound depth within sound t ts is =
    chains _ (arm_sound depth within sound ts) (λ a us d. so (else_sound depth within sound (length ts) (a.0 ∷ []) a.1 us) (λ i vs q.
    rw (q.item, d.arm) (IsItem.branch is d.tested d.is q.is)))

while_sound : (depth : ℕ) (within : Read (Item × ℕ)) → Within within → (t : Token) (ts : List Token) → term_of t ≡ term.While
    → Yields (λ i us. IsItem i.0 i.1 (t ∷ ts) us) (read_while depth within ts)
unfolding read_while
while_sound depth within sound t ts is = chains _ (test_sound depth ts) (λ e us d. maps _ (body_sound depth within sound us) (λ b vs q. IsItem.while is d q))

for_sound : (depth : ℕ) (within : Read (Item × ℕ)) → Within within → (t : Token) (ts : List Token) → term_of t ≡ term.For
    → Yields (λ i us. IsItem i.0 i.1 (t ∷ ts) us) (read_for depth within ts)
unfolding read_for
for_sound depth within sound t ts is = chains _ (for_head_sound depth ts) (λ h us d. maps _ (body_sound depth within sound us) (λ b vs q. IsItem.for is d q))

return_sound : (depth : ℕ) (t : Token) (ts : List Token) → term_of t ≡ term.Return → Yields (λ i us. IsItem i.0 i.1 (t ∷ ts) us) (read_return depth t ts)
unfolding read_return
return_sound depth t [] is = Yields.nothing
return_sound depth t (s ∷ ts) is =
    whether term.Semicolon s
    (λ ends. Yields.found (IsItem.return is ends))
    (λ goes. maps _ (with_end (right_sound depth (s ∷ ts))) (λ p us d. rw d.end (IsItem.return_value is d.is d.term)))

plain_item_sound : (depth : ℕ) → ReadsOnly (λ i ts us. IsItem i.0 i.1 ts us) (read_plain_item depth)
unfolding read_plain_item
plain_item_sound depth ts =
    either (begins_decl ts)
    (λ decl. maps _ (with_end (decl_sound depth ts)) (λ p us d. rw d.end (IsItem.declare d.is d.term)))
    (λ other. either (begins_call ts)
    (λ call. maps _ (with_end (call_sound depth ts)) (λ p us d. rw d.end (IsItem.call d.is d.term)))
    (λ simple. maps _ (with_end (simple_sound depth ts)) (λ p us d. rw d.end (IsItem.assign d.is d.term))))

item_at_sound : (depth : ℕ) (within : Read (Item × ℕ)) → Within within → (x : Term) (t : Token) (ts : List Token) → term_of t ≡ x
    → Yields (λ i us. IsItem i.0 i.1 (t ∷ ts) us) (read_item_at depth within x t ts)
item_at_sound depth within sound term.OpenBrace t ts is = maps _ (block_within_sound depth within sound (t ∷ ts)) (λ b us d. IsItem.nest d)
item_at_sound depth within sound term.If t ts is = branch_sound depth within sound t ts is
item_at_sound depth within sound term.While t ts is = while_sound depth within sound t ts is
item_at_sound depth within sound term.For t ts is = for_sound depth within sound t ts is
item_at_sound depth within sound term.Break t ts is = maps _ (want term.Semicolon ts) (λ s us ends. rw ends.list (IsItem.break is ends.term))
item_at_sound depth within sound term.Continue t ts is = maps _ (want term.Semicolon ts) (λ s us ends. rw ends.list (IsItem.continue is ends.term))
item_at_sound depth within sound term.Return t ts is = return_sound depth t ts is
item_at_sound depth within sound _ t ts is = plain_item_sound depth (t ∷ ts)

item_sound : (depth : ℕ) → Within (read_item depth)
unfolding read_item
item_sound zero ts = Yields.nothing
item_sound (suc depth) [] = Yields.nothing
item_sound (suc depth) (t ∷ ts) = item_at_sound (suc depth) (read_item depth) (item_sound depth) (term_of t) t ts refl

pub block_sound : (depth : ℕ) → ReadsOnly (λ b ts us. IsBlock b.0 b.1 ts us) (read_block depth (read_item depth))
block_sound depth ts = block_within_sound depth (read_item depth) (item_sound depth) ts
