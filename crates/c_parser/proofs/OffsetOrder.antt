-- The offsets of a file's declarations ascend, as the tokens do that it is read from.
use Rattle.std.proofs.Common.{ℕ, ◌<◌, ◌≤◌, ℤ, pos, negsuc, List, [], ◌∷◌, arith}
use Rattle.c_lexer.specs.declared.token.Token.{Token}
use Rattle.c_lexer.proofs.Order.{Ascends}
use Rattle.c_tree.specs.declared.tree.Top.{Top}
use Rattle.c_parser.specs.Grammar.{IsFile}
use Rattle.c_parser.specs.Offsets.{NumberHas, TokensHave, NumbersHave, InOrder}
use Rattle.c_parser.proofs.Rests.{Rest, top_rest}
use Rattle.c_parser.proofs.Exchanges.{SameFront, top_exchanged}
use Rattle.c_parser.proofs.OffsetLaws.{top_has}

module _ (Q : ℤ → Type 0) where
  tokens_wider : (P R : ℕ → Type 0) → ((at : ℕ) → P at → R at) → (ts : List Token) → TokensHave P Q ts → TokensHave R Q ts
  tokens_wider P R wider [] h = tt
  tokens_wider P R wider (t ∷ ts) h = (wider t.start h.0, h.1, tokens_wider P R wider ts h.2)

  numbers_on : {ts us : List Token} → Rest ts us → NumbersHave Q ts → NumbersHave Q us
  numbers_on Rest.here h = h
  numbers_on (Rest.behind p) h = numbers_on p h.1

  -- these tokens lie between two offsets, and from the second one on the others ascend
  pub record Within (from size : ℕ) (front us : List Token) : Type 0 where
    pub to : ℕ
    pub on : from ≤ to
    pub within : TokensHave (λ at. (from ≤ at) × (at < to)) Q front
    pub ascends : Ascends to us size

  within_first : (from size : ℕ) (t : Token) (front us : List Token) → from ≤ t.start → t.start < t.end → NumberHas Q t.kind → Within t.end size front us → Within from size (t ∷ front) us
  within_first from size t front us after proper n w = record {
    to = w.to;
    on = let on = w.on in omega (arith, after, proper, on);
    within = (
      (after, let on = w.on in omega (arith, proper, on)),
      n,
      tokens_wider (λ at. (t.end ≤ at) × (at < w.to)) (λ at. (from ≤ at) × (at < w.to)) (λ at h. (omega (arith, after, proper, h.0), h.1)) front w.within,
    );
    ascends = w.ascends;
  }

  -- the tokens of a part, with nothing behind it
  pub front_within : {ts us front : List Token} → SameFront ts us front [] → (from size : ℕ) → Ascends from ts size → NumbersHave Q ts → Within from size front us
  front_within SameFront.here from size ascends numbers = record { to = from; on = omega arith; within = tt; ascends = ascends }
  front_within (SameFront.next {t = t} {us = us} {vs = vs} p) from size ascends numbers =
      within_first from size t vs us ascends.0 ascends.1 numbers.0 (front_within p t.end size ascends.2 numbers.1)

  -- The offsets of a text's declarations ascend. -1 is what `EOF` stands for, and 1 what `++` and `--` add and take.
  pub tops_in_order : Q (negsuc 0) → Q (pos 1) → {tops : List Top} {ts : List Token} → IsFile tops ts → (from size : ℕ) → Ascends from ts size → NumbersHave Q ts → InOrder Q from tops
  tops_in_order eof one IsFile.done from size ascends numbers = InOrder.ended
  tops_in_order eof one (IsFile.more d q) from size ascends numbers =
      let alone = top_exchanged d [] in
      let w = front_within alone.same from size ascends numbers in
      InOrder.more w.on (top_has (λ at. (from ≤ at) × (at < w.to)) Q eof one alone.is w.within) (tops_in_order eof one q w.to size w.ascends (numbers_on (top_rest d) numbers))
