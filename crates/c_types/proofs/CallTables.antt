-- Counts and rows of calls, one call more.
use Rattle.std.proofs.Common.{◌≡◌, ◌≢◌, ℕ, ◌+◌, ◌<◌, ◌==◌, Bool, true, false, cond, List, [], ◌∷◌, ◌++◌, length, get_or, set, take, map, filter, replicate, refl, sym, ap, subst, ◌∙◌, arith, append-nil}
use Rattle.std.proofs.lemmas.Bool.{eqb-true, eqb-false}
use Rattle.std.proofs.lemmas.Grind.{get_or-set_at}
use Rattle.std.proofs.lemmas.List.{length-set, get_or-set_other, length-replicate, get_or-replicate, map-append}
use Rattle.std.proofs.lemmas.List.Elements.{filter_more}
use Rattle.std.proofs.lemmas.List.Sums.{count_by_more_yes, count_by_more_no}
use Rattle.c_tree.specs.Cycles.{ExistIn}
use Rattle.c_types.specs.Peeling.{calls_to, callees_of, IsCounted, AreRows}
use Rattle.c_tree.specs.declared.control.UserCall.{UserCall}

pub counted_none : (n : ℕ) (counts : List ℕ) → counts ≡ replicate n 0 → IsCounted n counts []
counted_none n counts e = record {
  functions = ap length e ∙ length-replicate n 0;
  counted = λ f h. ap (λ xs. get_or xs f 0) e ∙ get_or-replicate n f 0 0 h;
}

count_cases : (counts : List ℕ) (calls : List UserCall) (i f : ℕ) (c : UserCall) → i < length calls → c.callee < length counts → get_or counts f 0 ≡ calls_to f (take i calls)
    → (b : Bool) → ((get_or calls i c).callee == f) ≡ b → get_or calls i c ≡ c → get_or (set counts c.callee (get_or counts c.callee 0 + 1)) f 0 ≡ calls_to f (take (i + 1) calls)
count_cases counts calls i f c below within here true e is =
    let same : f ≡ c.callee = sym (eqb-true (get_or calls i c).callee f e) ∙ ap (λ (d : UserCall). d.callee) is in
    get_or-set_at counts c.callee f (get_or counts c.callee 0 + 1) 0 same within
    ∙ ap (λ g. get_or counts g 0 + 1) (sym same) ∙ ap (λ n. n + 1) here ∙ sym (count_by_more_yes (λ d. d.callee == f) calls i c below e)
count_cases counts calls i f c below within here false e is =
    let other : f ≢ c.callee = λ h. eqb-false (get_or calls i c).callee f e (ap (λ (d : UserCall). d.callee) is ∙ sym h) in
    get_or-set_other counts c.callee f (get_or counts c.callee 0 + 1) 0 other ∙ here ∙ sym (count_by_more_no (λ d. d.callee == f) calls i c below e)

pub counted_more : (n : ℕ) (counts : List ℕ) (calls : List UserCall) (i : ℕ) (c : UserCall) → i < length calls → c ≡ get_or calls i c → ExistIn n calls → IsCounted n counts (take i calls)
    → IsCounted n (set counts c.callee (get_or counts c.callee 0 + 1)) (take (i + 1) calls)
counted_more n counts calls i c below is exist counted =
    let within : c.callee < n = subst (λ (d : UserCall). d.callee < n) (sym is) (exist i c below).1 in
    let long : length counts ≡ n = counted.functions in
    record {
      functions = length-set counts c.callee (get_or counts c.callee 0 + 1) ∙ counted.functions;
      counted = λ f h. count_cases counts calls i f c below (omega arith) (counted.counted f h) ((get_or calls i c).callee == f) refl (sym is);
    }

pub rows_none : (n : ℕ) (rows : List (List ℕ)) → rows ≡ replicate n [] → AreRows n rows []
rows_none n rows e = record {
  functions = ap length e ∙ length-replicate n [];
  row = λ f h. ap (λ xs. get_or xs f []) e ∙ get_or-replicate n f [] [] h;
}

callees_more : (calls : List UserCall) (i f : ℕ) (c : UserCall) (b : Bool) → i < length calls → get_or calls i c ≡ c → (c.caller == f) ≡ b → callees_of f (take (i + 1) calls) ≡ callees_of f (take i calls) ++ cond b (c.callee ∷ []) []
callees_more calls i f c b below is e =
    ap (map (λ (d : UserCall). d.callee)) (filter_more (λ d. d.caller == f) calls i c below)
    ∙ map-append (λ (d : UserCall). d.callee) (filter (λ d. d.caller == f) (take i calls)) (cond ((get_or calls i c).caller == f) (get_or calls i c ∷ []) [])
    ∙ ap (λ (d : UserCall). callees_of f (take i calls) ++ map (λ (d : UserCall). d.callee) (cond (d.caller == f) (d ∷ []) [])) is
    ∙ ap (λ t. callees_of f (take i calls) ++ map (λ (d : UserCall). d.callee) (cond t (c ∷ []) [])) e
    ∙ ap (λ xs. callees_of f (take i calls) ++ xs) (last b)
  where
    last : (t : Bool) → map (λ (d : UserCall). d.callee) (cond t (c ∷ []) []) ≡ cond t (c.callee ∷ []) []
    last true = refl
    last false = refl

row_cases : (rows : List (List ℕ)) (calls : List UserCall) (i f : ℕ) (c : UserCall) → i < length calls → c.caller < length rows → get_or rows f [] ≡ callees_of f (take i calls)
    → (b : Bool) → (c.caller == f) ≡ b → get_or calls i c ≡ c → get_or (set rows c.caller (get_or rows c.caller [] ++ c.callee ∷ [])) f [] ≡ callees_of f (take (i + 1) calls)
row_cases rows calls i f c below within here true e is =
    let same : f ≡ c.caller = sym (eqb-true c.caller f e) in
    get_or-set_at rows c.caller f (get_or rows c.caller [] ++ c.callee ∷ []) [] same within
    ∙ ap (λ g. get_or rows g [] ++ c.callee ∷ []) (sym same) ∙ ap (λ xs. xs ++ c.callee ∷ []) here ∙ sym (callees_more calls i f c true below is e)
row_cases rows calls i f c below within here false e is =
    get_or-set_other rows c.caller f (get_or rows c.caller [] ++ c.callee ∷ []) [] (λ h. eqb-false c.caller f e (sym h))
    ∙ here ∙ sym (append-nil (callees_of f (take i calls))) ∙ sym (callees_more calls i f c false below is e)

pub rows_more : (n : ℕ) (rows : List (List ℕ)) (calls : List UserCall) (i : ℕ) (c : UserCall) → i < length calls → c ≡ get_or calls i c → ExistIn n calls → AreRows n rows (take i calls)
    → AreRows n (set rows c.caller (get_or rows c.caller [] ++ c.callee ∷ [])) (take (i + 1) calls)
rows_more n rows calls i c below is exist made =
    let within : c.caller < n = subst (λ (d : UserCall). d.caller < n) (sym is) (exist i c below).0 in
    let long : length rows ≡ n = made.functions in
    record {
      functions = length-set rows c.caller (get_or rows c.caller [] ++ c.callee ∷ []) ∙ made.functions;
      row = λ f h. row_cases rows calls i f c below (omega arith) (made.row f h) (c.caller == f) refl (sym is);
    }
