-- Where puts ascend, those of a gap stand behind those of the gaps before it.
use Rattle.std.proofs.Common.{◌≡◌, ℕ, zero, suc, ◌+◌, ◌-◌, ◌<◌, ◌≤◌, Bool, true, false, ◌==◌, ◌&&◌, ◌||◌, nat_lt, List, [], ◌∷◌, ◌++◌, length, map, take, drop, get_or, Some, IsTrue, refl, sym, ap, ◌∙◌, arith, length-drop}
use Rattle.std.specs.Prelude.{slice_get}
use Rattle.std.specs.List.{prefix_len, range_with_len}
use Rattle.std.proofs.lemmas.List.{drop-drop, map-append}
use Rattle.std.proofs.lemmas.List.FromFn.{length-map-range_with_len, get_or-map-range_with_len}
use Rattle.std.proofs.lemmas.List.Sums.{prefix_len-le-length}
use Rattle.std.proofs.lemmas.Option.{slice_get_within, get_or_from_slice_get}
use Rattle.std.proofs.lemmas.Bool.{and_parts}
use Rattle.std.proofs.lemmas.Bool.Decides.{nat_tests}
use Rattle.c_tree.specs.declared.choice.Put.{Put}
use Rattle.c_tree.specs.Fill.{ascends, precedes, precedes_in_gap, puts_at}
use Rattle.source_patcher.specs.PutsByGap.{of_gap, before_gap, start_of, IsStarts}

-- from this gap on
abbrev pub Rises : ℕ → List Put → Type 0
Rises m [] = Unit {0}
Rises m (q ∷ qs) = (m ≤ q.gap) × Rises q.gap qs

not_past : (m n : ℕ) (b : Bool) → (nat_lt m n || ((m == n) && b)) ≡ true → m ≤ n
not_past m n b h = grind (arith, nat_tests)

rises_behind : (p : Put) (ps : List Put) → IsTrue (ascends (p ∷ ps)) → Rises p.gap ps
rises_behind p [] h = tt
rises_behind p (q ∷ ps) h =
    let parts = and_parts (precedes p q) (ascends (q ∷ ps)) h in
    (not_past p.gap q.gap (precedes_in_gap p.field q.field p.var q.var) parts.0, rises_behind q ps parts.1)

pub rises : (ps : List Put) → IsTrue (ascends ps) → Rises 0 ps
rises [] h = tt
rises (p ∷ ps) h = (omega arith, rises_behind p ps h)

is_other : (m g : ℕ) → g < m → (m == g) ≡ false
is_other m g above = grind (arith, nat_tests)

is_later : (m g : ℕ) → nat_lt m g ≡ false → g ≤ m
is_later m g h = grind (arith, nat_tests)

is_before : (m g : ℕ) → nat_lt m g ≡ true → (m == g) ≡ false
is_before m g h = grind (arith, nat_tests)

before_next : (m g : ℕ) → nat_lt m g ≡ true → nat_lt m (g + 1) ≡ true
before_next m g h = grind (arith, nat_tests)

here_next : (m g : ℕ) → (m == g) ≡ true → nat_lt m (g + 1) ≡ true
here_next m g h = grind (arith, nat_tests)

past_next : (m g : ℕ) → g < m → nat_lt m (g + 1) ≡ false
past_next m g above = grind (arith, nat_tests)

above : (m g : ℕ) → g ≤ m → (m == g) ≡ false → g < m
above m g le h = grind (arith, nat_tests)

-- behind a gap it has no puts
none_at : (m g : ℕ) (qs : List Put) → g < m → Rises m qs → puts_at qs g ≡ []
none_at m g [] later up = refl
none_at m g (q ∷ qs) later up = rw (is_other q.gap g (omega (arith, later, up.0))) (none_at q.gap g qs (omega (arith, later, up.0)) up.1)

-- from a gap on its puts stand at the front
front_case : (g : ℕ) (q : Put) (qs : List Put) (b : Bool) → (q.gap == g) ≡ b → take (prefix_len (of_gap g) qs) qs ≡ puts_at qs g → ((q.gap == g) ≡ false → puts_at qs g ≡ [])
    → take (prefix_len (of_gap g) (q ∷ qs)) (q ∷ qs) ≡ puts_at (q ∷ qs) g
front_case g q qs true h rest none =
    let one : 1 + prefix_len (of_gap g) qs ≡ suc (prefix_len (of_gap g) qs) = omega arith in
    rw (h, one) (ap (λ rs. q ∷ rs) rest)
front_case g q qs false h rest none = rw h (sym (none h))

at_front : (m g : ℕ) (qs : List Put) → g ≤ m → Rises m qs → take (prefix_len (of_gap g) qs) qs ≡ puts_at qs g
at_front m g [] le up = refl
at_front m g (q ∷ qs) le up =
    front_case g q qs (q.gap == g) refl (at_front q.gap g qs (omega (arith, le, up.0)) up.1)
    (λ other. none_at q.gap g qs (above q.gap g (omega (arith, le, up.0)) other) up.1)

-- the puts of a gap
abbrev IsPart : ℕ → List Put → Type 0
IsPart g qs = let behind = drop (start_of qs g) qs in take (prefix_len (of_gap g) behind) behind ≡ puts_at qs g

part_case : (g : ℕ) (q : Put) (qs : List Put) (b : Bool) → nat_lt q.gap g ≡ b → IsPart g qs → (nat_lt q.gap g ≡ false → take (prefix_len (of_gap g) (q ∷ qs)) (q ∷ qs) ≡ puts_at (q ∷ qs) g) → IsPart g (q ∷ qs)
part_case g q qs true h rest here =
    let one : 1 + start_of qs g ≡ suc (start_of qs g) = omega arith in
    rw (h, one, is_before q.gap g h) rest
part_case g q qs false h rest here = rw h (here h)

pub part_of_gap : (m g : ℕ) (qs : List Put) → Rises m qs → let behind = drop (start_of qs g) qs in take (prefix_len (of_gap g) behind) behind ≡ puts_at qs g
part_of_gap m g [] up = refl
part_of_gap m g (q ∷ qs) up =
    part_case g q qs (nat_lt q.gap g) refl (part_of_gap q.gap g qs up.1) (λ h. at_front q.gap g (q ∷ qs) (is_later q.gap g h) (omega arith, up.1))

-- from a gap on, those before the next gap are of this one
next_case : (g : ℕ) (q : Put) (qs : List Put) (b : Bool) → (q.gap == g) ≡ b → prefix_len (before_gap (g + 1)) qs ≡ prefix_len (of_gap g) qs → ((q.gap == g) ≡ false → g < q.gap)
    → prefix_len (before_gap (g + 1)) (q ∷ qs) ≡ prefix_len (of_gap g) (q ∷ qs)
next_case g q qs true h rest later = rw (h, here_next q.gap g h) (ap (λ n. 1 + n) rest)
next_case g q qs false h rest later = rw (h, past_next q.gap g (later h)) refl

next_front : (m g : ℕ) (qs : List Put) → g ≤ m → Rises m qs → prefix_len (before_gap (g + 1)) qs ≡ prefix_len (of_gap g) qs
next_front m g [] le up = refl
next_front m g (q ∷ qs) le up =
    next_case g q qs (q.gap == g) refl (next_front q.gap g qs (omega (arith, le, up.0)) up.1) (λ other. above q.gap g (omega (arith, le, up.0)) other)

-- the puts of the next gap begin behind those of a gap
abbrev IsNext : ℕ → List Put → Type 0
IsNext g qs = start_of qs (g + 1) ≡ start_of qs g + prefix_len (of_gap g) (drop (start_of qs g) qs)

start_case : (g : ℕ) (q : Put) (qs : List Put) (b : Bool) → nat_lt q.gap g ≡ b → IsNext g qs → (nat_lt q.gap g ≡ false → prefix_len (before_gap (g + 1)) (q ∷ qs) ≡ prefix_len (of_gap g) (q ∷ qs)) → IsNext g (q ∷ qs)
start_case g q qs true h rest here =
    let one : 1 + start_of qs g ≡ suc (start_of qs g) = omega arith in
    let sum : 1 + (start_of qs g + prefix_len (of_gap g) (drop (start_of qs g) qs)) ≡ suc (start_of qs g) + prefix_len (of_gap g) (drop (start_of qs g) qs) = omega arith in
    rw (h, before_next q.gap g h, one) (ap (λ n. 1 + n) rest ∙ sum)
start_case g q qs false h rest here =
    let z : prefix_len (of_gap g) (q ∷ qs) ≡ 0 + prefix_len (of_gap g) (q ∷ qs) = omega arith in
    rw h (here h ∙ z)

pub next_start : (m g : ℕ) (qs : List Put) → Rises m qs → start_of qs (g + 1) ≡ start_of qs g + prefix_len (of_gap g) (drop (start_of qs g) qs)
next_start m g [] up = refl
next_start m g (q ∷ qs) up =
    start_case g q qs (nat_lt q.gap g) refl (next_start q.gap g qs up.1) (λ h. next_front q.gap g (q ∷ qs) (is_later q.gap g h) (omega arith, up.1))

-- before the first gap there are none
least : (m : ℕ) → nat_lt m 0 ≡ false
least m = grind (arith, nat_tests)

pub no_start : (qs : List Put) → start_of qs 0 ≡ 0
no_start [] = refl
no_start (q ∷ qs) = rw (least q.gap) refl

-- ---- the table of starts

start_within : (qs : List Put) (g : ℕ) → start_of qs g ≤ length qs
start_within qs g = prefix_len-le-length (before_gap g) qs

range_snoc : (a n : ℕ) → range_with_len a (suc n) ≡ range_with_len a n ++ (a + n) ∷ []
range_snoc a zero = let e : a ≡ a + 0 = omega arith in ap (λ x. x ∷ []) e
range_snoc a (suc n) =
    let e : (a + 1) + n ≡ a + suc n = omega arith in
    ap (λ xs. a ∷ xs) (range_snoc (a + 1) n ∙ ap (λ x. range_with_len (a + 1) n ++ x ∷ []) e)

-- one gap more
pub starts_more : (puts : List Put) (starts : List ℕ) (behind : List Put) (g : ℕ) → starts ≡ map (start_of puts) (range_with_len 0 g) → behind ≡ drop (start_of puts g) puts
    → starts ++ (length puts - length behind) ∷ [] ≡ map (start_of puts) (range_with_len 0 (g + 1))
starts_more puts starts behind g is rest =
    let here : length puts - length behind ≡ start_of puts g = omega (arith, ap length rest, length-drop (start_of puts g) puts, start_within puts g) in
    let one : g + 1 ≡ suc g = omega arith in
    let z : 0 + g ≡ g = omega arith in
    ap (λ xs. xs ++ (length puts - length behind) ∷ []) is
    ∙ ap (λ n. map (start_of puts) (range_with_len 0 g) ++ n ∷ []) (here ∙ ap (start_of puts) (sym z))
    ∙ sym (map-append (start_of puts) (range_with_len 0 g) ((0 + g) ∷ []))
    ∙ ap (map (start_of puts)) (sym (range_snoc 0 g))
    ∙ ap (λ n. map (start_of puts) (range_with_len 0 n)) (sym one)

pub behind_more : (puts behind : List Put) (g : ℕ) → IsTrue (ascends puts) → behind ≡ drop (start_of puts g) puts → drop (prefix_len (of_gap g) behind) behind ≡ drop (start_of puts (g + 1)) puts
behind_more puts behind g up rest =
    ap (λ ps. drop (prefix_len (of_gap g) ps) ps) rest
    ∙ drop-drop (prefix_len (of_gap g) (drop (start_of puts g) puts)) (start_of puts g) puts
    ∙ ap (λ n. drop n puts) (sym (next_start 0 g puts (rises puts up)))

pub starts_all : (puts : List Put) (starts : List ℕ) (n : ℕ) → starts ≡ map (start_of puts) (range_with_len 0 n) → IsStarts puts starts
starts_all puts starts n is =
    let size : length starts ≡ n = ap length is ∙ length-map-range_with_len (start_of puts) 0 n in
    is ∙ ap (λ k. map (start_of puts) (range_with_len 0 k)) (sym size)

-- an entry is the place of the gap's first put
pub entry_is : (puts : List Put) (starts : List ℕ) (g s : ℕ) → IsStarts puts starts → slice_get starts g ≡ Some s → s ≡ start_of puts g
entry_is puts starts g s is found =
    let within = slice_get_within starts g s found in
    let z : 0 + g ≡ g = omega arith in
    sym (get_or_from_slice_get starts g s 0 found) ∙ ap (λ xs. get_or xs g 0) is
    ∙ get_or-map-range_with_len (start_of puts) 0 (length starts) g g 0 within z

pub entry_within : (puts : List Put) (starts : List ℕ) (g s : ℕ) → IsStarts puts starts → slice_get starts g ≡ Some s → s ≤ length puts
entry_within puts starts g s is found = omega (arith, entry_is puts starts g s is found, start_within puts g)

pub part_at : (puts : List Put) (starts : List ℕ) (g s : ℕ) → IsTrue (ascends puts) → IsStarts puts starts → slice_get starts g ≡ Some s
    → let behind = drop s puts in take (prefix_len (of_gap g) behind) behind ≡ puts_at puts g
part_at puts starts g s up is found =
    ap (λ n. let behind = drop n puts in take (prefix_len (of_gap g) behind) behind) (entry_is puts starts g s is found) ∙ part_of_gap 0 g puts (rises puts up)
