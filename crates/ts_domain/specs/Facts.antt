-- The numbers of facts, and what has to hold before a deed so that a fact holds behind it.
use Rattle.std.specs.Prelude.{ℕ, zero, suc, ◌+◌, ◌-◌, ◌==◌, ◌&&◌, ◌||◌, nat_lt, Bool, true, false, List, [], ◌∷◌, length, slice_get, option_map, Option, None, Some, if◌then◌else◌}
use Rattle.std.specs.Option.{option_and_then}
use Rattle.ts_domain.specs.declared.before.Before.{Before}
use Rattle.ts_domain.specs.declared.before.Before.TheVariants.{Always, Never, Where}
use Rattle.ts_domain.specs.declared.before.Given.{Given}
use Rattle.ts_domain.specs.declared.before.Given.TheVariants.{Copied, Loaded, Nothing, Fresh, Unset}
use Rattle.ts_domain.specs.declared.deed.Deed.{Deed}
use Rattle.ts_domain.specs.declared.deed.Deed.TheVariants.{Reads, Follows, Says, Sets, SetsField}
use Rattle.ts_domain.specs.declared.deed.Looked.{Looked}
use Rattle.ts_domain.specs.declared.deed.Looked.TheVariants as looked
use Rattle.ts_domain.specs.declared.deed.Saying.{Saying}
use Rattle.ts_domain.specs.declared.deed.Saying.TheVariants.{IsNull, IsntNull, AreEqual, Differ}
use Rattle.ts_domain.specs.declared.deed.Source.{Source}
use Rattle.ts_domain.specs.declared.deed.Source.TheVariants.{Content, Null, New, Undef}
use Rattle.ts_domain.specs.declared.fact.Fact.{Fact}
use Rattle.ts_domain.specs.declared.fact.Fact.TheVariants.{Ready, Full, Filled, Equal, Apart}
use Rattle.ts_domain.specs.declared.names.Names.{Names}
use Rattle.ts_domain.specs.declared.names.Read.{Read}
use Rattle.ts_domain.specs.declared.names.Read.TheVariants as read
use Rattle.ts_domain.specs.Pointers.{field_place}

-- numbers

-- how many pairs of n variables there are whose first is below x
abbrev pub pairs_below : ℕ → ℕ → ℕ
pairs_below n zero = 0
pairs_below zero (suc x) = 0
pairs_below (suc n) (suc x) = n + pairs_below n x

-- pairs of two variables, the lesser first, ascend by the first and then by the second
abbrev pub pair_number : ℕ → ℕ → ℕ → ℕ
pair_number n x y = pairs_below n x + (y - suc x)

abbrev pub pair_count : ℕ → ℕ
pair_count n = pairs_below n n

-- facts in the order of their kinds, each by variable, field or pair
abbrev pub fact_number : ℕ → ℕ → Fact → ℕ
fact_number n w (Ready x) = x
fact_number n w (Full x) = n + x
fact_number n w (Filled j) = n + n + j
fact_number n w (Equal x y) = n + n + w + pair_number n x y
fact_number n w (Apart x y) = n + n + w + pair_count n + pair_number n x y

-- how many facts there are
abbrev pub fact_count : ℕ → ℕ → ℕ
fact_count n w = n + n + w + pair_count n + pair_count n

-- the pair of a number, by the same recursion
abbrev pub next_pair : ℕ × ℕ → ℕ × ℕ
next_pair p = (suc p.0, suc p.1)

abbrev pub pair_at : ℕ → ℕ → Option (ℕ × ℕ)
pair_at zero k = None
pair_at (suc n) k = if nat_lt k n then Some (0, suc k) else option_map next_pair (pair_at n (k - n))

-- the fact of a number
abbrev pub fact_at : ℕ → ℕ → ℕ → Option Fact
fact_at n w k =
    if nat_lt k n then Some (Ready k) else
    if nat_lt k (n + n) then Some (Full (k - n)) else
    if nat_lt k (n + n + w) then Some (Filled (k - (n + n))) else
    if nat_lt k (n + n + w + pair_count n) then option_map (λ (p : ℕ × ℕ). Equal p.0 p.1) (pair_at n (k - (n + n + w))) else
    option_map (λ (p : ℕ × ℕ). Apart p.0 p.1) (pair_at n (k - (n + n + w + pair_count n)))

-- the number of a fact
abbrev pub number_of : Names → Fact → ℕ
number_of n f = fact_number (length n.vars) (length n.fields) f

-- the variables and the field of a fact exist, and those of a pair ascend
abbrev pub exists : ℕ → ℕ → Fact → Bool
exists n w (Ready x) = nat_lt x n
exists n w (Full x) = nat_lt x n
exists n w (Filled j) = nat_lt j w
exists n w (Equal x y) = nat_lt x y && nat_lt y n
exists n w (Apart x y) = nat_lt x y && nat_lt y n

abbrev pub is_fact : Names → Fact → Bool
is_fact n f = exists (length n.vars) (length n.fields) f

-- pre-facts

-- a pair in its order
abbrev pub equal_pair : ℕ → ℕ → Fact
equal_pair x y = if nat_lt x y then Equal x y else Equal y x

abbrev pub apart_pair : ℕ → ℕ → Fact
apart_pair x y = if nat_lt x y then Apart x y else Apart y x

-- a variable is equal to itself and not apart from itself
abbrev pub equal : ℕ → ℕ → Before
equal x y = if x == y then Always else Where (equal_pair x y)

abbrev pub apart : ℕ → ℕ → Before
apart x y = if x == y then Never else Where (apart_pair x y)

-- the field f of another variable, which has one of the same struct
abbrev pub filled : Option ℕ → Before
filled None = Never
filled (Some j) = Where (Filled j)

abbrev pub if_so : Bool → Before
if_so true = Always
if_so false = Never

-- what a write gives a variable, as far as facts tell
abbrev pub given_read : Names → Looked → Given
given_read n (looked.Name k) = if nat_lt k (length n.vars) then Copied k else Loaded
given_read n (looked.Deep s f note) = Loaded

abbrev pub given : Names → Source → Given
given n (Content l) = given_read n l
given n Null = Nothing
given n (New s) = Fresh
given n Undef = Unset

-- a variable that was written is set, but by what is indeterminate (6.7.8p10, 6.2.4p5)
abbrev pub ready_of : Given → Before
ready_of (Copied y) = Always
ready_of Loaded = Always
ready_of Nothing = Always
ready_of Fresh = Always
ready_of Unset = Never

-- it holds an object if it is new, or if the other did
abbrev pub full_of : Given → Before
full_of (Copied y) = Where (Full y)
full_of Loaded = Never
full_of Nothing = Never
full_of Fresh = Always
full_of Unset = Never

-- its field f is set where it holds no object, or where the other's is
abbrev pub filled_of : Names → ℕ → Given → Before
filled_of n f (Copied y) = filled (field_place n.fields y f)
filled_of n f Loaded = Never
filled_of n f Nothing = Always
filled_of n f Fresh = Never
filled_of n f Unset = Always

-- it has the same content as z where the other has
abbrev pub equal_of : ℕ → Given → Before
equal_of z (Copied y) = equal y z
equal_of z Loaded = Never
equal_of z Nothing = Never
equal_of z Fresh = Never
equal_of z Unset = Never

-- it holds no object of z where it holds a new one or none, or where the other holds none of z
abbrev pub apart_of : ℕ → Given → Before
apart_of z (Copied y) = apart y z
apart_of z Loaded = Never
apart_of z Nothing = Always
apart_of z Fresh = Always
apart_of z Unset = Always

-- a pair of which one is x has another, and a pair without x has none
abbrev pub other_of : ℕ → ℕ → ℕ → Option ℕ
other_of x y z = if x == y then Some z else if x == z then Some y else None

abbrev pub pair_of : Fact → (ℕ → Before) → Option ℕ → Before
pair_of f about None = Where f
pair_of f about (Some z) = about z

-- the field of a Filled fact: its variable and its number in the struct
abbrev pub filled_by : Fact → (ℕ → Before) → ℕ → Option (ℕ × ℕ) → Before
filled_by h about x None = Where h
filled_by h about x (Some p) = if p.0 == x then about p.1 else Where h

-- before a variable x gets that
abbrev pub before_given : Names → ℕ → Given → Fact → Before
before_given n x v (Ready y) = if x == y then ready_of v else Where (Ready y)
before_given n x v (Full y) = if x == y then full_of v else Where (Full y)
before_given n x v (Filled j) = filled_by (Filled j) (λ f. filled_of n f v) x (slice_get n.fields j)
before_given n x v (Equal y z) = pair_of (Equal y z) (λ o. equal_of o v) (other_of x y z)
before_given n x v (Apart y z) = pair_of (Apart y z) (λ o. apart_of o v) (other_of x y z)

-- `x = x` changes nothing
abbrev pub is_itself : ℕ → Given → Bool
is_itself x (Copied y) = x == y
is_itself x Loaded = false
is_itself x Nothing = false
is_itself x Fresh = false
is_itself x Unset = false

abbrev pub before_set : Names → ℕ → Given → Fact → Before
before_set n x v f = if is_itself x v then Where f else before_given n x v f

-- a fact that a deed shows holds behind it
abbrev pub shown : Bool → Fact → Before
shown true f = Always
shown false f = Where f

-- a field that a read or a write names is the field of a Filled fact
abbrev pub is_field : Names → Read → ℕ → Bool
is_field n (read.Name k) j = k == length n.vars + j
is_field n (read.Deep s f) j = false

-- whether a read is of a variable
abbrev pub is_variable : Read → ℕ → Bool
is_variable (read.Name k) x = k == x
is_variable (read.Deep s f) x = false

-- a read shows that what it reads is not indeterminate
abbrev pub read_shows : Names → Read → Fact → Bool
read_shows n r (Ready x) = is_variable r x
read_shows n r (Full x) = false
read_shows n r (Filled j) = is_field n r j
read_shows n r (Equal x y) = false
read_shows n r (Apart x y) = false

-- a variable that is followed holds an object
abbrev pub follow_shows : ℕ → Fact → Bool
follow_shows k (Ready x) = false
follow_shows k (Full x) = k == x
follow_shows k (Filled j) = false
follow_shows k (Equal x y) = false
follow_shows k (Apart x y) = false

-- a field of a variable that is written is set: what is stored was read or made, and is not indeterminate
abbrev pub is_field_of : ℕ → ℕ → Option (ℕ × ℕ) → Bool
is_field_of x f None = false
is_field_of x f (Some p) = p.0 == x && p.1 == f

abbrev pub write_shows : Names → Read → ℕ → Fact → Bool
write_shows n (read.Name x) f (Ready y) = false
write_shows n (read.Name x) f (Full y) = false
write_shows n (read.Name x) f (Filled j) = is_field_of x f (slice_get n.fields j)
write_shows n (read.Name x) f (Equal y z) = false
write_shows n (read.Name x) f (Apart y z) = false
write_shows n (read.Deep s g) f h = false

-- a null pointer holds no object, so it is apart from all, and its fields count as set
abbrev pub owns_field : ℕ → Option (ℕ × ℕ) → Bool
owns_field x None = false
owns_field x (Some p) = p.0 == x

abbrev pub null_shows : Names → ℕ → Fact → Bool
null_shows n x (Ready y) = false
null_shows n x (Full y) = false
null_shows n x (Filled j) = owns_field x (slice_get n.fields j)
null_shows n x (Equal y z) = false
null_shows n x (Apart y z) = x == y || x == z

-- two variables that are compared
abbrev pub is_pair : Looked → Looked → ℕ → ℕ → Bool
is_pair (looked.Name k) (looked.Name l) x y = (k == x && l == y) || (k == y && l == x)
is_pair (looked.Name k) (looked.Deep s f note) x y = false
is_pair (looked.Deep s f note) r x y = false

-- two variables that are equal, and two that differ
abbrev pub equal_shows : Looked → Looked → Fact → Bool
equal_shows r q (Ready x) = false
equal_shows r q (Full x) = false
equal_shows r q (Filled j) = false
equal_shows r q (Equal x y) = is_pair r q x y
equal_shows r q (Apart x y) = false

abbrev pub differ_shows : Looked → Looked → Fact → Bool
differ_shows r q (Ready x) = false
differ_shows r q (Full x) = false
differ_shows r q (Filled j) = false
differ_shows r q (Equal x y) = false
differ_shows r q (Apart x y) = is_pair r q x y

-- what a test says; a variable that isn't null holds an object, as one that is followed
abbrev pub saying_shows : Names → Saying → Fact → Bool
saying_shows n (IsNull x) f = null_shows n x f
saying_shows n (IsntNull x) f = follow_shows x f
saying_shows n (AreEqual r q) f = equal_shows r q f
saying_shows n (Differ r q) f = differ_shows r q f

-- before one deed
abbrev pub before_deed : Names → Deed → Fact → Before
before_deed n (Reads r noted) f = shown (read_shows n r f) f
before_deed n (Follows x) f = shown (follow_shows x f) f
before_deed n (Says s) f = shown (saying_shows n s f) f
before_deed n (Sets x v) f = before_set n x (given n v) f
before_deed n (SetsField r s g v) f = shown (write_shows n r g f) f

-- before deeds, the last first
abbrev pub before_with : (Fact → Before) → Before → Before
before_with earlier Always = Always
before_with earlier Never = Never
before_with earlier (Where f) = earlier f

abbrev pub before_deeds : Names → List Deed → Fact → Before
before_deeds n [] f = Where f
before_deeds n (d ∷ ds) f = before_with (before_deed n d) (before_deeds n ds f)
