-- The order of two faults, and the least one of a list.
use Rattle.std.proofs.Common.{◌≡◌, ℕ, Bool, true, false, cond, nat_lt, ◌==◌, ◌&&◌, ◌||◌, List, [], ◌∷◌, ◌++◌, Option, Some, None, MatchOption, refl, sym, subst, arith}
use Rattle.std.specs.List.{All}
use Rattle.std.proofs.lemmas.Bool.Decides.{nat_tests}
use Rattle.std.proofs.lemmas.List.Elements.{All-nil, All-push, All-weaker, Contains-push, Contains-append_left}
use Rattle.c_types.specs.declared.faults.Fault.{Fault}
use Rattle.c_types.specs.Faults.{IsLeast, earlier, is_before, rank}

not_itself : (a i : ℕ) → (nat_lt a a || (a == a && nat_lt i i)) ≡ false
not_itself a i = grind (arith, nat_tests)

not_earlier : (a i b j c k : ℕ) → (nat_lt a c || (a == c && nat_lt i k)) ≡ false → (nat_lt b c || (b == c && nat_lt j k)) ≡ true
    → (nat_lt a b || (a == b && nat_lt i j)) ≡ false
not_earlier a i b j c k h e = grind (arith, nat_tests)

-- what doesn't come before the one comes before none that does
stays : (g f h : Fault) → is_before g h ≡ false → is_before f h ≡ true → is_before g f ≡ false
stays g f h = not_earlier g.at (rank g.rule) f.at (rank f.rule) h.at (rank h.rule)

by_order : (fs : List Fault) (h f : Fault) (b : Bool) → is_before f h ≡ b → IsLeast fs h → IsLeast (fs ++ f ∷ []) (cond b f h)
by_order fs h f true e least = record {
  among = Contains-push fs f;
  first = All-push (λ g. is_before g f ≡ false) fs f
      (All-weaker (λ g. is_before g h ≡ false) (λ g. is_before g f ≡ false) (λ g k. stays g f h k e) fs least.first)
      (not_itself f.at (rank f.rule));
}
by_order fs h f false e least = record {
  among = Contains-append_left fs (f ∷ []) h least.among;
  first = All-push (λ g. is_before g h ≡ false) fs f least.first e;
}

-- the earlier of the least one so far and the next is the least with the next
pub IsLeast-more : (fs : List Fault) (found : Option Fault) (f : Fault) → MatchOption found (fs ≡ []) (IsLeast fs) → IsLeast (fs ++ f ∷ []) (earlier found f)
IsLeast-more fs None f none = record {
  among = Contains-push fs f;
  first = subst (λ (gs : List Fault). All (λ g. is_before g f ≡ false) (gs ++ f ∷ [])) (sym none)
      (All-push (λ g. is_before g f ≡ false) [] f (All-nil (λ g. is_before g f ≡ false)) (not_itself f.at (rank f.rule)));
}
IsLeast-more fs (Some h) f least = by_order fs h f (is_before f h) refl least
