-- What is computed of a choice says which puts it has.
use Rattle.std.proofs.Common.{◌≡◌, ℕ, ◌&&◌, true, eqb, List, slice_get, Option, Some, None, refl, ap, sym, subst, ◌∙◌}
use Rattle.std.proofs.lemmas.Bool.{and_parts, and_from, eq-eqb, eqb-true, false≢true}
use Rattle.std.specs.List.{Contains}
use Rattle.c_tree.specs.Typing.{has}
use Rattle.c_tree.specs.declared.choice.Choice.{Choice}
use Rattle.c_tree.specs.declared.choice.Put.{Put}
use Rattle.ts_domain.specs.declared.names.Names.{Names}
use Rattle.ts_domain.specs.Chosen.{has_put, is_chosen, is_field, is_put}
use Rattle.ts_domain.specs.Cover.{IsChosen}
use Rattle.ts_domain.proofs.Members.{any_at, any_from}

-- puts that are one

field_same : (f g : Option ℕ) → is_field f g ≡ true → f ≡ g
field_same None None e = refl
field_same None (Some g) e = absurd cc
field_same (Some f) None e = absurd cc
field_same (Some f) (Some g) e = ap Some (eqb-true f g e)

field_itself : (f : Option ℕ) → is_field f f ≡ true
field_itself None = refl
field_itself (Some f) = eq-eqb f f refl

same_put : (p q : Put) → p.gap ≡ q.gap → p.var ≡ q.var → p.field ≡ q.field → p ≡ q
same_put p q a b c = λ i. record { gap = a i; var = b i; field = c i }

pub put_same : (p q : Put) → is_put p q ≡ true → p ≡ q
put_same p q e =
    let one = and_parts (eqb p.gap q.gap) (eqb p.var q.var && is_field p.field q.field) e in
    let two = and_parts (eqb p.var q.var) (is_field p.field q.field) one.1 in
    same_put p q (eqb-true p.gap q.gap one.0) (eqb-true p.var q.var two.0) (field_same p.field q.field two.1)

pub put_itself : (p : Put) → is_put p p ≡ true
put_itself p = and_from (eqb p.gap p.gap) (eqb p.var p.var && is_field p.field p.field) (eq-eqb p.gap p.gap refl) (and_from (eqb p.var p.var) (is_field p.field p.field) (eq-eqb p.var p.var refl) (field_itself p.field))

pub put_found : (puts : List Put) (q : Put) → has_put puts q ≡ true → Contains puts q
put_found puts q e = let r = any_at (is_put q) puts e in subst (λ (p : Put). Contains puts p) (sym (put_same q r.0 r.2)) r.1

pub put_there : (puts : List Put) (q : Put) → Contains puts q → has_put puts q ≡ true
put_there puts q h = any_from (is_put q) puts q h (put_itself q)

-- chosen puts

module _ (n : Names) (s : Choice) where
  chosen_at : (k : ℕ) (o : Option Put) → slice_get n.puts k ≡ o → has (has_put s.puts) o ≡ true → IsChosen n s k
  chosen_at k None at e = absurd (false≢true e)
  chosen_at k (Some q) at e = (q, put_found s.puts q e, at)

  pub chosen : (k : ℕ) → is_chosen n s k ≡ true → IsChosen n s k
  chosen k e = chosen_at k (slice_get n.puts k) refl e

  pub is_so : (k : ℕ) → IsChosen n s k → is_chosen n s k ≡ true
  is_so k h = ap (has (has_put s.puts)) h.2 ∙ put_there s.puts h.0 h.1
