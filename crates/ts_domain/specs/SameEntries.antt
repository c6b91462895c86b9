-- Entries compared, and what the notes of one feed a hasher.
use Rattle.std.specs.Prelude.{◌≡◌, ℕ, ◌&&◌, nat_eq, Bool, true, false, not, List, IsTrue}
use Rattle.std.specs.Cmp.{IsEquivalence, on_equiv}
use Rattle.std.specs.Cmp.Lexicographic.{pointwise, bytes_decides, nat_list_eq_equiv}
use Rattle.std.specs.Ordering.{on}
use Rattle.std.specs.Hash as fed
use Rattle.std.proofs.Common.{ap}
use Rattle.mf_set.specs.Order.{numbers_eq}
use Rattle.ts_domain.specs.declared.entry.Entry.{Entry}
use Rattle.ts_domain.specs.declared.entry.Notes.{Notes}
use Rattle.ts_domain.specs.declared.marks.Mark.{Mark}

abbrev pub same_notes : Notes → Notes → Bool
same_notes = on (λ x. x.places) (pointwise nat_eq)

pub same_notes_equiv : IsEquivalence same_notes
same_notes_equiv = on_equiv (λ x. x.places) nat_list_eq_equiv

abbrev pub notes_fed : Notes → List (List ℕ)
notes_fed x = fed.slice fed.usize x.places

pub same_notes_fed : (x y : Notes) → IsTrue (same_notes x y) → notes_fed x ≡ notes_fed y
same_notes_fed x y h = ap (fed.slice fed.usize) ((bytes_decides x.places y.places).0 h)

abbrev pub same_touch : Bool → Bool → Bool
same_touch true b = b
same_touch false b = not b

abbrev pub same_mark : Mark → Mark → Bool
same_mark a b = nat_eq a.site b.site && (numbers_eq a.holds b.holds && numbers_eq a.lacks b.lacks)

abbrev pub same_entry : Entry → Entry → Bool
same_entry a b = same_mark a.mark b.mark && (same_touch a.touched b.touched && same_notes a.notes b.notes)
