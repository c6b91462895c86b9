-- Over an edge, facts that agree make the same of a mark: the same births, the same posts, and the same edges are wide.
use Rattle.std.proofs.Common.{◌≡◌, ℕ, ◌<◌, ◌==◌, ◌&&◌, ◌||◌, not, Bool, true, false, List, [], ◌∷◌, ◌++◌, length, map, fold, slice_get, option_map, Option, Some, None, refl, ap, ◌∙◌}
use Rattle.std.specs.Prelude.{if◌then◌else◌}
use Rattle.std.proofs.Math.Path.{fun_ext}
use Rattle.std.proofs.lemmas.Bool.{and_parts, false≢true}
use Rattle.std.proofs.lemmas.Option.{slice_get_within}
use Rattle.std.specs.Option.{option_and_then}
use Rattle.c_tree.specs.Typing.{has}
use Rattle.c_graph.specs.declared.graph.Edge.{Edge}
use Rattle.c_graph.specs.declared.graph.Graph.{Graph}
use Rattle.ts_domain.specs.declared.deed.Deed.{Deed}
use Rattle.ts_domain.specs.declared.deed.Deed.TheVariants.{Reads, Follows, Says, Sets, SetsField}
use Rattle.ts_domain.specs.declared.entry.Entry.{Entry}
use Rattle.ts_domain.specs.declared.facts.Facts.{Facts}
use Rattle.ts_domain.specs.declared.marks.Mark.{Mark}
use Rattle.ts_domain.specs.declared.marks.Verdict.{Verdict}
use Rattle.ts_domain.specs.declared.marks.Verdict.TheVariants.{Yes, No, Open}
use Rattle.ts_domain.specs.declared.names.Names.{Names}
use Rattle.ts_domain.specs.declared.names.Read.{Read}
use Rattle.ts_domain.specs.declared.names.Read.TheVariants as read
use Rattle.ts_domain.specs.Aliases.{base_alias}
use Rattle.ts_domain.specs.Deeds.{edge_deeds, site_of}
use Rattle.ts_domain.specs.Marks.{Knowledge, decided, expressions, field_at, marked, only_if, split_by, splits, step, verdict}
use Rattle.ts_domain.specs.MarkWrites.{birth, birth_writes, by_alias, is_pointer_to, points_to, put_beneath, put_mark, settled, settled_by, source_verdict, unborn, written_mark}
use Rattle.ts_domain.specs.Pointers.{type_of}
use Rattle.ts_domain.specs.Post.{at_edge, born, counted, deed_entries, deeds_post, entry, first_entry, is_wide, is_wide_edge, last_entries, last_entry, leaves_gap, made_site, post, read_entry, step_of, too_many, turn, turns, with_entries, with_entry}
use Rattle.memfix_engine.proofs.FactsAgree.{base_alike, flows_alike, Agree}

-- a variable that points to a struct is one of the names
pointer_inside : (n : Names) (c z : ℕ) → points_to n c z ≡ true → z < length n.vars
pointer_inside n c z points = by (slice_get n.vars z) refl points
  where
    by : (o : Option ℕ) → slice_get n.vars z ≡ o → has (is_pointer_to c) (option_and_then (type_of n) o) ≡ true → z < length n.vars
    by None at there = absurd (false≢true there)
    by (Some x) at there = slice_get_within n.vars z x at

module _ (n : Names) (g : Graph) (f h : Facts) (same : Agree n f h) (e : Edge) where
  -- what is known where the edge begins, by each
  abbrev One : Knowledge
  One = at_edge n g f e

  abbrev Other : Knowledge
  Other = at_edge n g h e

  -- reads

  -- a read of an expression splits a mark alike
  split_alike : (m : Mark) (x : ℕ) (u : Verdict) → split_by One m x u ≡ split_by Other m x u
  split_alike m x Yes = refl
  split_alike m x No = refl
  split_alike m x Open = ap (λ b. only_if b (step (decided One m x Yes) true) ++ step (decided One m x No) false ∷ []) (flows_alike n g f h same e m.site (read.Name x))

  -- and so does any read
  splits_alike : (m : Mark) (r : Read) → splits One m r ≡ splits Other m r
  splits_alike m (read.Name x) = split_alike m x (verdict m x)
  splits_alike m (read.Deep c b) = ap (λ t. only_if t (step m true) ++ step m false ∷ []) (flows_alike n g f h same e m.site (read.Deep c b))

  -- writes

  -- a write to a field changes the field of a variable alike, if that points to the struct
  put_by : (m : Mark) (r : Read) (c b : ℕ) (u : Verdict) (x : ℕ) (p : ℕ × ℕ) (is : Bool) → (p.1 == b && points_to n c p.0) ≡ is
      → (if is then by_alias (base_alias One m p.0 r) u (verdict m x) else verdict m x) ≡ (if is then by_alias (base_alias Other m p.0 r) u (verdict m x) else verdict m x)
  put_by m r c b u x p true at =
      let points = (and_parts (p.1 == b) (points_to n c p.0) at).1 in
      ap (λ a. by_alias a u (verdict m x)) (base_alike n g f h same e m p.0 r (pointer_inside n c p.0 points))
  put_by m r c b u x p false at = refl

  -- so it changes each expression alike
  beneath_alike : (m : Mark) (r : Read) (c b : ℕ) (u : Verdict) (x : ℕ) (o : Option (ℕ × ℕ)) → put_beneath One m r c b u x o ≡ put_beneath Other m r c b u x o
  beneath_alike m r c b u x None = refl
  beneath_alike m r c b u x (Some p) = put_by m r c b u x p (p.1 == b && points_to n c p.0) refl

  -- and the mark
  put_alike : (m : Mark) (r : Read) (c b : ℕ) (u : Verdict) → put_mark One m r c b u ≡ put_mark Other m r c b u
  put_alike m r c b u = ap (marked (expressions n) m.site) (fun_ext (λ x. beneath_alike m r c b u x (field_at n x)))

  -- any deed writes alike
  written_alike : (fresh : Verdict) (notes : List ℕ) (d : Deed) (m : Mark) → written_mark One fresh notes d m ≡ written_mark Other fresh notes d m
  written_alike fresh notes (Reads r noted) m = refl
  written_alike fresh notes (Follows x) m = refl
  written_alike fresh notes (Says s) m = refl
  written_alike fresh notes (Sets x v) m = refl
  written_alike fresh notes (SetsField r c b v) m = put_alike m r c b (source_verdict fresh m notes v)

  -- what is undecided is settled alike
  settled_alike : (m : Mark) → settled One m ≡ settled Other m
  settled_alike m = ap (marked (expressions n) m.site) (fun_ext (λ x. ap (settled_by (verdict m x)) (flows_alike n g f h same e m.site (read.Name x))))

  -- entries

  -- an entry with another mark
  abbrev WithMark : Entry → Mark → Entry
  WithMark x m = record x { mark = m }

  -- a deed makes the same entries of an entry
  entries_alike : (d : Deed) (at : ℕ) (x : Entry) → deed_entries One d at x ≡ deed_entries Other d at x
  entries_alike (Reads r noted) at x = ap (map (read_entry r noted at x)) (splits_alike x.mark r)
  entries_alike (Follows y) at x = refl
  entries_alike (Says s) at x = refl
  entries_alike (Sets y v) at x = refl
  entries_alike (SetsField r c b v) at x = ap (λ m. WithMark x m ∷ []) (written_alike No x.notes.places (SetsField r c b v) x.mark)

  -- and of a list of them
  turn_alike : (d : Deed) (at : ℕ) (xs : List Entry) → turn One d at xs ≡ turn Other d at xs
  turn_alike d at xs = ap (λ (more : Entry → List Entry). fold (λ ys x. with_entries ys (more x)) [] xs) (fun_ext (entries_alike d at))

  -- and so do deeds in turn
  turns_alike : (ds : List Deed) (at : ℕ) (xs : List Entry) → turns One ds at xs ≡ turns Other ds at xs
  turns_alike [] at xs = refl
  turns_alike (d ∷ ds) at xs = ap (turns One ds (counted d at)) (turn_alike d at xs) ∙ turns_alike ds (counted d at) (turn Other d at xs)

  -- there are too many entries behind some read by both
  wide_alike : (ds : List Deed) (at : ℕ) (xs : List Entry) → is_wide One ds at xs ≡ is_wide Other ds at xs
  wide_alike [] at xs = refl
  wide_alike (d ∷ ds) at xs =
      ap (λ ys. too_many d ys || is_wide One ds (counted d at) ys) (turn_alike d at xs)
      ∙ ap (λ b. too_many d (turn Other d at xs) || b) (wide_alike ds (counted d at) (turn Other d at xs))

  -- the last entries are the same
  last_alike : (x : Entry) → last_entry One x ≡ last_entry Other x
  last_alike x = ap (λ m. entry m x.touched []) (settled_alike x.mark)

  -- and their list
  lasts_alike : (xs : List Entry) → last_entries One xs ≡ last_entries Other xs
  lasts_alike xs = ap (λ (more : Entry → Entry). fold (λ ys x. with_entry ys (more x)) [] xs) (fun_ext last_alike)

  -- deeds make the same marks of a mark
  deeds_alike : (ds : List Deed) (m : Mark) → deeds_post One ds m ≡ deeds_post Other ds m
  deeds_alike ds m =
      ap (λ xs. map step_of (last_entries One xs)) (turns_alike ds 0 (first_entry m ∷ []))
      ∙ ap (map step_of) (lasts_alike (turns Other ds 0 (first_entry m ∷ [])))

  -- births

  -- the writes where an object is made come out alike
  writes_alike : (ds : List Deed) (m : Mark) → birth_writes One ds m ≡ birth_writes Other ds m
  writes_alike [] m = refl
  writes_alike (d ∷ ds) m = ap (birth_writes One ds) (written_alike Yes [] d m) ∙ writes_alike ds (written_mark Other Yes [] d m)

  -- and so does the mark of a new object
  birth_alike : (ds : List Deed) (s : ℕ) → birth One ds s ≡ birth Other ds s
  birth_alike ds s = ap (settled One) (writes_alike ds (unborn One s)) ∙ settled_alike (birth_writes Other ds (unborn Other s))

  -- edges

  -- the marks behind an edge are the same
  pub post_alike : (m : Mark) → post n g f e m ≡ post n g h e m
  post_alike m = ap (λ xs. if leaves_gap g e then step m false ∷ [] else xs) (deeds_alike (edge_deeds n g e) m)

  -- an edge is wide for a mark by both
  pub wide_edge_alike : (m : Mark) → is_wide_edge n g f e m ≡ is_wide_edge n g h e m
  wide_edge_alike m = ap (λ b. not (leaves_gap g e) && b) (wide_alike (edge_deeds n g e) 0 (first_entry m ∷ []))

  -- an edge makes a new object with the same mark
  pub born_alike : born n g f e ≡ born n g h e
  born_alike = ap (λ (make : ℕ → Mark). option_map make (made_site (site_of n e.from) e.way)) (fun_ext (birth_alike (edge_deeds n g e)))
