-- Where the puts of each gap stand among all puts of a choice.
use Rattle.std.specs.Prelude.{◌≡◌, ℕ, Bool, ◌==◌, nat_lt, List, length, map, IsTrue}
use Rattle.std.specs.List.{prefix_len, range_with_len}
use Rattle.c_tree.specs.declared.choice.Put.{Put}
use Rattle.c_tree.specs.Fill.{ascends}

abbrev pub of_gap : ℕ → Put → Bool
of_gap g q = q.gap == g

abbrev pub before_gap : ℕ → Put → Bool
before_gap g q = nat_lt q.gap g

-- how many puts at the front are of gaps before this one
abbrev pub start_of : List Put → ℕ → ℕ
start_of puts g = prefix_len (before_gap g) puts

-- that number for each gap, from the first one on
abbrev pub IsStarts : List Put → List ℕ → Type 0
IsStarts puts starts = starts ≡ map (start_of puts) (range_with_len 0 (length starts))

pub record IsTable (puts : List Put) (starts : List ℕ) : Type 0 where
  pub ascending : IsTrue (ascends puts)
  pub found : IsStarts puts starts
