-- The definitions at worked values.
use Rattle.std.proofs.Common.{◌≡◌, [], ◌∷◌, Some, None, refl, inl, inr, lit<, lit≤}
use Rattle.mf_io.specs.Bytes.{Gives, Takes, Ended, WasLeft, MoreLeft}
use Rattle.mf_io.specs.Faults.{Rose, next_count}
use Rattle.mf_io.specs.Whole.{Refuses, TakesPart}
use Rattle.mf_io.specs.declared.whole.ReadRefusal.TheVariants.{TooLong}

-- two bytes of three
gives_two : Gives (Some (1 ∷ 2 ∷ 3 ∷ [])) (Some (3 ∷ [])) (1 ∷ 2 ∷ [])
gives_two = refl

gives_untold : Gives None None (1 ∷ 2 ∷ [])
gives_untold = tt

takes_two : Takes (Some (1 ∷ [])) (Some (1 ∷ 2 ∷ 3 ∷ [])) (2 ∷ 3 ∷ [])
takes_two = refl

ended : Ended (Some [])
ended = refl

was_left : WasLeft (Some (1 ∷ 2 ∷ [])) (1 ∷ 2 ∷ [])
was_left = refl

-- two bytes are more than one
more_left : MoreLeft 1 (Some (1 ∷ 2 ∷ []))
more_left = lit< tt

rose_by_one : Rose 4 5
rose_by_one = inl (lit< tt)

stands_at_its_last : Rose 18446744073709551615 18446744073709551615
stands_at_its_last = inr refl

counts_twice : next_count (next_count 0) ≡ 2
counts_twice = refl

stands_still : next_count 18446744073709551615 ≡ 18446744073709551615
stands_still = refl

-- three bytes came where two were allowed
refused_as_too_long : Refuses 2 (Some (1 ∷ 2 ∷ 3 ∷ 4 ∷ [])) (Some (4 ∷ [])) TooLong
refused_as_too_long = record { piece = 1 ∷ 2 ∷ 3 ∷ []; gives = refl; came = (lit< tt, lit≤ tt) }

-- one byte of two was taken
took_part : TakesPart (Some []) (Some (1 ∷ [])) (1 ∷ 2 ∷ [])
took_part = record { count = 1; short = lit< tt; takes = refl }
