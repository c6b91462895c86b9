use Rattle.std.proofs.Common.{◌≡◌, length, arith}
use Rattle.std.proofs.lemmas.List.{length-take}
use Rattle.mf_io.proofs.Streams.{gives_front}
use Rattle.mf_io.proofs.unread.Unread.give.Goals as goal

pub returns-clause-gives : goal.returns-clause-gives
returns-clause-gives c =
    let fits : length c.copy_from_slice.new.self ≡ c.min-count.result =
    omega (arith, c.copy_from_slice.ensures.len, length-take c.min-count.result c.args.room.now) in
    rw (← c.self.view_is) (gives_front c.self.inside.bytes.items c.args.room.now c.copy_from_slice.new.self
    c.self.inside.given c.min-count.result (rw c.deref.ensures.value at c.copy_from_slice.ensures.after) fits)
