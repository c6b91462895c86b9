use Rattle.std.proofs.Common.{◌+◌, drop, sym, ◌∙◌}
use Rattle.c_replay.proofs.Prints.{converted_at, percent_at, byte_stands, ends_in_percent, ends_early}
use Rattle.c_replay.proofs.output.print.Goals as goal
use Rattle.c_replay.proofs.output.print.Goals.{then-percent+in_ok-now+in-Some, else-percent+then-byte-eq37, else-percent+else-byte-eq37+in_ok-push}
use Rattle.c_replay.proofs.output.print.Goals.{then-percent-2-via-then-percent-2, then-percent-2-via-else-percent-2+then-used-numbers}

pub loop-byte-preserved : goal.loop-byte-preserved
loop-byte-preserved c =
    let l = c.loop-byte in
    let text = c.args.text.now in
    let behind_byte = drop (l.byte-index + 1) text in
    elim c.if-percent.branch [
      | then-percent+in_ok-now+in-Some w ↦
          let given = rw w.in-Some.is at (w.in_ok-now.ensures.given behind_byte) in
          let few = rw w.in-Some.is at (w.in_ok-now.ensures.few l.invariant.few) in
          record {
            rest = rw (w.bytes-is, w.percent-is, w.used-is)
                (converted_at l.bytes w.convert.new.bytes text (drop l.used c.args.numbers.now) (drop w.in-Some.now c.args.numbers.now) l.byte-index c.loop-byte-test.true given
                ∙ rw w.if-percent.true at l.invariant.rest);
            few = rw w.used-is few;
          }
      | else-percent+then-byte-eq37 w ↦ record {
        rest = rw (w.bytes-is, w.percent-is, w.used-is)
            (percent_at l.bytes text (drop l.used c.args.numbers.now) l.byte-index c.loop-byte-test.true w.if-byte-eq37.true
            ∙ rw w.if-percent.false at l.invariant.rest);
        few = rw w.used-is l.invariant.few;
      }
      | else-percent+else-byte-eq37+in_ok-push w ↦ record {
        rest = rw (w.bytes-is, w.percent-is, w.if-percent.false, w.used-is, w.in_ok-push.ensures.ok)
            (byte_stands l.bytes text (drop l.used c.args.numbers.now) l.byte-index c.loop-byte-test.true w.if-byte-eq37.false
            ∙ rw w.if-percent.false at l.invariant.rest);
        few = rw w.used-is l.invariant.few;
      }
    ]

pub returns-then-percent-2 : goal.returns-then-percent-2
returns-then-percent-2 c =
    let l = c.loop-byte in
    elim c.then-percent-2.branch [
      | then-percent-2-via-then-percent-2 w ↦
          sym (ends_in_percent l.bytes c.args.text.now (drop l.used c.args.numbers.now) l.byte-index c.loop-byte-test.false) ∙ rw w.if-percent-2.true at l.invariant.rest
      | then-percent-2-via-else-percent-2+then-used-numbers w ↦
          sym (ends_early l.bytes c.args.text.now c.args.numbers.now l.byte-index l.used c.loop-byte-test.false w.if-used-numbers.true) ∙ rw w.if-percent-2.false at l.invariant.rest
    ]
