use Rattle.std.proofs.Common.{◌/◌, arith, refl}
use Rattle.std.specs.Prelude.{decimal}
use Rattle.trace_text.specs.Puts.{Puts}
use Rattle.trace_text.proofs.Fours.{decimal_eight}
use Rattle.trace_text.proofs.Putting.{followed, within}
use Rattle.trace_text.proofs.room.put_number.Goals as goal
use Rattle.trace_text.proofs.room.put_number.Goals.{then-high-lt100000000, else-high-lt100000000}

pub returns : goal.returns
returns c =
    let high = c.args.number / 100000000 in
    let fits = c.ranges.number.fits in
    let front : Puts c.args.room.now c.if-high-lt100000000.room c.args.from c.if-high-lt100000000.from 13 (decimal high) =
    elim c.if-high-lt100000000.branch [
      | then-high-lt100000000 w ↦ rw w.from-is (rw w.room-is (within w.put_up_to_eight-from.ensures (omega arith) refl))
      | else-high-lt100000000 w ↦
          let parts = decimal_eight high w.if-high-lt100000000.false (omega (arith, fits)) in
          rw w.from-is (rw w.room-is (followed parts w.put_up_to_four-from.ensures w.put_eight-from.ensures (omega arith)))
    ] in
    followed (decimal_eight c.args.number c.if-number-lt100000000.false (omega (arith, fits))) front c.put_eight.ensures (omega arith)
