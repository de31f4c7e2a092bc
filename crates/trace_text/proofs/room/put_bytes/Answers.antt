use Rattle.std.proofs.Common.{refl, sym}
use Rattle.std.proofs.lemmas.List.{take_more}
use Rattle.trace_text.proofs.Putting.{nothing, both, said_as}
use Rattle.trace_text.proofs.room.put_bytes.Goals as goal

pub loop-index-init : goal.loop-index-init
loop-index-init c = nothing c.args.room.now c.args.from

pub loop-index-preserved : goal.loop-index-preserved
loop-index-preserved c =
    said_as (both c.loop-index.invariant c.put_byte-end.ensures) refl
    (sym (take_more c.args.piece.now c.loop-index.index 0 c.loop-index-test.true))
