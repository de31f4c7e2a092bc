use Rattle.std.proofs.Common.{refl}
use Rattle.rows.proofs.stp_codec_rows.take_front.Goals as goal

pub end_part-taken-requires-clause-next : goal.end_part-taken-requires-clause-next
end_part-taken-requires-clause-next c = (c.in-Ends.ensures.ends c.in-Ends.parts refl).0
