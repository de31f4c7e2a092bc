use Rattle.std.proofs.Common.{refl}
use Rattle.source_machine.specs.Names.{Itm}
use Rattle.source_machine.proofs.Reading.{seen_same}
use Rattle.source_machine.proofs.packets.ItmDecoderFinds.take.Goals as goal

pub returns-in_default-clause-same : goal.returns-in_default-clause-same
returns-in_default-clause-same c = seen_same Itm _ _ c.skip_part.ensures.stays.0

pub returns-in_default-clause-alike : goal.returns-in_default-clause-alike
returns-in_default-clause-alike c =
    record { kind = refl; any = refl; own = seen_same Itm _ _ c.skip_part.ensures.stays.0 }
