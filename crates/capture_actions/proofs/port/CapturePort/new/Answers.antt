use Rattle.std.proofs.Common.{refl, sym}
use Rattle.deformatter.proofs.PortReadingLaws.{none_read}
use Rattle.capture_actions.proofs.port.CapturePort.new.Goals as goal

pub returns-clause-read : goal.returns-clause-read
returns-clause-read c = record { reader = c.new.ensures.fresh; count = refl; fault = sym (none_read _).fault }
