use Rattle.deformatter.proofs.PortReadingLaws.{rises, frames_grow}
use Rattle.deformatter.proofs.reading_laws.rising_law.Goals as goal

pub returns : goal.returns
returns c = record { one = λ mode u at byte. rises mode u at byte; frames = λ mode u at bytes. frames_grow mode u at bytes }
