use Rattle.stretch_readings.specs.Stretches.{from_fault}
use Rattle.source_machine.specs.Units.{reads_by}
use Rattle.stretch_readings.proofs.StretchLaws as stretches
use Rattle.recovering_machines.specs.Port.{items_by, from_halfword}
use Rattle.recovery_report.proofs.Sounds.{sources_sound, sources_begin, port_sound, port_begins}
use Rattle.recovery_report.proofs.laws.words_law.Goals as goal

pub returns-clause-sources : goal.returns-clause-sources
returns-clause-sources c = λ order kind h u.
    stretches.words (reads_by order kind) from_fault (sources_sound order kind) h (sources_begin order kind h) u

pub returns-clause-port : goal.returns-clause-port
returns-clause-port c = λ h u. stretches.words items_by from_halfword port_sound h (port_begins h) u
