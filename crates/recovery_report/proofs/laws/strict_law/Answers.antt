use Rattle.stretch_readings.specs.Stretches.{from_fault}
use Rattle.source_machine.specs.Units.{reads_by}
use Rattle.stretch_readings.proofs.StretchLaws as stretches
use Rattle.recovering_machines.specs.Port.{items_by, from_halfword}
use Rattle.recovery_report.proofs.Sounds.{sources_sound, sources_begin, sources_settle}
use Rattle.recovery_report.proofs.Sounds.{port_sound, port_begins, port_settles}
use Rattle.recovery_report.proofs.laws.strict_law.Goals as goal

pub returns-clause-source : goal.returns-clause-source
returns-clause-source c = λ order kind h u e.
    stretches.strict (reads_by order kind) from_fault (sources_sound order kind) (sources_begin order kind)
    (sources_settle order kind) h u e

pub returns-clause-first : goal.returns-clause-first
returns-clause-first c = λ order kind h u f e.
    stretches.first_broken (reads_by order kind) from_fault (sources_sound order kind) (sources_begin order kind)
    (sources_settle order kind) h u f e

pub returns-clause-port : goal.returns-clause-port
returns-clause-port c = λ h u e. stretches.strict items_by from_halfword port_sound port_begins port_settles h u e
