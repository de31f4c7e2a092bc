use Rattle.recovery_report.proofs.Sounds.{sources_sound, sources_settle, port_sound, port_settles}
use Rattle.recovery_report.proofs.laws.sound_law.Goals as goal

pub returns-clause-sources : goal.returns-clause-sources
returns-clause-sources c = λ order kind. (sources_sound order kind, sources_settle order kind)

pub returns-clause-port : goal.returns-clause-port
returns-clause-port c = (port_sound, port_settles)
