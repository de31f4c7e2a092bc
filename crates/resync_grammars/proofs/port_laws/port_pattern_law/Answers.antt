use Rattle.resync_grammars.specs.Names.{Full, Spells, why, start, rule, pattern}
use Rattle.resync_grammars.proofs.Syncing.{port_syncs, begins_only}
use Rattle.resync_grammars.proofs.port_laws.port_pattern_law.Goals as goal

pub returns : goal.returns
returns c = begins_only Spells why rule start pattern Full port_syncs (λ w s. s)
