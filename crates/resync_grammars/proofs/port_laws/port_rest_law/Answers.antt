use Rattle.resync_grammars.specs.Names.{Full, Spells, why, start, rule, pattern}
use Rattle.resync_rules.proofs.Words.{in_words}
use Rattle.resync_grammars.proofs.Syncing.{port_syncs}
use Rattle.resync_grammars.proofs.Modes.{is_rest, cells_rest}
use Rattle.resync_grammars.proofs.NamedCells.{names}
use Rattle.resync_grammars.proofs.port_laws.port_rest_law.Goals as goal

pub returns-clause-words : goal.returns-clause-words
returns-clause-words c = in_words Spells why rule start pattern Full port_syncs

pub returns-clause-rest : goal.returns-clause-rest
returns-clause-rest c = is_rest

pub returns-clause-cells : goal.returns-clause-cells
returns-clause-cells c = cells_rest

pub returns-clause-named : goal.returns-clause-named
returns-clause-named c = names
