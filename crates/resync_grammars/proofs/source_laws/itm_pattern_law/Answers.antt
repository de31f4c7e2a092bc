use Rattle.resync_grammars.specs.Names.{units_of, InUnits, by_unit, Sync, Header}
use Rattle.itm_grammar.specs.Spelling.{Spells, why}
use Rattle.itm_grammar.specs.Rule.{rule}
use Rattle.itm_codec.specs.Reading.{pattern}
use Rattle.resync_rules.proofs.Syncing.{ends_only}
use Rattle.resync_grammars.proofs.ItmSyncing.{itm_syncs}
use Rattle.resync_grammars.proofs.source_laws.itm_pattern_law.Goals as goal

pub returns : goal.returns
returns c = ends_only (InUnits Spells) (λ r. why (units_of r)) (by_unit rule) Header pattern Sync itm_syncs
