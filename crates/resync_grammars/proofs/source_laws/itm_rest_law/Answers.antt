use Rattle.resync_grammars.specs.Names.{units_of, InUnits, by_unit, Sync, Header}
use Rattle.itm_grammar.specs.Spelling.{Spells, why}
use Rattle.itm_grammar.specs.Rule.{rule}
use Rattle.itm_codec.specs.Reading.{pattern}
use Rattle.resync_rules.proofs.Words.{in_words}
use Rattle.resync_grammars.proofs.ItmSyncing.{itm_syncs}
use Rattle.resync_grammars.proofs.Captures.{itm_rest, itm_capture}
use Rattle.resync_grammars.proofs.source_laws.itm_rest_law.Goals as goal

pub returns-clause-words : goal.returns-clause-words
returns-clause-words c = in_words (InUnits Spells) (λ r. why (units_of r)) (by_unit rule) Header pattern Sync itm_syncs

pub returns-clause-rest : goal.returns-clause-rest
returns-clause-rest c = itm_rest

pub returns-clause-capture : goal.returns-clause-capture
returns-clause-capture c = itm_capture
