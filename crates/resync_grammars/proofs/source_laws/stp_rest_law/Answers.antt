use Rattle.resync_grammars.specs.Names.{units_of, InUnits, by_unit, Async, Start}
use Rattle.stp_grammar.specs.Spelling.{Spells, why}
use Rattle.stp_grammar.specs.Rule.{rule}
use Rattle.stp_codec.specs.Reading.{pattern}
use Rattle.resync_rules.proofs.Words.{in_words}
use Rattle.resync_grammars.proofs.StpSyncing.{stp_syncs}
use Rattle.resync_grammars.proofs.StpResting.{is_rest, is_items_rest}
use Rattle.resync_grammars.proofs.Captures.{stp_capture}
use Rattle.resync_grammars.proofs.source_laws.stp_rest_law.Goals as goal

pub returns-clause-words : goal.returns-clause-words
returns-clause-words c =
    in_words (InUnits (Spells c.args.order)) (λ r. why (units_of r)) (by_unit (rule c.args.order)) Start pattern Async (stp_syncs c.args.order)

pub returns-clause-packets : goal.returns-clause-packets
returns-clause-packets c = is_rest c.args.order

pub returns-clause-items : goal.returns-clause-items
returns-clause-items c = is_items_rest c.args.order

pub returns-clause-capture : goal.returns-clause-capture
returns-clause-capture c = stp_capture c.args.order
