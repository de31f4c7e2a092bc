use Rattle.resync_grammars.specs.Names.{units_of, InUnits, by_unit, Async, Start}
use Rattle.stp_grammar.specs.Spelling.{Spells, why}
use Rattle.stp_grammar.specs.Rule.{rule}
use Rattle.stp_codec.specs.Reading.{pattern}
use Rattle.resync_rules.proofs.Syncing.{ends_only}
use Rattle.resync_grammars.proofs.StpSyncing.{stp_syncs, few_in_a_row}
use Rattle.resync_grammars.proofs.source_laws.stp_pattern_law.Goals as goal

pub returns-clause-pattern : goal.returns-clause-pattern
returns-clause-pattern c = ends_only (InUnits (Spells c.args.order)) (λ r. why (units_of r)) (by_unit (rule c.args.order)) Start pattern Async (stp_syncs c.args.order)

pub returns-clause-few : goal.returns-clause-few
returns-clause-few c = few_in_a_row c.args.order
