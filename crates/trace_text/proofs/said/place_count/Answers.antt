use Rattle.trace_text.proofs.SaidTables.{placed_is, places_few}
use Rattle.trace_text.proofs.said.place_count.Goals as goal

pub returns-clause-placed : goal.returns-clause-placed
returns-clause-placed c = placed_is c.args.number c.requires

pub returns-clause-few : goal.returns-clause-few
returns-clause-few c = places_few c.args.number c.requires
