use Rattle.script_rebuild.specs.ScriptLaws.{segments_more}
use Rattle.script_rebuild.proofs.AllSegments.{joined_more, items_put}
use Rattle.script_rebuild.proofs.laws.segments_law.Goals as goal

pub returns-clause-more : goal.returns-clause-more
returns-clause-more c = segments_more

pub returns-clause-joined : goal.returns-clause-joined
returns-clause-joined c = joined_more

pub returns-clause-items : goal.returns-clause-items
returns-clause-items c = items_put
