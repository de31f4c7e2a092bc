use Rattle.script_rebuild.proofs.Whole.{text_and_ending}
use Rattle.script_rebuild.proofs.laws.capture_law.Goals as goal

pub returns : goal.returns
returns c = text_and_ending
