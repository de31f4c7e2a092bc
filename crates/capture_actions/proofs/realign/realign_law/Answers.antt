use Rattle.std.proofs.Common.{◌-◌, length}
use Rattle.std.proofs.lemmas.List.{take-append-drop}
use Rattle.capture_actions.specs.Names.{realigned}
use Rattle.capture_actions.proofs.realign.realign_law.Goals as goal

pub returns : goal.returns
returns c = λ bytes. let r = (realigned bytes).bytes in take-append-drop (length r - 4) r
