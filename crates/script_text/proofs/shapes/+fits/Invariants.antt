use Rattle.std.proofs.Common.{length}
use Rattle.script_text.proofs.shapes.+fits.Given as goal

abbrev pub decreases-fits : goal.decreases-fits
decreases-fits l = length l.fields.now
