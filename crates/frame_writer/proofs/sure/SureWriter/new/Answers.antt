use Rattle.std.proofs.Common.{[]}
use Rattle.frame_writer.proofs.Sureness.{nothing_sure}
use Rattle.frame_writer.proofs.sure.SureWriter.new.Goals as goal

pub returns-clause-fresh : goal.returns-clause-fresh
returns-clause-fresh c = record { so_far = []; stands = c.new.ensures.fresh; written = nothing_sure c.args.every c.args.halves c.new-2.result.items c.new-2.ensures }
