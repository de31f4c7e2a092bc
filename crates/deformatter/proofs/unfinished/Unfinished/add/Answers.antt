use Rattle.deformatter.proofs.Zipping.{added}
use Rattle.deformatter.proofs.unfinished.Unfinished.add.Goals as goal

pub returns-clause-placed : goal.returns-clause-placed
returns-clause-placed c =
    let f = c.args.self.now in
    added f.bytes f.offsets f.len c.args.first_at c.args.at c.args.first c.args.second f.sizes.0 f.sizes.1 c.requires.room
