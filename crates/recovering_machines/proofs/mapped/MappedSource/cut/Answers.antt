use Rattle.recovering_machines.proofs.Mapping.{cut_mapped}
use Rattle.recovering_machines.proofs.mapped.MappedSource.cut.Goals as goal

pub returns-clause-cut : goal.returns-clause-cut
returns-clause-cut c =
    cut_mapped c.args.self.now c.cut.new.self c.cut-2.new.self c.cut.ensures.kind c.cut.ensures.reads c.cut.ensures.list
    c.cut.ensures.given c.cut-2.ensures.ends
