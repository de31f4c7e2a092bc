use Rattle.std.proofs.Common.{[], refl}
use Rattle.source_machine.specs.UnitLaws.{quiet}
use Rattle.std.proofs.Common.{arith}
use Rattle.stretch_readings.proofs.Feeding.{given_parted}
use Rattle.recovering_machines.specs.Source.{reads_of}
use Rattle.recovering_machines.proofs.Bytes.{keeps_parted}
use Rattle.recovering_machines.proofs.Wholes.{none_whole}
use Rattle.recovering_machines.proofs.source.RecoveringSource.cut.Goals as goal

pub returns-clause-list : goal.returns-clause-list
returns-clause-list c = λ r k.
    let s = c.args.self.now in
    let z = c.hunting_again-self in
    record {
      front = [];
      keeps = keeps_parted s.machine z.result s.past s.count k.front r c.skipped.result c.held.result k.keeps s.live
          c.skipped.ensures c.held.ensures z.ensures.reads z.ensures.mode z.ensures.list;
      hunts = refl;
      whole = none_whole _;
    }

pub returns-clause-given : goal.returns-clause-given
returns-clause-given c = λ r k. let q = quiet c.args.self.now.machine [] (omega arith) in
    given_parted (reads_of c.args.self.now) r q.0 q.1
