use Rattle.std.proofs.Common.{subst}
use Rattle.source_machine.specs.Units.{TakesUnits, reads_on}
use Rattle.recovering_machines.specs.Guess.{read_on}
use Rattle.recovering_machines.proofs.Bytes.{goes_of}
use Rattle.recovering_machines.proofs.ReadingOn.{reads_fault, reads_goes}
use Rattle.recovering_machines.proofs.guess.Guess.read.Goals as goal

pub returns-in-Fault-clause-takes : goal.returns-in-Fault-clause-takes
returns-in-Fault-clause-takes c = λ u k.
    let m = c.args.self.now.machine in
    let e = c.feed_units.new.self in
    let z = c.aligned_after-self in
    let n = (read_on (reads_on m) u).now.units in
    reads_fault m e c.args.at c.args.byte c.feed_units.ensures.kind c.feed_units.ensures.reads c.feed_units.ensures.mode
    c.args.self.now.live u k c.in-Fault.fault z.result
    (subst (λ x. TakesUnits m e n c.args.at c.args.byte x) c.in-Fault.is (c.feed_units.ensures.takes n k.list))
    z.ensures.reads z.ensures.mode z.ensures.list z.ensures.given z.ensures.sound

pub returns-in_default-clause-takes : goal.returns-in_default-clause-takes
returns-in_default-clause-takes c = λ u k.
    let m = c.args.self.now.machine in
    let n = (read_on (reads_on m) u).now.units in
    reads_goes m c.feed_units.new.self c.args.at c.args.byte c.feed_units.ensures.kind c.feed_units.ensures.reads
    c.feed_units.ensures.mode c.args.self.now.live u k c.feed_units.result (c.feed_units.ensures.takes n k.list)
    (goes_of c.feed_units.result c.in_default.not-Fault)

pub returns-in_default-clause-fits : goal.returns-in_default-clause-fits
returns-in_default-clause-fits c = c.feed_units.ensures.tells.2
