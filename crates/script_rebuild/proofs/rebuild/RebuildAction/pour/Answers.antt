use Rattle.script_rebuild.proofs.Taking.{stands_reading}
use Rattle.script_rebuild.proofs.rebuild.RebuildAction.pour.Goals as goal

pub returns-in-None-clause-stands : goal.returns-in-None-clause-stands
returns-in-None-clause-stands c = λ seen s.
    let reads = s.reads c.in-None.is in
    stands_reading _ seen c.in-None.is (record {
      count = reads.count;
      fault = reads.fault;
      open_bytes = reads.open_bytes;
      lines = reads.lines;
      version = reads.version;
      writer = c.give.ensures.stands _ _ reads.writer;
    })
