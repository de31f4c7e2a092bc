use Rattle.std.proofs.Common.{◌∙◌, arith, ap, map, take, rules}
use Rattle.std.specs.String.{string_bytes}
use Rattle.lipparoy_c.proofs.Calling.{called}
use Rattle.lipparoy_c.proofs.call.run_in_memory.Goals as goal

pub returns : goal.returns
returns c =
    let start = c.new-written.result in
    let end = c.run-status.new.output in
    let note_start = c.new-noted.result in
    let note_end = c.run-status.new.notes in
    let ran = c.run-status.ensures in
    called (map string_bytes c.args.words.now) c.args.input.now _ _ _ c.run-status.result
    c.new-source.result.left c.run-status.new.input.left start.faults note_start.faults c.new-source.ensures.left
    (record {
      tag = start.room.ghost_name;
      before = take start.filled start.room.now;
      tag_after = end.room.ghost_name;
      filled = end.filled;
      faults = end.faults;
      now = end.room.now;
      nothing = ap (λ n. take n start.room.now) c.new-written.ensures.filled;
      fits = end.fits;
      full = end.full;
      ends = search rules;
      failed = grind arith;
      kept = grind arith;
    })
    (record {
      tag = note_start.room.ghost_name;
      before = take note_start.filled note_start.room.now;
      tag_after = note_end.room.ghost_name;
      filled = note_end.filled;
      faults = note_end.faults;
      now = note_end.room.now;
      nothing = ap (λ n. take n note_start.room.now) c.new-noted.ensures.filled;
      fits = note_end.fits;
      full = note_end.full;
      ends = search rules;
      failed = grind arith;
      kept = grind arith;
    })
    (c.from.ensures ∙ c.number.ensures)
    (record {
      usage = ran.usage;
      misuse = ran.misuse;
      untouched = ran.untouched;
      usage_note = ran.usage_note;
      memory_note = ran.memory_note;
      ran = ran.ran;
      read_cause = ran.read_cause;
      write_cause = ran.write_cause;
      complete = ran.complete;
      goes_on = ran.goes_on;
      fronts = ran.fronts;
      reads_back = ran.reads_back;
    })
