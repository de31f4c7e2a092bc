use Rattle.std.proofs.Common.{◌≤◌, ◌+◌, ◌∙◌, sym, ap, length, arith, refl}
use Rattle.script_rebuild.specs.Names.{paid_room}
use Rattle.script_rebuild.specs.Rebuilt.{port_of, routed_so_far}
use Rattle.script_rebuild.proofs.Rooms.{less_room}
use Rattle.script_rebuild.proofs.Taking.{none_if, ended_whole, ended_before, ended_last}
use Rattle.script_rebuild.proofs.rebuild.Rebuild.end.Goals as goal

pub put_line-requires-clause-room : goal.put_line-requires-clause-room
put_line-requires-clause-room c =
    let r = c.args.self.now in
    let w = r.writer.formatter in record {
      count = omega (arith, r.frames c.requires.reading, r.small);
      room = less_room w 226 200 (omega arith) (paid_room w c.requires.paid);
    }

pub flush-requires : goal.flush-requires
flush-requires c =
    let r = c.args.self.now in
    let w = r.writer.formatter in record {
      room = record {
        count = omega (arith, r.frames c.requires.reading, r.small, c.put_line.ensures.spent.count);
        room = c.put_line.ensures.spent.room 23 (less_room w 226 (200 + 23) (omega arith) (paid_room w c.requires.paid));
      };
    }

pub returns-then-is_some-clause-ended : goal.returns-then-is_some-clause-ended
returns-then-is_some-clause-ended c = λ seen s.
    ended_before c.args.self.now _ seen refl refl refl c.requires.paid (sym c.is_some.ensures ∙ c.if-is_some.true) s

pub returns-in-Ok-clause-ended : goal.returns-in-Ok-clause-ended
returns-in-Ok-clause-ended c = λ seen s.
    let r = c.args.self.now in
    let live = none_if r.fault (sym c.is_some.ensures ∙ c.if-is_some.false) in
    let few : length r.line.items ≤ 256 = omega (arith, c.as_slice.ensures.fits, ap length c.as_slice.ensures.value) in
    let puts = (c.in-Ok.ensures.puts (routed_so_far r.plan seen).lines s.writer).ok in
    ended_whole r _ c.put_line.new.writer seen c.as_slice.result.now refl live c.requires.paid s live few c.as_slice.ensures.value puts
    c.put_line.ensures.plan (c.flush.ensures.puts (port_of r.plan) _ puts.stands)

pub returns-in-Err-clause-ended : goal.returns-in-Err-clause-ended
returns-in-Err-clause-ended c = λ seen s.
    let r = c.args.self.now in
    let live = none_if r.fault (sym c.is_some.ensures ∙ c.if-is_some.false) in
    let few : length r.line.items ≤ 256 = omega (arith, c.as_slice.ensures.fits, ap length c.as_slice.ensures.value) in
    ended_last r _ seen c.as_slice.result.now c.in-Err.fault refl refl c.in-Err.ensures.same c.requires.paid s live few c.as_slice.ensures.value
    (c.in-Err.ensures.puts (routed_so_far r.plan seen).lines s.writer).err
