use Rattle.std.proofs.Common.{◌≤◌, ◌+◌, refl, length, arith}
use Rattle.script_rebuild.specs.Names.{GREATEST_CAPTURE}
use Rattle.script_rebuild.proofs.Taking.{opened, whole_line, line_taken}
use Rattle.script_rebuild.proofs.rebuild.Rebuild.take_line.Goals as goal

pub end_line-is_faulty-requires-clause-ready : goal.end_line-is_faulty-requires-clause-ready
end_line-is_faulty-requires-clause-ready c = record {
  live = record { sound = c.requires.ready.live.sound; reading = c.requires.ready.live.reading };
  paid = c.requires.ready.paid;
  count = omega (arith, c.requires.ready.count);
  room = c.requires.ready.room;
}

pub returns-clause-fed : goal.returns-clause-fed
unfolding opened
returns-clause-fed c =
    let r = c.args.self.now in
    let line = c.args.text.now in
    let small : r.count + length line ≤ GREATEST_CAPTURE = omega (arith, c.requires.ready.count) in
    let new = c.end_line-is_faulty.new.self in
    let ended = c.end_line-is_faulty.ensures in
    line_taken r new line c.args.outlet.now c.end_line-is_faulty.new.outlet c.end_line-is_faulty.result ended.moved.same ended.reading ended.fault
    (λ seen s. whole_line r new seen line c.args.outlet.now c.end_line-is_faulty.new.outlet small c.requires.ready.live.sound c.requires.closed c.requires.few c.requires.plain s
    (λ reads. ended.taken (opened r line (length line) small) _ (record { plan = refl; fault = refl; lines = refl; version = refl; count = refl; writer = refl; line_is = refl }) reads))
