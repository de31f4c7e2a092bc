use Rattle.std.proofs.Common.{ℕ, [], ◌∷◌, refl, ◌∙◌, sym, subst, ◌+◌, arith, Ok}
use Rattle.script_rebuild.specs.Names.{Line2, Puts}
use Rattle.port_formatter.specs.Formatter.{turns_of}
use Rattle.script_rebuild.specs.Script.{tagged}
use Rattle.script_rebuild.specs.PutLine.{PutsAfter}
use Rattle.script_rebuild.proofs.Rooms.{less_room, bytes_room, bytes_spent}
use Rattle.script_rebuild.proofs.Placing.{trigger_placed}
use Rattle.script_rebuild.proofs.Standing.{flush_after, trigger_put}
use Rattle.script_rebuild.proofs.writer.LineWriter.put2.Goals as goal

pub returns-in-One-clause-puts : goal.returns-in-One-clause-puts
returns-in-One-clause-puts c = λ port lines s.
    subst (λ (l : Line2). PutsAfter c.args.self.now c.put.new.self port lines l c.put.result) (sym c.in-One.is)
    (c.put.ensures.puts port lines s)

pub flush-requires : goal.flush-requires
flush-requires c = record {
  room = record {
    count = c.requires.room.count;
    room = less_room c.args.self.now.formatter 200 23 (omega arith) c.requires.room.room;
  };
}

pub returns-in-Flush-clause-puts : goal.returns-in-Flush-clause-puts
returns-in-Flush-clause-puts c = λ port lines s.
    subst (λ (l : Line2). PutsAfter c.args.self.now c.flush.new.self port lines l (Ok tt)) (sym c.in-Flush.is)
    (flush_after c.args.self.now c.flush.new.self port lines (c.flush.ensures.puts port lines s))

pub returns-in-Flush-clause-spent : goal.returns-in-Flush-clause-spent
returns-in-Flush-clause-spent c = record {
  turns = c.flush.ensures.spent.turns;
  count = c.flush.ensures.spent.count;
  room = λ more h.
      c.flush.ensures.spent.room more (less_room c.args.self.now.formatter (200 + more) (23 + more) (omega arith) h);
}

pub put_all-requires-clause-room : goal.put_all-requires-clause-room
put_all-requires-clause-room c = bytes_room c.args.self.now.formatter 1 (omega arith) c.requires.room

pub returns-in_ok-id-in-Trigger-clause-spent : goal.returns-in_ok-id-in-Trigger-clause-spent
returns-in_ok-id-in-Trigger-clause-spent c =
    let put = c.put_all.ensures in
    bytes_spent c.args.self.now.formatter c.put_all.new.self 1 (omega arith) put.turns put.count put.room

pub returns-in_ok-id-in-Trigger-clause-puts : goal.returns-in_ok-id-in-Trigger-clause-puts
returns-in_ok-id-in-Trigger-clause-puts c = λ port lines s.
    let w = c.args.self.now in
    let byte = c.in-Trigger.byte in
    let source = c.in_ok-id-in-Trigger.ensures.ok in
    let put = subst (λ (n : ℕ). Puts w.formatter c.put_all.new.self (tagged n (byte ∷ []))) source.0 c.put_all.ensures.put in
    trigger_put w port lines s _ c.args.line.now byte c.in-Trigger.is refl refl c.put_all.ensures.turns
    (trigger_placed (turns_of w.formatter) byte ∙ source.1) put
