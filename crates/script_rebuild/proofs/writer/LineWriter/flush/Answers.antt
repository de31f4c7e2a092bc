use Rattle.std.proofs.Common.{refl, ◌+◌, ◌∙◌, arith}
use Rattle.script_rebuild.specs.Script.{given_puts}
use Rattle.script_rebuild.proofs.EachEncoder.{named_still}
use Rattle.script_rebuild.proofs.Placing.{keeps_placed}
use Rattle.script_rebuild.proofs.Rooms.{less_room}
use Rattle.script_rebuild.proofs.Standing.{flush_put}
use Rattle.script_rebuild.specs.Writer.{turns_of}
use Rattle.script_rebuild.proofs.writer.LineWriter.flush.Goals as goal

pub put_kept-self-requires-clause-room : goal.put_kept-self-requires-clause-room
put_kept-self-requires-clause-room c = less_room c.args.self.now.formatter 23 16 (omega arith) c.requires.room.room

pub flush-requires-clause-room : goal.flush-requires-clause-room
flush-requires-clause-room c = c.put_kept-self.ensures.room 7 c.requires.room.room

pub put_kept-self-requires-clause-count : goal.put_kept-self-requires-clause-count
put_kept-self-requires-clause-count c = omega (arith, c.requires.room.count)

pub flush-requires-clause-count : goal.flush-requires-clause-count
flush-requires-clause-count c = omega (arith, c.requires.room.count, c.put_kept-self.ensures.count)

pub returns-clause-spent : goal.returns-clause-spent
returns-clause-spent c = record {
  turns = c.flush.ensures.turns ∙ c.put_kept-self.ensures.turns;
  count = omega (arith, c.flush.ensures.count, c.put_kept-self.ensures.count);
  room = λ more h.
      c.flush.ensures.room more
      (c.put_kept-self.ensures.room (7 + more) (less_room c.args.self.now.formatter (23 + more) (16 + (7 + more)) (omega arith) h));
}

pub returns-clause-puts : goal.returns-clause-puts
returns-clause-puts c = λ port lines s.
    let w = c.args.self.now in
    let kept = c.put_kept-self in
    flush_put w port lines s kept.new.formatter c.flush.new.self
    (kept.ensures.put w.order (λ x. given_puts x lines) s.items (keeps_placed (turns_of w) w.order lines s.places))
    c.flush.ensures.ends _ refl refl kept.ensures.ids (c.flush.ensures.turns ∙ kept.ensures.turns)
    (kept.ensures.stand w.order (λ x. given_puts x lines) s.items)

pub invariant_of-self : goal.invariant_of-self
invariant_of-self c = record {
  named = named_still c.args.self.now.encoders.items c.put_kept-self.result.items c.put_kept-self.ensures.ids c.args.self.now.named;
}
