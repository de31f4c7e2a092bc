use Rattle.std.proofs.Common.{◌+◌, ◌*◌, ◌++◌, ◌∷◌, [], sym, ◌∙◌, ap, arith, true}
use Rattle.frame_writer.specs.Writer.{later_of}
use Rattle.frame_writer.proofs.Frames.{followed, deferred, held_room}
use Rattle.frame_writer.proofs.Standing.{nothing_before, none_more, stands_put}
use Rattle.frame_writer.proofs.writer.FrameWriter.put.Goals as goal

pub returns-then-is_in_force-clause-to_come : goal.returns-then-is_in_force-clause-to_come
returns-then-is_in_force-clause-to_come c = λ t later.
    let w = c.args.self.now in
    nothing_before c.args.out.now.items _ _ c.requires.empty (followed w.every w.halves (later_of w later) w.frames w.pairs.items c.push.new.self.items w.id w.held c.args.id c.in-Some.held c.args.byte _ t w.sound c.in-Some.is
    (held_room w.every w.frames w.pairs.items w.id w.held c.in-Some.held w.sound c.in-Some.is) (sym c.if-is_in_force.ensures) (omega arith) c.push.ensures.items)

pub returns-else-is_in_force-clause-to_come : goal.returns-else-is_in_force-clause-to_come
returns-else-is_in_force-clause-to_come c = λ t later.
    let w = c.args.self.now in
    deferred w.every w.halves (later_of w later) w.frames w.pairs.items c.push-else-is_in_force.new.self.items w.id w.held c.args.id c.in-Some.held c.args.byte t _ w.sound c.in-Some.is
    (held_room w.every w.frames w.pairs.items w.id w.held c.in-Some.held w.sound c.in-Some.is) (sym c.if-is_in_force.ensures)
    (c.push-else-is_in_force.ensures.items ∙ ap (λ n. w.pairs.items ++ record { even = 2 * n + 1; aux = true; odd = c.in-Some.held } ∷ []) c.number.ensures.value)
    (c.place-else-is_in_force.ensures.to_come t later)

pub returns-in-None-clause-list : goal.returns-in-None-clause-list
returns-in-None-clause-list c = λ every halves closed t so_far s.
    stands_put c.args.self.now c.place.new.self every halves closed (record { id = c.args.id; byte = c.args.byte }) c.place.new.out.items so_far t c.place.ensures.to_come c.place.ensures.count s

pub returns-then-is_in_force-clause-list : goal.returns-then-is_in_force-clause-list
returns-then-is_in_force-clause-list c = λ every halves closed t so_far s.
    stands_put c.args.self.now _ every halves closed (record { id = c.args.id; byte = c.args.byte }) c.args.out.now.items so_far t
    (returns-then-is_in_force-clause-to_come c) (none_more c.args.out.now.items c.args.self.now.frames c.requires.empty) s

pub returns-else-is_in_force-clause-list : goal.returns-else-is_in_force-clause-list
returns-else-is_in_force-clause-list c = λ every halves closed t so_far s.
    stands_put c.args.self.now c.place-else-is_in_force.new.self every halves closed (record { id = c.args.id; byte = c.args.byte }) c.place-else-is_in_force.new.out.items so_far t
    (returns-else-is_in_force-clause-to_come c) c.place-else-is_in_force.ensures.count s
