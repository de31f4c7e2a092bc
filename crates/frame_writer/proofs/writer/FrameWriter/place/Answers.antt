use Rattle.std.proofs.Common.{◌+◌, ◌*◌, ◌/◌, sym, ◌∙◌, ap, arith, false}
use Rattle.frame_writer.specs.Written.{is_odd}
use Rattle.frame_writer.specs.Writer.{later_of}
use Rattle.frame_writer.proofs.Frames.{ended, ended_named}
use Rattle.frame_writer.proofs.Standing.{respelled, then_others, one_more}
use Rattle.frame_writer.proofs.writer.FrameWriter.place.Goals as goal

pub returns-then-is_in_force-clause-to_come : goal.returns-then-is_in_force-clause-to_come
returns-then-is_in_force-clause-to_come c = λ t later.
    let w = c.args.self.now in
    let e = respelled w.every w.halves w.frames w.pairs.items (is_odd c.args.byte) _ (2 * (c.args.byte / 2)) _ c.append_frame.ensures.items (omega arith) in
    then_others w.every w.halves w.frames w.pairs.items (is_odd c.args.byte) _ (2 * (c.args.byte / 2)) _ _ e
    (ended w.every w.halves (later_of w later) w.frames w.pairs.items w.id w.held c.args.id c.args.byte t _ _ w.sound c.requires.held
    (let f = w.fits in let l = c.len.ensures.value in let m = c.if-len-lt7.false in omega arith) (sym c.if-is_in_force.ensures) e (c.begin_frame.ensures.to_come t later))

pub returns-then-is_in_force-clause-count : goal.returns-then-is_in_force-clause-count
returns-then-is_in_force-clause-count c =
    let w = c.args.self.now in
    c.begin_frame.ensures.begun.0 ∙ one_more w.every w.halves w.frames w.pairs.items _ _ _ w.frames c.append_frame.ensures.items

pub returns-else-is_in_force-clause-to_come : goal.returns-else-is_in_force-clause-to_come
returns-else-is_in_force-clause-to_come c = λ t later.
    let w = c.args.self.now in
    let e = respelled w.every w.halves w.frames w.pairs.items false _ (2 * c.args.id + 1) _ c.append_frame-else-is_in_force.ensures.items (ap (λ n. 2 * n + 1) c.number.ensures.value) in
    then_others w.every w.halves w.frames w.pairs.items false _ (2 * c.args.id + 1) _ _ e
    (ended_named w.every w.halves (later_of w later) w.frames w.pairs.items w.id w.held c.args.id c.args.byte t _ _ w.sound c.requires.held
    (let f = w.fits in let l = c.len.ensures.value in let m = c.if-len-lt7.false in omega arith) (sym c.if-is_in_force.ensures) e
    (c.begin_frame-else-is_in_force.ensures.to_come _ later ∙ c.place_in_pair-else-is_in_force.ensures.to_come t later))

pub returns-else-is_in_force-clause-count : goal.returns-else-is_in_force-clause-count
returns-else-is_in_force-clause-count c =
    let w = c.args.self.now in
    c.place_in_pair-else-is_in_force.ensures.same ∙ c.begin_frame-else-is_in_force.ensures.begun.0
    ∙ one_more w.every w.halves w.frames w.pairs.items false _ _ w.frames c.append_frame-else-is_in_force.ensures.items
