use Rattle.std.proofs.Common.{◌≡◌, ◌+◌, [], ◌++◌, length, take, drop, arith, subst, ap, ◌∙◌, append-nil, refl, sym}
use Rattle.std.specs.Io.KnownBytes.{Consumes}
use Rattle.std.proofs.KnownBytes.{Appends-nil, Consumes-nil}
use Rattle.std.proofs.lemmas.List.{length-take, drop_all}
use Rattle.trace_stream.proofs.Pieces.{fed_at}
use Rattle.trace_stream.specs.BuffersState.{BuffersState}
use Rattle.trace_stream.specs.Served.{Ends}
use Rattle.trace_stream.specs.Told.{HasTold, Noted, told}
use Rattle.trace_stream.proofs.Telling.{told_none}
use Rattle.trace_stream.proofs.Inputs.{pump_stopped, pump_write_failed, pump_over, pump_more, cut_of, cut_kept, IsPumping}
use Rattle.trace_stream.proofs.pumping.pump.Goals as goal

pub returns-in-Err-feed_piece-clause-pumped : goal.returns-in-Err-feed_piece-clause-pumped
returns-in-Err-feed_piece-clause-pumped g c =
    let fed = c.in-Err-feed_piece.ensures.fed _ _ _ _ c.loop-got.invariant.same c.loop-got.invariant.pumping.after in
    let cut = cut_of c.read_next.new.buffer (drop c.min-want.result c.loop-got.buffer) c.in-Ok.got c.min-taken.result (omega (arith, c.in-Ok.ensures.bound)) (omega arith) in
    pump_write_failed _ _ _ _ _ _ _ _ _ c.loop-got.count _ _ _ c.loop-got.invariant.pumping c.in-Ok.ensures.bytes.0 cut.parts
    (omega (arith, cut.piece)) (omega (arith, cut.read, c.in-Ok.ensures.bound, length-take c.min-want.result c.loop-got.buffer, c.read_next.auto.buffer)) fed.0 fed.1 fed.2

pub returns-then-fed-clause-pumped : goal.returns-then-fed-clause-pumped
returns-then-fed-clause-pumped g c =
    let stands = fed_at _ _ _ _ _ _ c.if-fed.true (c.in-Ok-feed_piece.ensures.fed _ _ _ _ c.loop-got.invariant.same c.loop-got.invariant.pumping.after) in
    let cut = cut_of c.read_next.new.buffer (drop c.min-want.result c.loop-got.buffer) c.in-Ok.got c.min-taken.result (omega (arith, c.in-Ok.ensures.bound)) (omega arith) in
    pump_stopped _ _ _ _ _ _ _ _ _ c.loop-got.count _ _ _ c.loop-got.invariant.pumping c.in-Ok.ensures.bytes.0 cut.parts
    (omega (arith, cut.piece)) (omega (arith, cut.read, c.in-Ok.ensures.bound, length-take c.min-want.result c.loop-got.buffer, c.read_next.auto.buffer))
    c.in-Ok-feed_piece.fed.bytes stands (cut_kept _ c.loop-got.recent c.keep.new.self c.in-Ok-feed_piece.fed.bytes c.min-taken.result c.in-Ok-feed_piece.ensures.taken.within c.keep.ensures)

pub returns-then-taken-got-clause-pumped : goal.returns-then-taken-got-clause-pumped
returns-then-taken-got-clause-pumped g c =
    let stands = fed_at _ _ _ _ _ _ c.if-fed.false (c.in-Ok-feed_piece.ensures.fed _ _ _ _ c.loop-got.invariant.same c.loop-got.invariant.pumping.after) in
    let cut = cut_of c.read_next.new.buffer (drop c.min-want.result c.loop-got.buffer) c.in-Ok.got c.min-taken.result (omega (arith, c.in-Ok.ensures.bound)) (omega arith) in
    let all = c.in-Ok-feed_piece.ensures.taken.all c.if-fed.false in
    pump_over _ _ _ _ _ _ _ _ _ c.loop-got.count _ _ _ c.loop-got.invariant.pumping c.in-Ok.ensures.bytes.0 cut.parts
    (omega (arith, cut.piece)) (omega (arith, cut.read, c.in-Ok.ensures.bound, length-take c.min-want.result c.loop-got.buffer, c.read_next.auto.buffer))
    c.in-Ok-feed_piece.fed.bytes stands all.1 (omega (arith, cut.piece)) (omega (arith, cut.read, c.in-Ok.ensures.bound, length-take c.min-want.result c.loop-got.buffer, c.read_next.auto.buffer)) all.2

pub loop-got-init : goal.loop-got-init
loop-got-init g c =
    let plan = g.A.Action.plan c.args.action.now in
    let lawful = g.met.A.Action.lawful plan in
    let fresh = c.requires.fresh in
    let first : Noted = told (g.N.Sink.held c.args.notes.now) (g.N.Sink.faults c.args.notes.now) in
    record {
      same = refl;
      live = fresh.live;
      taken = fresh.count;
      nothing_owed = fresh.nothing_owed;
      empty = fresh.pending;
      silent = c.requires.silent;
      pumping = record {
        seen = [];
        lost = Consumes-nil (g.I.Source.left c.args.input.now);
        after = record {
          read = told_none _ (g.A.Action.noted plan) first fresh.nothing_noted fresh.fresh;
          fault = lawful.never_at_first;
          written = record {
            front = [];
            took = Appends-nil (g.O.Sink.held c.args.output.now);
            all = lawful.nothing_at_first ∙ sym fresh.pending;
          };
        };
        counted = refl;
        kept = fresh.recent;
      };
      within = omega arith;
      no_empty_read = refl;
      read_later = omega arith;
      write_later = omega arith;
    }

pub loop-got-preserved : goal.loop-got-preserved
loop-got-preserved g c =
    let stands = fed_at _ _ _ _ _ _ c.if-fed.false (c.in-Ok-feed_piece.ensures.fed _ _ _ _ c.loop-got.invariant.same c.loop-got.invariant.pumping.after) in
    let cut = cut_of c.read_next.new.buffer (drop c.min-want.result c.loop-got.buffer) c.in-Ok.got c.min-taken.result (omega (arith, c.in-Ok.ensures.bound)) (omega arith) in
    let all = c.in-Ok-feed_piece.ensures.taken.all c.if-fed.false in
    let piece = take c.min-taken.result (c.read_next.new.buffer ++ drop c.min-want.result c.loop-got.buffer) in
    let count : length piece ≡ c.in-Ok.got = omega (arith, cut.piece) in
    let none : drop c.min-taken.result (take c.in-Ok.got c.read_next.new.buffer) ≡ [] = drop_all c.min-taken.result (take c.in-Ok.got c.read_next.new.buffer) (omega (arith, cut.read)) in
    let lost : Consumes (g.I.Source.left c.loop-got.input) (g.I.Source.left c.read_next.new.input) piece =
    subst (Consumes (g.I.Source.left c.loop-got.input) (g.I.Source.left c.read_next.new.input)) (cut.parts ∙ ap (λ l. piece ++ l) none ∙ append-nil piece) c.in-Ok.ensures.bytes.0 in
    let meaning = g.A.Action.meaning (g.A.Action.plan c.args.action.now) in
    let first : Noted = told (g.N.Sink.held c.args.notes.now) (g.N.Sink.faults c.args.notes.now) in
    let last : Noted = told (g.N.Sink.held c.feed_piece.new.notes) (g.N.Sink.faults c.feed_piece.new.notes) in
    let noted = g.A.Action.noted (g.A.Action.plan c.args.action.now) in
    let stood = HasTold (g.A.Action.stands c.feed_piece.new.action) noted first last in
    let before : Ends = record { left = g.I.Source.left c.args.input.now; held = g.O.Sink.held c.args.output.now } in
    let now : Ends = record { left = g.I.Source.left c.read_next.new.input; held = g.O.Sink.held c.feed_piece.new.output } in
    let buffers : BuffersState = record { pending = c.feed_piece.new.outlet; recent = c.keep.new.self } in
    record {
      same = c.in-Ok-feed_piece.ensures.same ∙ c.loop-got.invariant.same;
      live = all.0;
      taken = omega (arith, c.in-Ok-feed_piece.ensures.taken.count, all.1, count, c.loop-got.invariant.taken);
      nothing_owed = c.in-Ok-feed_piece.ensures.paid;
      empty = all.2;
      silent = c.feed_piece.ensures.silent;
      pumping = subst (IsPumping stood meaning before now buffers) (ap (λ n. c.loop-got.count + n) count)
          (pump_more _ _ meaning before _ now _ buffers c.loop-got.count piece c.loop-got.invariant.pumping lost c.in-Ok-feed_piece.fed.bytes all.1 stands (cut_kept _ c.loop-got.recent c.keep.new.self c.in-Ok-feed_piece.fed.bytes c.min-taken.result c.in-Ok-feed_piece.ensures.taken.within c.keep.ensures));
      within = omega arith;
      no_empty_read = c.in-Ok.ensures.empty.1 (omega arith) ∙ c.loop-got.invariant.no_empty_read;
      read_later = omega (arith, c.in-Ok.ensures.cause.later);
      write_later = omega (arith, c.in-Ok-feed_piece.ensures.cause.later);
    }
