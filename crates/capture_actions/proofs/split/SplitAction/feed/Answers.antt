use Rattle.std.proofs.Common.{take, sym, subst, ◌+◌, ◌*◌}
use Rattle.trace_stream.specs.declared.action.Progress.{Progress}
use Rattle.capture_actions.specs.Names.{HasTaken}
use Rattle.capture_actions.specs.Split.{split_meaning}
use Rattle.capture_actions.specs.Splitter.{Stands, plan_of}
use Rattle.capture_actions.proofs.Ports.{plain_whole}
use Rattle.capture_actions.proofs.split.SplitAction.feed.Goals as goal

pub returns-in-Some-clause-fed : goal.returns-in-Some-clause-fed
returns-in-Some-clause-fed c = λ seen s.
    let plan = plan_of c.args.self.now in
    let piece = c.args.piece.now in
    subst (λ (t : Progress). HasTaken (Stands c.feed_frame.new.self) (split_meaning plan) (record { seen = seen; front = take t.bytes piece; before = c.args.outlet.now; after = c.feed_frame.new.outlet }) t.is_faulty) (sym c.feed_frame.ensures.taken)
    (c.feed_frame.ensures.fed seen (take 16 piece) s (plain_whole piece c.in-Some.frame.now c.in-Some.ensures.bytes c.in-Some.ensures.room c.in-Some.ensures.proper))

pub returns-in-Some-gather_frame_at-clause-fed : goal.returns-in-Some-gather_frame_at-clause-fed
returns-in-Some-gather_frame_at-clause-fed c = λ seen s.
    let plan = plan_of c.args.self.now in
    let piece = c.args.piece.now in
    let halves = c.in-Some-gather_frame_at.gathered.halves in
    subst (λ (t : Progress). HasTaken (Stands c.feed_frame-in-Some-gather_frame_at.new.self) (split_meaning plan) (record { seen = seen; front = take t.bytes piece; before = c.args.outlet.now; after = c.feed_frame-in-Some-gather_frame_at.new.outlet }) t.is_faulty) (sym c.feed_frame-in-Some-gather_frame_at.ensures.taken)
    (c.feed_frame-in-Some-gather_frame_at.ensures.fed seen (take (16 + 2 * halves) piece) s c.in-Some-gather_frame_at.ensures.whole)
