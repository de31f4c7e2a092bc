use Rattle.std.proofs.Common.{◌≡◌, ◌≢◌, ◌∙◌, ◌+◌, ◌≤◌, ℕ, length, take, sym, ap, subst}
use Rattle.trace_values.specs.declared.reading_modes.FramesMode.{FramesMode}
use Rattle.trace_values.specs.declared.reading_modes.FramesMode.TheVariants.{Hunt, Aligned, Bare}
use Rattle.std.proofs.Common.{inl, inr, ◌⊎◌}
use Rattle.source_events.specs.declared.plan.Plan.{Plan}
use Rattle.source_merge.specs.Answering.{fault_of, flow_to}
use Rattle.source_merge.specs.Engine.{plan_of}
use Rattle.source_merge.proofs.Taking.{first_gives, first_takes, gives_last, most_framed, none_of, rise_of}
use Rattle.source_merge.proofs.engine.Engine.take_last.Goals as goal

pub returns-in-Bare-clause-takes : goal.returns-in-Bare-clause-takes
returns-in-Bare-clause-takes g c =
    first_takes c.args.self.now c.take.new.self c.args.at c.args.piece.now c.take.result c.take.new.stop
    c.take.ensures.takes

pub returns-in-Bare-clause-fed : goal.returns-in-Bare-clause-fed
returns-in-Bare-clause-fed g c =
    let t = c.take.ensures in (
      t.reads.0,
      t.reads.1,
      λ u st.
          first_gives (plan_of c.args.self.now) u c.args.at c.args.piece.now c.take.result t.reads.0
          (flow_to c.take.new.stop) t.takes.bytes.0 t.takes.bytes.1 (t.reads.2 u st),
    )

framed_by : (mode plan : FramesMode) → mode ≡ plan → (mode ≡ Hunt) ⊎ (mode ≡ Aligned) → plan ≢ Bare
framed_by mode plan s (inl e) = λ b. (let q : Hunt ≡ Bare = sym e ∙ s ∙ b in cc)
framed_by mode plan s (inr e) = λ b. (let q : Aligned ≡ Bare = sym e ∙ s ∙ b in cc)

pub returns-in-Hunt : goal.returns-in-Hunt
returns-in-Hunt g c =
    let t = c.take-in-Hunt.ensures in
    let self = c.args.self.now in
    let plan = plan_of self in
    let framed = framed_by c.plan.result.now.frames plan.frames (ap (λ (p : Plan). p.frames) c.plan.ensures) c.in-Hunt.is in
    record {
      takes = t.takes;
      space = subst (λ (n : ℕ). g.V.Receiver.room (c.args.out.now, c.args.to.now)
          ≤ g.V.Receiver.room (c.take-in-Hunt.new.out, c.take-in-Hunt.new.to) + n)
          (most_framed plan.frames (length c.args.piece.now) framed) t.space;
      fed = (
        t.reads.0,
        t.reads.1,
        λ u st.
            gives_last plan u c.args.at (take c.take-in-Hunt.result c.args.piece.now) t.reads.0
            (flow_to c.take-in-Hunt.new.stop) self.sound (rise_of self c.args.at u st c.requires.offsets.0)
            (none_of (fault_of plan u) (sym st.live ∙ c.requires.live)) (t.reads.2 u st) (t.late framed u st),
      );
    }
