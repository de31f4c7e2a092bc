use Rattle.std.proofs.Common.{◌≡◌, ◌≢◌, ◌∙◌, ◌+◌, ◌≤◌, ◌<◌, ℕ, Bool, Option, None, Some, true, false, not, sym, ap, refl}
use Rattle.std.specs.Prelude.{is_none}
use Rattle.std.specs.Option.{is_some}
use Rattle.trace_values.specs.declared.reading_modes.FramesMode.{FramesMode}
use Rattle.trace_values.specs.declared.reading_modes.FramesMode.TheVariants.{Bare}
use Rattle.source_events.specs.declared.event.Stop.{Stop}
use Rattle.source_events.specs.declared.plan.Plan.{Plan}
use Rattle.recovering_machines.specs.Hearing.{takes_read}
use Rattle.source_merge.specs.Engine.{plan_of}
use Rattle.source_merge.specs.declared.engine.Engine.{Engine}
use Rattle.source_merge.proofs.Taking.{Cut, late, reads_to, takes}
use Rattle.source_merge.proofs.engine.Engine.take.Goals as goal

tested : {A : Type 0} → (o : Option A) (t : Bool) → is_some o ≡ not t → t ≡ is_none o
tested None true e = refl
tested None false e = cc
tested (Some x) true e = cc
tested (Some x) false e = refl

-- what `read_of` answers, in the mode of the plan
cut_of : (old : Engine) (at taken bytes : ℕ) (stop : Option Stop) (frames : FramesMode) →
    frames ≡ (plan_of old).frames → (0 < bytes) × (bytes ≤ taken) → (frames ≢ Bare → bytes ≡ taken) →
    (stop ≡ None → bytes ≡ taken) →
    ((s : Stop) (k : ℕ) → frames ≡ Bare → stop ≡ Some s → s.fault.at ≡ at + k → k < taken → bytes ≡ k + 1) →
    Cut old at taken bytes stop
cut_of old at taken bytes stop frames same some framed going bare = record {
  some = some;
  framed = λ b. framed (λ e. b (sym same ∙ e));
  going = going;
  bare = λ s k b e p l. bare s k (same ∙ b) e p l;
}

pub returns-clause-takes : goal.returns-clause-takes
returns-clause-takes g c =
    let h = c.hear_front-taken in
    let r = c.read_of-bytes.ensures in
    let old = c.args.self.now in
    let cut = cut_of old c.args.at h.result c.read_of-bytes.result h.new.stop c.plan.result.now.frames
    (ap (λ (p : Plan). p.frames) (c.plan.ensures ∙ h.ensures.1.plan)) r.bytes r.framed r.going r.stops in
    takes (takes_read g.V.Receiver.gets) g.V.Receiver.room c.args.at c.args.piece.now h.result c.read_of-bytes.result old
    (c.args.out.now, c.args.to.now) (h.new.out, h.new.to) h.new.stop c.requires.live c.requires.offsets.0 cut _
    h.ensures
    (record { count = refl; next = refl; live = tested h.new.stop c.is_none-self.result c.is_none-self.ensures })

pub returns-clause-reads : goal.returns-clause-reads
returns-clause-reads g c =
    let h = c.hear_front-taken in
    let r = c.read_of-bytes.ensures in
    let old = c.args.self.now in
    let cut = cut_of old c.args.at h.result c.read_of-bytes.result h.new.stop c.plan.result.now.frames
    (ap (λ (p : Plan). p.frames) (c.plan.ensures ∙ h.ensures.1.plan)) r.bytes r.framed r.going r.stops in
    reads_to (takes_read g.V.Receiver.gets) g.V.Receiver.room c.args.at c.args.piece.now h.result c.read_of-bytes.result old
    (c.args.out.now, c.args.to.now) (h.new.out, h.new.to) h.new.stop c.requires.live c.requires.offsets.0 cut
    h.new.recovery h.new.items h.ensures

pub returns-clause-late : goal.returns-clause-late
returns-clause-late g c =
    let h = c.hear_front-taken in
    let r = c.read_of-bytes.ensures in
    let old = c.args.self.now in
    let cut = cut_of old c.args.at h.result c.read_of-bytes.result h.new.stop c.plan.result.now.frames
    (ap (λ (p : Plan). p.frames) (c.plan.ensures ∙ h.ensures.1.plan)) r.bytes r.framed r.going r.stops in
    late (takes_read g.V.Receiver.gets) g.V.Receiver.room c.args.at c.args.piece.now h.result c.read_of-bytes.result old
    (c.args.out.now, c.args.to.now) (h.new.out, h.new.to) h.new.stop c.requires.live c.requires.offsets.0 cut
    h.new.recovery h.new.items h.ensures
