use Rattle.std.proofs.Common.{◌≡◌, ◌*◌, ◌≤◌, ℕ, List, Option, length, sym, ◌∙◌, ap, subst, arith, map}
use Rattle.std.specs.List.{refill}
use Rattle.frame_grammar.specs.Frame.{cells}
use Rattle.frame_runs.specs.Gathered.{frame_places}
use Rattle.source_events.specs.Runs.{runs_of}
use Rattle.recovery_engine.proofs.Refilled.{refilled}
use Rattle.recovering_machines.specs.Port.{id_of}
use Rattle.recovery_report.specs.Report.{Part, Run}
use Rattle.recovery_engine.specs.Slots.{total}
use Rattle.recovery_engine.specs.Taking.{Takes}
use Rattle.recovery_engine.specs.declared.slot.RecoveringSlot.{RecoveringSlot}
use Rattle.recovery_engine.proofs.Gathering.{fronted, took}
use Rattle.recovery_engine.proofs.engine.Recovery.take_gathered.Goals as goal

pub invariant_of-self : goal.invariant_of-self
invariant_of-self g c =
    let passed = c.pass_gathered.new.self in
    let old = passed.slots.items in
    let new = c.take_whole.new.slots in
    let all : refill (length old) old new ≡ new =
    refilled old new (c.take_whole.ensures.len ∙ ap length c.as_mut_slice.ensures.value) in
    let before : total c.as_mut_slice.result.now ≡ total c.args.self.now.slots.items =
    ap total c.as_mut_slice.ensures.value ∙ ap (λ s. total s.items) c.pass_gathered.ensures.slots in
    record {
      port_few = passed.port_few;
      few = subst (λ (l : List RecoveringSlot). total l ≤ 90 * passed.count) (sym all)
          (let f = c.args.self.now.few in let t = c.take_whole.ensures.few in let n = c.pass_gathered.ensures.count in
          omega (arith, f, t, n, before));
      counted_few = passed.counted_few;
      within = passed.within;
      limit = passed.limit;
    }

pub returns : goal.returns
returns g c =
    let self = c.args.self.now in
    let frame = c.args.frame.now in
    let passed = c.pass_gathered.new.self in
    let p = c.pass_gathered.ensures in
    let runs : Option ℕ → List Part = λ i. map Run (runs_of (cells frame.bytes (frame_places frame) i)) in
    let seen = c.requires in
    fronted g.V.Receiver.gets g.V.Receiver.room frame c.args.at c.size.result c.args._piece.now self _ seen.here c.size.ensures
    seen.within seen.is p.plan p.guesses p.next p.adds p.late
    (subst (λ (l : List RecoveringSlot). Takes g.V.Receiver.gets (runs (id_of self.port))
    (l, (c.args.out.now, c.args.to.now)) (
      refill (length passed.slots.items) passed.slots.items c.take_whole.new.slots,
      (c.take_whole.new.out, c.take_whole.new.to),
    )) (ap (λ s. s.items) p.slots)
    (took g.V.Receiver.gets (runs (id_of self.port)) passed.slots.items c.as_mut_slice.ensures.value
    c.take_whole.ensures.len (subst (λ (i : Option ℕ). Takes g.V.Receiver.gets (runs i)
    (c.as_mut_slice.result.now, (c.args.out.now, c.args.to.now))
    (c.take_whole.new.slots, (c.take_whole.new.out, c.take_whole.new.to))) c.id-before.ensures
    c.take_whole.ensures.takes)))
    c.take_whole.ensures.room
