use Rattle.std.proofs.Common.{◌≡◌, ◌+◌, sym, ap, subst, List, arith, inl, inr}
use Rattle.trace_values.specs.Placed.{Place}
use Rattle.recovery_report.specs.Report.{Part}
use Rattle.recovery_report.specs.Words.{parts_by}
use Rattle.recovery_engine.specs.Taking.{Takes}
use Rattle.recovery_engine.proofs.Parts.{takes_none, grown_lock, grown_break}
use Rattle.recovery_engine.proofs.router.take_step.Goals as goal

pub returns-in-Quiet-clause-takes : goal.returns-in-Quiet-clause-takes
returns-in-Quiet-clause-takes g c =
    subst (λ (l : List Part). Takes g.V.Receiver.gets l (c.args.slots.now, (c.args.out.now, c.args.to.now))
    (c.args.slots.now, (c.args.out.now, c.args.to.now)))
    (sym (elim c.in-Quiet.is [
      | inl e ↦ ap (λ s. parts_by 0 c.args.at s c.args.cells.now) e
      | inr f ↦ elim f [
        | inl e ↦ ap (λ s. parts_by 0 c.args.at s c.args.cells.now) e
        | inr e ↦ ap (λ s. parts_by 0 c.args.at s c.args.cells.now) e
      ]
    ]))
    (takes_none g.V.Receiver.gets g.met.V.Receiver.adds_up.none (c.args.slots.now, (c.args.out.now, c.args.to.now)))

pub returns-in-Frame-clause-takes : goal.returns-in-Frame-clause-takes
returns-in-Frame-clause-takes g c =
    subst (λ s. Takes g.V.Receiver.gets (parts_by 0 c.args.at s c.args.cells.now)
    (c.args.slots.now, (c.args.out.now, c.args.to.now))
    (c.take_frame.new.slots, (c.take_frame.new.out, c.take_frame.new.to))) (sym c.in-Frame.is)
    c.take_frame.ensures.takes

pub returns-in-Locked-clause-takes : goal.returns-in-Locked-clause-takes
returns-in-Locked-clause-takes g c =
    let place : Place = record { at = c.args.at; half = 0 } in
    subst (λ s. Takes g.V.Receiver.gets (parts_by 0 c.args.at s c.args.cells.now)
    (c.args.slots.now, (c.args.out.now, c.args.to.now))
    (c.args.slots.now, (c.give.new.self, c.give.new.to))) (sym c.in-Locked.is) (
      _,
      c.give.ensures.gets,
      λ guesses plan parts k.
          grown_lock guesses plan parts (0 + c.in-Locked.skipped) c.in-Locked.skipped place c.args.slots.now
          (let e : c.in-Locked.skipped ≡ 0 + c.in-Locked.skipped = omega arith in e) k,
    )

pub returns-in-Fault-clause-takes : goal.returns-in-Fault-clause-takes
returns-in-Fault-clause-takes g c =
    let f = c.in-Fault.fault in
    let place : Place = record { at = f.at; half = f.half } in
    subst (λ s. Takes g.V.Receiver.gets (parts_by 0 c.args.at s c.args.cells.now)
    (c.args.slots.now, (c.args.out.now, c.args.to.now))
    (c.cut_all.new.slots, (c.give-in-Fault.new.self, c.give-in-Fault.new.to))) (sym c.in-Fault.is) (
      _,
      c.give-in-Fault.ensures.gets,
      λ guesses plan parts k. grown_break guesses plan parts f.reason place c.args.slots.now c.cut_all.new.slots
          c.cut_all.ensures.cut k,
    )
