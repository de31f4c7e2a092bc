use Rattle.std.proofs.Common.{[], ◌∷◌, sym, ◌∙◌, subst, Some}
use Rattle.source_events.specs.Merge.{told}
use Rattle.source_events.specs.Report.{raw_events}
use Rattle.recovery_report.specs.Report.{Run}
use Rattle.recovery_engine.specs.Taking.{Grown}
use Rattle.recovery_engine.proofs.Parts.{grown_none, grown_raw, takes_own}
use Rattle.recovery_engine.proofs.router.take_run.Goals as goal

pub returns-in_default-clause-takes : goal.returns-in_default-clause-takes
returns-in_default-clause-takes g c = (
  [],
  g.met.V.Receiver.adds_up.none (c.args.out.now, c.args.to.now),
  λ guesses plan parts k. grown_none guesses plan parts (g.R.Run.cells c.args.run.now) c.args.slots.now
      (c.requires.own.own ∙ c.in_default.is) k,
)

pub returns-then-not-take_own-clause-takes : goal.returns-then-not-take_own-clause-takes
returns-then-not-take_own-clause-takes g c =
    let x = c.in-Some.id in
    let run = (g.R.Run.cells c.args.run.now) in
    let other = c.take_own.ensures.other c.if-not-take_own.true in (
      told (Some x) (raw_events x run),
      subst (λ o. g.V.Receiver.gets (o, c.args.to.now) (told (Some x) (raw_events x run))
          (c.give_raw.new.out, c.give_raw.new.to)) other.1
          (subst (λ t. g.V.Receiver.gets (c.take_own.new.out, t) (told (Some x) (raw_events x run))
          (c.give_raw.new.out, c.give_raw.new.to)) other.2 c.give_raw.ensures.given),
      λ guesses plan parts k.
          subst (λ l. Grown guesses plan parts (Run run ∷ []) l (told (Some x) (raw_events x run))) (sym other.0)
          (grown_raw guesses plan parts run x c.args.slots.now (c.requires.own.own ∙ c.in-Some.is) other.3 k),
    )

pub returns-else-not-take_own-clause-takes : goal.returns-else-not-take_own-clause-takes
returns-else-not-take_own-clause-takes g c =
    takes_own g.V.Receiver.gets g.V.Receiver.room (g.R.Run.cells c.args.run.now) c.in-Some.id
    (c.args.slots.now, (c.args.out.now, c.args.to.now))
    (c.take_own.new.slots, (c.take_own.new.out, c.take_own.new.to))
    (c.requires.own.own ∙ c.in-Some.is) (c.take_own.ensures.own c.if-not-take_own.false)
