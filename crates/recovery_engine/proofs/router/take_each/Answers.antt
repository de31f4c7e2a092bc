use Rattle.std.proofs.Common.{Some, subst, sym}
use Rattle.source_events.specs.Merge.{told}
use Rattle.source_events.specs.Report.{lifted}
use Rattle.recovery_report.specs.Words.{singles}
use Rattle.recovery_engine.specs.Bare.{raw_each}
use Rattle.recovery_engine.specs.Taking.{Grown}
use Rattle.recovery_engine.proofs.Parts.{grown_each, grown_raws}
use Rattle.recovery_engine.proofs.router.take_each.Goals as goal

pub returns-then-not-take_own-clause-takes : goal.returns-then-not-take_own-clause-takes
returns-then-not-take_own-clause-takes g c =
    let x = c.args.id in
    let cells = g.R.Run.cells c.args.run.now in
    let said = raw_each x cells in
    let other = c.take_own.ensures.other c.if-not-take_own.true in (
      said,
      subst (λ o. g.V.Receiver.gets (o, c.args.to.now) said (c.give_each.new.out, c.give_each.new.to)) other.1
          (subst (λ t. g.V.Receiver.gets (c.take_own.new.out, t) said (c.give_each.new.out, c.give_each.new.to)) other.2
          c.give_each.ensures.given),
      λ guesses plan parts k. subst (λ l. Grown guesses plan parts (singles cells) l said) (sym other.0)
          (grown_raws guesses plan cells parts x c.args.slots.now c.requires.own other.3 k),
    )

pub returns-else-not-take_own-clause-takes : goal.returns-else-not-take_own-clause-takes
returns-else-not-take_own-clause-takes g c =
    let own = c.take_own.ensures.own c.if-not-take_own.false in (
      told (Some c.args.id) (lifted own.takes.said),
      own.takes.received,
      λ guesses plan parts k. grown_each g.V.Receiver.gets g.V.Receiver.room guesses plan parts
          (g.R.Run.cells c.args.run.now) c.args.id
          (c.args.slots.now, (c.args.out.now, c.args.to.now))
          (c.take_own.new.slots, (c.take_own.new.out, c.take_own.new.to)) c.requires.own k own,
    )
