use Rattle.std.proofs.Common.{◌∙◌, ap, Some}
use Rattle.recovering_machines.specs.Mapped.{kind_of}
use Rattle.recovery_report.specs.Report.{mode_by, stretches_of}
use Rattle.recovery_engine.proofs.Ending.{source_ends}
use Rattle.recovery_engine.proofs.ends.slot_tail.Goals as goal

pub returns : goal.returns
returns c = λ guesses plan parts k e.
    let slot = c.args.slot.now in
    let r = stretches_of plan (kind_of slot.source) slot.id parts in
    ap Some (source_ends guesses plan parts slot.id slot.source c.args.kind c.mode_of.result c.skipped.result
    c.held.result k e (c.mode_of.ensures ∙ ap (λ b. mode_by b c.is_locked.result) (c.hunts.ensures r k.list)
    ∙ ap (mode_by r.now.hunts) (c.is_locked.ensures r k.list))
    (c.skipped.ensures r k.list) (c.held.ensures r k.list))
