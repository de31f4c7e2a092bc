use Rattle.std.proofs.Common.{◌≡◌, ◌≢◌, refl, sym, ◌∙◌, ap, subst, inl, inr}
use Rattle.trace_values.specs.declared.reading_modes.FramesMode.TheVariants.{Hunt, Aligned, Bare}
use Rattle.source_events.specs.declared.port_mode.PortMode.TheVariants.{Bare as IsBare}
use Rattle.recovery_report.specs.Port.{recovered}
use Rattle.recovery_report.specs.Report.{mode_by}
use Rattle.recovery_engine.specs.Ends.{end_of}
use Rattle.recovery_engine.specs.declared.ends.PortEnd.{PortEnd}
use Rattle.recovery_engine.proofs.Ending.{port_ends}
use Rattle.recovery_engine.proofs.ends.port_end.Goals as goal

pub returns-in-Bare : goal.returns-in-Bare
returns-in-Bare c = λ u k.
    subst (λ m. (let e : PortEnd = record { mode = IsBare; skipped = 0; tail = 0 } in
    e ≡ end_of m (recovered m u))) (sym c.in-Bare.is) refl

pub returns-in-Hunt : goal.returns-in-Hunt
returns-in-Hunt c = λ u k.
    let mode = c.args.mode in
    let framed : mode ≢ Bare = λ q. elim c.in-Hunt.is [
      | inl h ↦ (let k : Hunt ≡ Bare = sym h ∙ q in cc)
      | inr h ↦ (let k : Aligned ≡ Bare = sym h ∙ q in cc)
    ] in
    port_ends c.args.port.now u c.mode_of.result c.skipped.result c.tail.result
    (λ r h. c.mode_of.ensures ∙ ap (λ b. mode_by b c.is_locked.result) (c.hunts.ensures r h)
    ∙ ap (mode_by r.now.hunts) (c.is_locked.ensures r h))
    c.skipped.ensures c.tail.ensures mode framed k
