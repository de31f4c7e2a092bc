use Rattle.std.proofs.Common.{◌≡◌, ◌∙◌, sym, ap, refl, ℕ}
use Rattle.trace_values.specs.Placed.{placed}
use Rattle.source_counts.specs.declared.counts.Counts.{Counts}
use Rattle.recovery_report.specs.Report.{report}
use Rattle.recovery_listing.specs.Counting.{plan_of}
use Rattle.recovery_listing.proofs.Items.{items_are, packets_are}
use Rattle.recovery_listing.proofs.counting.counts_of.Goals as goal

same_counts : (b c i j : ℕ) → b ≡ c → i ≡ j →
    (let a : Counts = record { bytes = b; items = i } in let d : Counts = record { bytes = c; items = j } in a ≡ d)
same_counts b c i j e f = cc

pub returns-in-Some-clause-value : goal.returns-in-Some-clause-value
returns-in-Some-clause-value c = λ seen h.
    let u = placed seen in
    let plan = plan_of c.args.engine.now in
    same_counts _ _ _ _ (ap (λ (s : Counts). s.bytes) (c.counts-sent.ensures.value u h.read))
    (c.packets.ensures.value (report plan u) h.heard
    ∙ packets_are c.args.id plan seen _ (sym c.kind_of.ensures ∙ c.in-Some.is))

pub returns-in-None-clause-value : goal.returns-in-None-clause-value
returns-in-None-clause-value c = λ seen h.
    let u = placed seen in
    let plan = plan_of c.args.engine.now in
    c.counts-sent.ensures.value u h.read
    ∙ same_counts _ _ _ _ refl (items_are c.args.id plan seen (sym c.kind_of.ensures ∙ c.in-None.is))
