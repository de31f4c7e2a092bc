use Rattle.std.proofs.Common.{◌≡◌, ap, sym, ◌∙◌, List, Bool}
use Rattle.source_machine.specs.Names.{PacketsMode, Placed, Order, items_in, items_at, order_of, StpDecoder, Stp}
use Rattle.source_machine.specs.Names.{SourceKind, stream_as, packets_hunt}
use Rattle.stp_codec.specs.Decoder.{is_hunter}
use Rattle.source_events.specs.declared.plan.SourceKind.TheVariants.{Stp as StpKind}
use Rattle.source_machine.specs.declared.machine.SourceMachine.TheVariants.{Stp as StpMachine}
use Rattle.source_machine.specs.Machine.{reading_of, reading_by}
use Rattle.source_machine.specs.Units.{reads_by}
use Rattle.trace_values.specs.declared.reading_modes.PacketsMode.TheVariants.{Hunt, Aligned}
use Rattle.source_machine.proofs.machine.SourceMachine.new.Goals as goal

stp_reads : (d : StpDecoder) (kind : SourceKind) (packets mode : PacketsMode) (order : Order) → order_of d ≡ order →
    is_hunter d ≡ packets_hunt mode → kind ≡ StpKind → packets ≡ mode →
    reading_of (StpMachine d) ≡ reading_by kind packets order
stp_reads d kind packets mode order o h k p =
    ap (λ (x : Order). λ (u : List Placed). stream_as Stp (items_in x (is_hunter d) u)) o
    ∙ ap (λ (x : Bool). λ (u : List Placed). stream_as Stp (items_in order x u)) h
    ∙ ap (λ (x : PacketsMode). reading_by StpKind x order) (sym p)
    ∙ ap (λ (x : SourceKind). reading_by x packets order) (sym k)

pub returns-in-Stp-Hunt-clause-reading : goal.returns-in-Stp-Hunt-clause-reading
returns-in-Stp-Hunt-clause-reading c =
    stp_reads c.hunting-in-Stp-Hunt.result c.args.kind c.args.packets Hunt c.args.order
    c.hunting-in-Stp-Hunt.ensures.order c.hunting-in-Stp-Hunt.ensures.mode c.in-Stp-Hunt.is-0 c.in-Stp-Hunt.is-1

pub returns-in-Stp-Aligned-clause-reading : goal.returns-in-Stp-Aligned-clause-reading
returns-in-Stp-Aligned-clause-reading c =
    stp_reads c.aligned-in-Stp-Aligned.result c.args.kind c.args.packets Aligned c.args.order
    c.aligned-in-Stp-Aligned.ensures.order c.aligned-in-Stp-Aligned.ensures.mode c.in-Stp-Aligned.is-0
    c.in-Stp-Aligned.is-1

pub returns-in-Stp-Hunt-clause-reads : goal.returns-in-Stp-Hunt-clause-reads
returns-in-Stp-Hunt-clause-reads c =
    ap (λ (o : Order). λ (h : Bool). λ (u : List Placed). stream_as Stp
    (items_at o h u)) c.hunting-in-Stp-Hunt.ensures.order
    ∙ ap (reads_by c.args.order) (sym c.in-Stp-Hunt.is-0)

pub returns-in-Stp-Aligned-clause-reads : goal.returns-in-Stp-Aligned-clause-reads
returns-in-Stp-Aligned-clause-reads c =
    ap (λ (o : Order). λ (h : Bool). λ (u : List Placed). stream_as Stp
    (items_at o h u)) c.aligned-in-Stp-Aligned.ensures.order
    ∙ ap (reads_by c.args.order) (sym c.in-Stp-Aligned.is-0)
