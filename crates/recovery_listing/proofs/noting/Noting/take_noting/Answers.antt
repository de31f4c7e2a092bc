use Rattle.std.proofs.Common.{◌∙◌, ◌++◌, ℕ, List, ap}
use Rattle.recovery_report.specs.Report.{sure_events}
use Rattle.recovering_machines.specs.Hearing.{takes_read}
use Rattle.recovery_listing.specs.FaultLines.{fault_lines}
use Rattle.recovery_listing.specs.Noting.{NotesGets, NotingGets, room}
use Rattle.recovery_listing.proofs.Taken.{takes_on}
use Rattle.recovery_listing.proofs.noting.Noting.take_noting.Goals as goal

pub returns-clause-on : goal.returns-clause-on
returns-clause-on g c =
    let old = c.args.self.now in
    let with_notes = record old { lines = c.swap.new.x } in
    let mid = c.take-bytes.new.out in
    takes_on (λ a es b. NotingGets (takes_read g.R.Receiver.gets) a es b) (λ s. room g.R.Receiver.room s)
    (NotesGets (takes_read g.R.Receiver.gets)) c.next-at.result c.args.piece.now c.take-bytes.result c.args.engine.now
    c.take-bytes.new.self (with_notes, c.args.outlet.now) (mid, c.take-bytes.new.to)
    (old, record { text = c.args.outlet.now; notes = c.args.notes.now })
    (record mid { lines = c.swap-2.new.x }, record { text = c.take-bytes.new.to; notes = c.swap-2.new.y })
    c.next-at.ensures.next c.take-bytes.ensures
    (λ es h. record {
      same = h.same;
      receiver = h.receiver;
      notes = c.swap-2.ensures.y_after ∙ h.lines
          ∙ ap (λ (l : List ℕ). l ++ fault_lines (sure_events es)) c.swap.ensures.x_after;
      faulty = h.faulty;
    })
