use Rattle.std.proofs.Common.{◌≡◌, ◌+◌, ◌-◌, ◌≤◌, length, take}
use Rattle.trace_stream.specs.Debt.{Paid}
use Rattle.recovery_listing.specs.Recovering.{Stands, how_of, taken_by}
use Rattle.recovery_listing.proofs.Taken.{Took}
use Rattle.recovery_listing.proofs.recovering.RecoveringAction.feed.Given as goal

-- the bytes so far are taken
abbrev pub invariant-loop-done : goal.invariant-loop-done
invariant-loop-done g l = record {
  few : l.done ≤ length l.piece;
  none : l.done ≡ 0 → (l.outlet ≡ l.fn.outlet) × (l.notes ≡ l.fn.notes);
  live : g.A.Account.live l.self.account (taken_by l.self);
  paid : g.A.Account.debt l.self.account ≡ Paid;
  count : taken_by l.self ≡ taken_by l.fn.self + l.done;
  took : Took (λ s. g.A.Account.asked s.account (how_of s)) (Stands g.A.Account.stands) g.A.Account.meaning
      g.A.Account.noted l.fn.self l.self (take l.done l.piece) (record { text = l.fn.outlet; notes = l.fn.notes })
      (record { text = l.outlet; notes = l.notes });
}

abbrev pub decreases-loop-done : goal.decreases-loop-done
decreases-loop-done g l = length l.piece - l.done
