use Rattle.std.proofs.Common.{[], Some, true, false}
use Rattle.capture_actions.specs.Listing.{itm_packets}
use Rattle.recovery_report.specs.Report.{sure_events}
use Rattle.recovery_listing.specs.Listing.{clocked_from}
use Rattle.recovery_listing.specs.Near.{guess_clocked}
use Rattle.recovery_listing.proofs.Clocked.{clocked_few, guessed_few, is_clock, plain_few, small_ticks, ticks}
use Rattle.capture_actions.proofs.Ticking.{TICKS}
use Rattle.recovery_listing.proofs.clock_laws.clock_law.Goals as goal

pub returns-clause-on : goal.returns-clause-on
returns-clause-on c = λ plan bytes source before after bound parts.
    (is_clock (itm_packets (Some source) (clocked_from [] before)) false bytes bound
    (plain_few ticks TICKS small_ticks source plan bytes false before after parts)).1

pub returns-clause-sure : goal.returns-clause-sure
returns-clause-sure c = λ plan bytes source before after bound parts.
    (is_clock (itm_packets (Some source) (clocked_from [] (sure_events before))) true bytes bound
    (clocked_few ticks TICKS small_ticks source plan bytes true before after parts)).1

pub returns-clause-guessed : goal.returns-clause-guessed
returns-clause-guessed c = λ plan bytes source before after bound parts.
    (is_clock (itm_packets (Some source) (guess_clocked before)) true bytes bound
    (guessed_few ticks TICKS small_ticks source plan bytes true before after parts)).1

pub returns-clause-below : goal.returns-clause-below
returns-clause-below c = λ plan bytes source before after bound parts.
    (is_clock (itm_packets (Some source) (guess_clocked before)) true bytes bound
    (guessed_few ticks TICKS small_ticks source plan bytes true before after parts)).0
