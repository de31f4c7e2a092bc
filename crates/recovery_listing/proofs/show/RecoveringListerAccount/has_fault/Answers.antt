use Rattle.std.proofs.Common.{◌∙◌, ap}
use Rattle.recovery_listing.specs.Account.{events_of}
use Rattle.recovery_listing.specs.Listing.{has_fault}
use Rattle.recovery_listing.specs.SureLaws.{sure_of}
use Rattle.recovery_listing.proofs.show.RecoveringListerAccount.has_fault.Goals as goal

pub returns : goal.returns
returns c = λ how seen s.
    c.is_faulty.ensures (events_of how seen) s.events ∙ ap has_fault (sure_of how seen)
