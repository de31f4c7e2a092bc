use Rattle.recovery_listing.proofs.Counted.{faulty_by}
use Rattle.recovery_listing.proofs.kinds.KindTallyAccount.has_fault.Goals as goal

pub returns : goal.returns
returns c = λ how seen s.
    faulty_by c.args.self.now.counts.heard c.faults.result c.faults.ensures how seen s.sure s.heard
