use Rattle.recovery_listing.proofs.heard_kinds.HeardKindsReceiver.give.Goals as goal

pub returns-clause-gets : goal.returns-clause-gets
returns-clause-gets c = record { heard = c.count.ensures.counted; kinds = c.give.ensures.gets }
