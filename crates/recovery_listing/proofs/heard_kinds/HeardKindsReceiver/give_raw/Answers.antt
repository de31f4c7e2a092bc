use Rattle.recovery_listing.proofs.heard_kinds.HeardKindsReceiver.give_raw.Goals as goal

pub returns-clause-gets : goal.returns-clause-gets
returns-clause-gets c = record { heard = c.give_raw-2.ensures.gets; kinds = c.give_raw.ensures.gets }
