use Rattle.recovery_listing.proofs.heard_kinds.HeardKindsReceiver.give_trigger.Goals as goal

pub returns-clause-gets : goal.returns-clause-gets
returns-clause-gets c = record { heard = c.give_trigger-2.ensures.gets; kinds = c.give_trigger.ensures.gets }
