use Rattle.recovery_listing.proofs.heard_kinds.HeardKindsReceiver.give_itm.Goals as goal

pub returns-clause-gets : goal.returns-clause-gets
returns-clause-gets c = record { heard = c.give_itm-2.ensures.gets; kinds = c.give_itm.ensures.gets }
