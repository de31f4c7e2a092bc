use Rattle.recovery_listing.proofs.heard_kinds.HeardKindsReceiver.give_said.Goals as goal

pub returns-clause-gets : goal.returns-clause-gets
returns-clause-gets c = λ item is. record {
  heard = c.give_said-2.ensures.gets item is;
  kinds = c.give_said.ensures.gets item is;
}
