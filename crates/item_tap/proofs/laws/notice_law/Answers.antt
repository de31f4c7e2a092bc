use Rattle.item_tap.proofs.Choosing.{none_for_notice, none_of_list}
use Rattle.item_tap.proofs.laws.notice_law.Goals as goal

pub returns-clause-one : goal.returns-clause-one
returns-clause-one c = none_for_notice

pub returns-clause-any : goal.returns-clause-any
returns-clause-any c = none_of_list
