use Rattle.dwt_packets.specs.declared.item.DwtItem.TheVariants.{Other}
use Rattle.dwt_packets.proofs.Inverses.{inverse, in_range, proper, proper_name, others as other_names}
use Rattle.dwt_packets.proofs.laws.name_law.Goals as goal

pub returns-clause-of_packets : goal.returns-clause-of_packets
returns-clause-of_packets c = λ d s v p. (inverse d s v p.0 p.1).0

pub returns-clause-of_items : goal.returns-clause-of_items
returns-clause-of_items c = λ item r. (proper_name item r).2

pub returns-clause-others : goal.returns-clause-others
returns-clause-others c = other_names

pub returns-clause-proper_others : goal.returns-clause-proper_others
returns-clause-proper_others c = λ d s v. (in_range (Other d s v), proper (Other d s v))
