use Rattle.stp_grammar.proofs.Fitting.{proper}
use Rattle.stp_grammar.proofs.Items.{item_fits}
use Rattle.stp_grammar.proofs.ShortSpellings.{by_row}
use Rattle.stp_grammar.proofs.laws.proper_law.Goals as goal

pub returns-clause-packet : goal.returns-clause-packet
returns-clause-packet c = proper

pub returns-clause-row : goal.returns-clause-row
returns-clause-row c = by_row

pub returns-clause-item : goal.returns-clause-item
returns-clause-item c = item_fits
