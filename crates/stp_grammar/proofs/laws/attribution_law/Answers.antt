use Rattle.stp_grammar.proofs.Attributing.{none_known, no_word, version_more, master_more, channel_more, last_more}
use Rattle.stp_grammar.proofs.laws.attribution_law.Goals as goal

pub returns-clause-unknown : goal.returns-clause-unknown
returns-clause-unknown c = none_known

pub returns-clause-no_word : goal.returns-clause-no_word
returns-clause-no_word c = no_word

pub returns-clause-version : goal.returns-clause-version
returns-clause-version c = version_more

pub returns-clause-master : goal.returns-clause-master
returns-clause-master c = master_more

pub returns-clause-channel : goal.returns-clause-channel
returns-clause-channel c = channel_more

pub returns-clause-word : goal.returns-clause-word
returns-clause-word c = last_more
