use Rattle.capture_actions.proofs.Tallies.{no_source, no_word}
use Rattle.capture_actions.proofs.kind_counts.KindCounts.pass.Goals as goal

pub returns-clause-source : goal.returns-clause-source
returns-clause-source c = λ es event source h. no_source c.args.self.now es event h source

pub returns-clause-notice : goal.returns-clause-notice
returns-clause-notice c = λ es event word h. no_word c.args.self.now es event h word
