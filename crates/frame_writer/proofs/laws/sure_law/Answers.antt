use Rattle.frame_writer.proofs.Fronts.{sure_grows, sure_closes, sure_begins}
use Rattle.frame_writer.proofs.laws.sure_law.Goals as goal

pub returns-clause-grows : goal.returns-clause-grows
returns-clause-grows c = λ every halves closed t u. sure_grows every halves closed t u

pub returns-clause-closes : goal.returns-clause-closes
returns-clause-closes c = λ every halves closed t u. sure_closes every halves closed t u

pub returns-clause-front : goal.returns-clause-front
returns-clause-front c = λ every halves closed t few. sure_begins every halves closed t few
