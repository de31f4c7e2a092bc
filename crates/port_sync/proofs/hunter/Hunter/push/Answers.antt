use Rattle.std.proofs.Common.{◌≢◌, arith}
use Rattle.port_sync.specs.Hunting.{pattern}
use Rattle.port_sync.proofs.hunter.Hunter.push.Goals as goal

apart : pattern.unit ≢ pattern.last
apart e = omega (arith, e)

pub returns-clause-list : goal.returns-clause-list
returns-clause-list c = λ u r. c.run_after-self.ensures.list u apart r

pub returns-clause-found : goal.returns-clause-found
returns-clause-found c = λ u r. c.ends-found.ensures.list u apart r
