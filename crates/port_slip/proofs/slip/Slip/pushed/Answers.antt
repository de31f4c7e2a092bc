use Rattle.port_slip.proofs.slip.Slip.pushed.Goals as goal

pub returns-clause-bytes : goal.returns-clause-bytes
returns-clause-bytes c = λ bytes so_far s. s.count
