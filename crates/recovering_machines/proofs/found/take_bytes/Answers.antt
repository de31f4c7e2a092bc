use Rattle.std.proofs.Common.{subst, sym}
use Rattle.source_machine.specs.Units.{ReadsAlike}
use Rattle.source_machine.specs.declared.machine.SourceMachine.{SourceMachine}
use Rattle.source_machine.specs.declared.machine.SourceMachine.TheVariants.{Itm, Stp}
use Rattle.recovering_machines.proofs.found.take_bytes.Goals as goal

pub returns-in-Itm-clause-alike : goal.returns-in-Itm-clause-alike
returns-in-Itm-clause-alike c =
    subst (λ (m : SourceMachine). ReadsAlike m (Itm c.take.new.self)) (sym c.in-Itm.is) c.take.ensures.alike

pub returns-in-Stp-clause-alike : goal.returns-in-Stp-clause-alike
returns-in-Stp-clause-alike c =
    subst (λ (m : SourceMachine). ReadsAlike m (Stp c.take-in-Stp.new.self)) (sym c.in-Stp.is) c.take-in-Stp.ensures.alike
