use Rattle.recovery_listing.proofs.Early.{near_first, on_first, strict_lines, unmarked}
use Rattle.recovery_listing.proofs.early_laws.early_law.Goals as goal

pub returns-clause-near : goal.returns-clause-near
returns-clause-near c = near_first

pub returns-clause-on : goal.returns-clause-on
returns-clause-on c = on_first

pub returns-clause-unmarked : goal.returns-clause-unmarked
returns-clause-unmarked c = unmarked

pub returns-clause-off : goal.returns-clause-off
returns-clause-off c = strict_lines
