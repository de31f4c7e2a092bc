-- What the action `realign` stands for.
use Rattle.std.specs.Prelude.{◌≡◌, ℕ, List, ◌++◌}
use Rattle.capture_actions.specs.Names.{Slip, pushed_by, sure}
use Rattle.port_slip.specs.Slip as slips
use Rattle.port_slip.specs.Slip.{Takes}
use Rattle.capture_actions.specs.declared.realign.Realign.{Realign}

abbrev pub plan_of : Realign → Unit {0}
plan_of r = tt

abbrev pub taken_by : Realign → ℕ
taken_by r = pushed_by r.slip

-- its realigner stands for these bytes
abbrev pub Stands : Realign → List ℕ → Type 0
Stands r seen = slips.Stands r.slip seen (sure seen)

-- these bytes were taken after all others, and what became sure with them was added
pub record Pushes (old new : Slip) (bytes before after : List ℕ) : Type 0 where
  pub more : List ℕ
  pub added : after ≡ before ++ more
  pub takes : Takes old new bytes more
