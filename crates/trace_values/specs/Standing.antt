-- What a machine keeps of a reading: whether it is live, and the state in which the rest leaves the rule.
use Rattle.std.specs.Prelude.{◌≡◌, Bool, true, false, is_none}
use Rattle.trace_values.specs.declared.next.Next.{Next}
use Rattle.trace_values.specs.declared.next.Next.TheVariants.{Go, End, Fail}
use Rattle.trace_values.specs.Reading.{Progress}

-- It is live exactly where the reading has no fault, and it keeps the reading's state: after a fault, that of the rest
-- before the fault.
pub record Keeps {S V : Type 0} (live : Bool) (state : S) (p : Progress S V) : Type 0 where
  pub live_is : live ≡ is_none p.fault
  pub state_is : p.state ≡ state

-- it stays live after a unit of which the rule says this
abbrev pub live_after : {S V : Type 0} → Next S V → Bool
live_after (Go s) = true
live_after (End v) = true
live_after (Fail e) = false

-- its state after such a unit: the start again after a value, and as before after a fault
abbrev pub state_after : {S V : Type 0} → S → Next S V → S → S
state_after start (Go s) old = s
state_after start (End v) old = start
state_after start (Fail e) old = old
