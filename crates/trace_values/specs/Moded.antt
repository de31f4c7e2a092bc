-- A reading in one of two modes: from the first unit on, or from a pattern on.
-- That the hunt is for the least place of the pattern is itm_codec::laws::hunt_law and deformatter::laws::hunt_law.
use Rattle.std.specs.Prelude.{◌≡◌, ℕ, List, Bool, true, false, ◌&&◌, nat_le}
use Rattle.trace_values.specs.declared.next.Next.{Next}
use Rattle.trace_values.specs.declared.mode.Mode.{Mode}
use Rattle.trace_values.specs.declared.mode.Mode.TheVariants.{Aligned, Hunting, Locked}
use Rattle.trace_values.specs.Placed.{Placed}
use Rattle.trace_values.specs.Stream.{Stream, stream_of}
use Rattle.trace_values.specs.Reading.{progress}
use Rattle.trace_values.specs.declared.pattern.Pattern.{Pattern}
use Rattle.trace_values.specs.Hunted.{hunted, Seeks, Follows}
use Rattle.trace_values.specs.Standing.{Keeps}

-- where it hunts, the pattern spells the value v
abbrev pub stream_in : {S V : Type 0} → Pattern → V → (S → Placed → Next S V) → S → Bool → List Placed → Stream V
stream_in p v rule start false u = stream_of (progress rule start u)
stream_in p v rule start true u = hunted p v rule start u

-- it began with a hunt, which may be over
abbrev pub hunts : Mode → Bool
hunts Aligned = false
hunts (Hunting run skipped) = true
hunts (Locked skipped) = true

-- it reads: its hunt is over, or it had none
abbrev pub is_locked : Mode → Bool
is_locked (Hunting run skipped) = false
is_locked m = true

-- the units skipped so far
abbrev pub skipped_of : Mode → ℕ
skipped_of Aligned = 0
skipped_of (Hunting run skipped) = skipped
skipped_of (Locked skipped) = skipped

-- before the lock the run is no longer than the pattern's, and is among the units that came
abbrev pub is_counted : Pattern → Mode → Bool
is_counted p (Hunting run skipped) = nat_le run p.most && nat_le run skipped
is_counted p m = true

-- what a decoder keeps (its mode, whether it is live, and the rule's state) is that of this list
abbrev pub StandsIn : {S V : Type 0} → Pattern → V → (S → Placed → Next S V) → S → Mode → Bool → S → List Placed →
    Type 0
StandsIn p v rule start Aligned live state u = Keeps live state (progress rule start u)
StandsIn p v rule start (Hunting run skipped) live state u =
    Seeks p v rule start run skipped u × (live ≡ true) × (state ≡ start)
StandsIn p v rule start (Locked skipped) live state u = Follows p v rule start skipped live state u
