-- The reading of a list of units in a hunt for a pattern that is a run of a unit and then another unit.
-- Here the hunt is computed unit by unit. It finds the least place of the pattern (Hunt.IsFirst), and from there on the
-- list is read as any other: that is what itm_codec::laws::hunt_law and deformatter::laws::hunt_law say.
use Rattle.std.specs.Prelude.{◌≡◌, ℕ, suc, ◌-◌, List, [], ◌∷◌, ◌++◌, replicate, Bool, false, ◌==◌, ◌&&◌, nat_lt}
use Rattle.std.specs.Prelude.{if◌then◌else◌, Option, None, Some}
use Rattle.trace_values.specs.declared.next.Next.{Next}
use Rattle.trace_values.specs.declared.pattern.Pattern.{Pattern}
use Rattle.trace_values.specs.Placed.{Place, Placed}
use Rattle.trace_values.specs.Reading.{Progress, advance}
use Rattle.trace_values.specs.Standing.{Keeps}
use Rattle.trace_values.specs.Stream.{Stream, Notice, shown}

-- the pattern's units
abbrev pub pattern_of : Pattern → List ℕ
pattern_of p = replicate p.most p.unit ++ p.last ∷ []

-- the lock: how many units were skipped, the place of the pattern's last unit, and the reading from the pattern on
pub record Found (S V : Type 0) : Type 0 where
  pub skipped : ℕ
  pub place : Place
  pub reading : Progress S V

-- a hunt: how many units there are so far, the run at their end, and the lock
pub record Hunt (S V : Type 0) : Type 0 where
  pub units : ℕ
  pub run : ℕ
  pub found : Option (Found S V)

-- the run with one more unit: it counts no further than the pattern has it
abbrev pub run_after : Pattern → ℕ → ℕ → ℕ
run_after p run b = if b == p.unit then (if nat_lt run p.most then suc run else p.most) else 0

-- the reading at the lock: the pattern spells the value v
abbrev pub begun : {S V : Type 0} → S → V → Place → Progress S V
begun start v place = record { items = (v, place) ∷ []; rest = []; fault = None; state = start }

-- one more unit in a hunt that seeks, and in one that has locked
abbrev pub hunt_on : {S V : Type 0} → Pattern → V → (S → Placed → Next S V) → S → Hunt S V → Placed →
    Option (Found S V) → Hunt S V
hunt_on p v rule start h b None =
    if b.unit == p.last && run_is then record {
      units = suc h.units;
      run = 0;
      found = Some (record { skipped = h.units - p.most; place = b.place; reading = begun start v b.place });
    } else record { units = suc h.units; run = run_after p h.run b.unit; found = None } where
      run_is : Bool
      run_is = h.run == p.most
hunt_on p v rule start h b (Some f) =
    record { units = suc h.units; run = 0; found = Some (record f { reading = advance rule start f.reading b }) }

-- a hunt over more units
abbrev pub hunt_from : {S V : Type 0} → Pattern → V → (S → Placed → Next S V) → S → Hunt S V → List Placed → Hunt S V
hunt_from p v rule start h [] = h
hunt_from p v rule start h (b ∷ u) = hunt_from p v rule start (hunt_on p v rule start h b h.found) u

-- the hunt over no units
abbrev pub no_hunt : {S V : Type 0} → Hunt S V
no_hunt = record { units = 0; run = 0; found = None }

-- the hunt over a list of units
abbrev pub hunt : {S V : Type 0} → Pattern → V → (S → Placed → Next S V) → S → List Placed → Hunt S V
hunt p v rule start u = hunt_from p v rule start no_hunt u

-- the stream of a hunt: before the lock all units are skipped
abbrev pub hunted_by : {S V : Type 0} → ℕ → Option (Found S V) → Stream V
hunted_by units None = record { given = []; fault = None; held = 0; skipped = units; locked = false }
hunted_by units (Some f) = shown ((Notice f.skipped, f.place) ∷ []) f.skipped f.reading

-- what a list of units reads as in a hunt
abbrev pub hunted : {S V : Type 0} → Pattern → V → (S → Placed → Next S V) → S → List Placed → Stream V
hunted p v rule start u = hunted_by (hunt p v rule start u).units (hunt p v rule start u).found

-- it has not locked, and has this run after this many units
pub record Seeks {S V : Type 0} (p : Pattern) (v : V) (rule : S → Placed → Next S V) (start : S) (run skipped : ℕ)
    (u : List Placed) : Type 0 where
  pub run_is : (hunt p v rule start u).run ≡ run
  pub units_is : (hunt p v rule start u).units ≡ skipped
  pub none : (hunt p v rule start u).found ≡ None

-- it has locked after this many units, and what it keeps is that of the reading from there
pub record Follows {S V : Type 0} (p : Pattern) (v : V) (rule : S → Placed → Next S V) (start : S) (skipped : ℕ)
    (live : Bool) (state : S) (u : List Placed) : Type 0 where
  pub found : Found S V
  pub some : (hunt p v rule start u).found ≡ Some found
  pub skipped_is : found.skipped ≡ skipped
  pub stands : Keeps live state found.reading
