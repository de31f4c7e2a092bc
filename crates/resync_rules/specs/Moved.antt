-- What is read of the same units at offsets that are greater by one number.
use Rattle.std.specs.Prelude.{ℕ, ◌+◌, map, Option, None, Some}
use Rattle.resync_rules.specs.Names.{Reason, Place, Placed, Stream}

-- a place and a fault there
abbrev pub later_place : ℕ → Place → Place
later_place c p = record { at = p.at + c; half = p.half }

abbrev pub later_fault : ℕ → Option (Place × Reason) → Option (Place × Reason)
later_fault c None = None
later_fault c (Some f) = Some (later_place c f.0, f.1)

-- a unit there, and what a source gives of such units
abbrev pub later : ℕ → Placed → Placed
later c b = record { unit = b.unit; place = later_place c b.place }

-- what a source gives, and its fault, at the later places
abbrev pub later_stream : {V : Type 0} → ℕ → Stream V → Stream V
later_stream c s = record {
  given = map (λ x. (x.0, later_place c x.1)) s.given;
  fault = later_fault c s.fault;
  held = s.held;
  skipped = s.skipped;
  locked = s.locked;
}
