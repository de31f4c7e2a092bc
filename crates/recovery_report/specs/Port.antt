-- The recovering reading of a port.
use Rattle.std.specs.Prelude.{ℕ, ◌+◌, List, [], ◌∷◌, ◌++◌, map, flat_map, Bool, true, false, None}
use Rattle.std.specs.List.{sum_by}
use Rattle.trace_values.specs.declared.cell.Cell.{Cell}
use Rattle.trace_values.specs.Placed.{Placed}
use Rattle.deformatter.specs.Reading.{PortStream, port_stream}
use Rattle.deformatter.specs.PortReading.{PortReading, framed, port_reading}
use Rattle.deformatter.specs.Modes.{hunts}
use Rattle.trace_values.specs.declared.reading_modes.FramesMode.{FramesMode}
use Rattle.trace_values.specs.declared.reading_modes.FramesMode.TheVariants.{Hunt, Aligned, Bare}
use Rattle.recovering_machines.specs.Port.{items_by, from_halfword}
use Rattle.stretch_readings.specs.Stretches.{One, Stretch, Stretches, stretches, lost_in, skipped_in}

abbrev pub port_stretches : FramesMode → List Placed → Stretches
port_stretches mode u = stretches items_by from_halfword (hunts mode) (map One u)

-- A stretch of a port: whether it hunts, how many bytes were skipped up to its reading, and what it reads as.
pub record PortStretch : Type 0 where
  pub hunts : Bool
  pub skipped : ℕ
  pub lost : ℕ
  pub reading : PortReading
  pub items : PortStream

abbrev pub stretch_of : Stretch → PortStretch
stretch_of s = record {
  hunts = s.hunts;
  skipped = skipped_in items_by from_halfword s;
  lost = lost_in items_by from_halfword s;
  reading = framed (port_stream s.hunts s.units);
  items = port_stream s.hunts s.units;
}

-- with no formatter there is one, and no fault
abbrev pub bare_stretch : List Placed → PortStretch
bare_stretch u = record {
  hunts = false;
  skipped = 0;
  lost = 0;
  reading = port_reading Bare u;
  items = record { items = []; halves = 0; fault = None; tail = 0; skipped = 0; locked = true };
}

-- the stretches of a port that are over, and the last one
pub record PortStretches : Type 0 where
  pub past : List PortStretch
  pub now : PortStretch

abbrev pub of_stretches : Stretches → PortStretches
of_stretches r = record { past = map stretch_of r.past; now = stretch_of r.now }

abbrev pub recovered : FramesMode → List Placed → PortStretches
recovered Aligned u = of_stretches (port_stretches Aligned u)
recovered Hunt u = of_stretches (port_stretches Hunt u)
recovered Bare u = record { past = []; now = bare_stretch u }

abbrev pub all_of : PortStretches → List PortStretch
all_of r = r.past ++ r.now ∷ []

-- the frames of all of them, and their counts; all bytes that they skipped
abbrev pub frames_of : PortStretches → List (List Cell)
frames_of r = flat_map (λ s. s.reading.frames) (all_of r)

abbrev pub fulls_of : PortStretches → ℕ
fulls_of r = sum_by (λ s. s.reading.fulls) (all_of r)

abbrev pub halves_of : PortStretches → ℕ
halves_of r = sum_by (λ s. s.reading.halves) (all_of r)

abbrev pub skipped_of : PortStretches → ℕ
skipped_of r = sum_by (λ s. s.lost) r.past + r.now.skipped
