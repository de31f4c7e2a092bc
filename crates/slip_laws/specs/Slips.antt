-- What is realigned of some of the bits of a whole capture.
use Rattle.std.specs.Prelude.{◌≡◌, ◌⊎◌, ℕ, ◌+◌, ◌-◌, ◌/◌, ◌*◌, ◌≤◌, List, [], ◌++◌, length, take, Bool}
use Rattle.trace_values.specs.Placed.{Placed, units_of}
use Rattle.trace_values.specs.Reading.{Reading}
use Rattle.frame_grammar.specs.Port.{PortItem, Full, Spells}
use Rattle.resync_rules.specs.Fronts.{BeginsAt}
use Rattle.port_slip.specs.Bits.{bits_of}
use Rattle.port_slip.specs.Segments.{Realigned, realigned}

-- A full synchronisation begins after these bytes of u, at a bit that is not lost, and its 32 bits are all kept.
pub record IsFullWithin (u : List Placed) (r : Reading PortItem) (lost kept : List Bool) (front : List Placed)
    : Type 0 where
  pub rest : List Placed
  pub parts : u ≡ front ++ rest
  pub begins : BeginsAt Spells Full r.items front
  pub after : length lost ≤ 8 * length front
  pub before_end : 8 * length front + 32 ≤ length lost + length kept

-- It is the first one.
pub record IsFirstWithin (u : List Placed) (r : Reading PortItem) (lost kept : List Bool) (front : List Placed)
    : Type 0 where
  pub is_full : IsFullWithin u r lost kept front
  pub least : (other : List Placed) → IsFullWithin u r lost kept other → length front ≤ length other

-- of the bytes after this many, those all of whose bits are among the first `bits` of all
abbrev pub whole_until : ℕ → ℕ → List Placed → List ℕ
whole_until bits before rest = take (bits / 8 - before) (units_of rest)

-- From that one on the whole bytes that are kept are written. Where only these bits came, nothing else is written, and
-- the bits before it are skipped; where any bits came before them, they are written last.
pub record FromFirst (u : List Placed) (r : Reading PortItem) (lost kept : List Bool) (front : List Placed)
    : Type 0 where
  pub first : IsFirstWithin u r lost kept front
  pub alone : (input : List ℕ) → bits_of input ≡ kept →
      ((realigned input).bytes ≡ whole_until (length lost + length kept) (length front) first.is_full.rest)
      × ((realigned input).skipped ≡ 8 * length front - length lost)
  pub last : (any : List Bool) (input : List ℕ) → bits_of input ≡ any ++ kept → (early : List ℕ) ×
      ((realigned input).bytes ≡ early ++ whole_until (length lost + length kept) (length front) first.is_full.rest)

-- nothing is written
abbrev pub nothing : ℕ → Realigned
nothing skipped = record { bytes = []; skipped = skipped; dropped = 0; patterns = 0 }

-- What is realigned of the bits that are kept, where these before them are lost: without a full synchronisation among
-- them nothing; else what is from the first one on.
abbrev pub IsSlip : List Placed → Reading PortItem → List Bool → List Bool → Type 0
IsSlip u r lost kept =
    (((front : List Placed) → IsFullWithin u r lost kept front → ⊥)
    × ((input : List ℕ) → bits_of input ≡ kept → realigned input ≡ nothing (length kept)))
    ⊎ ((front : List Placed) × FromFirst u r lost kept front)
