-- The units of whole bytes, and units that a hunt passes over.
use Rattle.std.specs.Prelude.{◌≡◌, ℕ, zero, suc, ◌+◌, ◌*◌, ◌/◌, List, ◌++◌, length, map}
use Rattle.trace_values.specs.Nibbles.{nibbles_of}
use Rattle.trace_values.specs.Placed.{Place, Placed}
use Rattle.trace_values.specs.Stream.{Said, Notice, Kept, Stream}
use Rattle.source_events.specs.declared.plan.SourceKind.{SourceKind}
use Rattle.source_events.specs.declared.plan.SourceKind.TheVariants.{Itm, Stp}
use Rattle.recovering_machines.specs.declared.source.FirstByte.{FirstByte}

-- the units of bytes of a source of this kind
abbrev pub units_of : SourceKind → List Placed → List Placed
units_of Itm u = u
units_of Stp u = nibbles_of u

-- these units are those of whole bytes
pub record AreWhole (kind : SourceKind) (n : List Placed) : Type 0 where
  pub bytes : List Placed
  pub are : n ≡ units_of kind bytes

-- what is given, its notice with so many more units
abbrev pub later : {V : Type 0} → ℕ → Said V × Place → Said V × Place
later n (Notice skipped, place) = (Notice (n + skipped), place)
later n (Kept v, place) = (Kept v, place)

-- a reading whose hunt passes over so many units first
abbrev pub after_passed : {V : Type 0} → ℕ → Stream V → Stream V
after_passed n s = record {
  given = map (later n) s.given;
  fault = s.fault;
  held = s.held;
  skipped = n + s.skipped;
  locked = s.locked;
}

-- a hunt passes over these units first, whatever comes after them
abbrev pub ArePassed : {V : Type 0} → (List Placed → Stream V) → List Placed → Type 0
ArePassed reading front = (u : List Placed) → reading (front ++ u) ≡ after_passed (length front) (reading u)

-- The byte with which a hunt begins that begins at this half of a byte: where a nibble is before that half, it is 0.
abbrev pub BeginsHunt : SourceKind → ℕ → ℕ → FirstByte → Type 0
BeginsHunt Itm half byte first = (first.byte ≡ byte) × (first.passed ≡ 0)
BeginsHunt Stp zero byte first = (first.byte ≡ byte) × (first.passed ≡ 0)
BeginsHunt Stp (suc half) byte first = (first.byte ≡ byte / 16 * 16) × (first.passed ≡ 1)
