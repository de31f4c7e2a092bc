-- Units that are those of whole bytes.
use Rattle.std.proofs.Common.{◌≡◌, ℕ, List, [], ◌∷◌, ◌++◌, refl, sym, ◌∙◌, ap, true}
use Rattle.std.proofs.lemmas.Grind.{flat_map-append}
use Rattle.trace_values.specs.declared.cell.Cell.{Cell}
use Rattle.trace_values.specs.declared.step.Step.{Step}
use Rattle.trace_values.specs.declared.step.Step.TheVariants.{Quiet, Skipping, Item, Locked, Fault as Faulty}
use Rattle.trace_values.specs.Nibbles.{low_of, high_of}
use Rattle.trace_values.specs.Placed.{Placed, byte_at}
use Rattle.trace_values.specs.Stream.{goes_on}
use Rattle.source_events.specs.declared.packet.Packet.{Packet}
use Rattle.source_events.specs.declared.plan.SourceKind.{SourceKind}
use Rattle.source_events.specs.declared.plan.SourceKind.TheVariants.{Itm, Stp}
use Rattle.source_events.specs.Runs.{placed_run}
use Rattle.source_machine.specs.Machine as machine
use Rattle.source_machine.specs.Units.{StandsOn, kind_of, reading_on, taken_on}
use Rattle.source_machine.specs.declared.machine.SourceMachine.{SourceMachine}
use Rattle.source_machine.specs.declared.machine.SourceMachine.TheVariants.{Itm as ItmSource, Stp as StpSource}
use Rattle.recovering_machines.specs.Run.{units_in}
use Rattle.recovering_machines.specs.Units.{AreWhole, units_of}

units_append : (kind : SourceKind) (u v : List Placed) → units_of kind (u ++ v) ≡ units_of kind u ++ units_of kind v
units_append Itm u v = refl
units_append Stp u v =
    flat_map-append (λ (b : Placed). low_of b.place.at b.unit ∷ (high_of b.place.at b.unit ∷ [])) u v

units_run : (kind : SourceKind) (cells : List Cell) → units_of kind (placed_run cells) ≡ units_in kind cells
units_run Itm [] = refl
units_run Itm (c ∷ cells) = ap (λ (l : List Placed). byte_at c.at c.byte ∷ l) (units_run Itm cells)
units_run Stp [] = refl
units_run Stp (c ∷ cells) =
    ap (λ (l : List Placed). low_of c.at c.byte ∷ (high_of c.at c.byte ∷ l)) (units_run Stp cells)

-- with the units of a run
pub units_more : (kind : SourceKind) (u : List Placed) (cells : List Cell) →
    units_of kind u ++ units_in kind cells ≡ units_of kind (u ++ placed_run cells)
units_more kind u cells =
    ap (λ (l : List Placed). units_of kind u ++ l) (sym (units_run kind cells))
    ∙ sym (units_append kind u (placed_run cells))

-- none, and those of a byte
pub none_whole : (kind : SourceKind) → AreWhole kind []
none_whole Itm = record { bytes = []; are = refl }
none_whole Stp = record { bytes = []; are = refl }

taken_whole : (kind : SourceKind) (at byte : ℕ) (s : Step Packet) → goes_on s ≡ true →
    taken_on kind at byte s ≡ units_of kind (byte_at at byte ∷ [])
taken_whole Itm at byte s on = refl
taken_whole Stp at byte Quiet on = refl
taken_whole Stp at byte Skipping on = refl
taken_whole Stp at byte (Item half v) on = refl
taken_whole Stp at byte (Locked skipped half v) on = refl
taken_whole Stp at byte (Faulty f) on = cc

-- with those that an answer takes which is no fault
pub step_whole : (kind : SourceKind) (n : List Placed) (at byte : ℕ) (s : Step Packet) → goes_on s ≡ true →
    AreWhole kind n → AreWhole kind (n ++ taken_on kind at byte s)
step_whole kind n at byte s on k = record {
  bytes = k.bytes ++ byte_at at byte ∷ [];
  are =
      ap (λ (l : List Placed). l ++ taken_on kind at byte s) k.are
      ∙ ap (λ (l : List Placed). units_of kind k.bytes ++ l) (taken_whole kind at byte s on)
      ∙ sym (units_append kind k.bytes (byte_at at byte ∷ []));
}

-- a machine reads bytes as their units, and stands for them
pub reads_bytes : (m : SourceMachine) (u : List Placed) → machine.reading_of m u ≡ reading_on m (units_of (kind_of m) u)
reads_bytes (ItmSource d) u = refl
reads_bytes (StpSource d) u = refl

pub stands_bytes : (m : SourceMachine) (u : List Placed) → StandsOn m (units_of (kind_of m) u) → machine.Stands m u
stands_bytes (ItmSource d) u s = s
stands_bytes (StpSource d) u s = s

pub stands_units : (m : SourceMachine) (u : List Placed) → machine.Stands m u → StandsOn m (units_of (kind_of m) u)
stands_units (ItmSource d) u s = s
stands_units (StpSource d) u s = s
