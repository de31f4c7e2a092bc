-- The lists and stretches of mapped sources in runs, beside what their bytes strictly read as.
use Rattle.std.proofs.Common.{◌≡◌, ℕ, List, [], ◌∷◌, ◌++◌, map, refl, sym, ◌∙◌, ap, append_assoc, append-nil}
use Rattle.std.proofs.Common.{None, Some, Bool, true, false, cond}
use Rattle.std.proofs.lemmas.Grind.{flat_map-append}
use Rattle.std.proofs.lemmas.List.{map-append}
use Rattle.trace_values.specs.declared.cell.Cell.{Cell}
use Rattle.trace_values.specs.declared.fault.Reason.{Reason}
use Rattle.trace_values.specs.Nibbles.{low_of, high_of, nibbles_of}
use Rattle.trace_values.specs.Placed.{Place, Placed, byte_at}
use Rattle.trace_values.specs.ReadingModes.{packets_hunt}
use Rattle.trace_values.specs.Stream.{Said, Kept, Stream}
use Rattle.frame_grammar.specs.Reading.{is_source}
use Rattle.source_events.specs.declared.packet.Packet.{Packet}
use Rattle.source_events.specs.declared.plan.Plan.{Plan}
use Rattle.source_events.specs.declared.plan.SourceKind.{SourceKind}
use Rattle.source_events.specs.declared.plan.SourceKind.TheVariants.{Itm, Stp}
use Rattle.source_events.specs.Plan as strict
use Rattle.source_events.specs.Runs as runs
use Rattle.source_events.specs.Runs.{id_of, placed_run}
use Rattle.source_machine.specs.Units.{reads_by}
use Rattle.stretch_readings.specs.declared.heard.Heard.{Heard}
use Rattle.stretch_readings.specs.declared.heard.Heard.TheVariants.{Broken}
use Rattle.stretch_readings.specs.Stretches.{One, Stretches, heard, heard_of, broken, from_fault, stretches}
use Rattle.stretch_readings.proofs.StretchLaws as laws
use Rattle.recovering_machines.specs.Run.{units_in}
use Rattle.recovery_report.specs.Report.{Run, list_of, stretches_of, stream_of}
use Rattle.recovery_report.proofs.Sounds.{sources_sound, sources_begin, sources_settle}

-- the units of bytes
abbrev pub units : SourceKind → List Placed → List Placed
units Itm u = u
units Stp u = nibbles_of u

pub units_none : (kind : SourceKind) → units kind [] ≡ []
units_none Itm = refl
units_none Stp = refl

pub units_append : (kind : SourceKind) (a b : List Placed) → units kind (a ++ b) ≡ units kind a ++ units kind b
units_append Itm a b = refl
units_append Stp a b =
    flat_map-append (λ (c : Placed). low_of c.place.at c.unit ∷ (high_of c.place.at c.unit ∷ [])) a b

pub units_run : (kind : SourceKind) (run : List Cell) → units_in kind run ≡ units kind (placed_run run)
units_run Itm [] = refl
units_run Itm (c ∷ run) = ap (λ l. byte_at c.at c.byte ∷ l) (units_run Itm run)
units_run Stp [] = refl
units_run Stp (c ∷ run) = ap (λ l. low_of c.at c.byte ∷ (high_of c.at c.byte ∷ l)) (units_run Stp run)

-- a source's list in runs
pub list_is : (kind : SourceKind) (x : ℕ) (rs : List (List Cell)) →
    list_of kind x (map Run rs) ≡ map One (units kind (runs.list_of x rs))
list_is kind x [] = ap (map One) (sym (units_none kind))
list_is kind x (r ∷ rs) = by (is_source x (id_of r)) (list_is kind x rs) where
  by : (t : Bool) → list_of kind x (map Run rs) ≡ map One (units kind (runs.list_of x rs)) →
      cond t (map One (units_in kind r)) [] ++ list_of kind x (map Run rs)
      ≡ map One (units kind (cond t (placed_run r) [] ++ runs.list_of x rs))
  by false e = e
  by true e =
      ap (λ l. map One (units_in kind r) ++ l) e
      ∙ ap (λ l. map One l ++ map One (units kind (runs.list_of x rs))) (units_run kind r)
      ∙ sym (map-append One (units kind (placed_run r)) (units kind (runs.list_of x rs)))
      ∙ ap (map One) (sym (units_append kind (placed_run r) (runs.list_of x rs)))

module _ (plan : Plan) (kind : SourceKind) where
  abbrev pub reads : Bool → List Placed → Stream Packet
  reads = reads_by plan.order kind

  abbrev pub hunts : Bool
  hunts = packets_hunt plan.packets

  module _ (x : ℕ) (rs : List (List Cell)) where
    abbrev pub own : List Placed
    own = units kind (runs.list_of x rs)

    stretches_are : stretches_of plan kind x (map Run rs) ≡ stretches reads from_fault hunts (map One own)
    stretches_are = ap (stretches reads from_fault hunts) (list_is kind x rs)

    -- with no fault there is one stretch
    pub one_stretch : (reads hunts own).fault ≡ None → stretches_of plan kind x (map Run rs)
        ≡ record { past = []; now = record { hunts = hunts; count = 0; units = own } }
    one_stretch e = stretches_are ∙ laws.strict reads from_fault (sources_sound plan.order kind)
        (sources_begin plan.order kind) (sources_settle plan.order kind) hunts own e

    pub said_none : (reads hunts own).fault ≡ None →
        (stream_of plan kind x (map Run rs)).given ≡ map (heard reads from_fault 0) (reads hunts own).given
    said_none e =
        ap (λ (r : Stretches). (heard_of reads from_fault r).given) (one_stretch e)
        ∙ ap (λ o. map (heard reads from_fault 0) (reads hunts own).given ++ broken reads from_fault o) e
        ∙ append-nil (map (heard reads from_fault 0) (reads hunts own).given)

    -- and with one it is said after what is strictly given
    pub said_some : (f : Place × Reason) → (reads hunts own).fault ≡ Some f →
        (rest : List (Said (Heard Packet) × Place))
        × ((stream_of plan kind x (map Run rs)).given
        ≡ map (heard reads from_fault 0) (reads hunts own).given ++ ((Kept (Broken f.1), f.0) ∷ rest))
    said_some f e =
        let k = laws.first_broken reads from_fault (sources_sound plan.order kind) (sources_begin plan.order kind)
        (sources_settle plan.order kind) hunts own f e in (
          k.0,
          ap (λ (r : Stretches). (heard_of reads from_fault r).given) stretches_are ∙ k.1
              ∙ append_assoc (map (heard reads from_fault 0) (reads hunts own).given)
              ((Kept (Broken f.1), f.0) ∷ []) k.0,
        )

-- what its bytes strictly read as
pub reads_are : (plan : Plan) (kind : SourceKind) (u : List Placed) →
    reads plan kind (hunts plan kind) (units kind u) ≡ strict.stream_of plan kind u
reads_are plan Itm u = refl
reads_are plan Stp u = refl
