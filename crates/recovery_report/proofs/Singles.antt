-- Cells of one source, each of which is a run of its own, as with no formatter.
use Rattle.std.proofs.Common.{◌≡◌, ℕ, ◌+◌, List, [], ◌∷◌, ◌++◌, map, sym, ◌∙◌, ap, subst, arith}
use Rattle.std.proofs.Common.{append_assoc, append-nil, Some, Bool, true, false}
use Rattle.std.proofs.lemmas.List.{append_cancel_left, map-append}
use Rattle.trace_values.specs.declared.cell.Cell.{Cell}
use Rattle.trace_values.specs.Placed.{Place, Placed}
use Rattle.trace_values.specs.ReadingModes.{packets_hunt}
use Rattle.trace_values.specs.Stream.{Said, Stream}
use Rattle.frame_grammar.specs.Reading.{is_source}
use Rattle.deformatter.specs.Rising.{CellsRise}
use Rattle.source_events.specs.declared.packet.Packet.{Packet}
use Rattle.source_events.specs.declared.plan.Plan.{Plan}
use Rattle.source_events.specs.declared.plan.SourceKind.{SourceKind}
use Rattle.source_events.specs.Merge.{told}
use Rattle.source_events.specs.Plan.{kind_of}
use Rattle.source_events.specs.Report.{lifted}
use Rattle.source_events.proofs.Family.{Within}
use Rattle.source_machine.specs.Units.{reads_by, units_at}
use Rattle.stretch_readings.specs.declared.heard.Heard.{Heard}
use Rattle.stretch_readings.specs.Guessing.{near_of}
use Rattle.stretch_readings.specs.Stretches.{One, Stretches, before, fed_from, from_fault, heard_of}
use Rattle.stretch_readings.proofs.StretchLaws.{from_append}
use Rattle.recovering_machines.specs.Run.{units_in}
use Rattle.recovering_machines.proofs.Runs.{told_append}
use Rattle.recovery_report.specs.Placing.{PartsBetween}
use Rattle.recovery_report.specs.Report.{Part, Run, list_of, report_from, said_in, stretches_of}
use Rattle.recovery_report.specs.Words.{AreOf, singles}
use Rattle.recovery_report.proofs.Guesses.{run_more}
use Rattle.recovery_report.proofs.Hearing.{from_fault_on, stays_whole, units_grow}
use Rattle.recovery_report.proofs.Nearing.{parts_below}
use Rattle.recovery_report.proofs.PartLaws as laws
use Rattle.recovery_report.proofs.Placing.{parts_le, parts_split}
use Rattle.recovery_report.proofs.Rises.{rises}
use Rattle.recovery_report.proofs.Sounds.{quiet, sources_begin, sources_sound}

-- to another source they are nothing
pub singles_other : (plan : Plan) (kind : SourceKind) (x y : ℕ) (cells : List Cell) (parts : List Part) →
    is_source y (Some x) ≡ false → AreOf x cells →
    stretches_of plan kind y (parts ++ singles cells) ≡ stretches_of plan kind y parts
singles_other plan kind x y [] parts n a = ap (stretches_of plan kind y) (append-nil parts)
singles_other plan kind x y (c ∷ cells) parts n a =
    ap (stretches_of plan kind y) (sym (append_assoc parts (Run (c ∷ []) ∷ []) (singles cells)))
    ∙ singles_other plan kind x y cells (parts ++ Run (c ∷ []) ∷ []) n a.1
    ∙ laws.other plan kind y parts (c ∷ []) (ap (is_source y) a.0 ∙ n)

-- they lie one after the other: their offsets rise
pub singles_rise : (cells : List Cell) (n at : ℕ) → PartsBetween n at (singles cells) → CellsRise n at cells
singles_rise [] n at b = b
singles_rise (c ∷ cells) n at b = (b.0.0, singles_rise cells (c.at + 1) at b.1)

singles_within : (cells : List Cell) (n at : ℕ) → PartsBetween n at (singles cells) → Within n at cells
singles_within [] n at b = tt
singles_within (c ∷ cells) n at b = (
  b.0.0,
  (let l = parts_le (singles cells) (c.at + 1) at b.1 in omega (arith, l)),
  singles_within cells (c.at + 1) at b.1,
)

-- to their own they are its units
module _ (plan : Plan) (kind : SourceKind) (x : ℕ) (k : kind_of plan x ≡ Some kind) where
  abbrev reads : Bool → List Placed → Stream Packet
  reads = reads_by plan.order kind

  pub singles_own : (cells : List Cell) (parts : List Part) → AreOf x cells →
      stretches_of plan kind x (parts ++ singles cells)
      ≡ fed_from reads from_fault (stretches_of plan kind x parts) (map One (units_in kind cells))
  singles_own [] parts a = ap (stretches_of plan kind x) (append-nil parts)
  singles_own (c ∷ cells) parts a =
      let r = stretches_of plan kind x parts in
      let one = units_at kind c.at c.byte in
      ap (stretches_of plan kind x) (sym (append_assoc parts (Run (c ∷ []) ∷ []) (singles cells)))
      ∙ singles_own cells (parts ++ Run (c ∷ []) ∷ []) a.1
      ∙ ap (λ (s : Stretches). fed_from reads from_fault s (map One (units_in kind cells)))
      ((laws.own false plan kind x parts (c ∷ []) k a.0).list
      ∙ ap (λ (w : List Placed). fed_from reads from_fault r (map One w)) (append-nil one))
      ∙ sym (from_append reads from_fault (map One one) (map One (units_in kind cells)) r)
      ∙ ap (λ l. fed_from reads from_fault r l) (sym (map-append One one (units_in kind cells)))

  -- what more parts say comes after what they say, with guesses or without
  abbrev Grows : Bool → List Part → List Cell → Type 0
  Grows guesses parts cells = (more : List (Said (Heard Packet) × Place))
      × (said_in guesses plan kind x (parts ++ singles cells) ≡ said_in guesses plan kind x parts ++ more)

  grows : (guesses : Bool) (cells : List Cell) (parts : List Part) (at : ℕ) → AreOf x cells →
      PartsBetween 0 at (parts ++ singles cells) → Grows guesses parts cells
  grows false cells parts at a b =
      let h = packets_hunt plan.packets in
      let sound = sources_sound plan.order kind in
      let begins = sources_begin plan.order kind in
      let on = from_fault_on reads (rises plan.order kind) begins (quiet plan kind) in
      let whole = stays_whole reads (rises plan.order kind) from_fault sound on (begins true) (list_of kind x parts)
      (before reads from_fault h) (begins h) in
      let g = units_grow reads (rises plan.order kind) from_fault sound on (units_in kind cells)
      (stretches_of plan kind x parts) whole in
      (g.0, ap (λ (r : Stretches). (heard_of reads from_fault r).given) (singles_own cells parts a) ∙ g.1)
  grows true cells parts at a b =
      let s = parts_split parts (singles cells) 0 at b in
      let near = run_more reads (rises plan.order kind) (sources_begin plan.order kind) (quiet plan kind)
      (sources_sound plan.order kind) kind cells s.mid at (stretches_of plan kind x parts)
      (singles_within cells s.mid at s.back) (parts_le (singles cells) s.mid at s.back)
      (parts_below plan parts s.mid s.front x kind) in
      (near.extra, ap (near_of reads from_fault) (singles_own cells parts a) ∙ near.is)

  -- what they add is what they say
  module _ (guesses : Bool) where
    abbrev said_with : List Part → List (Said (Heard Packet) × Place)
    said_with parts = said_in guesses plan kind x parts

    pub singles_added : (cells : List Cell) (parts : List Part) (at : ℕ)
        (said : List (Said (Heard Packet) × Place)) → AreOf x cells → PartsBetween 0 at (parts ++ singles cells) →
        said_with (parts ++ singles cells) ≡ said_with parts ++ said →
        report_from guesses plan parts (singles cells) ≡ told (Some x) (lifted said)
    singles_added [] parts at said a b e =
        let none : [] ≡ said =
        append_cancel_left (said_with parts) [] said (append-nil (said_with parts)
        ∙ sym (ap said_with (append-nil parts)) ∙ e) in
        ap (λ l. told (Some x) (lifted l)) none
    singles_added (c ∷ cells) parts at said a b e =
        let next = parts ++ Run (c ∷ []) ∷ [] in
        let placed : PartsBetween 0 at (next ++ singles cells) =
        subst (PartsBetween 0 at) (sym (append_assoc parts (Run (c ∷ []) ∷ []) (singles cells))) b in
        let s = parts_split next (singles cells) 0 at placed in
        let one = grows guesses (c ∷ []) parts s.mid (a.0, tt) s.front in
        let rest = grows guesses cells next at a.1 placed in
        let all : said_with (next ++ singles cells) ≡ said_with parts ++ said =
        ap said_with (append_assoc parts (Run (c ∷ []) ∷ []) (singles cells)) ∙ e in
        let parts_are : said ≡ one.0 ++ rest.0 =
        append_cancel_left (said_with parts) said (one.0 ++ rest.0)
        (sym all ∙ rest.1 ∙ ap (λ l. l ++ rest.0) one.1 ∙ append_assoc (said_with parts) one.0 rest.0) in
        ap (λ l. l ++ report_from guesses plan next (singles cells))
        ((laws.own guesses plan kind x parts (c ∷ []) k a.0).more one.0 one.1)
        ∙ ap (λ l. told (Some x) (lifted one.0) ++ l) (singles_added cells next at rest.0 a.1 placed rest.1)
        ∙ sym (told_append x one.0 rest.0)
        ∙ ap (λ l. told (Some x) (lifted l)) (sym parts_are)
