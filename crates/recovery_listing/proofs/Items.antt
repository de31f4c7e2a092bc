-- What a source has in a recovering report: the packets of one that is mapped, and of any other the frames' items.
use Rattle.std.proofs.Common.{◌≡◌, ℕ, ◌+◌, List, [], ◌∷◌, ◌++◌, length, refl, sym, ◌∙◌, ap, arith, cond}
use Rattle.std.proofs.Common.{Option, None, Some, Bool, true, false, flat_map}
use Rattle.std.specs.Prelude.{◌==◌, ◌&&◌}
use Rattle.std.specs.List.{count_by}
use Rattle.std.proofs.lemmas.List.{length-append, map-append}
use Rattle.std.proofs.lemmas.List.Sums.{sum_by-append, sum_by-cons}
use Rattle.trace_values.specs.declared.cell.Cell.{Cell}
use Rattle.trace_values.specs.Placed.{Place, placed}
use Rattle.trace_values.specs.Stream.{Said, Notice, Kept}
use Rattle.source_counts.specs.Counts.{items_of}
use Rattle.source_events.specs.declared.event.Event.{Event}
use Rattle.source_events.specs.declared.event.What.{What}
use Rattle.source_events.specs.declared.event.What.TheVariants.{Raw}
use Rattle.source_events.specs.declared.packet.Packet.{Packet}
use Rattle.source_events.specs.declared.plan.Plan.{Plan}
use Rattle.source_events.specs.declared.plan.SourceKind.{SourceKind}
use Rattle.source_events.specs.Merge.{is_of, part, told}
use Rattle.source_events.specs.Plan.{kind_of}
use Rattle.source_events.specs.Report.{lifted, raw_events, raws, triggers, what_of}
use Rattle.source_events.specs.Runs.{bytes_of, id_of, last_at}
use Rattle.source_events.proofs.Captures.{capture_rises}
use Rattle.source_events.proofs.ItemCounts.{frames_given}
use Rattle.stretch_readings.specs.declared.heard.Heard.{Heard}
use Rattle.stretch_readings.specs.declared.heard.Heard.TheVariants.{Read}
use Rattle.recovery_report.specs.Counts.{is_item, items_in}
use Rattle.recovery_report.specs.Port.{all_of, frames_of, recovered}
use Rattle.recovery_report.specs.Report.{events_by, parts_in, report, run_in, said_in}
use Rattle.recovery_report.proofs.Parting.{parts_in_order}
use Rattle.recovery_laws.proofs.Ordering.{ordered}
use Rattle.recovery_engine.specs.Heard.{is_packet, packets_in}
use Rattle.recovery_engine.proofs.PortCounts.{recovered_runs, runs_are}

-- how many of these events are so
abbrev count : (What (Heard Packet) → Bool) → List (Event (Heard Packet)) → ℕ
count f es = count_by (λ e. f e.what) es

abbrev one : (What (Heard Packet) → Bool) → Event (Heard Packet) → ℕ
one f e = cond (f e.what) 1 0

module _ (x : ℕ) where
  -- those of a source are counted in its part
  in_part : (f : What (Heard Packet) → Bool) (es : List (Event (Heard Packet))) →
      count_by (λ (e : Event (Heard Packet)). is_of (Some x) e.source && f e.what) es ≡ count f (part (Some x) es)
  in_part f [] = refl
  in_part f (e ∷ es) =
      sum_by-cons (λ (d : Event (Heard Packet)). cond (is_of (Some x) d.source && f d.what) 1 0) e es
      ∙ ap (λ (n : ℕ). cond (is_of (Some x) e.source && f e.what) 1 0 + n) (in_part f es)
      ∙ by (is_of (Some x) e.source) where
        by : (t : Bool) → cond (t && f e.what) 1 0 + count f (part (Some x) es)
            ≡ count f (cond t (e ∷ part (Some x) es) (part (Some x) es))
        by true = sym (sum_by-cons (one f) e (part (Some x) es))
        by false = (let z : (n : ℕ) → 0 + n ≡ n = (λ n. omega arith) in z (count f (part (Some x) es)))

  -- all that a mapped source says are notices, packets, faults and guesses
  same_what : (s : Said (Heard Packet)) → is_packet (what_of s) ≡ is_item (what_of s)
  same_what (Notice n) = refl
  same_what (Kept (Read packet)) = refl
  same_what (Kept v) = refl

  packets_said : (said : List (Said (Heard Packet) × Place)) →
      count is_packet (told (Some x) (lifted said)) ≡ count is_item (told (Some x) (lifted said))
  packets_said [] = refl
  packets_said (s ∷ said) =
      let es = told (Some x) (lifted said) in
      let e : Event (Heard Packet) = record { at = s.1.at; half = s.1.half; source = Some x; what = what_of s.0 } in
      sum_by-cons (one is_packet) e es
      ∙ ap (λ (t : Bool). cond t 1 0 + count is_packet es) (same_what s.0)
      ∙ ap (λ (n : ℕ). one is_item e + n) (packets_said said) ∙ sym (sum_by-cons (one is_item) e es)

  -- all that is given of any other are items
  abbrev AreItems : List (What (Heard Packet) × Place) → Type 0
  AreItems given = count is_item (told (Some x) given) ≡ length given

  items_append : (a b : List (What (Heard Packet) × Place)) → AreItems a → AreItems b → AreItems (a ++ b)
  items_append a b h k =
      ap (count is_item) (map-append _ a b)
      ∙ (let s = sum_by-append (one is_item) (told (Some x) a) (told (Some x) b) in let l = length-append a b in
      omega (arith, s, h, k, l))

  trigger_items : (run : List Cell) → AreItems (triggers run)
  trigger_items [] = refl
  trigger_items (c ∷ run) = items_append (triggers (c ∷ [])) (triggers run) refl (trigger_items run)

  run_items : (run : List Cell) → AreItems (raw_events x run)
  run_items run = by (x == 0) (x == 125) where
    by : (s t : Bool) → AreItems (cond s [] (cond t (triggers run)
        ((Raw (bytes_of run), record { at = last_at run; half = 0 }) ∷ [])))
    by true t = refl
    by false true = trigger_items run
    by false false = refl

  raw_items : (runs : List (List Cell)) → AreItems (raws x runs)
  raw_items [] = refl
  raw_items (run ∷ runs) =
      items_append (cond (is_of (Some x) (id_of run)) (raw_events x run) []) (raws x runs)
      (by (is_of (Some x) (id_of run))) (raw_items runs) where
        by : (t : Bool) → AreItems (cond t (raw_events x run) [])
        by true = run_items run
        by false = refl

  module _ (plan : Plan) (seen : List ℕ) where
    abbrev es : List (Event (Heard Packet))
    es = report plan (placed seen)

    own : (o : Option SourceKind) → kind_of plan x ≡ o →
        part (Some x) es ≡ told (Some x) (events_by false plan o x (parts_in (recovered plan.frames (placed seen))))
    own o e =
        let parts = parts_in (recovered plan.frames (placed seen)) in
        (ordered false plan parts 0
        (parts_in_order plan.frames (placed seen) 0 (length seen) (capture_rises seen))).parts (Some x)
        ∙ ap (λ (p : Option SourceKind). told (Some x) (events_by false plan p x parts)) e

    pub packets_are : (kind : SourceKind) → kind_of plan x ≡ Some kind → packets_in x es ≡ items_in x es
    packets_are kind e =
        in_part is_packet es ∙ ap (count is_packet) (own (Some kind) e)
        ∙ packets_said (said_in false plan kind x (parts_in (recovered plan.frames (placed seen))))
        ∙ sym (in_part is_item es ∙ ap (count is_item) (own (Some kind) e))

    pub items_are : kind_of plan x ≡ None → items_of x (frames_of (recovered plan.frames (placed seen))) ≡ items_in x es
    items_are e =
        let r = recovered plan.frames (placed seen) in
        sym (in_part is_item es ∙ ap (count is_item) (own None e) ∙ raw_items (flat_map run_in (parts_in r))
        ∙ ap (λ (runs : List (List Cell)). length (raws {V = Heard Packet} x runs)) (runs_are (all_of r))
        ∙ frames_given (Heard Packet) x (frames_of r) (recovered_runs plan.frames (placed seen)))
