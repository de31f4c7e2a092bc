-- Where no source is mapped, a report has as many events of a source as its frames have items of it.
use Rattle.std.specs.Prelude.{◌&&◌, ◌==◌}
use Rattle.std.proofs.Common.{◌≡◌, ℕ, ◌+◌, List, [], ◌∷◌, ◌++◌, length, refl, sym, ◌∙◌, ap}
use Rattle.std.proofs.Common.{arith, Option, None, Some, Bool, true, false, cond}
use Rattle.std.specs.List.{count_by}
use Rattle.std.proofs.lemmas.List.Sums.{sum_by-cons}
use Rattle.trace_values.specs.declared.cell.Cell.{Cell}
use Rattle.trace_values.specs.Placed.{Place, Placed}
use Rattle.frame_grammar.specs.Reading.{is_source}
use Rattle.trace_values.specs.declared.reading_modes.FramesMode.{FramesMode}
use Rattle.deformatter.specs.PortReading.{port_reading}
use Rattle.deformatter.specs.Rising.{BytesRise}
use Rattle.deformatter.proofs.PortReadingLaws.{frames_have_runs}
use Rattle.source_counts.specs.Counts.{items_of}
use Rattle.source_events.specs.declared.event.Event.{Event}
use Rattle.source_events.specs.declared.event.What.{What}
use Rattle.source_events.specs.declared.event.What.TheVariants.{Raw}
use Rattle.source_events.specs.declared.packet.Packet.{Packet}
use Rattle.source_events.specs.Runs.{id_of, bytes_of, last_at}
use Rattle.source_events.specs.Merge.{told, is_of, part, cut}
use Rattle.source_events.specs.Report.{triggers, raw_events, raws, is_item, runs_in, stop_in, capture_events, report}
use Rattle.source_events.specs.Tails.{items_in}
use Rattle.source_events.proofs.ItemCounts.{frames_given}
use Rattle.source_events.proofs.Least.{Full}
use Rattle.source_events.proofs.Merging.{capture_merged}

-- those of a source that pass are counted in its part
counted_in_part : (x : ℕ) (es : List (Event Packet)) →
    items_in x es ≡ count_by (λ (e : Event Packet). is_item e.what) (part (Some x) es)
counted_in_part x [] = refl
counted_in_part x (e ∷ es) =
    sum_by-cons (λ (f : Event Packet). cond (is_of (Some x) f.source && is_item f.what) 1 0) e es
    ∙ ap (λ (n : ℕ). cond (is_of (Some x) e.source && is_item e.what) 1 0 + n) (counted_in_part x es)
    ∙ by (is_of (Some x) e.source) where
      by : (t : Bool) → cond (t && is_item e.what) 1 0 + count_by (λ (f : Event Packet). is_item f.what) (part (Some x) es)
          ≡ count_by (λ (f : Event Packet). is_item f.what) (cond t (e ∷ part (Some x) es) (part (Some x) es))
      by true = sym (sum_by-cons (λ (f : Event Packet). cond (is_item f.what) 1 0) e (part (Some x) es))
      by false = (let z : (n : ℕ) → 0 + n ≡ n = (λ n. omega arith) in z (count_by (λ (f : Event Packet). is_item f.what) (part (Some x) es)))

-- all that a source gives that is not mapped are items
abbrev AreItems : List (What Packet × Place) → Type 0
AreItems [] = Unit {0}
AreItems (g ∷ given) = (is_item g.0 ≡ true) × AreItems given

all_counted : (source : Option ℕ) (given : List (What Packet × Place)) → AreItems given →
    count_by (λ (e : Event Packet). is_item e.what) (told source given) ≡ length given
all_counted source [] a = refl
all_counted source (g ∷ given) a =
    sum_by-cons (λ (e : Event Packet). cond (is_item e.what) 1 0)
    (record { at = g.1.at; half = g.1.half; source = source; what = g.0 }) (told source given)
    ∙ ap (λ (t : Bool). cond t 1 0 + count_by (λ (e : Event Packet). is_item e.what) (told source given)) a.0
    ∙ (let k = all_counted source given a.1 in omega arith)

items_append : (a b : List (What Packet × Place)) → AreItems a → AreItems b → AreItems (a ++ b)
items_append [] b h k = k
items_append (g ∷ a) b h k = (h.0, items_append a b h.1 k)

trigger_items : (run : List Cell) → AreItems (triggers run)
trigger_items [] = tt
trigger_items (c ∷ run) = (refl, trigger_items run)

run_items : (x : ℕ) (run : List Cell) → AreItems (raw_events x run)
run_items x run = by (x == 0) (x == 125) where
  by : (s t : Bool) → AreItems (cond s [] (cond t (triggers run) ((Raw (bytes_of run), record { at = last_at run; half = 0 }) ∷ [])))
  by true t = tt
  by false true = trigger_items run
  by false false = (refl, tt)

raw_items : (x : ℕ) (runs : List (List Cell)) → AreItems (raws x runs)
raw_items x [] = tt
raw_items x (run ∷ runs) = items_append (cond (is_source x (id_of run)) (raw_events x run) []) (raws x runs) (by (is_source x (id_of run))) (raw_items x runs) where
  by : (t : Bool) → AreItems (cond t (raw_events x run) [])
  by true = run_items x run
  by false = tt

-- where no source is mapped, whatever the port's fault
pub items_captured : (mode : FramesMode) (u : List Placed) (lo hi x : ℕ) → BytesRise lo hi u →
    items_in x (capture_events [] mode u) ≡ items_of x (port_reading mode u).frames
items_captured mode u lo hi x rise =
    let merged = (capture_merged Packet [] tt mode u lo hi rise (capture_events [] mode u)).1 refl in
    let runs = runs_in (port_reading mode u) in
    counted_in_part x (capture_events [] mode u)
    ∙ ap (λ (l : List (Event Packet)). count_by (λ (f : Event Packet). is_item f.what) l) (merged.parts (Some x))
    ∙ all_counted (Some x) (raws x runs) (raw_items x runs)
    ∙ frames_given Packet x (port_reading mode u).frames (frames_have_runs mode u)

pub items_counted : (mode : FramesMode) (u : List Placed) (lo hi x : ℕ) → BytesRise lo hi u →
    stop_in {V = Packet} [] (port_reading mode u) ≡ None →
    items_in x (report [] mode u) ≡ items_of x (port_reading mode u).frames
items_counted mode u lo hi x rise e =
    ap (λ (o : Option Full). items_in x (cut o (capture_events [] mode u))) e ∙ items_captured mode u lo hi x rise
