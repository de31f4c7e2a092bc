-- How the report of a whole capture grows with its bytes.
use Rattle.std.proofs.Common.{◌≡◌, ℕ, ◌+◌, ◌≤◌, List, [], ◌++◌, length, refl, sym, ◌∙◌, ap, subst, append-nil, arith}
use Rattle.std.proofs.Common.{Option, None, Some, Bool, false}
use Rattle.std.specs.Prelude.{is_none}
use Rattle.trace_values.specs.declared.cell.Cell.{Cell}
use Rattle.trace_values.specs.declared.fault.Reason.{Reason}
use Rattle.trace_values.specs.Placed.{Place, Placed, placed, placed_from}
use Rattle.trace_values.proofs.Placing.{placed_append}
use Rattle.trace_values.specs.declared.reading_modes.FramesMode.{FramesMode}
use Rattle.trace_values.specs.declared.reading_modes.FramesMode.TheVariants.{Hunt}
use Rattle.deformatter.specs.Rising.{BytesRise}
use Rattle.deformatter.specs.PortReading.{port_reading}
use Rattle.deformatter.proofs.PortReadingLaws.{none_read}
use Rattle.deformatter.proofs.RisingLaws.{placed_rise}
use Rattle.source_events.specs.declared.event.Event.{Event}
use Rattle.source_events.specs.declared.event.What.{What}
use Rattle.source_events.specs.Runs.{all_runs}
use Rattle.source_events.specs.Merge.{told, cut}
use Rattle.source_events.specs.Report.{Mapped, AreLawful, lesser, of_source, least_fault, all_events, port_events}
use Rattle.source_events.specs.Report.{runs_in, stop_in, capture_events, report}
use Rattle.source_events.proofs.Growth as growth
use Rattle.source_events.proofs.Least.{Full}

pub capture_rises : (xs : List ℕ) → BytesRise 0 (length xs) (placed xs)
capture_rises xs =
    subst (λ (n : ℕ). BytesRise 0 n (placed xs)) (let k : 0 + length xs ≡ length xs = omega arith in k) (placed_rise xs 0)

-- of no bytes there is no fault, and no event
nothing_given : {V : Type 0} → (mode : FramesMode) → port_events {V = V} mode [] ≡ []
nothing_given Hunt = refl
nothing_given x = refl

module _ {V : Type 0} (ss : List (Mapped V)) (law : AreLawful ss) (mode : FramesMode) where
  pub no_fault_first : stop_in ss (port_reading mode []) ≡ None
  no_fault_first =
      ap (λ (o : Option (Place × Reason)). lesser (of_source None o) (least_fault ss (runs_in (port_reading mode []))))
      (none_read mode).fault
      ∙ ap (λ (l : List (List Cell)). least_fault ss (all_runs l)) (none_read mode).frames ∙ growth.sound_first ss law

  pub no_event_first : report ss mode [] ≡ []
  no_event_first =
      ap (λ (o : Option Full). cut o (capture_events ss mode [])) no_fault_first
      ∙ ap (λ (g : List (What V × Place)). told None g ++ all_events ss (runs_in (port_reading mode []))) (nothing_given mode)
      ∙ ap (λ (l : List (List Cell)). all_events ss (all_runs l)) (none_read mode).frames

itself : (n : ℕ) → n ≤ n
itself n = omega arith

module _ {V : Type 0} (ss : List (Mapped V)) (law : AreLawful ss) (mode : FramesMode) (xs ys : List ℕ) where
  pub stays : (f : Full) → stop_in ss (port_reading mode (placed xs)) ≡ Some f →
      (stop_in ss (port_reading mode (placed (xs ++ ys))) ≡ Some f)
      × (report ss mode (placed (xs ++ ys)) ≡ report ss mode (placed xs))
  stays f e =
      subst (λ (u : List Placed). (stop_in ss (port_reading mode u) ≡ Some f) × (report ss mode u ≡ report ss mode (placed xs)))
      (sym (placed_append xs ys))
      (growth.stays ss law mode (placed xs) (length xs) (length xs) (capture_rises xs) (itself (length xs)) ys f e)

  grows_none : stop_in ss (port_reading mode (placed xs)) ≡ None →
      (given : List (Event V)) × (report ss mode (placed (xs ++ ys)) ≡ report ss mode (placed xs) ++ given)
  grows_none e =
      subst (λ (u : List Placed). (given : List (Event V)) × (report ss mode u ≡ report ss mode (placed xs) ++ given))
      (sym (placed_append xs ys))
      (growth.grows ss law mode (placed xs) (length xs) (length xs) (capture_rises xs) (itself (length xs)) ys e)

  pub grows : (given : List (Event V)) × (report ss mode (placed (xs ++ ys)) ≡ report ss mode (placed xs) ++ given)
  grows = by (stop_in ss (port_reading mode (placed xs))) refl where
    by : (o : Option Full) → stop_in ss (port_reading mode (placed xs)) ≡ o →
        (given : List (Event V)) × (report ss mode (placed (xs ++ ys)) ≡ report ss mode (placed xs) ++ given)
    by (Some f) e = ([], (stays f e).1 ∙ sym (append-nil (report ss mode (placed xs))))
    by None e = grows_none e

  pub stays_same : is_none (stop_in ss (port_reading mode (placed xs))) ≡ false →
      (stop_in ss (port_reading mode (placed (xs ++ ys))) ≡ stop_in ss (port_reading mode (placed xs)))
      × (report ss mode (placed (xs ++ ys)) ≡ report ss mode (placed xs))
  stays_same h = by (stop_in ss (port_reading mode (placed xs))) refl h where
    by : (o : Option Full) → stop_in ss (port_reading mode (placed xs)) ≡ o → is_none o ≡ false →
        (stop_in ss (port_reading mode (placed (xs ++ ys))) ≡ stop_in ss (port_reading mode (placed xs)))
        × (report ss mode (placed (xs ++ ys)) ≡ report ss mode (placed xs))
    by None e k = cc
    by (Some f) e k = let s = stays f e in (s.0 ∙ sym e, s.1)
