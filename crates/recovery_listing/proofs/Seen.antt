-- What a strict report counts of the events that are read.
use Rattle.std.proofs.Common.{◌≡◌, ℕ, ◌+◌, List, [], ◌∷◌, ◌++◌, refl, sym, ◌∙◌, ap, arith, Some, Bool, true}
use Rattle.std.proofs.Common.{false, cond}
use Rattle.std.specs.Prelude.{◌&&◌}
use Rattle.std.specs.List.{list_any}
use Rattle.std.proofs.lemmas.Bool.{or_parts}
use Rattle.std.proofs.lemmas.List.Sums.{sum_by-cons}
use Rattle.source_events.specs.declared.event.Event.{Event}
use Rattle.source_events.specs.declared.event.What.{What}
use Rattle.source_events.specs.declared.event.What.TheVariants.{Locked, Packet as Said, Raw, Trigger}
use Rattle.source_events.specs.declared.packet.Packet.{Packet}
use Rattle.source_events.specs.Merge.{is_of}
use Rattle.source_events.specs.Report as strict
use Rattle.source_events.specs.Tails as counted
use Rattle.stretch_readings.specs.declared.heard.Heard.{Heard}
use Rattle.stretch_readings.specs.declared.heard.Heard.TheVariants.{Read, Broken, Guessed, Misread}
use Rattle.recovering_machines.specs.Hearing.{as_event, as_strict, is_guess}
use Rattle.recovery_report.specs.Counts.{is_item, items_in}
use Rattle.recovering_machines.specs.Hearing.{seen_by, seen_in}

module _ (x : ℕ) where
  abbrev one : Event (Heard Packet) → ℕ
  one e = cond (is_of (Some x) e.source && is_item e.what) 1 0

  abbrev strict_one : Event Packet → ℕ
  strict_one e = cond (is_of (Some x) e.source && strict.is_item e.what) 1 0

  not_counted : (t : Bool) (n : ℕ) → n ≡ cond (t && false) 1 0 + n
  not_counted true n = omega arith
  not_counted false n = omega arith

  -- of events without guesses it counts the items
  pub seen_items : (es : List (Event (Heard Packet))) → list_any (λ e. is_guess e.what) es ≡ false →
      counted.items_in x (seen_in es) ≡ items_in x es
  seen_items [] h = refl
  seen_items (e ∷ es) h =
      let none = or_parts (is_guess e.what) (list_any (λ e. is_guess e.what) es) h in
      by e.what none.0 (seen_items es none.1) ∙ sym (sum_by-cons one e es) where
        read : (what : What Packet) → counted.items_in x (seen_in es) ≡ items_in x es →
            counted.items_in x (as_event e what ∷ seen_in es)
            ≡ cond (is_of (Some x) e.source && strict.is_item what) 1 0 + items_in x es
        read what more =
            sum_by-cons strict_one (as_event e what) (seen_in es)
            ∙ ap (λ (n : ℕ). cond (is_of (Some x) e.source && strict.is_item what) 1 0 + n) more

        by : (w : What (Heard Packet)) → is_guess w ≡ false → counted.items_in x (seen_in es) ≡ items_in x es →
            counted.items_in x (seen_by e (as_strict w) ++ seen_in es)
            ≡ cond (is_of (Some x) e.source && is_item w) 1 0 + items_in x es
        by (Locked skipped) g more = read (Locked skipped) more
        by (Said (Read packet)) g more = read (Said packet) more
        by (Said (Broken reason)) g more = more ∙ not_counted (is_of (Some x) e.source) (items_in x es)
        by (Said (Guessed packet)) g more = cc
        by (Said (Misread reason)) g more = cc
        by (Raw bytes) g more = read (Raw bytes) more
        by (Trigger byte) g more = read (Trigger byte) more
