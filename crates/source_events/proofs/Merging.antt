-- The merged list of a capture is the only one.
use Rattle.std.proofs.Common.{◌↔◌, ◌≡◌, ℕ, List, append-nil, refl, subst, sym, Option, None, Some}
use Rattle.trace_values.specs.Placed.{Place, Placed}
use Rattle.trace_values.specs.declared.reading_modes.FramesMode.{FramesMode}
use Rattle.deformatter.specs.PortReading.{port_reading}
use Rattle.deformatter.specs.Rising.{BytesRise}
use Rattle.source_events.specs.declared.event.Event.{Event}
use Rattle.source_events.specs.declared.event.What.{What}
use Rattle.source_events.specs.Runs.{id_of, IsRunFrom, end_of}
use Rattle.source_events.specs.Merge.{IsMerged, of_sources}
use Rattle.source_events.specs.Report.{Mapped, AreLawful, capture_events, events, given_in, port_events, runs_in}
use Rattle.source_events.proofs.Merges.{is_merged, merged_as, only_merged, with_first}
use Rattle.source_events.proofs.Family.{Anywhere, adds, anywhere, none_first}
use Rattle.source_events.proofs.Running.{end_within}
use Rattle.source_events.proofs.Placing.{between_order}
use Rattle.source_events.proofs.Locking.{first_end, port_first, runs_first}

-- what the port gives is before all runs
module _ {V : Type 0} (ss : List (Mapped V)) (mode : FramesMode) (u : List Placed) where
  abbrev said : Option ℕ → List (What V × Place)
  said = with_first (port_events mode u) (λ x. of_sources (events ss) x (runs_in (port_reading mode u)))

  same : (x : Option ℕ) → said x ≡ given_in ss mode u x
  same None = append-nil (port_events mode u)
  same (Some x) = refl

pub capture_merged : (V : Type 0) (ss : List (Mapped V)) → AreLawful ss → (mode : FramesMode) (u : List Placed) (lo hi : ℕ) →
    BytesRise lo hi u → (es : List (Event V)) → IsMerged (given_in ss mode u) es ↔ (es ≡ capture_events ss mode u)
capture_merged V ss law mode u lo hi rise es =
    let runs = runs_in (port_reading mode u) in
    let start = first_end lo (port_events {V = V} mode u) in
    let order = between_order runs start hi (runs_first V mode u lo hi rise) in
    let first = (port_first V mode u lo hi rise).first in
    let is = is_merged Anywhere IsRunFrom end_of end_within id_of (of_sources (events ss)) (adds ss law) anywhere
    (none_first ss law) (port_events mode u) start first runs tt order in
    let alone = only_merged Anywhere IsRunFrom end_of end_within id_of (of_sources (events ss)) (adds ss law) anywhere
    (none_first ss law) (port_events mode u) start first runs tt order in (
      (λ i. alone es (merged_as (given_in ss mode u) (said ss mode u) (λ x. sym (same ss mode u x)) es i)),
      (λ e. merged_as (said ss mode u) (given_in ss mode u) (same ss mode u) es
          (subst (λ (l : List (Event V)). IsMerged (said ss mode u) l) (sym e) is)),
    )
