-- The report of a plan's rest follows that of its whole.
use Rattle.std.proofs.Common.{◌≡◌, ℕ, ◌+◌, List, [], ◌++◌, length, map, sym, ◌∙◌, ap, None}
use Rattle.std.specs.Prelude.{Option, Some}
use Rattle.resync_laws.specs.Names.{Place, Placed, placed, FramesMode, packets_hunt, packets_in, items_in, PortReading}
use Rattle.resync_laws.specs.Names.{port_reading, Event, Packet, Plan, SourceKind, Itm, Stp, part, kind_of, sources_by}
use Rattle.resync_laws.specs.Names.{Mapped, lesser, of_source, least_fault, runs_in, stop_in, report, rest_mode}
use Rattle.resync_laws.specs.Names.{source_bytes}
use Rattle.trace_values.proofs.Placing.{placed_append}
use Rattle.deformatter.proofs.RisingLaws.{placed_rise, reading_rises}
use Rattle.source_events.proofs.Growth.{no_stop}
use Rattle.source_events.proofs.Least.{AreSound}
use Rattle.source_events.proofs.Placing.{frames_between}
use Rattle.source_events.proofs.Settling.{all_sound}
use Rattle.resync_grammars.proofs.Captures.{itm_capture, stp_capture}
use Rattle.resync_laws.specs.Moved.{later_event, later_reading}
use Rattle.resync_laws.specs.FromPoints.{items_among, from_points}
use Rattle.resync_laws.specs.Report.{left_bytes, whole_reading, left_reading, whole_report, left_report, points}
use Rattle.resync_laws.specs.Report.{SourceFollows, ReportFollows}
use Rattle.resync_laws.specs.Resumed.{wholes, points_in, port_of}
use Rattle.resync_laws.proofs.PlanTerms.{sources_of, unit_reads}
use Rattle.resync_laws.proofs.Mapped.{can_all, all_read, wholes_are, rests_are, quiet_at}
use Rattle.resync_laws.proofs.Looking.{bytes_are, point_is, same_points, sound_at}
use Rattle.resync_laws.proofs.RestReport.{rest_law}
use Rattle.resync_laws.proofs.Exact.{part_law}

module _ (plan : Plan) (lost left : List ℕ) (e : stop_in (sources_by plan) (whole_reading plan lost left) ≡ None) where
  abbrev mode : FramesMode
  mode = rest_mode plan.frames

  abbrev w : List Placed
  w = left_bytes lost left

  whole : placed (lost ++ left) ≡ placed lost ++ w
  whole = placed_append lost left

  -- the port and all sources are sound
  port_none : (port_reading plan.frames (placed lost ++ w)).fault ≡ None
  port_none = ap (λ (u : List Placed). (port_reading plan.frames u).fault) (sym whole) ∙ no_stop (sources_by plan) (whole_reading plan lost left) e

  are_sound : AreSound (sources_by plan) (runs_in (whole_reading plan lost left))
  are_sound =
      let r = whole_reading plan lost left in
      let hi = 0 + length (lost ++ left) in
      let between = frames_between r.frames 0 hi (reading_rises plan.frames (placed (lost ++ left)) 0 hi (placed_rise (lost ++ left) 0)) in
      let least : least_fault (sources_by plan) (runs_in r) ≡ None =
      sym (ap (λ (o : Option _). lesser (of_source None o) (least_fault (sources_by plan) (runs_in r))) (no_stop (sources_by plan) r e)) ∙ e in
      all_sound (runs_in r) [] hi between tt (sources_by plan) least

  -- each mapped source
  itm_follows : (x : ℕ) → kind_of plan x ≡ Some Itm → SourceFollows plan Itm (source_bytes plan.frames x (placed (lost ++ left))) (source_bytes mode x w)
  itm_follows x k =
      let none : (packets_in (packets_hunt plan.packets) (source_bytes plan.frames x (placed (lost ++ left)))).fault ≡ None =
      ap (λ (l : List Placed). (packets_in (packets_hunt plan.packets) l).fault) (sym (bytes_are plan.frames (placed (lost ++ left)) x)) ∙ sound_at plan (runs_in (whole_reading plan lost left)) x are_sound Itm k in
      let c = itm_capture plan.frames (packets_hunt plan.packets) x (placed lost) w port_none (ap (λ (u : List Placed). (packets_in (packets_hunt plan.packets) (source_bytes plan.frames x u)).fault) (sym whole) ∙ none) in
      record { early = c.0; parts = ap (source_bytes plan.frames x) whole ∙ c.1; rest_reads = c.2 }

  stp_follows : (x : ℕ) → kind_of plan x ≡ Some Stp → SourceFollows plan Stp (source_bytes plan.frames x (placed (lost ++ left))) (source_bytes mode x w)
  stp_follows x k =
      let none : (items_in plan.order (packets_hunt plan.packets) (source_bytes plan.frames x (placed (lost ++ left)))).fault ≡ None =
      ap (λ (l : List Placed). (items_in plan.order (packets_hunt plan.packets) l).fault) (sym (bytes_are plan.frames (placed (lost ++ left)) x)) ∙ sound_at plan (runs_in (whole_reading plan lost left)) x are_sound Stp k in
      let c = stp_capture plan.order plan.frames (packets_hunt plan.packets) x (placed lost) w port_none (ap (λ (u : List Placed). (items_in plan.order (packets_hunt plan.packets) (source_bytes plan.frames x u)).fault) (sym whole) ∙ none) in
      record { early = c.0; parts = ap (source_bytes plan.frames x) whole ∙ c.1; rest_reads = c.2 }

  source_follows : (x : ℕ) (kind : SourceKind) → kind_of plan x ≡ Some kind → SourceFollows plan kind (source_bytes plan.frames x (placed (lost ++ left))) (source_bytes mode x w)
  source_follows x Itm k = itm_follows x k
  source_follows x Stp k = stp_follows x k

  sound : stop_in (wholes (sources_of plan)) (port_of plan.frames (lost ++ left)) ≡ None
  sound = ap (λ (l : List (Mapped Packet)). stop_in l (port_of plan.frames (lost ++ left))) (wholes_are plan) ∙ e

  abbrev by_sources : ℕ → Option Place
  by_sources = points_in (sources_of plan) (runs_in (left_reading plan lost left))

  same : (es : List (Event Packet)) → from_points by_sources es ≡ from_points (points plan lost left) es
  same es = same_points by_sources (points plan lost left) (λ x. point_is plan mode w x) es

  pub report_follows : ReportFollows plan lost left
  report_follows =
      let f = rest_law (unit_reads plan) (sources_of plan) (can_all plan) (all_read plan) plan.frames lost left sound in
      let moved : points_in (sources_of plan) (runs_in (later_reading (length lost) (port_of mode left))) ≡ by_sources = ap (λ (q : PortReading). points_in (sources_of plan) (runs_in q)) (sym f.reading) in
      record {
        port = f.follows.port;
        sources = source_follows;
        events = sym (same (items_among (left_report plan lost left)))
            ∙ ap (λ (l : List (Mapped Packet)). from_points by_sources (items_among (report l mode w))) (sym (rests_are plan))
            ∙ f.follows.events
            ∙ ap (λ (u : List Placed). from_points by_sources (items_among (report (wholes (sources_of plan)) plan.frames u))) (sym whole)
            ∙ ap (λ (l : List (Mapped Packet)). from_points by_sources (items_among (report l plan.frames (placed (lost ++ left))))) (wholes_are plan)
            ∙ same (items_among (whole_report plan lost left));
        exact = λ x n.
            ap (λ (l : List (Mapped Packet)). part (Some x) (items_among (report l mode w))) (sym (rests_are plan))
            ∙ ap (λ (l : List (Event Packet)). part (Some x) (items_among l)) f.events
            ∙ part_law (sources_of plan) (can_all plan) x (quiet_at plan x n) plan.frames lost left sound
            ∙ ap (λ (q : ℕ → Option Place). part (Some x) (from_points q (items_among (report (wholes (sources_of plan)) plan.frames (placed (lost ++ left)))))) moved
            ∙ ap (λ (l : List (Mapped Packet)). part (Some x) (from_points by_sources (items_among (report l plan.frames (placed (lost ++ left)))))) (wholes_are plan)
            ∙ ap (part (Some x)) (same (items_among (whole_report plan lost left)));
        sound = ap (λ (l : List (Mapped Packet)). stop_in l (left_reading plan lost left)) (sym (rests_are plan)) ∙ f.follows.sound;
        tail = λ t. f.follows.tail t ∙ ap (λ (u : List Placed). (port_reading plan.frames u).tail) (sym whole);
        reading = f.reading;
        report_is = ap (λ (l : List (Mapped Packet)). report l mode w) (sym (rests_are plan)) ∙ f.events
            ∙ ap (λ (l : List (Mapped Packet)). map (λ e. later_event (length lost) e) (report l mode (placed left))) (rests_are plan);
        sound_from_0 = ap (λ (l : List (Mapped Packet)). stop_in l (port_reading mode (placed left))) (sym (rests_are plan)) ∙ f.sound;
      }
