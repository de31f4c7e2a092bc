-- The report of a capture is the strict one up to its first fault.
use Rattle.std.proofs.Common.{◌≡◌, ℕ, ◌+◌, ◌<◌, ◌≤◌, List, [], ◌∷◌, ◌++◌, map, refl, sym, ◌∙◌, ap, subst, arith}
use Rattle.std.proofs.Common.{append-nil, drop, length, zero, suc, ◌⊎◌, inl, inr, Option, None, Some, true, false}
use Rattle.trace_values.specs.declared.cell.Cell.{Cell}
use Rattle.trace_values.specs.declared.fault.Reason.{Reason}
use Rattle.trace_values.specs.Placed.{Place, Placed}
use Rattle.frame_grammar.specs.Port.{PortItem}
use Rattle.deformatter.specs.PortReading.{port_reading}
use Rattle.deformatter.specs.Rising.{BytesRise}
use Rattle.source_events.specs.declared.event.Event.{Event}
use Rattle.source_events.specs.declared.event.What.{What}
use Rattle.source_events.specs.declared.packet.Packet.{Packet}
use Rattle.source_events.specs.declared.plan.Plan.{Plan}
use Rattle.source_events.specs.declared.plan.SourceKind.{SourceKind}
use Rattle.source_events.specs.Merge.{told, cut, grown, of_sources, AllIn, Below, IsAtMost, start_of}
use Rattle.source_events.specs.Plan.{is_sound, kind_of, sources_by}
use Rattle.source_events.specs.Report.{Mapped, AreLawful, all_events, events, least_fault, lesser, lock_at, of_source}
use Rattle.source_events.specs.Report.{port_events, runs_in, stop_in}
use Rattle.source_events.specs.Report.{report as strict_report}
use Rattle.source_events.specs.Tails.{items_in}
use Rattle.source_counts.specs.Counts.{items_of}
use Rattle.source_events.proofs.ReportCounts.{items_captured}
use Rattle.source_events.specs.Runs.{id_of, IsRunFrom, end_of}
use Rattle.source_events.proofs.Family.{Anywhere, adds, anywhere}
use Rattle.source_events.proofs.Growth.{between_weaker, sound_first}
use Rattle.source_events.proofs.Lawful.{plan_lawful}
use Rattle.source_events.proofs.Least.{Full, Later, others_later, second_wins}
use Rattle.source_events.proofs.Locking.{first_end}
use Rattle.source_events.proofs.Merges.{below, below_append, below_told, below_weaker, cut_append, cut_below}
use Rattle.source_events.proofs.Placing.{RunsBetween, between_order}
use Rattle.source_events.proofs.Running.{end_within}
use Rattle.source_events.proofs.Settling.{all_sound, least_below}
use Rattle.stretch_readings.specs.declared.heard.Heard.{Heard}
use Rattle.recovery_report.specs.Report.{Part, Run, Locks, Breaks, added, said_by, events_by, lock_of, report}
use Rattle.recovery_report.specs.Report.{report_from}
use Rattle.recovery_laws.specs.Strict.{IsStrictBefore, upto, first_fault}
use Rattle.recovery_laws.proofs.Ports.{IsParted, EndsBy, parted}
use Rattle.recovery_laws.proofs.Runs.{IsSame, all_same, runs_report}
use Rattle.recovery_report.proofs.PartLaws.{of_port, report_append}
use Rattle.recovery_laws.proofs.Uptos.{Found, after_none, after_some}

abbrev Heards : Type 0
Heards = List (Event (Heard Packet))

-- a lock is nothing to any source
module _ (plan : Plan) (n : ℕ) (place : Place) where
  same_events : (o : Option SourceKind) (x : ℕ) (before : List Part) →
      events_by false plan o x (Locks n place ∷ before) ≡ events_by false plan o x before
  same_events None x before = refl
  same_events (Some kind) x before = refl

  same_added : (before : List Part) (run : List Cell) (o : Option ℕ) → id_of run ≡ o →
      added false plan (Locks n place ∷ before) (Run run) ≡ added false plan before (Run run)
  same_added before run None e =
      of_port false plan (Locks n place ∷ before) (Run run) e ∙ sym (of_port false plan before (Run run) e)
  same_added before run (Some x) e =
      let k = same_events (kind_of plan x) x before in
      let m = same_events (kind_of plan x) x (before ++ Run run ∷ []) in
      ap (λ o. grown (said_by false plan) (Locks n place ∷ before) (Run run) o) e
      ∙ ap (λ l. told (Some x) (drop (length l)
      (events_by false plan (kind_of plan x) x ((Locks n place ∷ before) ++ Run run ∷ [])))) k
      ∙ ap (λ l. told (Some x) (drop (length (events_by false plan (kind_of plan x) x before)) l)) m
      ∙ ap (λ o. grown (said_by false plan) before (Run run) o) (sym e)

  after_lock : (rs : List (List Cell)) (before : List Part) →
      report_from false plan (Locks n place ∷ before) (map Run rs) ≡ report_from false plan before (map Run rs)
  after_lock [] before = refl
  after_lock (run ∷ rs) before =
      ap (λ l. l ++ report_from false plan (Locks n place ∷ (before ++ Run run ∷ [])) (map Run rs))
      (same_added before run (id_of run) refl)
      ∙ ap (λ l. added false plan before (Run run) ++ l) (after_lock rs (before ++ Run run ∷ []))

module _ (plan : Plan) where
  after_locks : (items : List (PortItem × Place)) (n : ℕ) (rs : List (List Cell)) →
      report_from false plan (lock_of items n) (map Run rs) ≡ runs_report plan rs
  after_locks [] n rs = refl
  after_locks (x ∷ items) n rs = after_lock plan n x.1 rs []

  -- what the lock says
  locks_said : (items : List (PortItem × Place)) (n : ℕ) →
      (upto (report_from false plan [] (lock_of items n)) ≡ told None (lock_at n items))
      × (first_fault (report_from false plan [] (lock_of items n)) ≡ None)
  locks_said [] n = (refl, refl)
  locks_said (x ∷ items) n = (refl, refl)

  -- what the fault says
  break_said : (ahead : List Part) (f : Place × Reason) (more : List Part) →
      (upto (report_from false plan ahead (Breaks f.1 f.0 ∷ more)) ≡ [])
      × (first_fault (report_from false plan ahead (Breaks f.1 f.0 ∷ more)) ≡ Some (f.0, (f.1, None)))
  break_said ahead f more =
      let said = of_port false plan ahead (Breaks f.1 f.0) refl in
      let rest = report_from false plan (ahead ++ Breaks f.1 f.0 ∷ []) more in
      (ap (λ l. upto (l ++ rest)) said, ap (λ l. first_fault (l ++ rest)) said)

at_zero : (p : Place) → IsAtMost (start_of 0) p
at_zero p = by p.at p.half where
  by : (n h : ℕ) → (0 < n) ⊎ ((0 ≡ n) × (0 ≤ h))
  by zero h = inr (refl, omega arith)
  by (suc n) h = inl (omega arith)

-- runs from an offset on, up to another
between_le : (rs : List (List Cell)) (n k : ℕ) → RunsBetween n k rs → n ≤ k
between_le [] n k b = b
between_le (run ∷ rs) n k b =
    (let x = end_within n run b.0 in let y = between_le rs (end_of run) k b.1 in omega (arith, x, y))

pub from_start : (rs : List (List Cell)) (n k : ℕ) → RunsBetween n k rs → RunsBetween 0 k rs
from_start rs n k b = between_weaker rs n 0 k (let z : 0 ≤ n = omega arith in z) b

-- the port's events are before the runs
lock_below : (n : ℕ) (items : List (PortItem × Place)) →
    AllIn {W = What Packet} (start_of 0) (first_end 0 (lock_at {V = Packet} n items)) (lock_at n items)
lock_below n [] = tt
lock_below n (x ∷ items) = (at_zero x.1, (let z : x.1.at < x.1.at + 1 = omega arith in z), tt)

module _ (plan : Plan) (sound : is_sound plan ≡ true) (lo hi : ℕ) (u : List Placed) (rise : BytesRise lo hi u) where
  abbrev ss : List (Mapped Packet)
  ss = sources_by plan

  abbrev rs : List (List Cell)
  rs = runs_in (port_reading plan.frames u)

  abbrev fault : Option (Place × Reason)
  fault = (port_reading plan.frames u).fault

  law : AreLawful ss
  law = plan_lawful plan

  p : IsParted plan.frames u
  p = parted plan.frames lo hi u rise

  abbrev front : List (Event Packet)
  front = told None (port_events plan.frames u)

  abbrev start : ℕ
  start = first_end 0 (port_events {V = Packet} plan.frames u)

  abbrev locked : Heards
  locked = report_from false plan [] (lock_of p.items p.count)

  abbrev broken : Heards
  broken = report_from false plan (lock_of p.items p.count ++ map Run rs) p.rest

  report_is : report plan u ≡ locked ++ (runs_report plan rs ++ broken)
  report_is =
      ap (report_from false plan []) p.parts
      ∙ report_append false plan (lock_of p.items p.count) (map Run rs ++ p.rest) []
      ∙ ap (λ l. locked ++ l) (report_append false plan (map Run rs) p.rest (lock_of p.items p.count)
      ∙ ap (λ l. l ++ broken) (after_locks plan p.items p.count rs))

  said : (upto locked ≡ front) × (first_fault locked ≡ None)
  said = let k = locks_said plan p.items p.count in (k.0 ∙ ap (told None) (sym p.lock_is), k.1)

  same_runs : IsSame plan rs
  same_runs = all_same plan sound rs p.end (from_start rs start p.end p.between)

  front_below : Below start front
  front_below =
      subst (λ (l : List (What Packet × Place)). Below (first_end 0 l) (told None l)) (sym p.lock_is)
      (below_told None (first_end 0 (lock_at {V = Packet} p.count p.items))
      (first_end 0 (lock_at {V = Packet} p.count p.items))
      (start_of 0) (lock_at p.count p.items) (lock_below p.count p.items) (omega arith))

  late : Later start (least_fault ss rs)
  late = others_later ss [] rs start law
      (all_sound [] rs start (let z : 0 ≤ start = omega arith in z) (between_order rs start p.end p.between) ss
      (sound_first ss law))
      (between_order rs start p.end p.between)

  all_below : Below p.end (all_events ss rs)
  all_below = below Anywhere IsRunFrom end_of end_within id_of (of_sources (events ss)) (adds ss law) anywhere rs [] 0
      p.end tt (from_start rs start p.end p.between)

  start_end : start ≤ p.end
  start_end = between_le rs start p.end p.between

  -- after the lock
  after : (upto (report plan u) ≡ front ++ upto (runs_report plan rs ++ broken))
      × (first_fault (report plan u) ≡ first_fault (runs_report plan rs ++ broken))
  after =
      let a = after_none locked (runs_report plan rs ++ broken) said.1 in (
        ap upto report_is ∙ a.0 ∙ ap (λ l. l ++ upto (runs_report plan rs ++ broken)) said.0,
        ap first_fault report_is ∙ a.1,
      )

  with_none : least_fault ss rs ≡ None → (o : Option (Place × Reason)) → fault ≡ o → EndsBy o p.end p.rest →
      IsStrictBefore plan u
  with_none e o f k =
      let b = after_none (runs_report plan rs) broken (sym same_runs.fault ∙ e) in
      let events : upto (runs_report plan rs) ≡ all_events ss rs =
      sym same_runs.events ∙ ap (λ z. cut z (all_events ss rs)) e in
      let stop : stop_in ss (port_reading plan.frames u) ≡ lesser (of_source None o) None =
      ap (λ z. lesser (of_source None z) (least_fault ss rs)) f ∙ ap (lesser (of_source None o)) e in
      by o k b events stop where
        by : (o : Option (Place × Reason)) → EndsBy o p.end p.rest →
            (upto (runs_report plan rs ++ broken) ≡ upto (runs_report plan rs) ++ upto broken)
            × (first_fault (runs_report plan rs ++ broken) ≡ first_fault broken) →
            upto (runs_report plan rs) ≡ all_events ss rs →
            stop_in ss (port_reading plan.frames u) ≡ lesser (of_source None o) None → IsStrictBefore plan u
        by None k b events stop =
            let nothing : broken ≡ [] = ap (report_from false plan (lock_of p.items p.count ++ map Run rs)) k in
            record {
              events =
                  ap (λ z. cut z (front ++ all_events ss rs)) stop ∙ ap (λ l. front ++ l) (sym events)
                  ∙ ap (λ l. front ++ l) (sym (append-nil (upto (runs_report plan rs)))
                  ∙ ap (λ l. upto (runs_report plan rs) ++ upto l) (sym nothing) ∙ sym b.0) ∙ sym after.0;
              fault = stop ∙ ap first_fault (sym nothing) ∙ sym b.1 ∙ sym after.1;
            }
        by (Some g) k b events stop =
            let full : Full = (g.0, (g.1, None)) in
            let rest = ap (report_from false plan (lock_of p.items p.count ++ map Run rs)) k.1 in
            let q = break_said plan (lock_of p.items p.count ++ map Run rs) g k.0 in
            let low : Below g.0.at (front ++ all_events ss rs) =
            below_append g.0.at front (all_events ss rs)
            (below_weaker start g.0.at front (let x = start_end in let y = k.2 in omega (arith, x, y)) front_below)
            (below_weaker p.end g.0.at (all_events ss rs) k.2 all_below) in
            record {
              events =
                  ap (λ z. cut z (front ++ all_events ss rs)) stop ∙ cut_below full (front ++ all_events ss rs) low
                  ∙ ap (λ l. front ++ l) (sym events)
                  ∙ ap (λ l. front ++ l) (sym (append-nil (upto (runs_report plan rs)))
                  ∙ ap (λ l. upto (runs_report plan rs) ++ l) (sym (ap upto rest ∙ q.0)) ∙ sym b.0) ∙ sym after.0;
              fault = stop ∙ sym q.1 ∙ ap first_fault (sym rest) ∙ sym b.1 ∙ sym after.1;
            }

  -- where no source has a fault no event is cut off
  pub uncut : least_fault ss rs ≡ None → strict_report ss plan.frames u ≡ front ++ all_events ss rs
  uncut e = by fault refl p.ends where
    by : (o : Option (Place × Reason)) → fault ≡ o → EndsBy o p.end p.rest →
        strict_report ss plan.frames u ≡ front ++ all_events ss rs
    by None f k =
        ap (λ z. cut z (front ++ all_events ss rs))
        (ap (λ z. lesser (of_source None z) (least_fault ss rs)) f ∙ ap (lesser (of_source None None)) e)
    by (Some g) f k =
        let low : Below g.0.at (front ++ all_events ss rs) =
        below_append g.0.at front (all_events ss rs)
        (below_weaker start g.0.at front (let x = start_end in let y = k.2 in omega (arith, x, y)) front_below)
        (below_weaker p.end g.0.at (all_events ss rs) k.2 all_below) in
        let full : Full = (g.0, (g.1, None)) in
        ap (λ z. cut z (front ++ all_events ss rs))
        (ap (λ z. lesser (of_source None z) (least_fault ss rs)) f ∙ ap (lesser (of_source None (Some g))) e)
        ∙ cut_below full (front ++ all_events ss rs) low

  -- where no source is mapped a source has as many events as its frames have items of it
  pub items_mapped : sources_by plan ≡ [] → (x : ℕ) →
      items_in x (strict_report ss plan.frames u) ≡ items_of x (port_reading plan.frames u).frames
  items_mapped none x =
      ap (items_in x) (uncut (ap (λ z. least_fault z rs) none))
      ∙ ap (λ z. items_in x (front ++ all_events z rs)) none
      ∙ items_captured plan.frames u lo hi x rise

  with_some : (g : Full) → least_fault ss rs ≡ Some g → (o : Option (Place × Reason)) → fault ≡ o →
      EndsBy o p.end p.rest → IsStrictBefore plan u
  with_some g e o f k =
      let b = after_some (runs_report plan rs) broken g (sym same_runs.fault ∙ e) in
      let low : g.0.at < p.end =
      least_below rs [] p.end (from_start rs start p.end p.between) tt ss law g e in
      let from : start ≤ g.0.at = subst (λ z. Later start z) e late in
      let stop : stop_in ss (port_reading plan.frames u) ≡ Some g =
      ap (λ z. lesser (of_source None z) (least_fault ss rs)) f ∙ ap (lesser (of_source None o)) e ∙ wins o k low in
      record {
        events =
            ap (λ z. cut z (front ++ all_events ss rs)) stop ∙ cut_append g front (all_events ss rs)
            ∙ ap (λ l. l ++ cut (Some g) (all_events ss rs))
            (cut_below g front (below_weaker start g.0.at front from front_below))
            ∙ ap (λ z. front ++ cut z (all_events ss rs)) (sym e)
            ∙ ap (λ l. front ++ l) (same_runs.events ∙ sym b.0) ∙ sym after.0;
        fault = stop ∙ sym b.1 ∙ sym after.1;
      } where
        wins : (o : Option (Place × Reason)) → EndsBy o p.end p.rest → g.0.at < p.end →
            lesser (of_source None o) (Some g) ≡ Some g
        wins None k l = refl
        wins (Some h) k l = second_wins g (Some (h.0, (h.1, None))) (let x = k.2 in omega (arith, x, l))

  pub before : IsStrictBefore plan u
  before = by (least_fault ss rs) refl where
    by : (o : Found) → least_fault ss rs ≡ o → IsStrictBefore plan u
    by None e = with_none e fault refl p.ends
    by (Some g) e = with_some g e fault refl p.ends
