-- The report with guesses is, without them, the report.
use Rattle.std.proofs.Common.{◌≡◌, ℕ, List, [], ◌∷◌, ◌++◌, length, refl, sym, ◌∙◌, ap}
use Rattle.std.proofs.Common.{Option, None, Some, Bool, true, false, cond}
use Rattle.std.specs.Prelude.{filter, not, ◌==◌, ◌||◌}
use Rattle.std.specs.List.{list_any}
use Rattle.std.proofs.lemmas.List.Elements.{filter-append}
use Rattle.trace_values.specs.declared.cell.Cell.{Cell}
use Rattle.trace_values.specs.Placed.{Place, Placed, placed}
use Rattle.trace_values.specs.Stream.{Said, Notice, Kept}
use Rattle.deformatter.specs.Rising.{BytesRise}
use Rattle.source_events.specs.declared.event.Event.{Event}
use Rattle.source_events.specs.declared.event.What.{What}
use Rattle.source_events.specs.declared.packet.Packet.{Packet}
use Rattle.source_events.specs.declared.plan.Plan.{Plan}
use Rattle.source_events.specs.declared.plan.SourceKind.{SourceKind}
use Rattle.source_events.specs.Merge.{InOrder, told}
use Rattle.source_events.specs.Plan.{kind_of}
use Rattle.source_events.specs.Report.{lifted, raw_events, triggers}
use Rattle.source_events.specs.Runs.{id_of, IsRunFrom}
use Rattle.source_events.proofs.Captures.{capture_rises}
use Rattle.stretch_readings.specs.declared.heard.Heard.{Heard}
use Rattle.stretch_readings.specs.declared.heard.Heard.TheVariants.{Read, Broken, Guessed, Misread}
use Rattle.stretch_readings.specs.Guessing.{is_sure, near_of, sure_of}
use Rattle.stretch_readings.specs.Stretches.{from_fault}
use Rattle.recovering_machines.specs.Hearing.{is_guess}
use Rattle.recovery_report.specs.Port.{recovered}
use Rattle.recovery_report.specs.Report.{Part, Run, Locks, Breaks, added, parts_in}
use Rattle.recovery_report.specs.Report.{report, report_from, report_with, said_in, stretches_of}
use Rattle.recovery_report.specs.Report.{sure_events}
use Rattle.recovery_report.specs.Placing.{PartLies, part_end}
use Rattle.recovery_report.proofs.Nearing.{AllBelow, first_below, near, reads}
use Rattle.recovery_report.proofs.PartLaws as parts
use Rattle.recovery_report.proofs.Parting.{parts_in_order}
use Rattle.stretch_readings.proofs.Guesses.{sure_said}

abbrev Saids : Type 0
Saids = List (Said (Heard Packet) × Place)

abbrev Whats : Type 0
Whats = List (What (Heard Packet) × Place)

abbrev Events : Type 0
Events = List (Event (Heard Packet))

abbrev sure_whats : Whats → Whats
sure_whats l = filter (λ w. not (is_guess w.0)) l

lifted_sure : (l : Saids) → sure_whats (lifted l) ≡ lifted (sure_of l)
lifted_sure [] = refl
lifted_sure ((Notice n, p) ∷ l) = ap (λ r. lifted ((Notice n, p) ∷ []) ++ r) (lifted_sure l)
lifted_sure ((Kept (Read v), p) ∷ l) = ap (λ r. lifted ((Kept (Read v), p) ∷ []) ++ r) (lifted_sure l)
lifted_sure ((Kept (Broken e), p) ∷ l) = ap (λ r. lifted ((Kept (Broken e), p) ∷ []) ++ r) (lifted_sure l)
lifted_sure ((Kept (Guessed v), p) ∷ l) = lifted_sure l
lifted_sure ((Kept (Misread e), p) ∷ l) = lifted_sure l

-- as events of a source
told_one : (x : Option ℕ) (w : What (Heard Packet) × Place) (l : Whats) (b : Bool) →
    cond b (told x (w ∷ l)) (told x l) ≡ told x (cond b (w ∷ l) l)
told_one x w l true = refl
told_one x w l false = refl

told_sure : (x : Option ℕ) (l : Whats) → sure_events (told x l) ≡ told x (sure_whats l)
told_sure x [] = refl
told_sure x (w ∷ l) =
    ap (λ r. cond (not (is_guess w.0)) (told x (w ∷ []) ++ r) r) (told_sure x l)
    ∙ told_one x w (sure_whats l) (not (is_guess w.0))

-- no raw byte is a guess
triggers_sure : (run : List Cell) → sure_whats (triggers run) ≡ triggers run
triggers_sure [] = refl
triggers_sure (c ∷ run) = ap (λ r. triggers (c ∷ []) ++ r) (triggers_sure run)

raw_sure : (x : ℕ) (run : List Cell) → sure_whats (raw_events x run) ≡ raw_events x run
raw_sure x run = null (x == 0) (x == 125) where
  null : (a b : Bool) → let r = cond a [] (cond b (triggers run) (raw_events 1 run)) in sure_whats r ≡ r
  null true b = refl
  null false true = triggers_sure run
  null false false = refl

module _ (plan : Plan) where
  -- what a part adds
  module _ (n : ℕ) (ms : List Part) (all : AllBelow plan n ms) (run : List Cell) (l : IsRunFrom n run) where
    abbrev next : List Part
    next = ms ++ Run run ∷ []

    mapped : (x : ℕ) (kind : SourceKind) → kind_of plan x ≡ Some kind → id_of run ≡ Some x →
        sure_events (added true plan ms (Run run)) ≡ added false plan ms (Run run)
    mapped x kind k i =
        let grew = near plan n ms all x kind (Run run) l in
        let sure : said_in false plan kind x next ≡ said_in false plan kind x ms ++ sure_of grew.extra =
        sym (sure_said (reads plan kind) from_fault (stretches_of plan kind x next)) ∙ ap sure_of grew.is
        ∙ filter-append (λ (s : Said (Heard Packet) × Place). is_sure s.0)
        (near_of (reads plan kind) from_fault (stretches_of plan kind x ms)) grew.extra
        ∙ ap (λ h. h ++ sure_of grew.extra) (sure_said (reads plan kind) from_fault (stretches_of plan kind x ms)) in
        ap sure_events ((parts.own true plan kind x ms run k i).more grew.extra grew.is)
        ∙ told_sure (Some x) (lifted grew.extra) ∙ ap (told (Some x)) (lifted_sure grew.extra)
        ∙ sym ((parts.own false plan kind x ms run k i).more (sure_of grew.extra) sure)

    unmapped : (x : ℕ) → kind_of plan x ≡ None → id_of run ≡ Some x →
        sure_events (added true plan ms (Run run)) ≡ added false plan ms (Run run)
    unmapped x k i =
        ap sure_events (parts.raw true plan x ms run k i) ∙ told_sure (Some x) (raw_events x run)
        ∙ ap (told (Some x)) (raw_sure x run) ∙ sym (parts.raw false plan x ms run k i)

    of_run : (o : Option ℕ) → id_of run ≡ o → sure_events (added true plan ms (Run run)) ≡ added false plan ms (Run run)
    of_run None e =
        ap sure_events (parts.of_port true plan ms (Run run) e) ∙ sym (parts.of_port false plan ms (Run run) e)
    of_run (Some x) e = by (kind_of plan x) refl where
      by : (o : Option SourceKind) → kind_of plan x ≡ o →
          sure_events (added true plan ms (Run run)) ≡ added false plan ms (Run run)
      by None k = unmapped x k e
      by (Some kind) k = mapped x kind k e

  sure_added : (n : ℕ) (ms : List Part) → AllBelow plan n ms → (m : Part) → PartLies n m →
      sure_events (added true plan ms m) ≡ added false plan ms m
  sure_added n ms all (Run run) l = of_run n ms all run l (id_of run) refl
  sure_added n ms all (Locks skipped place) l =
      ap sure_events (parts.of_port true plan ms (Locks skipped place) refl)
      ∙ sym (parts.of_port false plan ms (Locks skipped place) refl)
  sure_added n ms all (Breaks reason place) l =
      ap sure_events (parts.of_port true plan ms (Breaks reason place) refl)
      ∙ sym (parts.of_port false plan ms (Breaks reason place) refl)

  pub sure_report : (ms ahead : List Part) (n : ℕ) → InOrder PartLies part_end n ms → AllBelow plan n ahead →
      sure_events (report_from true plan ahead ms) ≡ report_from false plan ahead ms
  sure_report [] ahead n r all = refl
  sure_report (m ∷ ms) ahead n r all =
      let next = ahead ++ m ∷ [] in
      let rest = report_from true plan next ms in
      filter-append (λ (e : Event (Heard Packet)). not (is_guess e.what)) (added true plan ahead m) rest
      ∙ ap (λ g. g ++ sure_events rest) (sure_added n ahead all m r.0)
      ∙ ap (λ g. added false plan ahead m ++ g)
      (sure_report ms next (part_end m) r.1 (λ x kind. (near plan n ahead all x kind m r.0).below))

  pub sure_first : (ms : List Part) (n : ℕ) → InOrder PartLies part_end n ms →
      sure_events (report_from true plan [] ms) ≡ report_from false plan [] ms
  sure_first ms n r = sure_report ms [] n r (first_below plan n)

-- the report has no guess
sure_none : (es : Events) → list_any (λ e. is_guess e.what) (sure_events es) ≡ false
sure_none [] = refl
sure_none (e ∷ es) = by (is_guess e.what) refl (sure_none es) where
  by : (g : Bool) → is_guess e.what ≡ g → list_any (λ e. is_guess e.what) (sure_events es) ≡ false →
      list_any (λ e. is_guess e.what) (cond (not (is_guess e.what)) (e ∷ sure_events es) (sure_events es)) ≡ false
  by true q more =
      ap (λ g. list_any (λ e. is_guess e.what) (cond (not g) (e ∷ sure_events es) (sure_events es))) q ∙ more
  by false q more =
      ap (λ g. list_any (λ e. is_guess e.what) (cond (not g) (e ∷ sure_events es) (sure_events es))) q
      ∙ ap (λ g. g || list_any (λ e. is_guess e.what) (sure_events es)) q ∙ more

pub no_guess : (plan : Plan) (n k : ℕ) (u : List Placed) → BytesRise n k u →
    list_any (λ e. is_guess e.what) (report plan u) ≡ false
no_guess plan n k u rise =
    ap (list_any (λ e. is_guess e.what))
    (sym (sure_first plan (parts_in (recovered plan.frames u)) n (parts_in_order plan.frames u n k rise)))
    ∙ sure_none (report_with true plan u)

-- of a capture
pub sure_capture : (plan : Plan) (bytes : List ℕ) →
    sure_events (report_with true plan (placed bytes)) ≡ report plan (placed bytes)
sure_capture plan bytes =
    sure_first plan (parts_in (recovered plan.frames (placed bytes))) 0
    (parts_in_order plan.frames (placed bytes) 0 (length bytes) (capture_rises bytes))
