-- What one more part adds to what the port and each source say, with guesses or without.
use Rattle.std.proofs.Common.{◌≡◌, ℕ, ◌+◌, ◌<◌, ◌≤◌, List, [], ◌∷◌, ◌++◌, map, refl, sym, ◌∙◌, ap, inl, inr, ◌⊎◌}
use Rattle.std.proofs.Common.{append-nil, arith, Option, None, Some, Bool, true, false}
use Rattle.std.specs.Prelude.{flat_map}
use Rattle.trace_values.specs.declared.cell.Cell.{Cell}
use Rattle.trace_values.specs.declared.fault.Reason.{Reason}
use Rattle.trace_values.specs.Placed.{Place, Placed}
use Rattle.trace_values.specs.ReadingModes.{packets_hunt}
use Rattle.trace_values.specs.Stream.{Said, Stream}
use Rattle.frame_grammar.specs.Reading.{is_source}
use Rattle.source_events.specs.declared.packet.Packet.{Packet}
use Rattle.source_events.specs.declared.plan.Plan.{Plan}
use Rattle.source_events.specs.declared.plan.SourceKind.{SourceKind}
use Rattle.source_events.specs.Merge.{AllIn, IsAtMost, start_of}
use Rattle.source_events.specs.Plan.{kind_of}
use Rattle.source_events.specs.Report.{lifted, raw_events, raws}
use Rattle.source_events.specs.Runs.{end_of, id_of, IsRunFrom}
use Rattle.source_events.proofs.Adding.{Adds, AddsAlways, GoesOn}
use Rattle.source_events.proofs.Family.{all_lifted, all_raw, of_cases, raws_other, raws_own, within_run}
use Rattle.source_events.proofs.Merges.{test_same}
use Rattle.source_machine.specs.Units.{reads_by}
use Rattle.stretch_readings.specs.declared.heard.Heard.{Heard}
use Rattle.stretch_readings.specs.Guessing.{near_of, said_of}
use Rattle.stretch_readings.specs.Stretches.{Stretches, before, broken, from_fault, heard, heard_of}
use Rattle.stretch_readings.proofs.Feeding.{given_parted}
use Rattle.recovering_machines.specs.Run.{units_in}
use Rattle.recovering_machines.proofs.Runs.{lifted_append}
use Rattle.recovery_report.specs.Report.{Part, Run, Locks, Breaks, events_by, list_of, port_said, run_in}
use Rattle.recovery_report.specs.Report.{said_by, said_in, stretches_of, whose}
use Rattle.recovery_report.specs.Placing.{PartLies, part_end}
use Rattle.recovery_report.proofs.Guesses.{cut_near}
use Rattle.recovery_report.proofs.Nearing.{AllBelow, near}
use Rattle.recovery_report.proofs.PartLaws as parts
use Rattle.recovery_report.proofs.Sounds.{quiet, sources_begin, sources_sound}
use Rattle.recovery_report.proofs.Hearing.{cells_to, from_fault_on, stays_whole, units_to}
use Rattle.recovery_report.proofs.Rises.{rises}
use Rattle.recovery_report.proofs.Spans.{to_in}

-- a mapped source
module _ (plan : Plan) (x : ℕ) (kind : SourceKind) where
  abbrev read : Bool → List Placed → Stream Packet
  read = reads_by plan.order kind

  abbrev begins : (h : Bool) → (read h []).fault ≡ None
  begins = sources_begin plan.order kind

  -- it says nothing of nothing
  nothing : (guesses : Bool) → said_in guesses plan kind x [] ≡ []
  nothing guesses = by guesses none where
    h : Bool
    h = packets_hunt plan.packets

    none : map (heard read from_fault 0) (read h []).given ++ broken read from_fault (read h []).fault ≡ []
    none =
        ap (λ l. map (heard read from_fault 0) l ++ broken read from_fault (read h []).fault) (quiet plan kind h)
        ∙ ap (broken read from_fault) (begins h)

    by : (guesses : Bool) →
        map (heard read from_fault 0) (read h []).given ++ broken read from_fault (read h []).fault ≡ [] →
        said_in guesses plan kind x [] ≡ []
    by false e = e
    by true e =
        append-nil (map (heard read from_fault 0) (read h []).given ++ broken read from_fault (read h []).fault) ∙ e

  module _ (n : ℕ) (ms : List Part) (all : AllBelow plan n ms) where
    abbrev old : Stretches
    old = stretches_of plan kind x ms

    -- a cut
    cut_same : (guesses : Bool) (reason : Reason) (place : Place) →
        said_in guesses plan kind x (ms ++ Breaks reason place ∷ []) ≡ said_in guesses plan kind x ms
    cut_same false reason place =
        ap (λ (r : Stretches). (heard_of read from_fault r).given) (parts.cut plan kind x ms reason place)
        ∙ given_parted read old (quiet plan kind true) (begins true)
    cut_same true reason place =
        ap (near_of read from_fault) (parts.cut plan kind x ms reason place)
        ∙ cut_near read (rises plan.order kind) begins (quiet plan kind) (sources_sound plan.order kind) old

    -- a run of its own
    own_run : (guesses : Bool) (run : List Cell) → IsRunFrom n run → id_of run ≡ Some x →
        (more : List (Said (Heard Packet) × Place))
        × (said_in guesses plan kind x (ms ++ Run run ∷ []) ≡ said_in guesses plan kind x ms ++ more)
        × AllIn (start_of n) (end_of run) more
    own_run guesses [] l i = absurd l
    own_run false (c ∷ cells) l i =
        let run = c ∷ cells in
        let sound = sources_sound plan.order kind in
        let on = from_fault_on read (rises plan.order kind) begins (quiet plan kind) in
        let h = packets_hunt plan.packets in
        let whole = stays_whole read (rises plan.order kind) from_fault sound on (begins true) (list_of kind x ms)
        (before read from_fault h) (begins h) in
        let units = cells_to kind c cells n (end_of run) (within_run n run l) in
        let f = units_to read (rises plan.order kind) from_fault sound on (units_in kind run) old (start_of n)
        units.0 whole units.1 in (
          f.0,
          ap (λ (r : Stretches). (heard_of read from_fault r).given)
              (parts.own_list plan kind x ms run (ap (is_source x) i ∙ test_same x x refl)) ∙ f.1,
          to_in (start_of n) units.0 (end_of run) f.0 f.2 units.2,
        )
    own_run true (c ∷ cells) l i =
        let k = near plan n ms all x kind (Run (c ∷ cells)) l in (k.extra, k.is, k.all)

module _ (guesses : Bool) (plan : Plan) (x n : ℕ) (ms : List Part) (all : AllBelow plan n ms) where
  abbrev More : Part → Type 0
  More m = Adds part_end whose (said_by guesses plan) (Some x) n ms m

  -- a part that is not this source's
  no_more : (m : Part) → said_by guesses plan (Some x) (ms ++ m ∷ []) ≡ said_by guesses plan (Some x) ms → More m
  no_more m e = record {
    more = [];
    given = e ∙ sym (append-nil (said_by guesses plan (Some x) ms));
    all = tt;
    own = λ k. refl;
  }

  -- of a source that is mapped
  said : (kind : SourceKind) → kind_of plan x ≡ Some kind → (l : List Part) →
      said_by guesses plan (Some x) l ≡ lifted (said_in guesses plan kind x l)
  said kind k l = ap (λ o. events_by guesses plan o x l) k

  said_same : (kind : SourceKind) → kind_of plan x ≡ Some kind → (m : Part) →
      said_in guesses plan kind x (ms ++ m ∷ []) ≡ said_in guesses plan kind x ms → More m
  said_same kind k m e = no_more m (said kind k (ms ++ m ∷ []) ∙ ap lifted e ∙ sym (said kind k ms))

  same : (kind : SourceKind) → kind_of plan x ≡ Some kind → (m : Part) →
      stretches_of plan kind x (ms ++ m ∷ []) ≡ stretches_of plan kind x ms → More m
  same kind k m e = said_same kind k m (ap (λ r. said_of (reads_by plan.order kind) from_fault guesses r) e)

  -- and of one that is not
  raw_said : kind_of plan x ≡ None → (l : List Part) → said_by guesses plan (Some x) l ≡ raws x (flat_map run_in l)
  raw_said k l = ap (λ o. events_by guesses plan o x l) k

  raw_push : kind_of plan x ≡ None → (m : Part) →
      said_by guesses plan (Some x) (ms ++ m ∷ []) ≡ raws x (flat_map run_in ms ++ run_in m)
  raw_push k m = raw_said k (ms ++ m ∷ []) ∙ ap (raws x) (parts.runs_push ms m)

  raw_same : kind_of plan x ≡ None → (m : Part) → run_in m ≡ [] → More m
  raw_same k m e =
      no_more m (raw_push k m ∙ ap (λ l. raws x (flat_map run_in ms ++ l)) e
      ∙ ap (raws x) (append-nil (flat_map run_in ms)) ∙ sym (raw_said k ms))

  run_more : (run : List Cell) → IsRunFrom n run → More (Run run)
  run_more run l = by (kind_of plan x) refl (of_cases x (id_of run)) where
    by : (o : Option SourceKind) → kind_of plan x ≡ o →
        (((id_of run ≡ Some x) × (is_source x (id_of run) ≡ true))
        ⊎ ((id_of run ≡ Some x → ⊥) × (is_source x (id_of run) ≡ false))) → More (Run run)
    by (Some kind) k (inl i) =
        let o = own_run plan x kind n ms all guesses run l i.0 in
        record {
          more = lifted o.0;
          given =
              said kind k (ms ++ Run run ∷ []) ∙ ap lifted o.1
              ∙ lifted_append (said_in guesses plan kind x ms) o.0 ∙ ap (λ e. e ++ lifted o.0) (sym (said kind k ms));
          all = all_lifted (start_of n) (end_of run) o.0 o.2;
          own = λ other. absurd (other i.0);
        }
    by (Some kind) k (inr i) = same kind k (Run run) (parts.other plan kind x ms run i.1)
    by None k (inl i) = record {
      more = raw_events x run;
      given =
          raw_push k (Run run) ∙ raws_own x (flat_map run_in ms) run i.1
          ∙ ap (λ e. e ++ raw_events x run) (sym (raw_said k ms));
      all = all_raw (Heard Packet) x n run l;
      own = λ other. absurd (other i.0);
    }
    by None k (inr i) =
        no_more (Run run) (raw_push k (Run run) ∙ raws_other x (flat_map run_in ms) run i.1
        ∙ append-nil (raws x (flat_map run_in ms)) ∙ sym (raw_said k ms))

  lock_more : (skipped : ℕ) (place : Place) → More (Locks skipped place)
  lock_more skipped place = by (kind_of plan x) refl where
    by : (o : Option SourceKind) → kind_of plan x ≡ o → More (Locks skipped place)
    by None k = raw_same k (Locks skipped place) refl
    by (Some kind) k = same kind k (Locks skipped place) (parts.lock plan kind x ms skipped place)

  break_more : (reason : Reason) (place : Place) → More (Breaks reason place)
  break_more reason place = by (kind_of plan x) refl where
    by : (o : Option SourceKind) → kind_of plan x ≡ o → More (Breaks reason place)
    by None k = raw_same k (Breaks reason place) refl
    by (Some kind) k =
        said_same kind k (Breaks reason place) (cut_same plan x kind n ms all guesses reason place)

-- the port
after_start : (n : ℕ) (p : Place) → n ≤ p.at → IsAtMost (start_of n) p
after_start n p l = grind arith

port_all : (n : ℕ) (m : Part) → PartLies n m → AllIn (start_of n) (part_end m) (port_said m)
port_all n (Run run) l = tt
port_all n (Locks skipped place) l =
    (after_start n place l, (let z : place.at < place.at + 1 = omega arith in z), tt)
port_all n (Breaks reason place) l =
    (after_start n place l, (let z : place.at < place.at + 1 = omega arith in z), tt)

port_own : (m : Part) → (whose m ≡ None → ⊥) → port_said m ≡ []
port_own (Run run) o = refl
port_own (Locks skipped place) o = absurd (o refl)
port_own (Breaks reason place) o = absurd (o refl)

-- Each part adds to what its own source says alone, or the port, and what it adds is in it.
pub adds : (guesses : Bool) (plan : Plan) →
    AddsAlways (AllBelow plan) PartLies part_end whose (said_by guesses plan)
adds guesses plan None n ms m all l = record {
  more = port_said m;
  given = parts.port_push ms m;
  all = port_all n m l;
  own = port_own m;
}
adds guesses plan (Some x) n ms (Run run) all l = run_more guesses plan x n ms all run l
adds guesses plan (Some x) n ms (Locks skipped place) all l = lock_more guesses plan x n ms all skipped place
adds guesses plan (Some x) n ms (Breaks reason place) all l = break_more guesses plan x n ms all reason place

pub goes_on : (plan : Plan) → GoesOn (AllBelow plan) PartLies part_end
goes_on plan n ms m all l = λ x kind. (near plan n ms all x kind m l).below

pub none_first : (guesses : Bool) (plan : Plan) (x : Option ℕ) → said_by guesses plan x [] ≡ []
none_first guesses plan None = refl
none_first guesses plan (Some x) = by (kind_of plan x) refl where
  by : (o : Option SourceKind) → kind_of plan x ≡ o → said_by guesses plan (Some x) [] ≡ []
  by None k = ap (λ o. events_by guesses plan o x []) k
  by (Some kind) k = ap (λ o. events_by guesses plan o x []) k ∙ ap lifted (nothing plan x kind guesses)
