-- One more part.
use Rattle.std.proofs.Common.{◌≡◌, ℕ, List, [], ◌∷◌, ◌++◌, refl, sym, ◌∙◌, ap}
use Rattle.std.proofs.Common.{append-nil, Bool, None, Some, true, false}
use Rattle.std.specs.Prelude.{map, flat_map, if◌then◌else◌}
use Rattle.std.proofs.lemmas.Grind.{flat_map-append}
use Rattle.trace_values.specs.declared.cell.Cell.{Cell}
use Rattle.trace_values.specs.declared.fault.Reason.{Reason}
use Rattle.trace_values.specs.Placed.{Place}
use Rattle.frame_grammar.specs.Reading.{is_source}
use Rattle.trace_values.specs.ReadingModes.{packets_hunt}
use Rattle.source_events.specs.declared.plan.Plan.{Plan}
use Rattle.source_events.specs.declared.plan.SourceKind.{SourceKind}
use Rattle.source_events.specs.Merge.{grown, told}
use Rattle.source_events.specs.Plan.{kind_of}
use Rattle.source_events.specs.Report.{lifted, raw_events, raws}
use Rattle.source_events.specs.Runs.{id_of}
use Rattle.stretch_readings.proofs.StretchLaws.{from_append}
use Rattle.stretch_readings.specs.Stretches.{One, fed_from, before, parted, from_fault}
use Rattle.recovering_machines.specs.Run.{units_in}
use Rattle.source_machine.specs.Units.{reads_by}
use Rattle.source_events.proofs.Family.{raws_own}
use Rattle.source_events.proofs.Merges.{grown_by, merged_append, test_same}
use Rattle.recovering_machines.proofs.Runs.{lifted_append}
use Rattle.recovery_report.specs.Report.{Part, Run, Locks, Breaks, added, events_by, fed_by, list_of, port_said}
use Rattle.recovery_report.specs.Report.{report_from, run_in, said_by, said_in, stretches_of, whose}
use Rattle.recovery_report.specs.Words.{OwnRun}

-- the report of parts after others
pub report_append : (guesses : Bool) (plan : Plan) (ms ns ahead : List Part) →
    report_from guesses plan ahead (ms ++ ns)
    ≡ report_from guesses plan ahead ms ++ report_from guesses plan (ahead ++ ms) ns
report_append guesses plan ms ns ahead = merged_append whose (said_by guesses plan) ms ns ahead

pub growing : (guesses : Bool) (plan : Plan) (parts : List Part) (m : Part) →
    report_from guesses plan [] (parts ++ m ∷ []) ≡ report_from guesses plan [] parts ++ added guesses plan parts m
growing guesses plan parts m =
    report_append guesses plan parts (m ∷ []) []
    ∙ ap (λ l. report_from guesses plan [] parts ++ l) (append-nil (added guesses plan parts m))

-- what a part adds where it is the port's, as a run of no source
pub port_push : (parts : List Part) (m : Part) →
    flat_map port_said (parts ++ m ∷ []) ≡ flat_map port_said parts ++ port_said m
port_push parts m =
    flat_map-append port_said parts (m ∷ []) ∙ ap (λ l. flat_map port_said parts ++ l) (append-nil (port_said m))

pub of_port : (guesses : Bool) (plan : Plan) (parts : List Part) (m : Part) → whose m ≡ None →
    added guesses plan parts m ≡ told None (port_said m)
of_port guesses plan parts m e =
    ap (λ o. grown (said_by guesses plan) parts m o) e
    ∙ grown_by (said_by guesses plan) parts m None (port_said m) (port_push parts m)

-- a source's list and stretches part by part
module _ (plan : Plan) (kind : SourceKind) (x : ℕ) (parts : List Part) where
  list_push : (m : Part) → list_of kind x (parts ++ m ∷ []) ≡ list_of kind x parts ++ fed_by kind x m
  list_push m = flat_map-append (fed_by kind x) parts (m ∷ [])
      ∙ ap (λ l. list_of kind x parts ++ l) (append-nil (fed_by kind x m))

  push : (m : Part) → stretches_of plan kind x (parts ++ m ∷ []) ≡ fed_from (reads_by plan.order kind) from_fault
      (stretches_of plan kind x parts) (fed_by kind x m)
  push m =
      ap (λ l. fed_from (reads_by plan.order kind) from_fault
      (before (reads_by plan.order kind) from_fault (packets_hunt plan.packets)) l) (list_push m)
      ∙ from_append (reads_by plan.order kind) from_fault (list_of kind x parts) (fed_by kind x m)
      (before (reads_by plan.order kind) from_fault (packets_hunt plan.packets))

  pub other : (run : List Cell) → is_source x (id_of run) ≡ false →
      stretches_of plan kind x (parts ++ Run run ∷ []) ≡ stretches_of plan kind x parts
  other run e =
      push (Run run)
      ∙ ap (λ t. fed_from (reads_by plan.order kind) from_fault (stretches_of plan kind x parts)
      (if t then map One (units_in kind run) else [])) e

  pub lock : (skipped : ℕ) (place : Place) →
      stretches_of plan kind x (parts ++ Locks skipped place ∷ []) ≡ stretches_of plan kind x parts
  lock skipped place = push (Locks skipped place)

  pub cut : (reason : Reason) (place : Place) →
      stretches_of plan kind x (parts ++ Breaks reason place ∷ []) ≡ parted (reads_by plan.order kind) from_fault
      (stretches_of plan kind x parts)
  cut reason place = push (Breaks reason place)

pub own_list : (plan : Plan) (kind : SourceKind) (x : ℕ) (parts : List Part) (run : List Cell) →
    is_source x (id_of run) ≡ true →
    stretches_of plan kind x (parts ++ Run run ∷ [])
    ≡ fed_from (reads_by plan.order kind) from_fault (stretches_of plan kind x parts) (map One (units_in kind run))
own_list plan kind x parts run e =
    push plan kind x parts (Run run)
    ∙ ap (λ t. fed_from (reads_by plan.order kind) from_fault (stretches_of plan kind x parts)
    (if t then map One (units_in kind run) else [])) e

pub own : (guesses : Bool) (plan : Plan) (kind : SourceKind) (x : ℕ) (parts : List Part) (run : List Cell) →
    kind_of plan x ≡ Some kind → id_of run ≡ Some x → OwnRun guesses plan kind x parts run
own guesses plan kind x parts run k i =
    let next = parts ++ Run run ∷ [] in
    let old = said_in guesses plan kind x parts in
    record {
      list = own_list plan kind x parts run (ap (is_source x) i ∙ test_same x x refl);
      more = λ said e.
          ap (λ o. grown (said_by guesses plan) parts (Run run) o) i
          ∙ grown_by (said_by guesses plan) parts (Run run) (Some x) (lifted said)
          (ap (λ o. events_by guesses plan o x next) k ∙ ap lifted e ∙ lifted_append old said
          ∙ ap (λ o. events_by guesses plan o x parts ++ lifted said) (sym k));
    }

-- a run of a source that is not mapped
pub runs_push : (parts : List Part) (m : Part) →
    flat_map run_in (parts ++ m ∷ []) ≡ flat_map run_in parts ++ run_in m
runs_push parts m = flat_map-append run_in parts (m ∷ []) ∙ ap (λ l. flat_map run_in parts ++ l) (append-nil (run_in m))

pub raw : (guesses : Bool) (plan : Plan) (x : ℕ) (parts : List Part) (run : List Cell) →
    kind_of plan x ≡ None → id_of run ≡ Some x →
    added guesses plan parts (Run run) ≡ told (Some x) (raw_events x run)
raw guesses plan x parts run none e =
    let next = parts ++ Run run ∷ [] in
    ap (λ o. grown (said_by guesses plan) parts (Run run) o) e
    ∙ grown_by (said_by guesses plan) parts (Run run) (Some x) (raw_events x run)
    (ap (λ o. events_by guesses plan o x next) none ∙ ap (raws x) (runs_push parts (Run run))
    ∙ raws_own x (flat_map run_in parts) run (ap (is_source x) e ∙ test_same x x refl)
    ∙ ap (λ o. events_by guesses plan o x parts ++ raw_events x run) (sym none))
