-- What parts are to a source that says its guesses: with one more nothing that it said is taken back, and what it says
-- more is in that part.
use Rattle.std.proofs.Common.{◌≡◌, ℕ, ◌+◌, List, [], ◌∷◌, ◌++◌, sym, ◌∙◌, ap, subst, inl, inr, append_assoc}
use Rattle.std.proofs.Common.{append-nil, Bool, true}
use Rattle.trace_values.specs.declared.cell.Cell.{Cell}
use Rattle.trace_values.specs.Placed.{Placed}
use Rattle.trace_values.specs.ReadingModes.{packets_hunt}
use Rattle.trace_values.specs.Stream.{Stream}
use Rattle.frame_grammar.specs.Reading.{is_source}
use Rattle.source_events.specs.declared.packet.Packet.{Packet}
use Rattle.source_events.specs.declared.plan.Plan.{Plan}
use Rattle.source_events.specs.declared.plan.SourceKind.{SourceKind}
use Rattle.source_events.specs.Merge.{start_of}
use Rattle.source_events.specs.Runs.{end_of, id_of, IsRunFrom}
use Rattle.source_events.proofs.Family.{of_cases, within_run}
use Rattle.source_events.proofs.Running.{end_within}
use Rattle.source_machine.specs.Units.{reads_by}
use Rattle.stretch_readings.specs.Guessing.{near_of}
use Rattle.stretch_readings.specs.Stretches.{Stretches, from_fault}
use Rattle.recovery_report.specs.Placing.{PartLies, PartsBetween, part_end}
use Rattle.recovery_report.specs.Report.{Part, Run, Locks, Breaks, stretches_of}
use Rattle.recovery_report.proofs.Guesses.{IsBelow, IsNear, below_first, below_later, cut_more, run_more}
use Rattle.recovery_report.proofs.PartLaws as parts
use Rattle.recovery_report.proofs.Placing.{end_later}
use Rattle.recovery_report.proofs.Rises.{rises}
use Rattle.recovery_report.proofs.Sounds.{quiet, sources_begin, sources_sound}

module _ (plan : Plan) where
  abbrev pub reads : SourceKind → Bool → List Placed → Stream Packet
  reads kind = reads_by plan.order kind

  abbrev pub Below : SourceKind → ℕ → Stretches → Type 0
  Below kind n r = IsBelow (reads kind) (rises plan.order kind) (sources_begin plan.order kind) (quiet plan kind)
      (sources_sound plan.order kind) n r

  abbrev pub Near : SourceKind → ℕ → ℕ → Stretches → Stretches → Type 0
  Near kind n k r s = IsNear (reads kind) (rises plan.order kind) (sources_begin plan.order kind) (quiet plan kind)
      (sources_sound plan.order kind) (start_of n) k r s

  -- all that each mapped source has is before an offset
  abbrev pub AllBelow : ℕ → List Part → Type 0
  AllBelow n ms = (x : ℕ) (kind : SourceKind) → Below kind n (stretches_of plan kind x ms)

  pub first_below : (n : ℕ) → AllBelow n []
  first_below n x kind = below_first (reads kind) (rises plan.order kind) (sources_begin plan.order kind)
      (quiet plan kind) (sources_sound plan.order kind) n (packets_hunt plan.packets)

  -- what a part is to a source
  module _ (n : ℕ) (ms : List Part) (all : AllBelow n ms) (x : ℕ) (kind : SourceKind) where
    abbrev pub old : Stretches
    old = stretches_of plan kind x ms

    same : (m : Part) (l : PartLies n m) → stretches_of plan kind x (ms ++ m ∷ []) ≡ old →
        Near kind n (part_end m) old (stretches_of plan kind x (ms ++ m ∷ []))
    same m l e = record {
      extra = [];
      is = ap (near_of (reads kind) from_fault) e ∙ sym (append-nil (near_of (reads kind) from_fault old));
      all = tt;
      below = subst (Below kind (part_end m)) (sym e)
          (below_later (reads kind) (rises plan.order kind) (sources_begin plan.order kind) (quiet plan kind)
          (sources_sound plan.order kind) n (part_end m) old (end_later n m l) (all x kind));
    }

    own : (run : List Cell) → IsRunFrom n run → is_source x (id_of run) ≡ true →
        Near kind n (end_of run) old (stretches_of plan kind x (ms ++ Run run ∷ []))
    own run l i =
        subst (Near kind n (end_of run) old) (sym (parts.own_list plan kind x ms run i))
        (run_more (reads kind) (rises plan.order kind) (sources_begin plan.order kind) (quiet plan kind)
        (sources_sound plan.order kind) kind run n (end_of run) old (within_run n run l) (end_within n run l)
        (all x kind))

    pub near : (m : Part) → PartLies n m → Near kind n (part_end m) old (stretches_of plan kind x (ms ++ m ∷ []))
    near (Run run) l = elim (of_cases x (id_of run)) [
      | inl i ↦ own run l i.1
      | inr i ↦ same (Run run) l (parts.other plan kind x ms run i.1)
    ]
    near (Locks skipped place) l = same (Locks skipped place) l (parts.lock plan kind x ms skipped place)
    near (Breaks reason place) l =
        subst (Near kind n (place.at + 1) old) (sym (parts.cut plan kind x ms reason place))
        (cut_more (reads kind) (rises plan.order kind) (sources_begin plan.order kind) (quiet plan kind)
        (sources_sound plan.order kind) (start_of n) (place.at + 1) old)

  -- after all parts all that a source has is before where they end
  pub all_below : (ms ahead : List Part) (n k : ℕ) → PartsBetween n k ms → AllBelow n ahead → AllBelow k (ahead ++ ms)
  all_below [] ahead n k b all = λ x kind.
      subst (λ (l : List Part). Below kind k (stretches_of plan kind x l)) (sym (append-nil ahead))
      (below_later (reads kind) (rises plan.order kind) (sources_begin plan.order kind) (quiet plan kind)
      (sources_sound plan.order kind) n k (stretches_of plan kind x ahead) b (all x kind))
  all_below (m ∷ ms) ahead n k b all =
      subst (AllBelow k) (append_assoc ahead (m ∷ []) ms)
      (all_below ms (ahead ++ m ∷ []) (part_end m) k b.1 (λ x kind. (near n ahead all x kind m b.0).below))

  pub parts_below : (ms : List Part) (k : ℕ) → PartsBetween 0 k ms → AllBelow k ms
  parts_below ms k b = all_below ms [] 0 k b (first_below 0)
