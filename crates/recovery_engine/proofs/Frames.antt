-- A whole frame that is taken run by run.
use Rattle.std.proofs.Common.{◌≡◌, ℕ, ◌+◌, ◌-◌, ◌*◌, ◌≤◌, List, [], ◌∷◌, ◌++◌, map, length, refl, sym, ◌∙◌, ap}
use Rattle.std.proofs.Common.{append_assoc, append-nil, arith, get_or, subst, ◌<◌}
use Rattle.std.proofs.lemmas.List.{map-append}
use Rattle.trace_values.specs.declared.cell.Cell.{Cell}
use Rattle.source_events.specs.declared.event.Event.{Event}
use Rattle.source_events.specs.declared.packet.Packet.{Packet}
use Rattle.source_events.specs.Runs.{id_of, runs_of}
use Rattle.frame_runs.proofs.FirstRuns.{FirstRun}
use Rattle.stretch_readings.specs.declared.heard.Heard.{Heard}
use Rattle.recovery_report.specs.Report.{Part, Run}
use Rattle.recovery_engine.specs.Slots.{total}
use Rattle.recovery_engine.specs.Taking.{Takes}
use Rattle.recovery_engine.specs.declared.slot.RecoveringSlot.{RecoveringSlot}
use Rattle.recovery_engine.proofs.Parts.{takes_none, takes_then}

-- the source of some cells is that of the first
pub id_is : (run : List Cell) (d : Cell) → 0 < length run → (get_or run 0 d).id ≡ id_of run
id_is [] d h = absurd (omega arith)
id_is (c ∷ run) d h = refl

module _ {S : Type 0} (gets : S → List (Event (Heard Packet)) → S → Type 0) (room : S → ℕ) (cells : List Cell)
    (first : List RecoveringSlot × S) where
  -- what was taken of a frame's cells, but for the rest
  pub record SoFar (rest : List Cell) (now : List RecoveringSlot × S) : Type 0 where
    pub done : List (List Cell)
    pub parts : runs_of cells ≡ done ++ runs_of rest
    pub size : length rest ≤ length cells
    pub takes : Takes gets (map Run done) first now
    pub len : length now.0 ≡ length first.0
    pub few : total now.0 ≤ total first.0 + 6 * (length cells - length rest)
    pub space : room first.1 ≤ room now.1 + 2 * (length cells - length rest)

  pub none_taken : ((s : S) → gets s [] s) → SoFar cells first
  none_taken none = record {
    done = [];
    parts = refl;
    size = omega arith;
    takes = takes_none gets none first;
    len = refl;
    few = omega arith;
    space = omega arith;
  }

  pub one_more : ((a b c : S) (es fs : List (Event (Heard Packet))) → gets a es b → gets b fs c → gets a (es ++ fs) c) →
      (rest run more : List Cell) (now next : List RecoveringSlot × S) → FirstRun rest run more → SoFar rest now →
      Takes gets (Run run ∷ []) now next → length next.0 ≡ length now.0 →
      total next.0 ≤ total now.0 + 6 * length run → room now.1 ≤ room next.1 + 2 * length run → SoFar more next
  one_more longer rest run more now next cut i t len few space =
      let size = i.size in
      let all = cut.total in
      record {
        done = i.done ++ run ∷ [];
        parts = i.parts ∙ ap (λ (l : List (List Cell)). i.done ++ l) cut.cut
            ∙ sym (append_assoc i.done (run ∷ []) (runs_of more));
        size = omega arith;
        takes = subst (λ (l : List Part). Takes gets l first next) (sym (map-append Run i.done (run ∷ [])))
            (takes_then gets longer first now next (map Run i.done) (Run run ∷ []) i.takes t);
        len = len ∙ i.len;
        few = (let a = i.few in omega arith);
        space = (let a = i.space in omega arith);
      }

  -- all runs are taken
  pub all_taken : (rest : List Cell) (now : List RecoveringSlot × S) → rest ≡ [] → SoFar rest now →
      Takes gets (map Run (runs_of cells)) first now
  all_taken rest now none i =
      subst (λ (l : List (List Cell)). Takes gets (map Run l) first now)
      (sym (i.parts ∙ ap (λ (l : List Cell). i.done ++ runs_of l) none ∙ append-nil i.done)) i.takes
