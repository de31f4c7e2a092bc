-- A whole frame that is counted where no source is mapped.
use Rattle.std.proofs.Common.{◌≡◌, ◌++◌, ◌≤◌, ◌+◌, ℕ, List, [], ◌∷◌, take, refl, arith, true, false}
use Rattle.std.proofs.Common.{None, Bool, sym, ◌∙◌, subst}
use Rattle.std.specs.Prelude.{Result, Ok, Err, IsOk}
use Rattle.trace_values.specs.declared.fault.Reason.{Reason}
use Rattle.trace_values.specs.Placed.{Placed, placed_from}
use Rattle.source_events.specs.declared.event.Event.{Event}
use Rattle.source_events.specs.declared.event.What.{What}
use Rattle.source_events.specs.declared.packet.Packet.{Packet}
use Rattle.stretch_readings.specs.declared.heard.Heard.{Heard}
use Rattle.recovering_machines.specs.Hearing.{as_strict}
use Rattle.recovery_report.specs.Report.{report, report_with}
use Rattle.recovery_engine.specs.Engine as recovering
use Rattle.recovery_engine.specs.Front.{CountsFront}
use Rattle.recovery_engine.specs.Heard.{AreSound}
use Rattle.recovery_laws.specs.Strict.{first_by, first_fault}
use Rattle.source_merge.specs.Counting.{maps_none}
use Rattle.source_merge.specs.Engine as engine
use Rattle.source_merge.specs.declared.engine.Engine.{Engine}
use Rattle.source_merge.proofs.Taking.{stands}

sound_first : (es : List (Event (Heard Packet))) → AreSound es → first_fault es ≡ None
sound_first [] h = refl
sound_first (e ∷ es) h = by (as_strict e.what) h.0 (sound_first es h.1) where
  by : (o : Result (What Packet) Reason) → IsOk o → first_fault es ≡ None → first_by e o (first_fault es) ≡ None
  by (Ok what) k more = more
  by (Err reason) k more = absurd (let q = k in cc)

pub counted : (at : ℕ) (piece : List ℕ) (n : ℕ) (old new : Engine) → old.live ≡ true → old.next ≤ at →
    maps_none (engine.plan_of old) ≡ true → CountsFront at piece n old.recovery new.recovery →
    new.count ≡ old.count + n → new.next ≡ at + n → new.live ≡ true → (u : List Placed) → engine.Stands old u →
    engine.Stands new (u ++ placed_from at (take n piece))
counted at piece n old new live after none h count next on u st =
    stands at piece n n old new None h.given.0 live after
    (record {
      bytes = h.bytes;
      plan = h.plan;
      list = h.list;
      late = h.late;
      fault = sym (sound_first h.given.0 h.given.1.1);
      grew = λ v s. grew v s;
    })
    (λ m. absurd (let q : true ≡ false = sym none ∙ m in cc))
    (record {
      some = (h.bytes.0, omega arith);
      framed = λ b. refl;
      going = λ e. refl;
      bare = λ s k b e p l. absurd (let q = e in cc);
    })
    (record { count = count; next = next; live = on }) u st where
      grew : (v : List Placed) → recovering.Stands old.recovery v →
          report (engine.plan_of old) (v ++ placed_from at (take n piece))
          ≡ report (engine.plan_of old) v ++ h.given.0
      grew v s =
          subst (λ (b : Bool). report_with b (engine.plan_of old) (v ++ placed_from at (take n piece))
          ≡ report_with b (engine.plan_of old) v ++ h.given.0) old.sure (h.given.2 v s)
