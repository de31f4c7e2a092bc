-- The slot that takes a run, and all slots where they are cut.
use Rattle.std.proofs.Common.{◌≡◌, ℕ, List, ◌∷◌, sym, ◌∙◌, ap, subst, Some}
use Rattle.std.proofs.Common.{Bool, true, false, cond}
use Rattle.std.specs.Prelude.{◌==◌}
use Rattle.trace_values.specs.declared.cell.Cell.{Cell}
use Rattle.source_events.specs.declared.event.Event.{Event}
use Rattle.source_events.specs.declared.packet.Packet.{Packet}
use Rattle.source_events.proofs.Merges.{test_same, test_other}
use Rattle.stretch_readings.specs.declared.heard.Heard.{Heard}
use Rattle.recovering_machines.specs.Mapped.{IsCut, TakesMapped}
use Rattle.recovering_machines.specs.declared.mapped.MappedSource.{MappedSource}
use Rattle.recovery_engine.specs.Slots.{source_at}
use Rattle.recovery_engine.specs.Taking.{AreCut, IsCutAt, TakesOwn}
use Rattle.recovery_engine.specs.declared.slot.RecoveringSlot.{RecoveringSlot}

module _ {S : Type 0} (gets : S → List (Event (Heard Packet)) → S → Type 0) (room : S → ℕ) (id : ℕ)
    (cells : List Cell) (s : RecoveringSlot) (rest slots : List RecoveringSlot) (p : slots ≡ s ∷ rest) (a b : S) where
  pub own_first : (after : MappedSource) → s.id ≡ id → TakesMapped gets room id cells s.source after a b →
      TakesOwn gets room id cells (slots, a) (record { id = s.id; source = after } ∷ rest, b)
  own_first after e t = record {
    before = s.source;
    after = after;
    was = ap (λ l. source_at l id) p ∙ ap (λ z. cond z (Some s.source) (source_at rest id)) (test_same s.id id e);
    is = ap (λ z. cond z (Some after) (source_at rest id)) (test_same s.id id e);
    others = λ x n.
        let f = test_other s.id x (λ q. n (sym q ∙ e)) in
        ap (λ z. cond z (Some after) (source_at rest x)) f
        ∙ sym (ap (λ l. source_at l x) p ∙ ap (λ z. cond z (Some s.source) (source_at rest x)) f);
    takes = t;
  }

  pub own_rest : (new : List RecoveringSlot) → (s.id == id) ≡ false → TakesOwn gets room id cells (rest, a) (new, b) →
      TakesOwn gets room id cells (slots, a) (s ∷ new, b)
  own_rest new f t = record {
    before = t.before;
    after = t.after;
    was = ap (λ l. source_at l id) p ∙ ap (λ z. cond z (Some s.source) (source_at rest id)) f ∙ t.was;
    is = ap (λ z. cond z (Some s.source) (source_at new id)) f ∙ t.is;
    others = λ x n. ap (λ z. cond (s.id == x) (Some s.source) z) (t.others x n) ∙ sym (ap (λ l. source_at l x) p);
    takes = t.takes;
  }

-- the first slot is cut, and then the rest
pub cut_first : (s : RecoveringSlot) (rest slots new : List RecoveringSlot) (after : MappedSource) → slots ≡ s ∷ rest →
    IsCut s.source after → AreCut rest new → AreCut slots (record { id = s.id; source = after } ∷ new)
cut_first s rest slots new after p is all x =
    subst (λ l. IsCutAt (source_at l x) (cond (s.id == x) (Some after) (source_at new x))) (sym p) (by (s.id == x))
  where
    by : (b : Bool) → IsCutAt (cond b (Some s.source) (source_at rest x)) (cond b (Some after) (source_at new x))
    by true = is
    by false = all x
