use Rattle.std.proofs.Common.{◌≡◌, ◌+◌, ◌≤◌, ℕ, take}
use Rattle.arrayvec.specs.ArrayVec.{array_vec_len}
use Rattle.recovery_engine.specs.Fresh.{IsAdded}
use Rattle.recovery_engine.specs.Slots.{source_at, total}
use Rattle.recovery_engine.proofs.slot.add_slots.Given as goal

abbrev pub invariant-loop-id : goal.invariant-loop-id
invariant-loop-id l = record {
  added : (x : ℕ) → IsAdded l.guesses l.plan l.kind (take l.id-index l.ids) x (source_at l.fn.slots.items x)
      (source_at l.slots.items x);
  count : array_vec_len l.slots ≡ array_vec_len l.fn.slots + l.id-index;
  few : total l.slots.items ≤ total l.fn.slots.items;
}
