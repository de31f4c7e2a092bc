-- What `split` writes: the bytes of one ID in the cells of a port.
use Rattle.std.specs.Prelude.{ℕ, List, [], map, false}
use Rattle.capture_actions.specs.Names.{Cell, source_list, cells_of, Meaning}
use Rattle.capture_actions.specs.Port.{port_of, IsPortFaulty}
use Rattle.capture_actions.specs.declared.split_plan.SplitPlan.{SplitPlan}

-- the bytes of an ID's cells, in order; an unattributed cell has no ID
abbrev pub bytes_of_id : ℕ → List Cell → List ℕ
bytes_of_id id cells = map (λ c. c.byte) (source_list id cells)

-- all that `split` makes of the bytes of a capture; nothing comes after the text
abbrev pub split_meaning : SplitPlan → Meaning
split_meaning plan = record {
  faulty = IsPortFaulty plan.frames;
  text = λ bytes. bytes_of_id plan.id (cells_of (port_of plan.frames bytes));
  ending = λ bytes. [];
  due = false;
}
