-- What a deformatter does by what the port's grammar says of a byte.
use Rattle.std.specs.Prelude.{ℕ, ◌+◌, ◌*◌, List, [], length, ◌==◌, if◌then◌else◌, Option}
use Rattle.deformatter.specs.Names.{Cell, Next, Go, End, Fail, PortItem, Full, Half, Frame, Part, Between, First, One}
use Rattle.deformatter.specs.Names.{Two, Three, State, item_cells, item_id}
use Rattle.deformatter.specs.declared.step.PortStep.{PortStep}
use Rattle.deformatter.specs.declared.step.PortStep.TheVariants.{Quiet, Half as HalfEnds, Full as FullEnds}
use Rattle.deformatter.specs.declared.step.PortStep.TheVariants.{Frame as FrameEnds, Fault as Faulty}

-- the bytes of an unfinished item: those of its frame, of the half synchronisations between them, and of the unfinished
-- part
abbrev pub part_size : Part → ℕ
part_size Between = 0
part_size (First a) = 1
part_size One = 1
part_size Two = 2
part_size Three = 3

abbrev pub count_of : State → ℕ
count_of s = length s.bytes + 2 * s.halves + part_size s.part

-- the step that ends an item
abbrev pub item_step : PortItem → PortStep
item_step Full = FullEnds
item_step Half = HalfEnds
item_step (Frame bytes halves) = FrameEnds

-- the step at this offset from a state: where a frame goes on, a half synchronisation has ended or nothing
abbrev pub step_by : ℕ → State → Next State PortItem → PortStep
step_by at s (Go t) = if t.halves == s.halves then Quiet else HalfEnds
step_by at s (End item) = item_step item
step_by at s (Fail e) = Faulty (record { at = at; half = 0; reason = e })

-- the cells given, and the ID in force after the byte
abbrev pub cells_by : Option ℕ → Next State PortItem → List Cell
cells_by id (Go t) = []
cells_by id (End item) = item_cells id item
cells_by id (Fail e) = []

abbrev pub id_by : Option ℕ → Next State PortItem → Option ℕ
id_by id (Go t) = id
id_by id (End item) = item_id id item
id_by id (Fail e) = id
