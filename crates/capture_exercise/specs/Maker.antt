-- What a maker of the capture has still to make.
use Rattle.std.specs.Prelude.{ℕ, ◌+◌, ◌-◌, List, [], if◌then◌else◌}
use Rattle.script_rebuild.specs.Writer.{kept_by}
use Rattle.capture_exercise.specs.Making.{later}
use Rattle.capture_exercise.specs.declared.maker.CaptureMaker.{CaptureMaker}

-- of how many items the capture is
abbrev pub items_of : CaptureMaker → ℕ
items_of m = m.items

-- the piece that was made last
abbrev pub made_by : CaptureMaker → List ℕ
made_by m = kept_by m.writer

-- the bytes that come, and how many pieces they are: one for each item, and the rest
abbrev pub to_come : CaptureMaker → List ℕ
to_come m = if m.is_whole then [] else later m.items m.next

abbrev pub pieces_left : CaptureMaker → ℕ
pieces_left m = if m.is_whole then 0 else m.items - m.next + 1
