-- The numbers and names of what is wrong with lines.
use Rattle.std.specs.Prelude.{ℕ, List, codes}
use Rattle.script_text.specs.declared.line_fault.LineFault.{LineFault}
use Rattle.script_text.specs.declared.line_fault.LineFault.TheVariants.{LongLine, BadLine, BadId, BadNumber, Unmapped}
use Rattle.script_text.specs.declared.line_fault.LineFault.TheVariants.{Mixed, Unfit, Unrouted}

-- the number of a fault and its name
abbrev pub row_of : LineFault → ℕ × List ℕ
row_of LongLine = (1, codes "LongLine")
row_of BadLine = (2, codes "BadLine")
row_of BadId = (3, codes "BadId")
row_of BadNumber = (4, codes "BadNumber")
row_of Unmapped = (5, codes "Unmapped")
row_of Mixed = (6, codes "Mixed")
row_of Unfit = (7, codes "Unfit")
row_of Unrouted = (8, codes "Unrouted")

abbrev pub number_of : LineFault → ℕ
number_of fault = (row_of fault).0

abbrev pub name_of : LineFault → List ℕ
name_of fault = (row_of fault).1
