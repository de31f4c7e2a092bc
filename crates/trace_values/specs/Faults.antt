-- The reasons of faults, by number and name.
use Rattle.std.specs.Prelude.{ℕ, List, codes}
use Rattle.trace_values.specs.declared.fault.Reason.{Reason}
use Rattle.trace_values.specs.declared.fault.Reason.TheVariants.{BadSync, SyncInFrame, ReservedHeader, BadItmSync}
use Rattle.trace_values.specs.declared.fault.Reason.TheVariants.{LongStamp, ShortStamp, Unsupported, StampSize}
use Rattle.trace_values.specs.declared.fault.Reason.TheVariants.{BadAsync}

-- the number of a reason and its name, letter by letter
abbrev pub row_of : Reason → ℕ × List ℕ
row_of BadSync = (1, codes "BadSync")
row_of SyncInFrame = (2, codes "SyncInFrame")
row_of ReservedHeader = (3, codes "ReservedHeader")
row_of BadItmSync = (4, codes "BadItmSync")
row_of LongStamp = (5, codes "LongStamp")
row_of ShortStamp = (6, codes "ShortStamp")
row_of Unsupported = (7, codes "Unsupported")
row_of StampSize = (8, codes "StampSize")
row_of BadAsync = (9, codes "BadAsync")

abbrev pub number_of : Reason → ℕ
number_of reason = (row_of reason).0

abbrev pub name_of : Reason → List ℕ
name_of reason = (row_of reason).1
