-- The lines of faults.
use Rattle.std.specs.Prelude.{ℕ, List, ◌++◌, codes, decimal, Bool, Option}
use Rattle.trace_values.specs.declared.fault.Fault.{Fault}
use Rattle.trace_values.specs.declared.fault.Reason.{Reason}
use Rattle.trace_values.specs.Faults.{number_of, name_of}
use Rattle.trace_values.specs.Placed.{Place}
use Rattle.trace_text.specs.LineText.{at_text, source_text}

-- a fault, as a reading has it
abbrev pub told : Fault → Place × Reason
told fault = (record { at = fault.at; half = fault.half }, fault.reason)

-- `fault AT SOURCE R NAME`, of a fault with its source; whether that is an STP source
abbrev pub fault_line : Bool → Place × (Reason × Option ℕ) → List ℕ
fault_line stp fault =
    codes "fault " ++ (at_text stp fault.0 ++ (codes " " ++ (source_text fault.1.1
    ++ (codes " " ++ (decimal (number_of fault.1.0) ++ (codes " " ++ (name_of fault.1.0 ++ codes "\n")))))))
