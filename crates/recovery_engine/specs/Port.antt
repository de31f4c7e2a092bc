-- What a recovering port stands for in a mode.
use Rattle.std.specs.Prelude.{List}
use Rattle.trace_values.specs.Placed.{Placed}
use Rattle.trace_values.specs.declared.reading_modes.FramesMode.{FramesMode}
use Rattle.trace_values.specs.declared.reading_modes.FramesMode.TheVariants.{Hunt, Aligned, Bare}
use Rattle.recovering_machines.specs.Port as ports
use Rattle.recovering_machines.specs.declared.port.RecoveringPort.{RecoveringPort}
use Rattle.recovery_report.specs.Port.{port_stretches}

-- with a formatter, for the stretches of these bytes; with none it is not used
abbrev pub PortStands : FramesMode → RecoveringPort → List Placed → Type 0
PortStands Bare port u = Unit {0}
PortStands Aligned port u = ports.Stands port (port_stretches Aligned u)
PortStands Hunt port u = ports.Stands port (port_stretches Hunt u)
