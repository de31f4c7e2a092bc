-- The plans of worked rows.
use Rattle.std.specs.Prelude.{[], ◌∷◌}
use Rattle.trace_values.specs.declared.reading_modes.FramesMode.{FramesMode}
use Rattle.trace_values.specs.declared.reading_modes.PacketsMode.{PacketsMode}
use Rattle.stp_grammar.specs.declared.packet.Order.TheVariants.{Msn}
use Rattle.source_events.specs.declared.plan.Plan.{Plan}

-- source 1 is of ITM
abbrev pub itm : FramesMode → PacketsMode → Plan
itm frames packets = record { frames = frames; packets = packets; itm = 1 ∷ []; stp = []; order = Msn }

-- no source is mapped
abbrev pub raw : FramesMode → Plan
raw frames = record { frames = frames; packets = PacketsMode.Hunt; itm = []; stp = []; order = Msn }
