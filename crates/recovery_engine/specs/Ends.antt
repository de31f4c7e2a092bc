-- How a recovering engine ends.
use Rattle.std.specs.Prelude.{◌≡◌, ℕ, List, [], ◌∷◌, Bool, Option, None, Some}
use Rattle.trace_values.specs.declared.reading_modes.FramesMode.{FramesMode}
use Rattle.source_events.specs.declared.plan.Plan.{Plan}
use Rattle.source_events.specs.declared.plan.SourceKind.{SourceKind}
use Rattle.source_events.specs.declared.tails.SourceTail.{SourceTail}
use Rattle.recovering_machines.specs.Mapped.{kind_of}
use Rattle.recovering_machines.specs.declared.mapped.MappedSource.{MappedSource}
use Rattle.recovery_report.specs.Port.{PortStretches, skipped_of}
use Rattle.recovery_report.specs.Report.{Part, port_mode, tail_of}
use Rattle.recovery_engine.specs.Slots.{IsSource}
use Rattle.recovery_engine.specs.declared.ends.PortEnd.{PortEnd}

-- how a port that is read in this mode ends
abbrev pub end_of : FramesMode → PortStretches → PortEnd
end_of mode r = record { mode = port_mode mode r; skipped = skipped_of r; tail = r.now.reading.tail }

-- the end of what may be a source of this ID and this kind
abbrev pub EndsAs : ℕ → SourceKind → Option MappedSource → Option SourceTail → Type 0
EndsAs id kind None tail = tail ≡ None
EndsAs id kind (Some s) tail = (guesses : Bool) (plan : Plan) (parts : List Part) →
    IsSource guesses plan parts id s → kind_of s ≡ kind →
    tail ≡ Some (tail_of plan parts id kind)

-- what may be there, as a list
abbrev pub all_of : {X : Type 0} → Option X → List X
all_of None = []
all_of (Some x) = x ∷ []
