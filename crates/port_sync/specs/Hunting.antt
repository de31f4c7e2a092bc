-- The hunt for a full synchronisation, the 'frame synchronization packet' (CoreSight Architecture Specification, Arm
-- IHI 0029E (version 3.0), chapter 'Trace Formatter', its section on frames).
use Rattle.std.specs.Prelude.{ℕ, List}
use Rattle.trace_values.specs.declared.pattern.Pattern.{Pattern}
use Rattle.trace_values.specs.Hunt.{EndsInRun}
use Rattle.port_sync.specs.declared.hunter.Hunter.{Hunter}

-- FF FF FF 7F
abbrev pub pattern : Pattern
pattern = record { unit = 0xFF; most = 3; last = 0x7F }

-- how many FF end the bytes so far; more than three count as three
abbrev pub run_of : Hunter → ℕ
run_of hunter = hunter.run

-- a hunter that took these bytes: its run is the one at their end
abbrev pub Stands : Hunter → List ℕ → Type 0
Stands hunter u = EndsInRun pattern.unit pattern.most (run_of hunter) u
