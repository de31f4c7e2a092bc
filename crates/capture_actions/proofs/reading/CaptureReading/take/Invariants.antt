use Rattle.std.proofs.Common.{◌<◌, ◌≤◌, length, take, false}
use Rattle.recovering_machines.specs.Hearing.{takes_read}
use Rattle.capture_actions.specs.CaptureReading.{TakesOn}
use Rattle.capture_actions.proofs.reading.CaptureReading.take.Given as goal

-- each turn so far took bytes, and there are more, with room for a turn's events
abbrev pub invariant-loop-turn : goal.invariant-loop-turn
invariant-loop-turn g l = record {
  within : l.done < length l.piece;
  some : l.turn ≤ l.done;
  space : 30 ≤ g.V.Receiver.room (l.out, l.to);
  took : TakesOn (takes_read g.V.Receiver.gets) (l.fn.self, (l.fn.out, l.fn.to)) (l.self, (l.out, l.to)) (take l.done l.piece) false;
}
