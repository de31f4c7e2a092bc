use Rattle.std.proofs.Common.{◌≡◌, ◌≤◌, ◌+◌, ◌*◌, ℕ, [], take}
use Rattle.frame_writer.specs.Sure.{of_one}
use Rattle.port_formatter.specs.Formatter.{HasRoom, turns_of, count_of}
use Rattle.port_formatter.specs.Passed.{bytes_acts}
use Rattle.port_formatter.specs.Passing.{Passes}
use Rattle.port_formatter.specs.declared.formatter.Formatter.TheVariants.{Funnelled}
use Rattle.port_formatter.proofs.funnelled.FunnelledFrames.put_all.Given as goal

abbrev pub invariant-loop-byte : goal.invariant-loop-byte
invariant-loop-byte l = record {
  turns : turns_of (Funnelled l.self) ≡ turns_of (Funnelled l.initial.self);
  passes : Passes l.initial.self l.self (bytes_acts (of_one l.fn.id (take l.byte-index l.bytes)));
  moved : l.given.items ≡ [];
  count : count_of (Funnelled l.self) ≤ count_of (Funnelled l.initial.self) + l.byte-index;
  room : (more : ℕ) → HasRoom (Funnelled l.initial.self) (2 * l.byte-index + more) → HasRoom (Funnelled l.self) more;
}
