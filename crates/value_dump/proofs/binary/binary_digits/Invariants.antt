use Rattle.std.proofs.Common.{◌≡◌, ◌≤◌, length, drop, false}
use Rattle.std.specs.Fmt.{digits_onto}
use Rattle.value_dump.specs.Lines.{binary}
use Rattle.value_dump.proofs.binary.binary_digits.Given as goal

abbrev pub invariant-loop-start : goal.invariant-loop-start
invariant-loop-start l =
    (l.start ≤ 32) × (length l.out ≡ 32) × (digits_onto l.start 2 false l.rest (drop l.start l.out) ≡ binary l.value)

abbrev pub decreases-loop-start : goal.decreases-loop-start
decreases-loop-start l = l.start
