use Rattle.std.proofs.Common.{◌-◌, ◌/◌, ◌+◌, ◌^◌, ◌∙◌, ap, arith}
use Rattle.port_slip.specs.Bits.{bits}
use Rattle.port_slip.specs.Runs.{is_quiet}
use Rattle.port_slip.proofs.Bits.{bits_length}
use Rattle.port_slip.proofs.Runs.{quiet_parts}
use Rattle.port_slip.proofs.Windows.{quiet_full}
use Rattle.port_slip.proofs.Quiet.{quiet_early}
use Rattle.port_slip.proofs.byte.pattern_in.Goals as goal
use Rattle.port_slip.proofs.byte.pattern_in.Goals.{then-run-lt24-via-then-run-lt24, then-run-lt24-via-else-run-lt24+then-byte-eq255}

pub returns-then-run-lt24 : goal.returns-then-run-lt24
returns-then-run-lt24 c =
    elim c.then-run-lt24.branch [
      | then-run-lt24-via-then-run-lt24 w ↦ quiet_early c.args.run c.args.byte w.if-run-lt24.true c.ranges.byte.fits
      | then-run-lt24-via-else-run-lt24+then-byte-eq255 w ↦ ap (λ b. is_quiet c.args.run (bits 8 b)) w.if-byte-eq255.true ∙ quiet_full c.args.run
    ]

pub returns-then-run-count-lt31 : goal.returns-then-run-count-lt31
returns-then-run-count-lt31 c =
    let k = c.ones_first-count.result in
    let p = c.ones_first-count.ensures.parts c.if-byte-eq255.false in
    let b = c.args.byte in
    ap (is_quiet c.args.run) p.1 ∙ quiet_parts c.args.run k (bits (7 - k) (b / 2 ^ (k + 1))) c.if-run-count-lt31.true (let m = bits_length (7 - k) (b / 2 ^ (k + 1)) in omega (arith, m))
