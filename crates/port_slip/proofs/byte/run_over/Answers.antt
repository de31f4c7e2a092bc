use Rattle.std.proofs.Common.{◌≡◌, ◌+◌, ◌∙◌, ap, arith}
use Rattle.port_slip.specs.Bits.{bits}
use Rattle.port_slip.specs.Runs.{run_after}
use Rattle.port_slip.proofs.Windows.{run_of_byte, run_of_full}
use Rattle.port_slip.proofs.Table.{last_run}
use Rattle.port_slip.proofs.byte.run_over.Goals as goal

pub returns-then-byte-ne255-clause-grown : goal.returns-then-byte-ne255-clause-grown
returns-then-byte-ne255-clause-grown c =
    let l = c.ones_last.ensures.run c.if-byte-ne255.true in
    let k = last_run c.args.byte c.ranges.byte.fits c.if-byte-ne255.true in
    let r = run_of_byte c.args.run c.args.byte c.ranges.byte.fits c.if-byte-ne255.true in
    let e = l.1 in
    let m = k.1 in
    let f = l.0 in
    omega (arith, e, m, r, f)

pub returns-then-run-lt31-clause-grown : goal.returns-then-run-lt31-clause-grown
returns-then-run-lt31-clause-grown c =
    let r = run_of_full c.args.run in
    let e : run_after c.args.run (bits 8 c.args.byte) ≡ c.args.run + 8 = ap (λ b. run_after c.args.run (bits 8 b)) c.if-byte-ne255.false ∙ r in
    omega (arith, e, c.if-run-lt31.true)

pub returns-else-run-lt31-clause-grown : goal.returns-else-run-lt31-clause-grown
returns-else-run-lt31-clause-grown c =
    let r = run_of_full c.args.run in
    let e : run_after c.args.run (bits 8 c.args.byte) ≡ c.args.run + 8 = ap (λ b. run_after c.args.run (bits 8 b)) c.if-byte-ne255.false ∙ r in
    omega (arith, e, c.if-run-lt31.false)
