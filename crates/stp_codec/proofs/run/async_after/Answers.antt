use Rattle.std.proofs.Common.{sym, ◌∙◌, arith}
use Rattle.stp_codec.specs.Wholes.{nibbles_in}
use Rattle.stp_codec.proofs.Between.{length-nibbles}
use Rattle.stp_codec.proofs.Running.{run_fronts, run_whole}
use Rattle.stp_codec.proofs.run.async_after.Goals as goal

pub returns-then-run-there : goal.returns-then-run-there
returns-then-run-there c =
    let xs = nibbles_in c.args.bytes.now in
    let l = length-nibbles c.args.bytes.now in
    let t = c.if-run-there.true in
    let r = c.requires.bytes in
    let few = c.run_in-run.ensures.few in
    record {
      ends = λ some within. absurd (omega (arith, t, within));
      goes = λ more. (
        omega (arith, t, r, few),
        run_fronts xs c.args.before c.args.there (omega (arith, l, t, r, few)) (λ i h. c.run_in-run.ensures.run i (omega (arith, h, t))),
      );
    }

pub returns-then-nibble_of-eq0 : goal.returns-then-nibble_of-eq0
returns-then-nibble_of-eq0 c =
    let xs = nibbles_in c.args.bytes.now in
    let l = length-nibbles c.args.bytes.now in
    let f = c.if-run-there.false in
    let t = c.if-run.true in
    let g = c.if-before-run-ge21.true in
    let r = c.requires.bytes in
    record {
      ends = λ some within. (
        omega (arith, t, r),
        run_whole xs c.args.before c.run_in-run.result (omega (arith, l, t, r)) c.run_in-run.ensures.run (omega (arith, g)) (sym c.if-nibble_of-eq0.true ∙ c.nibble_of.ensures.value),
      );
      goes = λ more. absurd (omega (arith, f, more));
    }
