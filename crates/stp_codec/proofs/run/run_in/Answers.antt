use Rattle.std.proofs.Common.{rules, arith}
use Rattle.stp_codec.proofs.Running.{byte_on, byte_end}
use Rattle.stp_codec.proofs.run.run_in.Goals as goal

pub returns-then-byte-clause-run : goal.returns-then-byte-clause-run
returns-then-byte-clause-run c =
    let t = c.loop-index-test.true in
    let r = c.requires in
    byte_end c.args.bytes.now c.loop-index.index (omega (arith, t, r)) c.loop-index.invariant c.from.result (search rules)

pub loop-index-preserved : goal.loop-index-preserved
loop-index-preserved c =
    let t = c.loop-index-test.true in
    let r = c.requires in
    byte_on c.args.bytes.now c.loop-index.index (omega (arith, t, r)) c.loop-index.invariant c.if-byte.false
