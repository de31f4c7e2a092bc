use Rattle.std.proofs.Common.{arith, rules}
use Rattle.itm_codec.proofs.Zeros.{sync_found}
use Rattle.itm_codec.proofs.whole.sync_in.Goals as goal

pub returns-then-word-eq140737488355328 : goal.returns-then-word-eq140737488355328
returns-then-word-eq140737488355328 c =
    sync_found 5 c.from_le_bytes-word.result c.args.window.now c.sync_of.result (search rules) (search rules) c.from_le_bytes-word.ensures (omega arith) (omega arith)
    c.if-word-eq140737488355328.true c.sync_of.ensures

pub returns-then-word-eq36028797018963968 : goal.returns-then-word-eq36028797018963968
returns-then-word-eq36028797018963968 c =
    sync_found 6 c.from_le_bytes-word.result c.args.window.now c.sync_of-then-word-eq36028797018963968.result (search rules) (search rules) c.from_le_bytes-word.ensures (omega arith) (omega arith)
    c.if-word-eq36028797018963968.true c.sync_of-then-word-eq36028797018963968.ensures

pub returns-then-word : goal.returns-then-word
returns-then-word c =
    sync_found 7 c.from_le_bytes-word.result c.args.window.now c.sync_of-then-word.result (search rules) (search rules) c.from_le_bytes-word.ensures (omega arith) (omega arith)
    (let e = c.if-word.true in omega (arith, e)) c.sync_of-then-word.ensures
