use Rattle.std.proofs.Common.{◌<◌, arith}
use Rattle.trace_clock.proofs.LastWords.{word_fits}
use Rattle.trace_clock.proofs.words.word_fits.Goals as goal

pub returns-in-0-to-13 : goal.returns-in-0-to-13
returns-in-0-to-13 c =
    let h : c.args.size < 15 = (let t = c.in-0-to-13 in omega (arith, t)) in
    word_fits c.args.size c.args.word c.word_nibbles.result h c.word_nibbles.ensures.count
