use Rattle.std.proofs.Common.{arith}
use Rattle.stp_grammar.proofs.Numbers.{msn_fits, lsn_fits, shifted, lsn_is}
use Rattle.stp_grammar.proofs.nibble.number_with.Goals as goal

pub overflow_mul-result : goal.overflow_mul-result
overflow_mul-result c = let k = msn_fits c.args.count c.args.value c.args.nibble c.requires.few c.requires.fits c.requires.nibble in omega (arith, k.0, k.1)

pub overflow_add-result : goal.overflow_add-result
overflow_add-result c = let k = msn_fits c.args.count c.args.value c.args.nibble c.requires.few c.requires.fits c.requires.nibble in omega (arith, k.0, k.1)

pub overflow_add-result-in-Lsn : goal.overflow_add-result-in-Lsn
overflow_add-result-in-Lsn c =
    let k = lsn_fits c.args.count c.args.value c.args.nibble c.requires.few c.requires.fits c.requires.nibble in
    let s = shifted c.args.count c.from-in-Lsn.result c.args.nibble c.requires.few c.requires.nibble c.from-in-Lsn.ensures in
    omega (arith, k.0, k.1, s)

pub returns-in-Lsn-clause-value : goal.returns-in-Lsn-clause-value
returns-in-Lsn-clause-value c = lsn_is c.args.order c.args.count c.args.value c.args.nibble _ c.in-Lsn.is (shifted c.args.count c.from-in-Lsn.result c.args.nibble c.requires.few c.requires.nibble c.from-in-Lsn.ensures)

pub returns-in-Lsn-clause-fits : goal.returns-in-Lsn-clause-fits
returns-in-Lsn-clause-fits c =
    let k = lsn_fits c.args.count c.args.value c.args.nibble c.requires.few c.requires.fits c.requires.nibble in
    let s = shifted c.args.count c.from-in-Lsn.result c.args.nibble c.requires.few c.requires.nibble c.from-in-Lsn.ensures in
    omega (arith, k.0, s)
