use Rattle.std.proofs.Common.{rules}
use Rattle.port_slip.proofs.Quiet.{runs_on}
use Rattle.port_slip.proofs.Wide.{are_bytes}
use Rattle.port_slip.proofs.byte.run_over_word.Goals as goal

pub returns : goal.returns
returns c =
    runs_on c.args.run c.ones_last.result c.run_over.result c.args.word.now (search rules) (are_bytes c.args.word.now (search rules) (λ i. search rules)) c.if-run-ge24.false
    c.if-word-eq255.false c.if-word-eq255-2.false c.if-word-eq255-3.false c.if-word-eq255-4.false (c.ones_last.ensures.run c.if-word-eq255-4.false).1 c.run_over.ensures.grown
