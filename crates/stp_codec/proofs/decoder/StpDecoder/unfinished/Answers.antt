use Rattle.std.proofs.Common.{sym, ◌∙◌}
use Rattle.stp_codec.specs.Names.{Start, rule}
use Rattle.stp_codec.proofs.PartsPieces.{leaves_is}
use Rattle.stp_codec.proofs.Taken.{begun_first}
use Rattle.stp_codec.proofs.decoder.StpDecoder.unfinished.Goals as goal

pub returns-then-self-lt-MANY-clause-value : goal.returns-then-self-lt-MANY-clause-value
returns-then-self-lt-MANY-clause-value c =
    let d = c.args.self.now in
    sym (begun_first d.order d.first d.partial c.if-self-lt-MANY.true
    ∙ leaves_is (rule d.order Start d.first) c.after_first.result (c.after_first.ensures.next d.order))
