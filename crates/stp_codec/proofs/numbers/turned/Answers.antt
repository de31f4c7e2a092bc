use Rattle.std.proofs.Common.{◌∙◌, ap, refl}
use Rattle.std.specs.Int.{w64, from_be_bytes}
use Rattle.stp_codec.proofs.Words.{turned_is}
use Rattle.stp_codec.proofs.numbers.turned.Goals as goal

pub returns : goal.returns
returns c = λ r l h e.
    c.from_be_bytes.ensures ∙ ap (from_be_bytes w64) c.to_le_bytes.ensures ∙ turned_is r l h c.args.nibbles _ e refl
