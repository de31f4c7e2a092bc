use Rattle.std.proofs.Common.{ℕ, ◌*◌, ◌∙◌, ap, bit_and}
use Rattle.frame_runs.specs.Data.{lowest}
use Rattle.frame_runs.proofs.Moves.{late_is}
use Rattle.frame_runs.proofs.data.late.Goals as goal

pub returns : goal.returns
returns c =
    ap (λ (x : ℕ). x * 255) (ap (λ (x : ℕ). bit_and x c.spread.result) c.low_bits.ensures ∙ ap (bit_and (lowest c.args.bytes)) c.spread.ensures
    ∙ late_is c.args.bytes c.args.bits)
