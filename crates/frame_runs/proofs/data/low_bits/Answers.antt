use Rattle.std.proofs.Common.{◌∙◌, ap, rules, ℕ, bit_and}
use Rattle.std.specs.Prelude.{slice_index}
use Rattle.frame_runs.proofs.Halfwords.{lows_are}
use Rattle.frame_runs.proofs.data.low_bits.Goals as goal

pub returns : goal.returns
returns c =
    ap (λ (x : ℕ). bit_and x 0x1000100010001) c.from_le_bytes.ensures
    ∙ lows_are (slice_index c.args.bytes 0) (slice_index c.args.bytes 1) (slice_index c.args.bytes 2) (slice_index c.args.bytes 3)
    (slice_index c.args.bytes 4) (slice_index c.args.bytes 5) (slice_index c.args.bytes 6) (slice_index c.args.bytes 7)
    (search rules) (search rules) (search rules) (search rules) (search rules) (search rules)
