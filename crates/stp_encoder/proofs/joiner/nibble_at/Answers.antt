use Rattle.std.proofs.Common.{ℕ, ◌/◌, ◌%◌, ap}
use Rattle.trace_clock.proofs.LastWords.{pow_of}
use Rattle.stp_encoder.proofs.joiner.nibble_at.Goals as goal

pub returns : goal.returns
returns c = ap (λ (z : ℕ). c.args.number / z % 16) (pow_of c.args.place)
