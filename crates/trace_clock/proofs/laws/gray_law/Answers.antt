use Rattle.trace_clock.proofs.GrayCodes.{to_and_fro, fro_and_to, natural_bit, is_differ}
use Rattle.trace_clock.proofs.laws.gray_law.Goals as goal

pub returns : goal.returns
returns c = record { natural = to_and_fro; gray = fro_and_to; parity = natural_bit; differ = is_differ }
