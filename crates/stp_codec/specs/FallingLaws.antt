-- No packet fails at its first nibble.
use Rattle.std.proofs.Common.{◌≡◌, ◌<◌, sym}
use Rattle.stp_codec.specs.Names.{Reason, Fail, Placed, Order, Start, rule}
use Rattle.stp_grammar.proofs.Beginning.{start_never_fails}

pub begins : (order : Order) (b : Placed) (e : Reason) → b.unit < 16 → rule order Start b.unit ≡ Fail e → ⊥
begins order b e h f = start_never_fails order e b.unit h (sym f)
