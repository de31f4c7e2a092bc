-- What is owed where nothing is.
use Rattle.std.proofs.Common.{◌≡◌, List, ℕ, refl}
use Rattle.std.specs.Prelude.{zero, suc}
use Rattle.trace_stream.specs.Debt.{Paid, owing}

-- nothing is owed, whatever else the parts are then
pub still_paid : (old new : List ℕ) (left : ℕ) → owing old left ≡ Paid → owing new left ≡ Paid
still_paid old new zero paid = refl
still_paid old new (suc left) paid = cc
