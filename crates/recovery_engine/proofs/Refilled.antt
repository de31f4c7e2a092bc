-- A list that is written through a slice.
use Rattle.std.proofs.Common.{◌≡◌, List, ◌++◌, length, take, ◌∙◌, ap, append-nil, arith}
use Rattle.std.specs.List.{refill}
use Rattle.std.proofs.lemmas.List.{take_all, drop_all}

-- a list that is written over by one as long
pub refilled : {X : Type 0} → (old new : List X) → length new ≡ length old → refill (length old) old new ≡ new
refilled {X} old new e =
    ap (λ (l : List X). take (length old) (new ++ l)) (drop_all (length new) old (omega arith))
    ∙ ap (take (length old)) (append-nil new) ∙ take_all (length old) new (omega arith)
