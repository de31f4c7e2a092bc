-- Groups one by one.
use Rattle.std.proofs.Common.{◌≡◌, ℕ, zero, suc, ◌+◌, ◌-◌, ◌/◌, ◌%◌, ◌<◌, List, [], ◌∷◌, ◌++◌, append_assoc, arith}
use Rattle.itm_codec.specs.Names.{groups_of}

-- the lowest group goes before the others, and says that another follows
pub group_out : (left rest : ℕ) (o : List ℕ) → 1 < left → (o ++ (128 + rest % 128) ∷ []) ++ groups_of (left - 1) (rest / 128) ≡ o ++ groups_of left rest
group_out zero rest o h = absurd (omega arith)
group_out (suc zero) rest o h = absurd (omega arith)
group_out (suc (suc n)) rest o h =
    let e : suc (suc n) - 1 ≡ suc n = omega arith in
    rw e (append_assoc o ((128 + rest % 128) ∷ []) (groups_of (suc n) (rest / 128)))
