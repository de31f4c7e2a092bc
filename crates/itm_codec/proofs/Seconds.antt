-- The number of a second global timestamp of six bytes.
use Rattle.std.proofs.Common.{◌≡◌, ℕ, ◌+◌, ◌*◌, ◌%◌, ◌<◌, List, [], ◌∷◌, length, take, drop, slice_index, ◌∙◌, ap, arith}
use Rattle.itm_codec.specs.Names.{groups}
use Rattle.itm_codec.specs.Windows.{four_bytes}

pub six_groups : (window : List ℕ) (payload low fifth sixth : ℕ) → length window ≡ 8 → four_bytes payload ≡ take 4 (drop 1 window) → low ≡ groups (four_bytes payload) →
    fifth ≡ slice_index window 5 % 128 → sixth ≡ slice_index window 6 % 8 →
    (low + 268435456 * (fifth + 128 * sixth) ≡ groups (take 6 (drop 1 window)) % 274877906944) × (low + 268435456 * (fifth + 128 * sixth) < 274877906944)
six_groups (b0 ∷ (b1 ∷ (b2 ∷ (b3 ∷ (b4 ∷ (b5 ∷ (b6 ∷ (b7 ∷ rest)))))))) payload low fifth sixth l same value f s =
    let lower : low ≡ groups (b1 ∷ (b2 ∷ (b3 ∷ (b4 ∷ [])))) = value ∙ ap groups same in (omega (arith, lower, f, s), omega (arith, lower, f, s))
six_groups window payload low fifth sixth l same value f s = absurd (omega arith)
