-- Nibbles of bytes: they append, rise, and move to later offsets as the bytes do.
use Rattle.std.proofs.Common.{◌≡◌, ℕ, suc, ◌+◌, ◌*◌, ◌≤◌, List, [], ◌∷◌, map, refl, ap, arith}
use Rattle.std.specs.Prelude.{◌/◌, ◌%◌}
use Rattle.resync_laws.specs.Names.{Placed, Between, IsRising, key, later, nibbles_of}
use Rattle.resync_laws.specs.Resumed.{AreBytes}

abbrev low : Placed → Placed
low b = record { unit = b.unit % 16; place = record { at = b.place.at; half = 0 } }

abbrev high : Placed → Placed
high b = record { unit = b.unit / 16 % 16; place = record { at = b.place.at; half = 1 } }

pub nibbles_shift : (c : ℕ) (u : List Placed) → nibbles_of (map (λ b. later c b) u) ≡ map (λ b. later c b) (nibbles_of u)
nibbles_shift c [] = refl
nibbles_shift c (b ∷ u) = ap (λ (l : List Placed). later c (low b) ∷ (later c (high b) ∷ l)) (nibbles_shift c u)

-- from an even key on
between : (u : List Placed) (n hi : ℕ) → AreBytes u → Between (λ b. key b.place) n hi u → (lo : ℕ) → lo ≤ n + 1 → (k : ℕ) → lo ≡ 2 * k → Between (λ b. key b.place) lo (suc hi) (nibbles_of u)
between [] n hi a b lo l k e = (let h : n ≤ hi = b in let q : lo ≤ suc hi = omega arith in q)
between (c ∷ u) n hi a b lo l k e =
    let half = a.0 in
    let low_at : n ≤ 2 * c.place.at + c.place.half = b.0 in (
      (let q : lo ≤ 2 * c.place.at + 0 = omega (arith, half, low_at, l, e) in q),
      (
        (let q : suc (2 * c.place.at + 0) ≤ 2 * c.place.at + 1 = omega arith in q),
        between u (suc (2 * c.place.at + c.place.half)) hi a.1 b.1 (suc (2 * c.place.at + 1)) (omega (arith, half)) (c.place.at + 1) (omega arith),
      ),
    )

pub nibbles_rise : (u : List Placed) → AreBytes u → IsRising u → IsRising (nibbles_of u)
nibbles_rise u a r = (suc r.0, between u 0 r.0 a r.1 0 (omega arith) 0 refl)
