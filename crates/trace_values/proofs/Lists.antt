-- Lists with a common front, and placed units.
use Rattle.std.proofs.Common.{◌≡◌, List, [], ◌∷◌, ◌++◌, length, refl, arith, ◌⊎◌, inl, inr}

-- of two fronts of one list one is a front of the other
pub fronts_meet : {A : Type 0} → (a b x y : List A) → a ++ x ≡ b ++ y →
    ((c : List A) × (b ≡ a ++ c)) ⊎ ((c : List A) × (h : A) × (a ≡ b ++ (h ∷ c)))
fronts_meet [] b x y e = inl (b, refl)
fronts_meet (h ∷ a) [] x y e = inr (a, h, refl)
fronts_meet (h ∷ a) (g ∷ b) x y e =
    let same : h ≡ g = cc in
    let tails : a ++ x ≡ b ++ y = cc in
    elim (fronts_meet a b x y tails) [
      | inl m ↦ inl (m.0, (let k : b ≡ a ++ m.0 = m.1 in cc))
      | inr m ↦ inr (m.0, m.1, (let k : a ≡ b ++ (m.1 ∷ m.0) = m.2 in cc))
    ]

-- fronts of one length are one front
pub same_fronts : {A : Type 0} → (a b x y : List A) → length a ≡ length b → a ++ x ≡ b ++ y → (a ≡ b) × (x ≡ y)
same_fronts [] [] x y n e = (refl, e)
same_fronts [] (g ∷ b) x y n e = absurd (omega arith)
same_fronts (h ∷ a) [] x y n e = absurd (omega arith)
same_fronts (h ∷ a) (g ∷ b) x y n e =
    let same : h ≡ g = cc in
    let tails : a ++ x ≡ b ++ y = cc in
    let more = same_fronts a b x y (omega arith) tails in
    let k : a ≡ b = more.0 in (cc, more.1)
