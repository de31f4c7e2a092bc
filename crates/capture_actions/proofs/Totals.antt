-- What the elements of a list weigh together, where each weighs so much.
use Rattle.std.proofs.Common.{◌≡◌, ◌≤◌, ℕ, ◌+◌, ◌*◌, List, [], ◌∷◌, ◌++◌, length, drop, map, flat_map, refl}
use Rattle.std.proofs.Common.{arith, zero, suc, Bool, true, false, cond}
use Rattle.std.specs.Prelude.{filter}

abbrev pub total : {X : Type 0} → (X → ℕ) → List X → ℕ
total f [] = 0
total f (x ∷ xs) = f x + total f xs

module _ {X : Type 0} (f : X → ℕ) where
  pub total-append : (xs ys : List X) → total f (xs ++ ys) ≡ total f xs + total f ys
  total-append [] ys = omega arith
  total-append (x ∷ xs) ys = let e = total-append xs ys in omega arith

  pub total-none : (xs : List X) → ((x : X) → f x ≡ 0) → total f xs ≡ 0
  total-none [] h = refl
  total-none (x ∷ xs) h = let a = h x in let e = total-none xs h in omega arith

  -- some of them weigh no more
  pub total-filter : (p : X → Bool) (xs : List X) → total f (filter p xs) ≤ total f xs
  total-filter p [] = omega arith
  total-filter p (x ∷ xs) = by (p x) (total-filter p xs) where
    by : (t : Bool) → total f (filter p xs) ≤ total f xs →
        total f (cond t (x ∷ filter p xs) (filter p xs)) ≤ f x + total f xs
    by true h = omega arith
    by false h = omega arith

  pub total-drop : (n : ℕ) (xs : List X) → total f (drop n xs) ≤ total f xs
  total-drop zero xs = omega arith
  total-drop (suc n) [] = omega arith
  total-drop (suc n) (x ∷ xs) = let h = total-drop n xs in omega arith

  -- each weighs this much at most
  pub total-most : (most : ℕ) (xs : List X) → ((x : X) → f x ≤ most) → total f xs ≤ length xs * most
  total-most most [] h = omega arith
  total-most most (x ∷ xs) h =
      let a = h x in
      let e = total-most most xs h in
      let s : (1 + length xs) * most ≡ most + length xs * most = grind arith in
      omega arith

-- what other elements weigh that are made of these
module _ {X Y : Type 0} (f : X → ℕ) (g : Y → ℕ) where
  pub total-map : (h : X → Y) (xs : List X) → ((x : X) → g (h x) ≤ f x) → total g (map h xs) ≤ total f xs
  total-map h [] l = omega arith
  total-map h (x ∷ xs) l = let a = l x in let e = total-map h xs l in omega arith

  pub total-flat : (h : X → List Y) (xs : List X) → ((x : X) → total g (h x) ≤ f x) →
      total g (flat_map h xs) ≤ total f xs
  total-flat h [] l = omega arith
  total-flat h (x ∷ xs) l =
      let a = l x in
      let e = total-flat h xs l in
      let s = total-append g (h x) (flat_map h xs) in
      omega arith
