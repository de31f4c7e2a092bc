-- Lists that are split at the elements that pass a test.
use Rattle.std.proofs.Common.{◌≡◌, ◌<◌, List, [], ◌∷◌, ◌++◌, length, refl, ◌∙◌, ap, arith, Bool, true, false, cond}
use Rattle.std.specs.Prelude.{◌||◌}
use Rattle.std.specs.List.{list_any, onto_first, slice_split}
use Rattle.std.proofs.lemmas.List.Splits.{length-slice_split}

-- of two tests neither passes
pub neither : (a b : Bool) → (a || b) ≡ false → (a ≡ false) × (b ≡ false)
neither true b e = cc
neither false b e = (refl, e)

module _ {X : Type 0} (p : X → Bool) where
  -- the part up to the first element that passes
  pub split_at : (xs : List X) (y : X) (ys : List X) → list_any p xs ≡ false → p y ≡ true →
      slice_split p (xs ++ y ∷ ys) ≡ xs ∷ slice_split p ys
  split_at [] y ys h e = ap (λ (t : Bool). cond t ([] ∷ slice_split p ys) (onto_first y (slice_split p ys))) e
  split_at (x ∷ xs) y ys h e =
      let both = neither (p x) (list_any p xs) h in
      ap (λ (t : Bool).
      cond t ([] ∷ slice_split p (xs ++ y ∷ ys)) (onto_first x (slice_split p (xs ++ y ∷ ys)))) both.0
      ∙ ap (onto_first x) (split_at xs y ys both.1 e)

  onto_more : (x : X) (parts more : List (List X)) → 0 < length parts →
      onto_first x (parts ++ more) ≡ onto_first x parts ++ more
  onto_more x [] more h = absurd (omega arith)
  onto_more x (part ∷ parts) more h = refl

  -- the parts before an element that passes, and those after it
  pub split_more : (xs : List X) (y : X) (ys : List X) → p y ≡ true →
      slice_split p (xs ++ y ∷ ys) ≡ slice_split p xs ++ slice_split p ys
  split_more [] y ys e = ap (λ (t : Bool). cond t ([] ∷ slice_split p ys) (onto_first y (slice_split p ys))) e
  split_more (x ∷ xs) y ys e =
      ap (λ (l : List (List X)). cond (p x) ([] ∷ l) (onto_first x l)) (split_more xs y ys e) ∙ by (p x) where
        by : (t : Bool) →
            cond t ([] ∷ (slice_split p xs ++ slice_split p ys)) (onto_first x (slice_split p xs ++ slice_split p ys))
            ≡ cond t ([] ∷ slice_split p xs) (onto_first x (slice_split p xs)) ++ slice_split p ys
        by true = refl
        by false =
            onto_more x (slice_split p xs) (slice_split p ys)
            (let h = length-slice_split p xs in omega (arith, h))
