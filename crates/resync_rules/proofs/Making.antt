-- Items that are made of packets at later offsets are at later offsets.
use Rattle.std.proofs.Common.{◌≡◌, ℕ, List, [], ◌∷◌, map, refl, ◌∙◌, ap, Option, None, Some}
use Rattle.resync_rules.specs.Names.{Place, Said, Notice, Kept, kept_if, decorate}
use Rattle.resync_rules.specs.Moved.{later_place}

module _ {V W T : Type 0} (step : T → V → Option W × T) where
  kept_later : (c : ℕ) (o : Option W) (p : Place) (xs : List (Said W × Place)) → kept_if o (later_place c p) (map (λ x. (x.0, later_place c x.1)) xs) ≡ map (λ x. (x.0, later_place c x.1)) (kept_if o p xs)
  kept_later c None p xs = refl
  kept_later c (Some w) p xs = refl

  pub made_later : (c : ℕ) (xs : List (Said V × Place)) (t : T) → decorate step t (map (λ x. (x.0, later_place c x.1)) xs) ≡ map (λ x. (x.0, later_place c x.1)) (decorate step t xs)
  made_later c [] t = refl
  made_later c ((Notice n, p) ∷ xs) t = ap (λ (l : List (Said W × Place)). (Notice n, later_place c p) ∷ l) (made_later c xs t)
  made_later c ((Kept v, p) ∷ xs) t =
      ap (λ (l : List (Said W × Place)). kept_if (step t v).0 (later_place c p) l) (made_later c xs (step t v).1) ∙ kept_later c (step t v).0 p (decorate step (step t v).1 xs)
