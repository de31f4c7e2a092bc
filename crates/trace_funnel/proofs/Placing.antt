-- The place of a source in an order.
use Rattle.std.proofs.Common.{◌≡◌, ℕ, suc, ◌+◌, ◌<◌, ◌≤◌, List, [], ◌∷◌, length, Bool, true, false, cond, nat_lt, refl}
use Rattle.std.proofs.Common.{sym, ◌∙◌, ap, subst, arith, Option, None, Some, ◌⊎◌, inl, inr}
use Rattle.std.specs.Prelude.{◌==◌, ◌||◌, not, position, is_some, slice_index}
use Rattle.std.specs.List.{list_any, prefix_len}
use Rattle.std.proofs.lemmas.Bool.{cases_lt, lt-ltb, le-ltb, eqb-true}

abbrev others : ℕ → List ℕ → ℕ
others id ids = prefix_len (λ x. not (x == id)) ids

one_more : (n : ℕ) → 1 + n ≡ suc n
one_more n = omega arith

both_more : (n m : ℕ) → nat_lt (suc n) (suc m) ≡ nat_lt n m
both_more n m = by (cases_lt n m) where
  by : ((n < m) ⊎ (m ≤ n)) → nat_lt (suc n) (suc m) ≡ nat_lt n m
  by (inl less) = lt-ltb (suc n) (suc m) (omega (arith, less)) ∙ sym (lt-ltb n m less)
  by (inr more) = le-ltb (suc n) (suc m) (omega (arith, more)) ∙ sym (le-ltb n m more)

abbrev at : ℕ → List ℕ → Option ℕ
at id ids = position (λ x. x == id) ids

-- the source is in the order exactly where it has a place
within : (id : ℕ) (ids : List ℕ) → nat_lt (others id ids) (length ids) ≡ list_any (λ x. x == id) ids
within id [] = refl
within id (x ∷ ids) = by (x == id) (within id ids) where
  by : (t : Bool) → nat_lt (others id ids) (length ids) ≡ list_any (λ y. y == id) ids →
      nat_lt (cond (not t) (1 + others id ids) 0) (suc (length ids)) ≡ (t || list_any (λ y. y == id) ids)
  by true e = lt-ltb 0 (suc (length ids)) (omega arith)
  by false e = ap (λ n. nat_lt n (suc (length ids))) (one_more (others id ids))
      ∙ both_more (others id ids) (length ids) ∙ e

some_on : (t : Bool) (n : ℕ) → is_some (cond t (Some n) None) ≡ t
some_on true n = refl
some_on false n = refl

pub has_place_is : (id : ℕ) (ids : List ℕ) → is_some (at id ids) ≡ list_any (λ x. x == id) ids
has_place_is id ids = some_on (nat_lt (others id ids) (length ids)) (others id ids) ∙ within id ids

-- and is at that place
abbrev IsAt : ℕ → List ℕ → ℕ → Type 0
IsAt id ids n = (n < length ids) × (slice_index ids n ≡ id)

first_at : (id : ℕ) (ids : List ℕ) → others id ids < length ids → IsAt id ids (others id ids)
first_at id [] h = absurd (omega arith)
first_at id (x ∷ ids) h = by (x == id) refl h (first_at id ids) where
  by : (t : Bool) → (x == id) ≡ t → cond (not t) (1 + others id ids) 0 < suc (length ids) →
      (others id ids < length ids → IsAt id ids (others id ids)) →
      IsAt id (x ∷ ids) (cond (not t) (1 + others id ids) 0)
  by true e h f = (omega arith, eqb-true x id e)
  by false e h f =
      let r = f (omega (arith, h)) in
      let next : IsAt id (x ∷ ids) (suc (others id ids)) = (omega (arith, r.0), r.1) in
      subst (IsAt id (x ∷ ids)) (sym (one_more (others id ids))) next

pub place_at : (id : ℕ) (ids : List ℕ) (n : ℕ) → at id ids ≡ Some n → (n < length ids) × (slice_index ids n ≡ id)
place_at id ids n e = by (cases_lt (others id ids) (length ids)) where
  by : ((others id ids < length ids) ⊎ (length ids ≤ others id ids)) → IsAt id ids n
  by (inl less) =
      let is : Some (others id ids) ≡ Some n =
      sym (ap (λ t. cond t (Some (others id ids)) None) (lt-ltb (others id ids) (length ids) less)) ∙ e in
      let same : others id ids ≡ n = (cc) in
      subst (IsAt id ids) same (first_at id ids less)
  by (inr more) = absurd (
      let is : None ≡ Some n =
      sym (ap (λ t. cond t (Some (others id ids)) None) (le-ltb (others id ids) (length ids) more)) ∙ e in cc)
