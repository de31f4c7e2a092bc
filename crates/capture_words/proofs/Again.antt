-- The search for the first of some IDs that stands earlier already, and that they are sound where there is none.
use Rattle.std.proofs.Common.{◌≡◌, ℕ, suc, ◌+◌, ◌<◌, ◌≤◌, List, [], ◌∷◌, ◌++◌, Bool, true, false, Option, Some, None}
use Rattle.std.proofs.Common.{refl, sym, ap, ◌∙◌, subst, length, arith, nat_le, ◌==◌, ◌||◌, ◌&&◌, not, if◌then◌else◌}
use Rattle.std.proofs.Common.{drop, drop-cons, get_or}
use Rattle.std.specs.List.{AllByRecursion, list_any}
use Rattle.std.proofs.lemmas.Bool.Decides.{nat_tests}
use Rattle.std.proofs.lemmas.List.Folds.{list_any-append}
use Rattle.source_events.specs.Plan.{are_sound}
use Rattle.trace_funnel.specs.Order.{are_apart}
use Rattle.capture_words.specs.Jobs.{again_after}

-- they are not among those before
or_false : (a b : Bool) → (a || b) ≡ false → (a ≡ false) × (b ≡ false)
or_false true b e = absurd cc
or_false false b e = (refl, e)

none_again : (before : List ℕ) (x : ℕ) (ids : List ℕ) → again_after before (x ∷ ids) ≡ None →
    (list_any (λ y. y == x) before ≡ false) × (again_after (before ++ x ∷ []) ids ≡ None)
none_again before x ids e = go (list_any (λ y. y == x) before) refl e
  where
    go : (b : Bool) → list_any (λ y. y == x) before ≡ b →
        (if b then Some x else again_after (before ++ x ∷ []) ids) ≡ None →
        (list_any (λ y. y == x) before ≡ false) × (again_after (before ++ x ∷ []) ids ≡ None)
    go true b e = absurd cc
    go false b e = (b, e)

-- what is among those before is not among the others
absent : (before ids : List ℕ) (x : ℕ) → again_after before ids ≡ None → list_any (λ y. y == x) before ≡ true →
    list_any (λ y. y == x) ids ≡ false
absent before [] x e h = refl
absent before (z ∷ ids) x e h =
    let none = none_again before z ids e in
    let still : list_any (λ y. y == x) (before ++ z ∷ []) ≡ true =
    list_any-append (λ y. y == x) before (z ∷ []) ∙ ap (λ (b : Bool). b || list_any (λ y. y == x) (z ∷ [])) h in
    go (z == x) refl none.0 (absent (before ++ z ∷ []) ids x none.1 still)
  where
    go : (b : Bool) → (z == x) ≡ b → list_any (λ y. y == z) before ≡ false → list_any (λ y. y == x) ids ≡ false →
        (b || list_any (λ y. y == x) ids) ≡ false
    go true b none rest =
        let is : z ≡ x = grind (arith, nat_tests) in
        let there : list_any (λ y. y == z) before ≡ true =
        subst (λ (n : ℕ). list_any (λ y. y == n) before ≡ true) (sym is) h in
        absurd (let bad : true ≡ false = sym there ∙ none in cc)
    go false b none rest = rest

or_true : (b : Bool) → (b || true) ≡ true
or_true true = refl
or_true false = refl

there : (before : List ℕ) (x : ℕ) → list_any (λ y. y == x) (before ++ x ∷ []) ≡ true
there before x =
    let same : (x == x) ≡ true = grind (arith, nat_tests) in
    list_any-append (λ y. y == x) before (x ∷ [])
    ∙ ap (λ (b : Bool). list_any (λ y. y == x) before || (b || false)) same ∙ or_true (list_any (λ y. y == x) before)

-- the first of some IDs of which none stands earlier already is not among the others
alone : (before : List ℕ) (x : ℕ) (ids : List ℕ) → again_after before (x ∷ ids) ≡ None →
    (list_any (λ y. y == x) ids ≡ false) × (again_after (before ++ x ∷ []) ids ≡ None)
alone before x ids e =
    let none = none_again before x ids e in
    (absent (before ++ x ∷ []) ids x none.1 (there before x), none.1)

abbrev pub InRange : ℕ → ℕ → Type 0
InRange greatest n = (1 ≤ n) × (n ≤ greatest)

-- what is read of IDs one by one so: from 1 to `greatest`, and not among those after it
module _ (greatest : ℕ) (are : List ℕ → Bool) (none : are [] ≡ true)
    (more : (x : ℕ) (ids : List ℕ) →
    are (x ∷ ids) ≡ (nat_le 1 x && nat_le x greatest && not (list_any (λ y. y == x) ids) && are ids)) where
  all_apart : (before ids : List ℕ) → again_after before ids ≡ None → AllByRecursion (InRange greatest) ids →
      are ids ≡ true
  all_apart before [] e h = none
  all_apart before (x ∷ ids) e h =
      let one = alone before x ids e in
      let rest = all_apart (before ++ x ∷ []) ids one.1 h.1 in
      let low : nat_le 1 x ≡ true = (let l = h.0.0 in grind (arith, nat_tests)) in
      let high : nat_le x greatest ≡ true = (let l = h.0.1 in grind (arith, nat_tests)) in
      more x ids ∙ rw (low, high, one.0, rest) refl

pub is_sound_list : (ids : List ℕ) → again_after [] ids ≡ None → AllByRecursion (InRange 111) ids →
    are_sound ids ≡ true
is_sound_list = all_apart 111 are_sound refl (λ x ids. refl) []

pub is_apart_list : (ids : List ℕ) → again_after [] ids ≡ None → AllByRecursion (InRange 126) ids →
    are_apart ids ≡ true
is_apart_list = all_apart 126 are_apart refl (λ x ids. refl) []

-- the search: what is after this place is looked for after what is before it
pub next_again : (before ids : List ℕ) (i x : ℕ) → i < length ids → x ≡ get_or ids i x → (again : Bool) →
    again ≡ list_any (λ y. y == x) before →
    again_after before (drop i ids)
    ≡ (if again then Some x else again_after (before ++ x ∷ []) (drop (i + 1) ids))
next_again before ids i x lt is again among =
    let next : suc i ≡ i + 1 = omega arith in
    let after : ℕ → ℕ → Option ℕ =
    λ z n. if list_any (λ y. y == z) before then Some z else again_after (before ++ z ∷ []) (drop n ids) in
    ap (again_after before) (drop-cons ids i x lt) ∙ ap (λ z. after z (suc i)) (sym is) ∙ ap (after x) next
    ∙ ap (λ (b : Bool). if b then Some x else again_after (before ++ x ∷ []) (drop (i + 1) ids)) (sym among)
