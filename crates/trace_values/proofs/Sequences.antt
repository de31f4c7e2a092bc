-- Units that spell values one after the other are read as these values.
use Rattle.std.proofs.Common.{◌≡◌, ℕ, List, [], ◌∷◌, ◌++◌, refl, sym, ◌∙◌, ap, None, map, append_assoc, append-nil}
use Rattle.std.specs.Prelude.{flat_map}
use Rattle.trace_values.specs.declared.next.Next.{Next}
use Rattle.trace_values.specs.Placed.{Place, Placed, units_of}
use Rattle.trace_values.specs.Reading.{Progress, progress_from}
use Rattle.trace_values.specs.Walk.{Whole, by_unit, walk}
use Rattle.trace_values.proofs.Placing.{parts_of, walk_units}
use Rattle.trace_values.proofs.Standings.{from_append}
use Rattle.trace_values.proofs.Wholes.{whole_reads}

-- a list that is not empty has a last element
last_of : (p : Placed) (u : List Placed) → (w : List Placed) × (l : Placed) × (p ∷ u ≡ w ++ l ∷ [])
last_of p [] = ([], p, refl)
last_of p (q ∷ u) = let more = last_of q u in (p ∷ more.0, more.1, ap (λ (l : List Placed). p ∷ l) more.2)

module _ {S V : Type 0} (rule : S → ℕ → Next S V) (start : S) (spelled : V → List ℕ) where
  abbrev pub plain : List (V × Place) → Progress S V
  plain items = record { items = items; rest = []; fault = None; state = start }

  abbrev read : List (V × Place) → List Placed → Progress S V
  read items u = progress_from (by_unit rule) start (plain items) u

  one_reads : (v : V) → walk rule start (spelled v) ≡ Whole v → (u : List Placed) → units_of u ≡ spelled v → (items : List (V × Place)) →
      (place : Place) × (read items u ≡ plain (items ++ (v, place) ∷ []))
  one_reads v h [] e items = (let w : walk rule start [] ≡ Whole v = ap (λ (r : List ℕ). walk rule start r) e ∙ h in absurd cc)
  one_reads v h (q ∷ u) e items =
      let parts = last_of q u in
      let w : walk (by_unit rule) start (parts.0 ++ parts.1 ∷ []) ≡ Whole v =
      ap (λ (w : List Placed). walk (by_unit rule) start w) (sym parts.2) ∙ walk_units rule start (q ∷ u) ∙ ap (λ (r : List ℕ). walk rule start r) e ∙ h in
      (parts.1.place, ap (read items) parts.2 ∙ whole_reads (by_unit rule) start parts.0 parts.1 items [] start v w)

  -- where each of them is walked to
  module _ (AreSuch : List V → Type 0) (walks : (v : V) (vs : List V) → AreSuch (v ∷ vs) → (walk rule start (spelled v) ≡ Whole v) × AreSuch vs) where
    pub all_read : (vs : List V) → AreSuch vs → (u : List Placed) → units_of u ≡ flat_map spelled vs → (items : List (V × Place)) →
        (more : List (V × Place)) × (map (λ (x : V × Place). x.0) more ≡ vs) × (read items u ≡ plain (items ++ more))
    all_read [] h [] e items = ([], refl, ap plain (sym (append-nil items)))
    all_read [] h (q ∷ u) e items = absurd cc
    all_read (v ∷ vs) h u e items =
        let k = walks v vs h in
        let parts = parts_of u (spelled v) (flat_map spelled vs) e in
        let one = one_reads v k.0 parts.0 parts.3 items in
        let rest = all_read vs k.1 parts.1 parts.4 (items ++ (v, one.0) ∷ []) in (
          (v, one.0) ∷ rest.0,
          ap (λ (l : List V). v ∷ l) rest.1,
          ap (read items) parts.2 ∙ from_append (by_unit rule) start parts.0 parts.1 (plain items)
              ∙ ap (λ (p : Progress S V). progress_from (by_unit rule) start p parts.1) one.1 ∙ rest.2
              ∙ ap plain (append_assoc items ((v, one.0) ∷ []) rest.0),
        )
