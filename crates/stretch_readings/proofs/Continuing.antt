-- A reading that goes on at the unit after a fault: one more unit, or two.
use Rattle.std.proofs.Common.{◌≡◌, ℕ, ◌-◌, List, [], ◌∷◌, ◌++◌, length, drop, ◌∙◌, ap, arith, append_assoc}
use Rattle.std.proofs.Common.{None, Some, Bool, false}
use Rattle.std.proofs.Math.Seq.{drop-length}
use Rattle.trace_values.specs.declared.fault.Reason.{Reason}
use Rattle.trace_values.specs.Placed.{Place, Placed}
use Rattle.trace_values.specs.Stream.{Stream}
use Rattle.stretch_readings.specs.Stretches.{One, Stretches, fed, fed_from, resumed_by}
use Rattle.stretch_readings.specs.Guessing.{at_next}
use Rattle.stretch_readings.proofs.Feeding.{longer}

module _ {V : Type 0} (reads : Bool → List Placed → Stream V) where
  -- a stretch that ends with these units, the last of which is a fault, and the next one
  abbrev pub broken_off : Stretches → List Placed → List Placed → Stretches
  broken_off r w next = record {
    past = r.past ++ (longer reads r w).now ∷ [];
    now = record { hunts = false; count = (reads r.now.hunts (r.now.units ++ w)).held - 0; units = next };
  }

  pub next_goes : (r : Stretches) (b : Placed) → (reads r.now.hunts (r.now.units ++ b ∷ [])).fault ≡ None →
      fed reads at_next r (One b) ≡ longer reads r (b ∷ [])
  next_goes r b e = ap (λ o. resumed_by reads at_next o (longer reads r (b ∷ []))) e

  none_again : (u : List Placed) → drop (length u - 0) u ≡ []
  none_again u = ap (λ (n : ℕ). drop n u) (let e : length u - 0 ≡ length u = omega arith in e) ∙ drop-length u

  pub next_falls : (r : Stretches) (b : Placed) (f : Place × Reason) →
      (reads r.now.hunts (r.now.units ++ b ∷ [])).fault ≡ Some f →
      fed reads at_next r (One b) ≡ broken_off r (b ∷ []) []
  next_falls r b f e = ap (λ o. resumed_by reads at_next o (longer reads r (b ∷ []))) e
      ∙ ap (λ w. broken_off r (b ∷ []) w) (none_again (r.now.units ++ b ∷ []))

  module _ (r : Stretches) (a b : Placed) where
    in_one : (r.now.units ++ a ∷ []) ++ b ∷ [] ≡ r.now.units ++ (a ∷ (b ∷ []))
    in_one = append_assoc r.now.units (a ∷ []) (b ∷ [])

    pub next_two_go : (reads r.now.hunts (r.now.units ++ a ∷ [])).fault ≡ None →
        (reads r.now.hunts (r.now.units ++ (a ∷ (b ∷ [])))).fault ≡ None →
        fed_from reads at_next r (One a ∷ (One b ∷ [])) ≡ longer reads r (a ∷ (b ∷ []))
    next_two_go e f =
        ap (λ x. fed reads at_next x (One b)) (next_goes r a e)
        ∙ next_goes (longer reads r (a ∷ [])) b (ap (λ w. (reads r.now.hunts w).fault) in_one ∙ f)
        ∙ ap (λ w. record { past = r.past; now = record { hunts = r.now.hunts; count = r.now.count; units = w } })
        in_one

    pub next_second_falls : (f : Place × Reason) → (reads r.now.hunts (r.now.units ++ a ∷ [])).fault ≡ None →
        (reads r.now.hunts (r.now.units ++ (a ∷ (b ∷ [])))).fault ≡ Some f →
        fed_from reads at_next r (One a ∷ (One b ∷ [])) ≡ broken_off r (a ∷ (b ∷ [])) []
    next_second_falls f e k =
        ap (λ x. fed reads at_next x (One b)) (next_goes r a e)
        ∙ next_falls (longer reads r (a ∷ [])) b f (ap (λ w. (reads r.now.hunts w).fault) in_one ∙ k)
        ∙ ap (λ w. record {
          past = r.past ++ record { hunts = r.now.hunts; count = r.now.count; units = w } ∷ [];
          now = record { hunts = false; count = (reads r.now.hunts w).held - 0; units = [] };
        }) in_one

    pub next_first_falls : (f : Place × Reason) → (reads r.now.hunts (r.now.units ++ a ∷ [])).fault ≡ Some f →
        (reads false (b ∷ [])).fault ≡ None →
        fed_from reads at_next r (One a ∷ (One b ∷ [])) ≡ broken_off r (a ∷ []) (b ∷ [])
    next_first_falls f e k = ap (λ x. fed reads at_next x (One b)) (next_falls r a f e)
        ∙ next_goes (broken_off r (a ∷ []) []) b k
