-- The first queue that has bytes.
use Rattle.std.proofs.Common.{◌≡◌, ℕ, suc, ◌+◌, ◌<◌, ◌≤◌, List, [], ◌∷◌, ◌++◌, length, Bool, true, false, cond, nat_lt}
use Rattle.std.proofs.Common.{refl, ◌∙◌, ap, subst, arith, None, Some}
use Rattle.std.specs.Prelude.{not, position}
use Rattle.std.specs.List.{prefix_len}
use Rattle.std.proofs.lemmas.Bool.{ltb-true, ltb-false}
use Rattle.trace_funnel.specs.declared.queue.Queue.{Queue}
use Rattle.trace_funnel.specs.Turns.{Place, is_busy, found_on, first_busy}
use Rattle.trace_funnel.specs.Queues.{place_of, places_of}

-- the place of this number is the first that has bytes
pub record IsFirst (ps : List Place) (at : ℕ) : Type 0 where
  pub front : List Place
  pub place : Place
  pub back : List Place
  pub parts : ps ≡ front ++ (place ∷ back)
  pub number : length front ≡ at
  pub found : first_busy ps ≡ Some (record { before = front; place = place; behind = back })

abbrev test : Queue → Bool
test q = is_busy (place_of q)

abbrev idle_len : List Queue → ℕ
idle_len qs = prefix_len (λ q. not (test q)) qs

first_at : (qs : List Queue) → idle_len qs < length qs → IsFirst (places_of qs) (idle_len qs)
first_at [] h = absurd (omega arith)
first_at (q ∷ qs) h = by (test q) refl h (first_at qs) where
  by : (t : Bool) → test q ≡ t → cond (not t) (1 + idle_len qs) 0 < suc (length qs) →
      (idle_len qs < length qs → IsFirst (places_of qs) (idle_len qs)) →
      IsFirst (places_of (q ∷ qs)) (cond (not t) (1 + idle_len qs) 0)
  by true e h f = record {
    front = [];
    place = place_of q;
    back = places_of qs;
    parts = refl;
    number = refl;
    found = ap (λ t. found_on t (place_of q) (places_of qs) (first_busy (places_of qs))) e;
  }
  by false e h f = let i = f (omega (arith, h)) in record {
    front = place_of q ∷ i.front;
    place = i.place;
    back = i.back;
    parts = ap (λ l. place_of q ∷ l) i.parts;
    number = let n = i.number in omega (arith, n);
    found =
        ap (λ t. found_on t (place_of q) (places_of qs) (first_busy (places_of qs))) e
        ∙ ap (found_on false (place_of q) (places_of qs)) i.found;
  }

none_busy : (qs : List Queue) → length qs ≤ idle_len qs → first_busy (places_of qs) ≡ None
none_busy [] h = refl
none_busy (q ∷ qs) h = by (test q) refl h (none_busy qs) where
  by : (t : Bool) → test q ≡ t → suc (length qs) ≤ cond (not t) (1 + idle_len qs) 0 →
      (length qs ≤ idle_len qs → first_busy (places_of qs) ≡ None) → first_busy (places_of (q ∷ qs)) ≡ None
  by true e h f = absurd (omega (arith, h))
  by false e h f =
      ap (λ t. found_on t (place_of q) (places_of qs) (first_busy (places_of qs))) e
      ∙ ap (found_on false (place_of q) (places_of qs)) (f (omega (arith, h)))

pub position_first : (qs : List Queue) (i : ℕ) → Some i ≡ position (λ q. is_busy (place_of q)) qs →
    IsFirst (places_of qs) i
position_first qs i e = by (nat_lt (idle_len qs) (length qs)) refl e where
  by : (t : Bool) → nat_lt (idle_len qs) (length qs) ≡ t → Some i ≡ cond t (Some (idle_len qs)) None →
      IsFirst (places_of qs) i
  by true l e =
      let same : idle_len qs ≡ i = (cc) in
      subst (IsFirst (places_of qs)) same (first_at qs (ltb-true (idle_len qs) (length qs) l))
  by false l e = absurd (cc)

pub position_none : (qs : List Queue) → None ≡ position (λ q. is_busy (place_of q)) qs →
    first_busy (places_of qs) ≡ None
position_none qs e = by (nat_lt (idle_len qs) (length qs)) refl e where
  by : (t : Bool) → nat_lt (idle_len qs) (length qs) ≡ t → None ≡ cond t (Some (idle_len qs)) None →
      first_busy (places_of qs) ≡ None
  by true l e = absurd (cc)
  by false l e = none_busy qs (ltb-false (idle_len qs) (length qs) l)
