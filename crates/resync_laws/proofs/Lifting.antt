-- A source that can resume still can where its packets are some of a greater type.
use Rattle.std.proofs.Common.{◌≡◌, ℕ, List, [], ◌∷◌, ◌++◌, map, refl, sym, ◌∙◌, ap, Bool, true, false, cond, Option}
use Rattle.resync_laws.specs.Names.{Place, Stream, Said, Notice, Kept, items_of}
use Rattle.resync_laws.specs.Names.{from_point, is_from, later_place, later_stream, said_as, given_as, stream_as}
use Rattle.source_events.proofs.Lawful.{lawful_as}
use Rattle.resync_laws.proofs.LiftTerms.{resumed_as}
use Rattle.resync_laws.specs.Resumed.{Resumed, CanResume}

module _ {V W : Type 0} (f : V → W) where
  items_as : (xs : List (Said V × Place)) → items_of (given_as f xs) ≡ given_as f (items_of xs)
  items_as [] = refl
  items_as ((Notice n, at) ∷ xs) = items_as xs
  items_as ((Kept v, at) ∷ xs) = ap (λ (l : List (Said W × Place)). (Kept (f v), at) ∷ l) (items_as xs)

  from_as : (o : Option Place) (xs : List (Said V × Place)) → from_point o (given_as f xs) ≡ given_as f (from_point o xs)
  from_as o [] = refl
  from_as o (x ∷ xs) = by (is_from o x.1) (from_as o xs) where
    by : (b : Bool) → from_point o (given_as f xs) ≡ given_as f (from_point o xs) → cond b ((said_as f x.0, x.1) ∷ from_point o (given_as f xs)) (from_point o (given_as f xs)) ≡ given_as f (cond b (x ∷ from_point o xs) (from_point o xs))
    by true k = ap (λ (l : List (Said W × Place)). (said_as f x.0, x.1) ∷ l) k
    by false k = k

  later_as : (c : ℕ) (g : List (Said V × Place)) → given_as f (map (λ x. (x.0, later_place c x.1)) g) ≡ map (λ x. (x.0, later_place c x.1)) (given_as f g)
  later_as c [] = refl
  later_as c (x ∷ g) = ap (λ (l : List (Said W × Place)). (said_as f x.0, later_place c x.1) ∷ l) (later_as c g)

  pub can_as : {K L : Type 0} (kind : K → L) (point : Stream W → Option Place) (p : Resumed K V) → ((s : Stream V) → point (stream_as f s) ≡ p.point s) → CanResume p → CanResume (resumed_as kind f point p)
  can_as kind point p same can = record {
    whole_lawful = lawful_as f (λ u. p.whole (p.units u)) can.whole_lawful;
    rest_lawful = lawful_as f (λ u. p.rest (p.units u)) can.rest_lawful;
    append = can.append;
    rising = can.rising;
    shifts = can.shifts;
    follows = λ u w z rising sound.
        ap (λ (o : Option Place). from_point o (items_of (given_as f (p.rest w).given))) (same (p.rest (w ++ z)))
        ∙ ap (from_point (p.point (p.rest (w ++ z)))) (items_as (p.rest w).given) ∙ from_as (p.point (p.rest (w ++ z))) (items_of (p.rest w).given)
        ∙ ap (given_as f) (can.follows u w z rising sound)
        ∙ sym (ap (λ (o : Option Place). from_point o (items_of (given_as f (p.whole (u ++ w)).given))) (same (p.rest (w ++ z)))
        ∙ ap (from_point (p.point (p.rest (w ++ z)))) (items_as (p.whole (u ++ w)).given) ∙ from_as (p.point (p.rest (w ++ z))) (items_of (p.whole (u ++ w)).given));
    stays_sound = can.stays_sound;
    tail = can.tail;
    moves = λ c u. ap (stream_as f) (can.moves c u) ∙ ap (λ (l : List (Said W × Place)). record (later_stream c (stream_as f (p.rest u))) { given = l }) (later_as c (p.rest u).given);
  }
