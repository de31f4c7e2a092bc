-- A queue of a place stands between others: what a change of it is to all of them.
use Rattle.std.proofs.Common.{◌≡◌, ℕ, ◌+◌, ◌<◌, List, [], ◌∷◌, ◌++◌, length, map, take, drop, min}
use Rattle.std.proofs.Common.{refl, sym, ◌∙◌, ap, arith, get_or, set}
use Rattle.std.proofs.lemmas.List.{take-append-drop, length-take, length-take-le, drop_more, drop-set, take-set}
use Rattle.std.proofs.lemmas.List.{map-append, length-map}
use Rattle.trace_funnel.specs.declared.queue.Queue.{Queue}
use Rattle.trace_funnel.specs.Turns.{Place, waits, served, given, tagged}
use Rattle.trace_funnel.specs.Queues.{place_of, places_of, after_turn}
use Rattle.trace_funnel.proofs.Places.{waits_at}

module _ {B : Type 0} (f : Queue → B) (qs : List Queue) (place : ℕ) (h : place < length qs) where
  abbrev pub front_of : List B
  front_of = map f (take place qs)

  abbrev pub back_of : List B
  back_of = map f (drop (place + 1) qs)

  pub map_split : (q : Queue) → q ≡ get_or qs place q → map f qs ≡ front_of ++ (f q ∷ back_of)
  map_split q e =
      ap (map f) (sym (take-append-drop place qs)
      ∙ ap (λ (l : List Queue). take place qs ++ l) (drop_more qs place q h
      ∙ ap (λ y. y ∷ drop (place + 1) qs) (sym e)))
      ∙ map-append f (take place qs) (q ∷ drop (place + 1) qs)

  pub map_set : (q : Queue) → map f (set qs place q) ≡ front_of ++ (f q ∷ back_of)
  map_set q =
      ap (map f) (sym (take-append-drop place (set qs place q))
      ∙ ap (λ (l : List Queue). l ++ drop place (set qs place q)) (take-set qs place q)
      ∙ ap (λ (l : List Queue). take place qs ++ l) (drop-set qs place q h))
      ∙ map-append f (take place qs) (q ∷ drop (place + 1) qs)

  pub front_number : length front_of ≡ place
  front_number = length-map (take place qs) f ∙ length-take-le place qs (omega (arith, h))

-- a list is in two ways what stands before a place, the place, and what stands behind it
pub record SameParts {A : Type 0} (a : List A) (x : A) (b c : List A) (y : A) (d : List A) : Type 0 where
  pub front : a ≡ c
  pub here : x ≡ y
  pub back : b ≡ d

pub same_parts : {A : Type 0} (a : List A) (x : A) (b c : List A) (y : A) (d : List A) →
    a ++ (x ∷ b) ≡ c ++ (y ∷ d) → length a ≡ length c → SameParts a x b c y d
same_parts [] x b [] y d e l = record { front = refl; here = (cc); back = (cc) }
same_parts [] x b (w ∷ c) y d e l = absurd (omega arith)
same_parts (z ∷ a) x b [] y d e l = absurd (omega arith)
same_parts (z ∷ a) x b (w ∷ c) y d e l =
    let tail : a ++ (x ∷ b) ≡ c ++ (y ∷ d) = (cc) in
    let head : z ≡ w = (cc) in
    let rest = same_parts a x b c y d tail (omega (arith, l)) in
    record { front = ap (λ t. z ∷ t) rest.front ∙ ap (λ t. t ∷ c) head; here = rest.here; back = rest.back }

-- what waited gives what it would have given, and is then as it would have been
served_waits : (hold n : ℕ) (p : Place) → served hold (waits n p) ≡ served hold p
served_waits hold n p =
    ap (λ id. let y : Place = record { id = id; queue = drop hold (waits n p).queue; waited = 0 } in y) (waits_at n p).0
    ∙ ap (λ q. let y : Place = record { id = p.id; queue = drop hold q; waited = 0 } in y) (waits_at n p).1

given_waits : (hold n : ℕ) (p : Place) → given hold (waits n p) ≡ given hold p
given_waits hold n p =
    ap (λ id. tagged id (take hold (waits n p).queue)) (waits_at n p).0
    ∙ ap (λ q. tagged p.id (take hold q)) (waits_at n p).1

-- a queue gives while all wait
module _ (old new : List Queue) (q r : Queue) (place hold n : ℕ) (h : place < length old) (k : place < length new)
    (was : q ≡ get_or old place q) (is : r ≡ get_or new place r) (count : n ≡ min hold (length q.bytes.items))
    (all : places_of new ≡ map (λ y. waits n y) (places_of old)) (front back : List Place) (p : Place)
    (parts : places_of old ≡ front ++ (p ∷ back)) (number : length front ≡ place) where
  was_parts : SameParts (front_of place_of old place h) (place_of q) (back_of place_of old place h) front p back
  was_parts =
      same_parts (front_of place_of old place h) (place_of q) (back_of place_of old place h) front p back
      (sym (map_split place_of old place h q was) ∙ parts) (front_number place_of old place h ∙ sym number)

  count_is : n ≡ length (take hold p.queue)
  count_is =
      count ∙ sym (length-take hold q.bytes.items)
      ∙ ap (λ (y : Place). length (take hold y.queue)) was_parts.here

  waited_parts : SameParts (front_of place_of new place k) (place_of r) (back_of place_of new place k)
      (map (λ y. waits n y) front) (waits n p) (map (λ y. waits n y) back)
  waited_parts =
      same_parts (front_of place_of new place k) (place_of r) (back_of place_of new place k)
      (map (λ y. waits n y) front) (waits n p) (map (λ y. waits n y) back)
      (sym (map_split place_of new place k r is) ∙ all ∙ ap (map (λ y. waits n y)) parts
      ∙ map-append (λ y. waits n y) front (p ∷ back))
      (front_number place_of new place k ∙ sym number ∙ sym (length-map front (λ y. waits n y)))

  pub gives : given hold (place_of r) ≡ given hold p
  gives = ap (given hold) waited_parts.here ∙ given_waits hold n p

  pub serves : (s : Queue) → place_of s ≡ served hold (place_of r) →
      places_of (set new place s) ≡ after_turn hold front p back
  serves s e =
      map_set place_of new place k s
      ∙ ap (λ l. l ++ (place_of s ∷ back_of place_of new place k)) waited_parts.front
      ∙ ap (λ l. map (λ y. waits n y) front ++ (place_of s ∷ l)) waited_parts.back
      ∙ ap (λ y. map (λ y. waits n y) front ++ (y ∷ map (λ y. waits n y) back))
      (e ∙ ap (served hold) waited_parts.here ∙ served_waits hold n p)
      ∙ ap (λ m. map (λ y. waits m y) front ++ (served hold p ∷ map (λ y. waits m y) back)) count_is

-- a queue of which only that changes keeps the others
pub map_same : {B : Type 0} (f : Queue → B) (qs : List Queue) (place : ℕ) (q s : Queue) → place < length qs →
    q ≡ get_or qs place q → f s ≡ f q → map f (set qs place s) ≡ map f qs
map_same f qs place q s h e same =
    map_set f qs place h s ∙ ap (λ y. front_of f qs place h ++ (y ∷ back_of f qs place h)) same
    ∙ sym (map_split f qs place h q e)
