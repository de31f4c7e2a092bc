-- A turn of the queues.
use Rattle.std.proofs.Common.{◌≡◌, ℕ, ◌+◌, List, [], ◌∷◌, ◌++◌, length, map, take, drop, sym, ◌∙◌, ap, subst, arith}
use Rattle.std.proofs.Common.{Some, append_assoc, length-append}
use Rattle.std.specs.List.{AllByRecursion}
use Rattle.std.proofs.lemmas.List.{map-append, take_at, drop_at, length-map, take-map, drop-map, take-append-drop}
use Rattle.trace_funnel.specs.declared.tagged.Tagged.{Tagged}
use Rattle.trace_funnel.specs.declared.queue.Queue.{Queue}
use Rattle.trace_funnel.specs.Turns.{Place, Turned, waits, served, given, turn_of, turn}
use Rattle.trace_funnel.specs.Queues.{place_of, places_of, room_of, rooms_of, HaveRoom, after_turn}
use Rattle.trace_funnel.proofs.Finding.{IsFirst}
use Rattle.trace_funnel.proofs.Shortness.{joined, parted}

-- what is behind a place comes first, and it and what was before it then
turned : (hold at : ℕ) (front back : List Place) (p : Place) → length front ≡ at →
    (let ps = after_turn hold front p back in let n = length (take hold p.queue) in
    drop (at + 1) ps ++ take (at + 1) ps ≡ map (waits n) back ++ (map (waits n) front ++ served hold p ∷ []))
turned hold at front back p e =
    let n = length (take hold p.queue) in
    let before = map (waits n) front ++ served hold p ∷ [] in
    let behind = map (waits n) back in
    let long : length before ≡ at + 1 =
    (let a = length-append (map (waits n) front) (served hold p ∷ []) in let b = length-map front (waits n) in
    omega (arith, a, b, e)) in
    let parts : before ++ behind ≡ after_turn hold front p back =
    append_assoc (map (waits n) front) (served hold p ∷ []) behind in
    ap (λ (l : List Place). drop (at + 1) l ++ take (at + 1) l) (sym parts)
    ∙ ap (λ (l : List Place). l ++ take (at + 1) (before ++ behind)) (drop_at before behind (at + 1) long)
    ∙ ap (λ (l : List Place). behind ++ l) (take_at before behind (at + 1) long)

-- the first that has bytes was served, and the queues went round
module _ (hold at : ℕ) (old mid new : List Queue) (first : IsFirst (places_of old) at)
    (after : (front back : List Place) (p : Place) → places_of old ≡ front ++ (p ∷ back) → length front ≡ at →
    places_of mid ≡ after_turn hold front p back) (is : new ≡ drop (at + 1) mid ++ take (at + 1) mid) where
  turn_is : turn hold (places_of old)
      ≡ turn_of hold (places_of old) (Some (record { before = first.front; place = first.place; behind = first.back }))
  turn_is = ap (turn_of hold (places_of old)) first.found

  pub places_turn : places_of new ≡ (turn hold (places_of old)).places
  places_turn =
      ap places_of is ∙ map-append place_of (drop (at + 1) mid) (take (at + 1) mid)
      ∙ ap (λ (l : List Place). l ++ places_of (take (at + 1) mid)) (sym (drop-map place_of (at + 1) mid))
      ∙ ap (λ (l : List Place). drop (at + 1) (places_of mid) ++ l) (sym (take-map place_of (at + 1) mid))
      ∙ ap (λ (l : List Place). drop (at + 1) l ++ take (at + 1) l)
      (after first.front first.back first.place first.parts first.number)
      ∙ turned hold at first.front first.back first.place first.number ∙ ap (λ (t : Turned). t.places) (sym turn_is)

  pub given_turn : (before out : List Tagged) → ((front back : List Place) (p : Place) →
      places_of old ≡ front ++ (p ∷ back) → length front ≡ at → out ≡ before ++ given hold p) →
      out ≡ before ++ (turn hold (places_of old)).out
  given_turn before out gave =
      gave first.front first.back first.place first.parts first.number
      ∙ ap (λ (t : Turned). before ++ t.out) (sym turn_is)

  pub rooms_turn : (depth : ℕ) → rooms_of mid ≡ rooms_of old → HaveRoom depth old → HaveRoom depth new
  rooms_turn depth same rooms =
      let P : ℕ → Type 0 = λ room. room ≡ depth in
      let all = parted P (rooms_of (take (at + 1) mid)) (rooms_of (drop (at + 1) mid))
      (subst (λ (l : List ℕ). AllByRecursion P l) (sym same ∙ ap rooms_of (sym (take-append-drop (at + 1) mid))
      ∙ map-append room_of (take (at + 1) mid) (drop (at + 1) mid)) rooms) in
      subst (λ (l : List ℕ). AllByRecursion P l)
      (sym (ap rooms_of is ∙ map-append room_of (drop (at + 1) mid) (take (at + 1) mid)))
      (joined P (rooms_of (drop (at + 1) mid)) (rooms_of (take (at + 1) mid)) all.1 all.0)
