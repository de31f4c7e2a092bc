-- How many bytes wait in a funnel.
use Rattle.std.proofs.Common.{◌≡◌, ℕ, zero, suc, ◌+◌, ◌*◌, ◌≤◌, List, [], ◌∷◌, ◌++◌, length, length-append, map, take}
use Rattle.std.proofs.Common.{drop, Bool, true, false, cond, refl, ◌∙◌, ap, subst, arith, suc-mul, Option, None, Some}
use Rattle.std.specs.Prelude.{◌==◌}
use Rattle.std.proofs.lemmas.List.{take-append-drop, length-map}
use Rattle.trace_funnel.specs.declared.funnel.Funnel.TheInside.{Inside}
use Rattle.trace_funnel.specs.declared.tagged.Tagged.{Tagged}
use Rattle.trace_funnel.specs.Turns.{Place, Found, first_busy, waits, served, longer, tagged, Turned, turn_of}
use Rattle.trace_funnel.specs.Turns.{turn, turns_while, put, is_full, load, empty}
use Rattle.trace_funnel.specs.Kept.{count}
use Rattle.trace_funnel.specs.State.{State, with_places, id_at, HasPlace}
use Rattle.trace_funnel.specs.Queues.{place_of, places_of}
use Rattle.trace_funnel.specs.Inside.{state_of, IsWhole}
use Rattle.trace_funnel.proofs.Places.{IsFound, found}
use Rattle.trace_funnel.proofs.Turning.{turn_and, stay}
use Rattle.trace_funnel.proofs.Emptying.{load_append, load_waits}
use Rattle.trace_funnel.proofs.Shortness.{AreShort}
use Rattle.trace_funnel.proofs.Offering.{Offering, offering_all}

tagged_len : (id : ℕ) (l : List ℕ) → length (tagged id l) ≡ length l
tagged_len id [] = refl
tagged_len id (b ∷ l) = let e = tagged_len id l in omega (arith, e)

-- what a turn gives no longer waits
pub turn_load : (hold : ℕ) (ps : List Place) → length (turn hold ps).out + load (turn hold ps).places ≡ load ps
turn_load hold ps = by (first_busy ps) (found ps) where
  by : (o : Option Found) → IsFound ps o → length (turn_of hold ps o).out + load (turn_of hold ps o).places ≡ load ps
  by None f = omega arith
  by (Some v) f =
      let n = length (take hold v.place.queue) in
      let a = load_append (map (waits n) v.behind) (map (waits n) v.before ++ served hold v.place ∷ []) in
      let b = load_append (map (waits n) v.before) (served hold v.place ∷ []) in
      let c = load_waits n v.behind in
      let d = load_waits n v.before in
      let e = ap load f.0 in
      let g = load_append v.before (v.place ∷ v.behind) in
      let s = ap length (take-append-drop hold v.place.queue) in
      let t = length-append (take hold v.place.queue) (drop hold v.place.queue) in
      let u = tagged_len v.place.id (take hold v.place.queue) in
      omega (arith, a, b, c, d, e, g, s, t, u)

pub turns_load : (test : List Place → Bool) (hold most : ℕ) (ps : List Place) →
    length (turns_while test hold most ps).out + load (turns_while test hold most ps).places ≡ load ps
turns_load test hold zero ps = omega arith
turns_load test hold (suc most) ps =
    by (test ps) (turn_load hold ps) (turns_load test hold most (turn hold ps).places) where
      rest : Turned
      rest = turns_while test hold most (turn hold ps).places

      by : (t : Bool) → length (turn hold ps).out + load (turn hold ps).places ≡ load ps →
          length rest.out + load rest.places ≡ load (turn hold ps).places →
          length (cond t (turn_and hold ps rest) (stay ps)).out + load (cond t (turn_and hold ps rest) (stay ps)).places
          ≡ load ps
      by true one more = let a = length-append (turn hold ps).out rest.out in omega (arith, one, more, a)
      by false one more = omega arith

-- a byte that is put waits
pub put_load : (id byte : ℕ) (ps : List Place) → load (put id byte ps) ≡ load ps + count id ps
put_load id byte [] = omega arith
put_load id byte (p ∷ ps) = by (p.id == id) (put_load id byte ps) where
  by : (t : Bool) → load (put id byte ps) ≡ load ps + count id ps →
      (let q : Place = cond t (longer byte p) p in length q.queue + load (put id byte ps))
      ≡ length p.queue + load ps + cond t (count id ps + 1) (count id ps)
  by true e = let a = length-append p.queue (byte ∷ []) in omega (arith, e, a)
  by false e = omega (arith, e)

-- so an offer gives what no longer waits, and one more waits
pub offer_load : (f g h : State) (place byte : ℕ) (out : List Tagged) → Offering f g place out → HasPlace g place →
    is_full g.depth (id_at g place) g.places ≡ false → h ≡ with_places g (put (id_at g place) byte g.places) →
    length out + load h.places ≡ load f.places + 1
offer_load f g h place byte out o has room is =
    let made = offering_all f g place out o room in
    let a = turns_load (is_full f.depth (id_at f place)) f.hold (length f.places) f.places in
    let b = ap (λ (t : Turned). length t.out + load t.places) made in
    let c = put_load (id_at g place) byte g.places in
    let d = ap (λ (s : State). load s.places) is in
    let one = has.one in
    omega (arith, a, b, c, d, one)

pub empty_load : (ids : List ℕ) → load (empty ids) ≡ 0
empty_load [] = refl
empty_load (x ∷ ids) = let e = empty_load ids in omega (arith, e)

-- no more wait than the queues may have
short_load : (depth : ℕ) (ps : List Place) → AreShort depth ps → load ps ≤ length ps * depth
short_load depth [] short = omega arith
short_load depth (p ∷ ps) short =
    let one = short.0 in
    let more = short_load depth ps short.1 in
    let all : length (p ∷ ps) * depth ≡ length ps * depth + depth = suc-mul (length ps) depth in
    omega (arith, one, more, all)

pub few_wait : (f : Inside) → IsWhole f →
    load (state_of f).places ≤ length (state_of f).order * (state_of f).depth
few_wait f whole =
    let ps = places_of f.queues.items in
    subst (λ n. load ps ≤ n * f.depth) (length-map f.queues.items place_of ∙ whole.many)
    (short_load f.depth ps whole.short)
