-- What a waited number counts.
use Rattle.std.proofs.Common.{◌≡◌, ℕ, zero, suc, ◌+◌, ◌≤◌, List, [], ◌∷◌, ◌++◌, length, length-append, map, take, Bool}
use Rattle.std.proofs.Common.{true, false, cond, nat_lt, refl, sym, ◌∙◌, ap, subst, arith, Option, None, Some, inl, inr}
use Rattle.std.specs.Prelude.{◌==◌, not}
use Rattle.std.proofs.lemmas.Bool.{cases_eq, eq-eqb, ne_eqb, lt-ltb, ltb-true}
use Rattle.std.proofs.lemmas.List.{length-map, length-take}
use Rattle.trace_funnel.specs.declared.tagged.Tagged.{Tagged}
use Rattle.trace_funnel.specs.Turns.{Place, Found, first_busy, waits, longer, Turned, turn_of, turn}
use Rattle.trace_funnel.specs.Turns.{queue_of, waited_of, put, turns_while, is_full, offer, load, empty}
use Rattle.trace_funnel.specs.Kept.{bytes_for, count, Apart}
use Rattle.trace_funnel.specs.Acts.{Act, Offer, Turn, Drain, act, acts}
use Rattle.trace_funnel.specs.Order.{are_apart}
use Rattle.trace_funnel.proofs.Places.{bytes_append, waits_at, IsFound, found}
use Rattle.trace_funnel.proofs.Turning.{given_all, others, waiting, queue_before, waited_before, waited_after}
use Rattle.trace_funnel.proofs.Turning.{turn_and, stay, turn_keeps, turns_keep}
use Rattle.trace_funnel.proofs.Waiting.{waited_idle}
use Rattle.trace_funnel.proofs.Acting.{apart_empty, bounded_empty, acts_bounded, counts_acts, apart_act, idle_turns}

-- a busy place waits while others give
waits_counts : (id n : ℕ) (a : List Place) → 1 ≤ length (queue_of id a) →
    waited_of id (map (waits n) a) ≡ waited_of id a + n
waits_counts id n [] h = absurd (omega arith)
waits_counts id n (p ∷ a) h =
    ap (λ i. cond (i == id) (waits n p).waited (waited_of id (map (waits n) a))) (waits_at n p).0
    ∙ by (p.id == id) h (waits_counts id n a) where
      busy : 1 ≤ length p.queue → (waits n p).waited ≡ p.waited + n
      busy l =
          ap (λ t. let y : Place = cond t (record { id = p.id; queue = p.queue; waited = p.waited + n }) p in y.waited)
          (lt-ltb 0 (length p.queue) l)

      by : (t : Bool) → 1 ≤ length (cond t p.queue (queue_of id a)) →
          (1 ≤ length (queue_of id a) → waited_of id (map (waits n) a) ≡ waited_of id a + n) →
          cond t (waits n p).waited (waited_of id (map (waits n) a)) ≡ cond t p.waited (waited_of id a) + n
      by true h f = busy h
      by false h f = f h

-- a turn of another place, and of its own
turn_counts : (hold : ℕ) (ps : List Place) (id : ℕ) → 1 ≤ hold → count id ps ≤ 1 → 1 ≤ length (queue_of id ps) →
    bytes_for id (turn hold ps).out ≡ [] →
    waited_of id (turn hold ps).places ≡ waited_of id ps + length (turn hold ps).out
turn_counts hold ps id h few busy = by (first_busy ps) (found ps) where
  by : (o : Option Found) → IsFound ps o → bytes_for id (turn_of hold ps o).out ≡ [] →
      waited_of id (turn_of hold ps o).places ≡ waited_of id ps + length (turn_of hold ps o).out
  by None g none = omega arith
  by (Some f) g none = elim (cases_eq f.place.id id) [
    | inl e ↦ absurd (
        let given = ap length (sym (given_all f.place.id (take hold f.place.queue) id
        ∙ ap (λ t. cond t (take hold f.place.queue) []) (eq-eqb f.place.id id e)) ∙ none) in
        let some = ltb-true 0 (length f.place.queue) g.2 in
        let l = length-take hold f.place.queue in
        omega (arith, some, l, given, h))
    | inr o ↦ (
        let n = length (take hold f.place.queue) in
        let rest = others hold ps f g.0 in
        let t = ne_eqb f.place.id id o in
        let queue = queue_before hold ps f g.0 id few ∙ ap (λ b. cond b f.place.queue (queue_of id rest)) t in
        let before = waited_before hold ps f g.0 id few ∙ ap (λ b. cond b f.place.waited (waited_of id rest)) t in
        waited_after hold ps f g.0 id few ∙ ap (λ b. cond b 0 (waited_of id (waiting hold ps f g.0))) t
        ∙ waits_counts id n rest (subst (λ (l : List ℕ). 1 ≤ length l) queue busy)
        ∙ ap (λ m. m + n) (sym before)
        ∙ ap (λ m. waited_of id ps + m) (sym (length-map (take hold f.place.queue) _)))
  ]

turn_gave : (hold : ℕ) (ps : List Place) (id : ℕ) → count id ps ≤ 1 → (bytes_for id (turn hold ps).out ≡ [] → ⊥) →
    waited_of id (turn hold ps).places ≡ 0
turn_gave hold ps id few = by (first_busy ps) (found ps) where
  by : (o : Option Found) → IsFound ps o → (bytes_for id (turn_of hold ps o).out ≡ [] → ⊥) →
      waited_of id (turn_of hold ps o).places ≡ 0
  by None g some = absurd (some refl)
  by (Some f) g some = elim (cases_eq f.place.id id) [
    | inl e ↦
        waited_after hold ps f g.0 id few
        ∙ ap (λ b. cond b 0 (waited_of id (waiting hold ps f g.0))) (eq-eqb f.place.id id e)
    | inr o ↦ absurd (some (given_all f.place.id (take hold f.place.queue) id
        ∙ ap (λ t. cond t (take hold f.place.queue) []) (ne_eqb f.place.id id o)))
  ]

-- a byte that is put changes no waited number
wait_put : (x id b : ℕ) (ps : List Place) → waited_of x (put id b ps) ≡ waited_of x ps
wait_put x id b [] = refl
wait_put x id b (p ∷ ps) = by (p.id == id) (wait_put x id b ps) where
  by : (t : Bool) → waited_of x (put id b ps) ≡ waited_of x ps → (let q : Place = cond t (longer b p) p in
      cond (q.id == x) q.waited (waited_of x (put id b ps))) ≡ cond (p.id == x) p.waited (waited_of x ps)
  by true e = ap (λ m. cond (p.id == x) p.waited m) e
  by false e = ap (λ m. cond (p.id == x) p.waited m) e

-- of two lists that make none, neither has any
pub none_of_both : (x y : List ℕ) → x ++ y ≡ [] → (x ≡ []) × (y ≡ [])
none_of_both [] y e = (refl, e)
none_of_both (w ∷ x) y e = absurd (cc)

none_both : (id : ℕ) (a b : List Tagged) → bytes_for id (a ++ b) ≡ [] → (bytes_for id a ≡ []) × (bytes_for id b ≡ [])
none_both id a b e = none_of_both (bytes_for id a) (bytes_for id b) (sym (bytes_append id a b) ∙ e)

-- the queue of a place that gives nothing stays
stays : (x : List ℕ) (left queue : List ℕ) → x ++ left ≡ queue → x ≡ [] → left ≡ queue
stays x left queue e none = ap (λ (l : List ℕ). l ++ left) (sym none) ∙ e

turns_counts : (test : List Place → Bool) (hold most : ℕ) (ps : List Place) (id : ℕ) → 1 ≤ hold → Apart ps →
    1 ≤ length (queue_of id ps) → bytes_for id (turns_while test hold most ps).out ≡ [] →
    waited_of id (turns_while test hold most ps).places ≡ waited_of id ps + length (turns_while test hold most ps).out
turns_counts test hold zero ps id h apart busy none = omega arith
turns_counts test hold (suc most) ps id h apart busy none =
    by (test ps) none (turns_counts test hold most (turn hold ps).places id h (turn_keeps hold ps apart).apart) where
      by : (v : Bool) →
          bytes_for id (cond v (turn_and hold ps (turns_while test hold most (turn hold ps).places))
          (stay ps)).out ≡ [] →
          (1 ≤ length (queue_of id (turn hold ps).places) →
          bytes_for id (turns_while test hold most (turn hold ps).places).out ≡ [] →
          waited_of id (turns_while test hold most (turn hold ps).places).places
          ≡ waited_of id (turn hold ps).places + length (turns_while test hold most (turn hold ps).places).out) →
          waited_of id (cond v (turn_and hold ps (turns_while test hold most (turn hold ps).places)) (stay ps)).places
          ≡ waited_of id ps + length (cond v (turn_and hold ps (turns_while test hold most (turn hold ps).places))
          (stay ps)).out
      by false none i = omega arith
      by true none i =
          let u = turns_while test hold most (turn hold ps).places in
          let both = none_both id (turn hold ps).out u.out none in
          let one = turn_counts hold ps id h (apart id) busy both.0 in
          let queue = stays (bytes_for id (turn hold ps).out) (queue_of id (turn hold ps).places) (queue_of id ps)
          ((turn_keeps hold ps apart).all id) both.0 in
          let more = i (subst (λ (l : List ℕ). 1 ≤ length l) (sym queue) busy) both.1 in
          let len = length-append (turn hold ps).out u.out in
          omega (arith, one, more, len)

put_longer : (x id b : ℕ) (ps : List Place) → length (queue_of x ps) ≤ length (queue_of x (put id b ps))
put_longer x id b [] = omega arith
put_longer x id b (p ∷ ps) = by (p.id == id) (put_longer x id b ps) where
  at : (v : Bool) (l m : List ℕ) → length l ≤ length m → length (queue_of x ps) ≤ length (queue_of x (put id b ps)) →
      length (cond v l (queue_of x ps)) ≤ length (cond v m (queue_of x (put id b ps)))
  at true l m h e = h
  at false l m h e = e

  by : (t : Bool) → length (queue_of x ps) ≤ length (queue_of x (put id b ps)) →
      length (cond (p.id == x) p.queue (queue_of x ps)) ≤ (let q : Place = cond t (longer b p) p in
      length (cond (q.id == x) q.queue (queue_of x (put id b ps))))
  by true e = at (p.id == x) p.queue (p.queue ++ b ∷ []) (let l = length-append p.queue (b ∷ []) in omega (arith, l)) e
  by false e = at (p.id == x) p.queue p.queue (omega arith) e

-- the same of each act: the place stays busy, and has waited for what was given
record Counted (ps qs : List Place) (out : List Tagged) (id : ℕ) : Type 0 where
  waited : waited_of id qs ≡ waited_of id ps + length out
  busy : 1 ≤ length (queue_of id qs)

act_counts : (hold depth : ℕ) (ps : List Place) (a : Act) (id : ℕ) → 1 ≤ hold → Apart ps →
    1 ≤ length (queue_of id ps) → bytes_for id (act hold depth ps a).out ≡ [] →
    Counted ps (act hold depth ps a).places (act hold depth ps a).out id
act_counts hold depth ps Turn id h apart busy none = record {
  waited = turn_counts hold ps id h (apart id) busy none;
  busy = subst (λ (l : List ℕ). 1 ≤ length l) (sym (stays (bytes_for id (turn hold ps).out)
      (queue_of id (turn hold ps).places) (queue_of id ps) ((turn_keeps hold ps apart).all id) none)) busy;
}
act_counts hold depth ps Drain id h apart busy none =
    let test : List Place → Bool = λ qs. nat_lt 0 (load qs) in
    let t = turns_while test hold (load ps) ps in
    record {
      waited = turns_counts test hold (load ps) ps id h apart busy none;
      busy = subst (λ (l : List ℕ). 1 ≤ length l) (sym (stays (bytes_for id t.out) (queue_of id t.places)
          (queue_of id ps)
          ((turns_keep test hold (load ps) ps apart).all id) none)) busy;
    }
act_counts hold depth ps (Offer y) id h apart busy none =
    let t = turns_while (is_full depth y.id) hold (length ps) ps in
    record {
      waited =
          wait_put id y.id y.byte t.places
          ∙ turns_counts (is_full depth y.id) hold (length ps) ps id h apart busy none;
      busy =
          let same = ap length (stays (bytes_for id t.out) (queue_of id t.places) (queue_of id ps)
          ((turns_keep (is_full depth y.id) hold (length ps) ps apart).all id) none) in
          let more = put_longer id y.id y.byte t.places in
          omega (arith, same, more, busy);
    }

acts_count : (hold depth : ℕ) (more : List Act) (ps : List Place) (id : ℕ) → 1 ≤ hold → Apart ps →
    1 ≤ length (queue_of id ps) → bytes_for id (acts hold depth ps more).out ≡ [] →
    waited_of id (acts hold depth ps more).places ≡ waited_of id ps + length (acts hold depth ps more).out
acts_count hold depth [] ps id h apart busy none = omega arith
acts_count hold depth (a ∷ more) ps id h apart busy none =
    let t = act hold depth ps a in
    let u = acts hold depth t.places more in
    let both = none_both id t.out u.out none in
    let one = act_counts hold depth ps a id h apart busy both.0 in
    let rest = acts_count hold depth more t.places id h (apart_act hold depth ps a apart) one.busy both.1 in
    let len = length-append t.out u.out in
    let w = one.waited in
    omega (arith, w, rest, len)

-- after whatever a funnel did
module _ (hold depth : ℕ) (ids : List ℕ) (done : List Act) (apart : are_apart ids ≡ true) where
  abbrev now : List Place
  now = (acts hold depth (empty ids) done).places

  apart_now : Apart now
  apart_now x =
      let e = counts_acts hold depth done (empty ids) x in let h = apart_empty ids apart x in omega (arith, e, h)

  pub waited_counts : (more : List Act) (id : ℕ) → 1 ≤ hold → 1 ≤ length (queue_of id now) →
      bytes_for id (acts hold depth now more).out ≡ [] →
      waited_of id (acts hold depth now more).places ≡ waited_of id now + length (acts hold depth now more).out
  waited_counts more id h busy none = acts_count hold depth more now id h apart_now busy none

  pub waited_gave : (id : ℕ) → (bytes_for id (turn hold now).out ≡ [] → ⊥) → waited_of id (turn hold now).places ≡ 0
  waited_gave id some = turn_gave hold now id (apart_now id) some

  pub waited_came : (id byte : ℕ) → 1 ≤ depth → queue_of id now ≡ [] →
      waited_of id (offer hold depth now id byte).places ≡ 0
  waited_came id byte d none =
      let idle = idle_turns (is_full depth id) hold (length now) now (ap (λ (l : List ℕ). not (nat_lt
      (length l) depth)) none
      ∙ ap not (lt-ltb 0 depth d)) in
      wait_put id id byte (turns_while (is_full depth id) hold (length now) now).places
      ∙ ap (λ (t : Turned). waited_of id t.places) idle
      ∙ waited_idle hold id now (acts_bounded hold depth done (empty ids) (bounded_empty hold ids)) none
