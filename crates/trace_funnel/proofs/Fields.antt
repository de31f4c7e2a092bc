-- What the fields of a funnel say of its places.
use Rattle.std.proofs.Common.{◌≡◌, ℕ, zero, suc, ◌+◌, ◌-◌, ◌*◌, ◌^◌, ◌<◌, ◌≤◌, List, [], ◌∷◌, length, map, Bool}
use Rattle.std.proofs.Common.{true, false, cond, nat_lt, refl, sym, ◌∙◌, ap, subst, arith, get_or}
use Rattle.std.proofs.Common.{Option, None, Some, ◌⊎◌, inl, inr}
use Rattle.std.specs.Prelude.{◌==◌, not, nat_eq, is_some, position, IsTrue}
use Rattle.std.specs.List.{AllByRecursion}
use Rattle.std.proofs.lemmas.Bool.{cases_lt, eq-eqb, ne_eqb, lt-ltb, le-ltb, ltb-true}
use Rattle.std.proofs.lemmas.List.{length-map}
use Rattle.trace_funnel.specs.declared.queue.Queue.{Queue}
use Rattle.trace_funnel.specs.declared.funnel.Funnel.TheInside.{Inside}
use Rattle.trace_funnel.specs.Turns.{Place, Found, first_busy, put, is_full, load, queue_of, waited_of, empty}
use Rattle.trace_funnel.specs.Turns.{turn, is_busy}
use Rattle.trace_funnel.specs.Kept.{count, Apart, AreBounded}
use Rattle.trace_funnel.specs.Order.{are_apart}
use Rattle.trace_funnel.specs.State.{HasPlace}
use Rattle.trace_funnel.specs.Queues.{place_of, places_of, room_of, rooms_of, HaveRoom}
use Rattle.trace_funnel.specs.Inside.{state_of, IsWhole}
use Rattle.trace_funnel.proofs.Places.{IsFound, found}
use Rattle.trace_funnel.proofs.Finding.{position_first, position_none}
use Rattle.trace_funnel.proofs.Emptying.{idle_load, load_append}
use Rattle.trace_funnel.proofs.Turning.{count_put, counts_turn}
use Rattle.trace_funnel.proofs.Waiting.{put_bounded, turn_bounded, waited_few, waited_idle, all_few}
use Rattle.trace_funnel.proofs.Acting.{apart_empty, bounded_empty, length_turn}
use Rattle.trace_funnel.proofs.Shortness.{AreShort, empty_short, put_short, turn_short, queue_short}
use Rattle.trace_funnel.proofs.Nearing.{full_short}

-- what is at an index has nothing to do with what stands for none
any_none : (xs : List ℕ) (i d e : ℕ) → i < length xs → get_or xs i d ≡ get_or xs i e
any_none [] i d e h = absurd (omega arith)
any_none (x ∷ xs) zero d e h = refl
any_none (x ∷ xs) (suc i) d e h = any_none xs i d e (omega (arith, h))

-- each source of an order has a place
some_at : (ids : List ℕ) (n : ℕ) → n < length ids → 1 ≤ count (get_or ids n 0) (empty ids)
some_at [] n h = absurd (omega arith)
some_at (x ∷ ids) zero h =
    let c = count x (empty ids) in
    let e = ap (λ t. cond t (c + 1) c) (eq-eqb x x refl) in omega (arith, e)
some_at (x ∷ ids) (suc n) h = by (x == get_or ids n 0) (some_at ids n (omega (arith, h))) where
  by : (t : Bool) → 1 ≤ count (get_or ids n 0) (empty ids) →
      1 ≤ cond t (count (get_or ids n 0) (empty ids) + 1) (count (get_or ids n 0) (empty ids))
  by true e = omega arith
  by false e = e

-- fewer than each queue may have
all_rooms : (depth n : ℕ) → n < depth → (rooms : List ℕ) → AllByRecursion (λ room. room ≡ depth) rooms →
    AllByRecursion (λ room. n < room) rooms
all_rooms depth n l [] a = tt
all_rooms depth n l (room ∷ rooms) a = (let e = a.0 in omega (arith, l, e), all_rooms depth n l rooms a.1)

-- the place of this number
module _ (f : Inside) (whole : IsWhole f) (place : ℕ) (h : place < length f.order.items) where
  abbrev id : ℕ
  id = get_or f.order.items place 0

  abbrev qs : List Queue
  qs = f.queues.items

  one_is : count id (places_of qs) ≡ 1
  one_is =
      let a = whole.same id in let b = some_at f.order.items place h in let c = whole.apart id in
      omega (arith, a, b, c)

  many : length (places_of qs) ≡ length f.order.items
  many = length-map qs place_of ∙ whole.many

  pub has_place : HasPlace (state_of f) place
  has_place = record {
    one = one_is;
    few = (let a = many in let k = whole.few in omega (arith, a, k));
    short = queue_short f.depth id (places_of qs) whole.short;
    some = whole.some;
    deep = whole.deep;
  }

  -- the source that was asked for
  pub source_is : (source : ℕ) → source ≡ get_or f.order.items place source → source ≡ id
  source_is source e = e ∙ any_none f.order.items place source 0 h

  pub full_is : nat_eq (length (queue_of id (places_of qs))) f.depth ≡ is_full f.depth id (places_of qs)
  full_is = by (cases_lt (length (queue_of id (places_of qs))) f.depth) where
    by : ((length (queue_of id (places_of qs)) < f.depth) ⊎ (f.depth ≤ length (queue_of id (places_of qs)))) →
        nat_eq (length (queue_of id (places_of qs))) f.depth ≡ not (nat_lt (length (queue_of id (places_of qs))) f.depth)
    by (inl less) =
        ne_eqb (length (queue_of id (places_of qs))) f.depth (λ e. omega (arith, e, less))
        ∙ sym (ap not (lt-ltb (length (queue_of id (places_of qs))) f.depth less))
    by (inr more) =
        eq-eqb (length (queue_of id (places_of qs))) f.depth
        (let s = queue_short f.depth id (places_of qs) whole.short in omega (arith, s, more))
        ∙ sym (ap not (le-ltb (length (queue_of id (places_of qs))) f.depth more))

  pub room_left : is_full f.depth id (places_of qs) ≡ false →
      AllByRecursion (λ room. length (queue_of id (places_of qs)) < room) (rooms_of qs)
  room_left e = all_rooms f.depth (length (queue_of id (places_of qs))) (full_short f.depth id (places_of qs) e)
      (rooms_of qs) whole.rooms

  pub bound_is : waited_of id (places_of qs) ≤ (length f.order.items - 1) * f.hold
  bound_is =
      subst (λ n. waited_of id (places_of qs) ≤ (n - 1) * f.hold) many
      (waited_few f.hold id (places_of qs) whole.bounded)

  pub idle_is : queue_of id (places_of qs) ≡ [] → waited_of id (places_of qs) ≡ 0
  idle_is e = waited_idle f.hold id (places_of qs) whole.bounded e

  -- a byte more in its queue
  pub put_whole : (byte : ℕ) (g : Inside) → g.order ≡ f.order → g.hold ≡ f.hold → g.depth ≡ f.depth →
      places_of g.queues.items ≡ put id byte (places_of qs) → rooms_of g.queues.items ≡ rooms_of qs →
      is_full f.depth id (places_of qs) ≡ false → IsWhole g
  put_whole byte g order hold depth puts rooms left = record {
    few = subst (λ o. length o.items ≤ 16) (sym order) whole.few;
    apart = subst (λ o. Apart (empty o.items)) (sym order) whole.apart;
    many = sym (length-map g.queues.items room_of) ∙ ap length rooms ∙ length-map qs room_of ∙ whole.many
        ∙ ap (λ o. length o.items) (sym order);
    same = λ x. ap (count x) puts ∙ count_put x id byte (places_of qs) ∙ whole.same x
        ∙ ap (λ o. count x (empty o.items)) (sym order);
    rooms = subst (λ n. HaveRoom n g.queues.items) (sym depth)
        (subst (AllByRecursion (λ room. room ≡ f.depth)) (sym rooms) whole.rooms);
    short = subst (λ n. AreShort n (places_of g.queues.items)) (sym depth)
        (subst (AreShort f.depth) (sym puts)
        (put_short f.depth id byte (places_of qs) (let a = one_is in omega (arith, a))
        (full_short f.depth id (places_of qs) left) whole.short));
    some = (let n = whole.some in omega (arith, n, hold));
    held = (let n = whole.held in omega (arith, n, hold));
    deep = (let n = whole.deep in omega (arith, n, depth));
    bounded = subst (λ n. AreBounded n (places_of g.queues.items)) (sym hold)
        (subst (AreBounded f.hold) (sym puts) (put_bounded f.hold id byte (places_of qs) whole.bounded));
  }

-- a turn
module _ (f g : Inside) (whole : IsWhole f) (order : g.order ≡ f.order) (hold : g.hold ≡ f.hold)
    (depth : g.depth ≡ f.depth)
    (turns : places_of g.queues.items ≡ (turn f.hold (places_of f.queues.items)).places) where
  pub turn_whole : HaveRoom f.depth g.queues.items → IsWhole g
  turn_whole rooms = record {
    few = subst (λ o. length o.items ≤ 16) (sym order) whole.few;
    apart = subst (λ o. Apart (empty o.items)) (sym order) whole.apart;
    many =
        sym (length-map g.queues.items place_of) ∙ ap length turns ∙ length_turn f.hold (places_of f.queues.items)
        ∙ length-map f.queues.items place_of ∙ whole.many ∙ ap (λ o. length o.items) (sym order);
    same = λ x. ap (count x) turns ∙ counts_turn f.hold (places_of f.queues.items) x ∙ whole.same x
        ∙ ap (λ o. count x (empty o.items)) (sym order);
    rooms = subst (λ n. HaveRoom n g.queues.items) (sym depth) rooms;
    short = subst (λ n. AreShort n (places_of g.queues.items)) (sym depth)
        (subst (AreShort f.depth) (sym turns) (turn_short f.depth f.hold (places_of f.queues.items) whole.short));
    some = (let n = whole.some in omega (arith, n, hold));
    held = (let n = whole.held in omega (arith, n, hold));
    deep = (let n = whole.deep in omega (arith, n, depth));
    bounded = subst (λ n. AreBounded n (places_of g.queues.items)) (sym hold)
        (subst (AreBounded f.hold) (sym turns) (turn_bounded f.hold (places_of f.queues.items) whole.bounded));
  }

-- no place waits for long
pub few_waits : (f : Inside) → IsWhole f → AllByRecursion (λ (p : Place). p.waited ≤ 2 ^ 32) (places_of f.queues.items)
few_waits f whole =
    all_few f.hold (places_of f.queues.items) whole.bounded
    (let a = length-map f.queues.items place_of in let b = whole.many in let c = whole.few in omega (arith, a, b, c))
    whole.held

-- a fresh funnel
rooms_same : (depth : ℕ) (ids : List ℕ) → AllByRecursion (λ (room : ℕ). room ≡ depth) (map (λ (_ : ℕ). depth) ids)
rooms_same depth [] = tt
rooms_same depth (x ∷ ids) = (refl, rooms_same depth ids)

module _ (f : Inside) (ids : List ℕ) (order : f.order.items ≡ ids) (places : places_of f.queues.items ≡ empty ids)
    (rooms : rooms_of f.queues.items ≡ map (λ _. f.depth) ids) where
  pub fresh_whole : length ids ≤ 16 → are_apart ids ≡ true → 1 ≤ f.hold → f.hold ≤ 15 → 1 ≤ f.depth → IsWhole f
  fresh_whole few apart one held deep = record {
    few = subst (λ l. length l ≤ 16) (sym order) few;
    apart = subst (λ l. Apart (empty l)) (sym order) (apart_empty ids apart);
    many = sym (length-map f.queues.items place_of) ∙ ap length places ∙ length-map ids _ ∙ ap length (sym order);
    same = λ x. ap (count x) places ∙ ap (λ l. count x (empty l)) (sym order);
    rooms = subst (AllByRecursion (λ room. room ≡ f.depth)) (sym rooms) (rooms_same f.depth ids);
    short = subst (AreShort f.depth) (sym places) (empty_short f.depth ids);
    some = one;
    held = held;
    deep = deep;
    bounded = subst (AreBounded f.hold) (sym places) (bounded_empty f.hold ids);
  }

-- no place has bytes exactly where no first one is found
none_loaded : (ps : List Place) → first_busy ps ≡ None → load ps ≡ 0
none_loaded ps e = idle_load ps (subst (IsFound ps) e (found ps))

some_loaded : (ps : List Place) (f : Found) → first_busy ps ≡ Some f → 1 ≤ load ps
some_loaded ps f e =
    let g : IsFound ps (Some f) = subst (IsFound ps) e (found ps) in
    let a = ap load g.0 in
    let b = load_append f.before (f.place ∷ f.behind) in
    let c = ltb-true 0 (length f.place.queue) g.2 in
    omega (arith, a, b, c)

pub empty_is : (qs read : List Queue) (r : Option ℕ) (b : Bool) → read ≡ qs →
    r ≡ position (λ q. is_busy (place_of q)) read → is_some r ≡ not b →
    (IsTrue b → load (places_of qs) ≡ 0) × (load (places_of qs) ≡ 0 → IsTrue b)
empty_is qs read r b a k e =
    by r b (k ∙ ap (λ (l : List Queue). position (λ q. is_busy (place_of q)) l) a) e where
      by : (r : Option ℕ) (b : Bool) → r ≡ position (λ q. is_busy (place_of q)) qs → is_some r ≡ not b →
          (IsTrue b → load (places_of qs) ≡ 0) × (load (places_of qs) ≡ 0 → IsTrue b)
      by None true k e = (λ t. none_loaded (places_of qs) (position_none qs k), λ l. refl)
      by None false k e = absurd (cc)
      by (Some i) true k e = absurd (cc)
      by (Some i) false k e = (
        λ t. absurd (cc),
        λ l. absurd (
            let f = position_first qs i k in let m = some_loaded (places_of qs) _ f.found in omega (arith, m, l)),
      )
