-- What is kept by whatever a funnel does.
use Rattle.std.proofs.Common.{◌≡◌, ℕ, zero, suc, ◌+◌, ◌-◌, ◌*◌, ◌<◌, ◌≤◌, List, [], ◌∷◌, ◌++◌, length, map}
use Rattle.std.proofs.Common.{Bool, true, false, cond, nat_lt, refl, sym, ◌∙◌, ap, subst, ◌⊎◌, inl, inr, arith}
use Rattle.std.proofs.Common.{append_assoc, append-nil, length-append, Option, None, Some, take}
use Rattle.std.specs.Prelude.{◌==◌, not, ◌&&◌, ◌||◌, nat_le}
use Rattle.std.specs.List.{list_any}
use Rattle.std.proofs.lemmas.Bool.{cases_eq, eq-eqb, ne_eqb, and_parts, not-true}
use Rattle.std.proofs.lemmas.List.{length-map, nil_from_length}
use Rattle.trace_funnel.specs.declared.tagged.Tagged.{Tagged}
use Rattle.trace_funnel.specs.Turns.{Place, waits, served, Found, first_busy, Turned, turn_of, turn, queue_of}
use Rattle.trace_funnel.specs.Turns.{waited_of, put, turns_while, is_full, drain, load, empty}
use Rattle.trace_funnel.specs.Kept.{bytes_for, count, Apart, AreBounded}
use Rattle.trace_funnel.specs.Acts.{Act, Offer, Turn, Drain, act, acts, offered, are_of}
use Rattle.trace_funnel.specs.Order.{are_apart}
use Rattle.trace_funnel.proofs.Places.{bytes_append, IsFound, found}
use Rattle.trace_funnel.proofs.Turning.{turn_and, stay, counts_turn, counts_turns, turn_keeps, turns_keep}
use Rattle.trace_funnel.proofs.Turning.{offer_keeps, count_put, put_same, put_other}
use Rattle.trace_funnel.proofs.Waiting.{turn_bounded, put_bounded, waited_few}
use Rattle.trace_funnel.proofs.Nearing.{has_room, ahead_few}
use Rattle.trace_funnel.proofs.Emptying.{drained}

-- the places of an order: each ID of it has one, and no other has
pub none_of : (x : ℕ) (ids : List ℕ) → list_any (λ y. y == x) ids ≡ false → count x (empty ids) ≡ 0
none_of x [] h = refl
none_of x (y ∷ ids) h = by (y == x) h (none_of x ids) where
  by : (t : Bool) → (t || list_any (λ z. z == x) ids) ≡ false → (list_any (λ z. z == x) ids ≡ false →
      count x (empty ids) ≡ 0) →
      cond t (count x (empty ids) + 1) (count x (empty ids)) ≡ 0
  by true h f = cc
  by false h f = f h

apart_more : (y : ℕ) (ids : List ℕ) → list_any (λ z. z == y) ids ≡ false → Apart (empty ids) → Apart (empty (y ∷ ids))
apart_more y ids alone rest x = by (cases_eq y x) where
  by : ((y ≡ x) ⊎ (y ≡ x → ⊥)) → count x (empty (y ∷ ids)) ≤ 1
  by (inl e) =
      let none : count x (empty ids) ≡ 0 = subst (λ z. count z (empty ids) ≡ 0) e (none_of y ids alone) in
      let here = ap (λ t. cond t (count x (empty ids) + 1) (count x (empty ids))) (eq-eqb y x e) in
      omega (arith, none, here)
  by (inr n) =
      let here = ap (λ t. cond t (count x (empty ids) + 1) (count x (empty ids))) (ne_eqb y x n) in
      let more = rest x in
      omega (arith, here, more)

pub apart_empty : (ids : List ℕ) → are_apart ids ≡ true → Apart (empty ids)
apart_empty [] h = λ x. omega arith
apart_empty (y ∷ ids) h =
    let parts = and_parts (nat_le 1 y && nat_le y 126 && not (list_any (λ z. z == y) ids)) (are_apart ids) h in
    let alone = (and_parts (nat_le 1 y && nat_le y 126) (not (list_any (λ z. z == y) ids)) parts.0).1 in
    apart_more y ids (not-true (list_any (λ z. z == y) ids) alone) (apart_empty ids parts.1)

pub some_of : (x : ℕ) (ids : List ℕ) → list_any (λ y. y == x) ids ≡ true → 1 ≤ count x (empty ids)
some_of x [] h = absurd (cc)
some_of x (y ∷ ids) h = by (y == x) h (some_of x ids) where
  by : (t : Bool) → (t || list_any (λ z. z == x) ids) ≡ true → (list_any (λ z. z == x) ids ≡ true →
      1 ≤ count x (empty ids)) →
      1 ≤ cond t (count x (empty ids) + 1) (count x (empty ids))
  by true h f = omega arith
  by false h f = f h

pub one_of : (x : ℕ) (ids : List ℕ) → are_apart ids ≡ true → list_any (λ y. y == x) ids ≡ true → count x (empty ids) ≡ 1
one_of x ids a h = let most = apart_empty ids a x in let least = some_of x ids h in omega (arith, most, least)

pub bounded_empty : (hold : ℕ) (ids : List ℕ) → AreBounded hold (empty ids)
bounded_empty hold [] = tt
bounded_empty hold (x ∷ ids) = (omega arith, λ e. refl, bounded_empty hold ids)

queue_empty : (x : ℕ) (ids : List ℕ) → queue_of x (empty ids) ≡ []
queue_empty x [] = refl
queue_empty x (y ∷ ids) = by (y == x) (queue_empty x ids) where
  by : (t : Bool) → queue_of x (empty ids) ≡ [] → cond t [] (queue_of x (empty ids)) ≡ []
  by true e = refl
  by false e = e

-- how many places there are stays as it is
pub length_turn : (hold : ℕ) (ps : List Place) → length (turn hold ps).places ≡ length ps
length_turn hold ps = by (first_busy ps) (found ps) where
  by : (o : Option Found) → IsFound ps o → length (turn_of hold ps o).places ≡ length ps
  by None f = refl
  by (Some f) g =
      let n = length (take hold f.place.queue) in
      let a = length-append (map (waits n) f.behind) (map (waits n) f.before ++ served hold f.place ∷ []) in
      let b = length-append (map (waits n) f.before) (served hold f.place ∷ []) in
      let c = length-map f.behind (waits n) in
      let d = length-map f.before (waits n) in
      let e = ap length g.0 in
      let k = length-append f.before (f.place ∷ f.behind) in
      omega (arith, a, b, c, d, e, k)

length_turns : (test : List Place → Bool) (hold most : ℕ) (ps : List Place) →
    length (turns_while test hold most ps).places ≡ length ps
length_turns test hold zero ps = refl
length_turns test hold (suc most) ps = by (test ps) (length_turns test hold most (turn hold ps).places) where
  by : (t : Bool) → length (turns_while test hold most (turn hold ps).places).places ≡ length (turn hold ps).places →
      length (cond t (turn_and hold ps (turns_while test hold most (turn hold ps).places)) (stay ps)).places ≡ length ps
  by true e = e ∙ length_turn hold ps
  by false e = refl

length_act : (hold depth : ℕ) (ps : List Place) (a : Act) → length (act hold depth ps a).places ≡ length ps
length_act hold depth ps (Offer y) =
    length-map (turns_while (is_full depth y.id) hold (length ps) ps).places _
    ∙ length_turns (is_full depth y.id) hold (length ps) ps
length_act hold depth ps Turn = length_turn hold ps
length_act hold depth ps Drain = length_turns (λ qs. nat_lt 0 (load qs)) hold (load ps) ps

pub length_acts : (hold depth : ℕ) (done : List Act) (ps : List Place) →
    length (acts hold depth ps done).places ≡ length ps
length_acts hold depth [] ps = refl
length_acts hold depth (a ∷ rest) ps =
    length_acts hold depth rest (act hold depth ps a).places ∙ length_act hold depth ps a

-- how long places wait
turns_bounded : (test : List Place → Bool) (hold most : ℕ) (ps : List Place) → AreBounded hold ps →
    AreBounded hold (turns_while test hold most ps).places
turns_bounded test hold zero ps b = b
turns_bounded test hold (suc most) ps b =
    by (test ps) (turns_bounded test hold most (turn hold ps).places (turn_bounded hold ps b)) where
      by : (t : Bool) → AreBounded hold (turns_while test hold most (turn hold ps).places).places →
          AreBounded hold (cond t (turn_and hold ps (turns_while test hold most (turn hold ps).places))
          (stay ps)).places
      by true e = e
      by false e = b

act_bounded : (hold depth : ℕ) (ps : List Place) (a : Act) → AreBounded hold ps →
    AreBounded hold (act hold depth ps a).places
act_bounded hold depth ps (Offer y) b =
    put_bounded hold y.id y.byte _ (turns_bounded (is_full depth y.id) hold (length ps) ps b)
act_bounded hold depth ps Turn b = turn_bounded hold ps b
act_bounded hold depth ps Drain b = turns_bounded (λ qs. nat_lt 0 (load qs)) hold (load ps) ps b

pub acts_bounded : (hold depth : ℕ) (done : List Act) (ps : List Place) → AreBounded hold ps →
    AreBounded hold (acts hold depth ps done).places
acts_bounded hold depth [] ps b = b
acts_bounded hold depth (a ∷ rest) ps b =
    acts_bounded hold depth rest (act hold depth ps a).places (act_bounded hold depth ps a b)

pub acts_wait : (hold depth : ℕ) (ids : List ℕ) (done : List Act) (x : ℕ) →
    waited_of x (acts hold depth (empty ids) done).places ≤ (length ids - 1) * hold
acts_wait hold depth ids done x =
    subst (λ m. waited_of x (acts hold depth (empty ids) done).places ≤ (m - 1) * hold)
    (length_acts hold depth done (empty ids) ∙ length-map ids _)
    (waited_few hold x (acts hold depth (empty ids) done).places
    (acts_bounded hold depth done (empty ids) (bounded_empty hold ids)))

-- how many places each ID has stays as it is
counts_act : (hold depth : ℕ) (ps : List Place) (a : Act) (x : ℕ) →
    count x (act hold depth ps a).places ≡ count x ps
counts_act hold depth ps (Offer y) x =
    count_put x y.id y.byte (turns_while (is_full depth y.id) hold (length ps) ps).places
    ∙ counts_turns (is_full depth y.id) hold (length ps) ps x
counts_act hold depth ps Turn x = counts_turn hold ps x
counts_act hold depth ps Drain x = counts_turns (λ qs. nat_lt 0 (load qs)) hold (load ps) ps x

pub apart_act : (hold depth : ℕ) (ps : List Place) (a : Act) → Apart ps → Apart (act hold depth ps a).places
apart_act hold depth ps a apart x = let e = counts_act hold depth ps a x in let h = apart x in omega (arith, e, h)

-- each byte that is offered has a place
abbrev IsHere : List Place → Act → Type 0
IsHere ps (Offer y) = count y.id ps ≡ 1
IsHere ps Turn = Unit {0}
IsHere ps Drain = Unit {0}

abbrev AreHere : List Place → List Act → Type 0
AreHere ps [] = Unit {0}
AreHere ps (a ∷ rest) = IsHere ps a × AreHere ps rest

here_after : (ps qs : List Place) → ((x : ℕ) → count x qs ≡ count x ps) → (done : List Act) → AreHere ps done →
    AreHere qs done
here_after ps qs same [] h = tt
here_after ps qs same (Offer y ∷ rest) h = (same y.id ∙ h.0, here_after ps qs same rest h.1)
here_after ps qs same (Turn ∷ rest) h = (tt, here_after ps qs same rest h.1)
here_after ps qs same (Drain ∷ rest) h = (tt, here_after ps qs same rest h.1)

are_here : (ids : List ℕ) → are_apart ids ≡ true → (done : List Act) → are_of ids (offered done) ≡ true →
    AreHere (empty ids) done
are_here ids a [] h = tt
are_here ids a (Offer y ∷ rest) h =
    let parts = and_parts (list_any (λ z. z == y.id) ids) (are_of ids (offered rest)) h in
    (one_of y.id ids a parts.0, are_here ids a rest parts.1)
are_here ids a (Turn ∷ rest) h = (tt, are_here ids a rest h)
are_here ids a (Drain ∷ rest) h = (tt, are_here ids a rest h)

-- what an act gives of a source, and then its queue, is its queue before and what was offered of it
act_keeps : (hold depth : ℕ) (ps : List Place) (a : Act) → Apart ps → IsHere ps a → (x : ℕ) →
    bytes_for x (act hold depth ps a).out ++ queue_of x (act hold depth ps a).places
    ≡ queue_of x ps ++ bytes_for x (offered (a ∷ []))
act_keeps hold depth ps (Offer y) apart h x = offer_keeps hold depth ps y.id y.byte apart h x
act_keeps hold depth ps Turn apart h x = (turn_keeps hold ps apart).all x ∙ sym (append-nil (queue_of x ps))
act_keeps hold depth ps Drain apart h x =
    (turns_keep (λ qs. nat_lt 0 (load qs)) hold (load ps) ps apart).all x ∙ sym (append-nil (queue_of x ps))

offered_first : (a : Act) (rest : List Act) → offered (a ∷ rest) ≡ offered (a ∷ []) ++ offered rest
offered_first (Offer y) rest = refl
offered_first Turn rest = refl
offered_first Drain rest = refl

acts_keep : (hold depth : ℕ) (done : List Act) (ps : List Place) → Apart ps → AreHere ps done → (x : ℕ) →
    bytes_for x (acts hold depth ps done).out ++ queue_of x (acts hold depth ps done).places
    ≡ queue_of x ps ++ bytes_for x (offered done)
acts_keep hold depth [] ps apart h x = sym (append-nil (queue_of x ps))
acts_keep hold depth (a ∷ rest) ps apart h x =
    let t = act hold depth ps a in
    let u = acts hold depth t.places rest in
    let one = act_keeps hold depth ps a apart h.0 x in
    let more =
    acts_keep hold depth rest t.places (apart_act hold depth ps a apart)
    (here_after ps t.places (counts_act hold depth ps a) rest h.1) x
    in
    ap (λ (l : List ℕ). l ++ queue_of x u.places) (bytes_append x t.out u.out)
    ∙ append_assoc (bytes_for x t.out) (bytes_for x u.out) (queue_of x u.places)
    ∙ ap (λ (l : List ℕ). bytes_for x t.out ++ l) more
    ∙ sym (append_assoc (bytes_for x t.out) (queue_of x t.places) (bytes_for x (offered rest)))
    ∙ ap (λ (l : List ℕ). l ++ bytes_for x (offered rest)) one
    ∙ append_assoc (queue_of x ps) (bytes_for x (offered (a ∷ []))) (bytes_for x (offered rest))
    ∙ ap (λ (l : List ℕ). queue_of x ps ++ l) (sym (bytes_append x (offered (a ∷ [])) (offered rest)))
    ∙ ap (λ (l : List Tagged). queue_of x ps ++ bytes_for x l) (sym (offered_first a rest))

pub all_kept : (hold depth : ℕ) (ids : List ℕ) (done : List Act) → are_apart ids ≡ true →
    are_of ids (offered done) ≡ true → (x : ℕ) → let t = acts hold depth (empty ids) done in
    bytes_for x t.out ++ queue_of x t.places ≡ bytes_for x (offered done)
all_kept hold depth ids done a o x =
    acts_keep hold depth done (empty ids) (apart_empty ids a) (are_here ids a done o) x
    ∙ ap (λ (l : List ℕ). l ++ bytes_for x (offered done)) (queue_empty x ids)

-- after a drain nothing is left
no_load : (x : ℕ) (ps : List Place) → load ps ≡ 0 → queue_of x ps ≡ []
no_load x [] h = refl
no_load x (p ∷ ps) h = by (p.id == x) (no_load x ps (omega (arith, h))) where
  by : (t : Bool) → queue_of x ps ≡ [] → cond t p.queue (queue_of x ps) ≡ []
  by true e = nil_from_length p.queue (omega (arith, h))
  by false e = e

pub offered_drain : (done : List Act) → offered (done ++ Drain ∷ []) ≡ offered done
offered_drain [] = refl
offered_drain (Offer y ∷ rest) = ap (λ l. y ∷ l) (offered_drain rest)
offered_drain (Turn ∷ rest) = offered_drain rest
offered_drain (Drain ∷ rest) = offered_drain rest

pub none_left : (hold depth : ℕ) (done : List Act) (ps : List Place) → 1 ≤ hold →
    load (acts hold depth ps (done ++ Drain ∷ [])).places ≡ 0
none_left hold depth [] ps h = drained hold (load ps) ps h (omega arith)
none_left hold depth (a ∷ rest) ps h = none_left hold depth rest (act hold depth ps a).places h

pub all_given : (hold depth : ℕ) (ids : List ℕ) (done : List Act) → 1 ≤ hold → are_apart ids ≡ true →
    are_of ids (offered done) ≡ true → (x : ℕ) →
    bytes_for x (acts hold depth (empty ids) (done ++ Drain ∷ [])).out ≡ bytes_for x (offered done)
all_given hold depth ids done h a o x =
    let t = acts hold depth (empty ids) (done ++ Drain ∷ []) in
    sym (append-nil (bytes_for x t.out))
    ∙ ap (λ (l : List ℕ). bytes_for x t.out ++ l) (sym (no_load x t.places (none_left hold depth done (empty ids) h)))
    ∙ all_kept hold depth ids (done ++ Drain ∷ []) a (ap (are_of ids) (offered_drain done) ∙ o) x
    ∙ ap (bytes_for x) (offered_drain done)

-- one part and then the other
pub acts_append : (hold depth : ℕ) (first next : List Act) (ps : List Place) →
    let t = acts hold depth ps first in let u = acts hold depth t.places next in
    acts hold depth ps (first ++ next) ≡ record { out = t.out ++ u.out; places = u.places }
acts_append hold depth [] next ps = refl
acts_append hold depth (a ∷ first) next ps =
    let t = act hold depth ps a in
    let u = acts hold depth t.places first in
    let v = acts hold depth u.places next in
    ap (λ (w : Turned). let y : Turned = record { out = t.out ++ w.out; places = w.places } in y)
    (acts_append hold depth first next t.places)
    ∙ ap (λ (l : List Tagged). let y : Turned = record { out = l; places = v.places } in y)
    (sym (append_assoc t.out u.out v.out))

-- no queue has more bytes than it may have
abbrev AreShort : ℕ → List Place → Type 0
AreShort depth ps = (x : ℕ) → length (queue_of x ps) ≤ depth

less : (given left before : List ℕ) → given ++ left ≡ before → length left ≤ length before
less given left before e = let n = ap length e in let m = length-append given left in omega (arith, n, m)

pub room_for : (hold depth : ℕ) (ps : List Place) (x : ℕ) → 1 ≤ hold → 1 ≤ depth → count x ps ≡ 1 →
    length (queue_of x ps) ≤ depth →
    length (queue_of x (turns_while (is_full depth x) hold (length ps) ps).places) < depth
room_for hold depth ps x h d one short =
    has_room hold depth x h d (length ps) ps (one, short) (ahead_few x ps (omega (arith, one)))

act_short : (hold depth : ℕ) (ps : List Place) (a : Act) → 1 ≤ hold → 1 ≤ depth → Apart ps → IsHere ps a →
    AreShort depth ps → AreShort depth (act hold depth ps a).places
act_short hold depth ps Turn h d apart here short x =
    let t = turn hold ps in
    let l = less (bytes_for x t.out) (queue_of x t.places) (queue_of x ps) ((turn_keeps hold ps apart).all x) in
    let s = short x in omega (arith, l, s)
act_short hold depth ps Drain h d apart here short x =
    let t = drain hold ps in
    let l =
    less (bytes_for x t.out) (queue_of x t.places) (queue_of x ps)
    ((turns_keep (λ qs. nat_lt 0 (load qs)) hold (load ps) ps apart).all x)
    in
    let s = short x in omega (arith, l, s)
act_short hold depth ps (Offer y) h d apart here short x = by (cases_eq y.id x) where
  by : ((y.id ≡ x) ⊎ (y.id ≡ x → ⊥)) →
      length (queue_of x (put y.id y.byte (turns_while (is_full depth y.id) hold (length ps) ps).places)) ≤ depth
  by (inl e) = subst (λ z. length (queue_of z (put y.id y.byte (turns_while (is_full depth y.id) hold
      (length ps) ps).places)) ≤ depth) e (
      let qs = (turns_while (is_full depth y.id) hold (length ps) ps).places in
      let room = room_for hold depth ps y.id h d here (short y.id) in
      let same = counts_turns (is_full depth y.id) hold (length ps) ps y.id in
      let put = ap length (put_same y.id y.byte qs (omega (arith, same, here))) in
      let one = length-append (queue_of y.id qs) (y.byte ∷ []) in
      omega (arith, room, put, one))
  by (inr n) =
      let qs = (turns_while (is_full depth y.id) hold (length ps) ps).places in
      let same = ap length (put_other y.id y.byte x qs n) in
      let t = turns_while (is_full depth y.id) hold (length ps) ps in
      let l =
      less (bytes_for x t.out) (queue_of x t.places) (queue_of x ps)
      ((turns_keep (is_full depth y.id) hold (length ps) ps apart).all x)
      in
      let s = short x in omega (arith, same, l, s)

acts_short : (hold depth : ℕ) (done : List Act) (ps : List Place) → 1 ≤ hold → 1 ≤ depth → Apart ps → AreHere ps done →
    AreShort depth ps → AreShort depth (acts hold depth ps done).places
acts_short hold depth [] ps h d apart here short = short
acts_short hold depth (a ∷ rest) ps h d apart here short =
    let t = act hold depth ps a in
    acts_short hold depth rest t.places h d (apart_act hold depth ps a apart)
    (here_after ps t.places (counts_act hold depth ps a) rest here.1)
    (act_short hold depth ps a h d apart here.0 short)

pub counts_acts : (hold depth : ℕ) (done : List Act) (ps : List Place) (x : ℕ) →
    count x (acts hold depth ps done).places ≡ count x ps
counts_acts hold depth [] ps x = refl
counts_acts hold depth (a ∷ rest) ps x =
    counts_acts hold depth rest (act hold depth ps a).places x ∙ counts_act hold depth ps a x

-- so as many turns as there are places make room
pub acts_room : (hold depth : ℕ) (ids : List ℕ) (done : List Act) (x : ℕ) → 1 ≤ hold → 1 ≤ depth →
    are_apart ids ≡ true → are_of ids (offered done) ≡ true → list_any (λ y. y == x) ids ≡ true →
    let ps = (acts hold depth (empty ids) done).places in
    length (queue_of x (turns_while (is_full depth x) hold (length ids) ps).places) < depth
acts_room hold depth ids done x h d a o i =
    let ps = (acts hold depth (empty ids) done).places in
    subst (λ m. length (queue_of x (turns_while (is_full depth x) hold m ps).places) < depth)
    (length_acts hold depth done (empty ids) ∙ length-map ids _)
    (room_for hold depth ps x h d (counts_acts hold depth done (empty ids) x ∙ one_of x ids a i)
    (acts_short hold depth done (empty ids) h d (apart_empty ids a) (are_here ids a done o)
    (λ y. let e = ap length (queue_empty y ids) in omega (arith, e)) x))

-- where the test doesn't hold, more turns change nothing
pub idle_turns : (test : List Place → Bool) (hold n : ℕ) (ps : List Place) → test ps ≡ false →
    turns_while test hold n ps ≡ stay ps
idle_turns test hold zero ps e = refl
idle_turns test hold (suc n) ps e =
    ap (λ t. cond t (turn_and hold ps (turns_while test hold n (turn hold ps).places)) (stay ps)) e

pub enough : (test : List Place → Bool) (hold most n : ℕ) (ps : List Place) → most ≤ n →
    test (turns_while test hold most ps).places ≡ false → turns_while test hold n ps ≡ turns_while test hold most ps
enough test hold zero n ps l e = idle_turns test hold n ps e
enough test hold (suc most) zero ps l e = absurd (omega arith)
enough test hold (suc most) (suc n) ps l e =
    by (test ps) e (enough test hold most n (turn hold ps).places (omega (arith, l))) where
      by : (t : Bool) →
          test (cond t (turn_and hold ps (turns_while test hold most (turn hold ps).places)) (stay ps)).places ≡ false →
          (test (turns_while test hold most (turn hold ps).places).places ≡ false →
          turns_while test hold n (turn hold ps).places ≡ turns_while test hold most (turn hold ps).places) →
          cond t (turn_and hold ps (turns_while test hold n (turn hold ps).places)) (stay ps)
          ≡ cond t (turn_and hold ps (turns_while test hold most (turn hold ps).places)) (stay ps)
      by true e i = ap (turn_and hold ps) (i e)
      by false e i = refl
