-- An offer, turn by turn.
use Rattle.std.proofs.Common.{◌≡◌, ℕ, zero, suc, ◌+◌, ◌*◌, ◌<◌, ◌≤◌, List, [], ◌++◌, length, Bool, true, false, cond}
use Rattle.std.proofs.Common.{refl, sym, ◌∙◌, ap, subst, arith, append_assoc, append-nil, ◌⊎◌, inl, inr}
use Rattle.std.specs.Prelude.{not}
use Rattle.std.proofs.lemmas.Bool.{lt-ltb}
use Rattle.trace_funnel.specs.declared.tagged.Tagged.{Tagged}
use Rattle.trace_funnel.specs.Turns.{Place, Turned, turn, turns_while, is_full, put, queue_of}
use Rattle.trace_funnel.specs.Kept.{count}
use Rattle.trace_funnel.specs.State.{State, with_places, id_at, turn_by, HasPlace}
use Rattle.trace_funnel.proofs.Turning.{turn_and, stay}
use Rattle.trace_funnel.proofs.Nearing.{ahead, ahead_few, nearer, full_long}

-- how many turns are still to be made at most
abbrev pub turns_left : State → ℕ → ℕ
turns_left g place =
    cond (is_full g.depth (id_at g place) g.places) (ahead (id_at g place) g.places + 1) 0

abbrev turns_by : State → ℕ → ℕ → Turned
turns_by g place most = turns_while (is_full g.depth (id_at g place)) g.hold most g.places

-- g is f after some turns of an offer, which gave these bytes
pub record Offering (f g : State) (place : ℕ) (out : List Tagged) : Type 0 where
  pub same : g ≡ with_places f g.places
  pub left : ℕ
  pub all : turns_by f place (length f.places)
      ≡ record { out = out ++ (turns_by g place left).out; places = (turns_by g place left).places }
  pub enough : HasPlace g place → turns_left g place ≤ left
  pub room : HasPlace g place → length out + 15 * left ≤ 240

pub offering_none : (f : State) (place : ℕ) (out : List Tagged) → out ≡ [] → Offering f f place out
offering_none f place out e = record {
  same = refl;
  left = length f.places;
  all = ap (λ (l : List Tagged). let t : Turned = record {
    out = l ++ (turns_by f place
        (length f.places)).out;
    places = (turns_by f place (length f.places)).places;
  } in t) (sym e);
  enough = λ h. by (is_full f.depth (id_at f place) f.places) (let one = h.one in
      ahead_few (id_at f place) f.places (omega (arith, one)));
  room = λ h. (let a = ap length e in let few = h.few in omega (arith, a, few));
} where
  by : (t : Bool) → ahead (id_at f place) f.places < length f.places →
      cond t (ahead (id_at f place) f.places + 1) 0 ≤ length f.places
  by true h = omega (arith, h)
  by false h = omega arith

-- a turn brings the offer nearer
pub turns_fall : (g h : State) (place : ℕ) → HasPlace g place → is_full g.depth (id_at g place) g.places ≡ true →
    h ≡ with_places g (turn_by g).places → turns_left h place < turns_left g place
turns_fall g h place has full e =
    subst (λ n. turns_left h place < n) (sym (ap (λ t. cond t (ahead (id_at g place) g.places + 1) 0) full))
    (subst (λ s. turns_left s place < ahead (id_at g place) g.places + 1) (sym e)
    (by (nearer g.hold g.depth (id_at g place) has.some has.deep g.places (has.one, has.short)
    (full_long g.depth (id_at g place) g.places full)))) where
      qs : List Place
      qs = (turn_by g).places

      near : (t : Bool) → ahead (id_at g place) (turn_by g).places < ahead (id_at g place) g.places →
          cond t (ahead (id_at g place) (turn_by g).places + 1) 0 < ahead (id_at g place) g.places + 1
      near true h = omega (arith, h)
      near false h = omega arith

      by : ((length (queue_of (id_at g place) (turn_by g).places) < g.depth)
          ⊎ ((ahead (id_at g place) (turn_by g).places < ahead (id_at g place) g.places)
          × ((count (id_at g place) (turn_by g).places
          ≡ 1) × (length (queue_of (id_at g place) (turn_by g).places) ≤ g.depth)))) →
          cond (is_full g.depth (id_at g place) (turn_by g).places) (ahead (id_at g place) (turn_by g).places + 1) 0
          < ahead (id_at g place) g.places + 1
      by (inl room) =
          subst (λ t. cond t (ahead (id_at g place) (turn_by g).places + 1) 0 < ahead (id_at g place) g.places + 1)
          (sym (ap not (lt-ltb (length (queue_of (id_at g place) (turn_by g).places)) g.depth room))) (omega arith)
      by (inr n) = near (is_full g.depth (id_at g place) (turn_by g).places) n.0

pub offering_more : (f g h : State) (place : ℕ) (out more : List Tagged) → Offering f g place out → HasPlace g place →
    is_full g.depth (id_at g place) g.places ≡ true → h ≡ with_places g (turn_by g).places →
    more ≡ out ++ (turn_by g).out → length more ≤ length out + 15 → Offering f h place more
offering_more f g h place out more o has full e m l = by o.left o.all (o.enough has) (o.room has) where
  by : (left : ℕ) → turns_by f place (length f.places)
      ≡ record { out = out ++ (turns_by g place left).out; places = (turns_by g place left).places } →
      turns_left g place ≤ left → length out + 15 * left ≤ 240 → Offering f h place more
  by zero a n r = absurd (let d = ap (λ t. cond t (ahead (id_at g place) g.places + 1) 0) full in omega (arith, n, d))
  by (suc k) a n r =
      let t = turn_by g in
      let u = turns_while (is_full g.depth (id_at g place)) g.hold k t.places in
      let falls = turns_fall g (with_places g t.places) place has full refl in
      subst (λ s. Offering f s place more) (sym e) (record {
        same = ap (λ s. with_places s t.places) o.same;
        left = k;
        all =
            a ∙ ap (λ b. let v : Turned = cond b (turn_and g.hold g.places u) (stay g.places) in
            let w : Turned = record { out = out ++ v.out; places = v.places } in w) full
            ∙ ap (λ (l : List Tagged). let w : Turned = record { out = l; places = u.places } in w)
            (sym (append_assoc out t.out u.out) ∙ ap (λ (l : List Tagged). l ++ u.out) (sym m));
        enough = λ _. omega (arith, falls, n);
        room = λ _. omega (arith, r, l);
      })

-- where its queue has room, the turns are made
pub offering_all : (f g : State) (place : ℕ) (out : List Tagged) → Offering f g place out →
    is_full g.depth (id_at g place) g.places ≡ false →
    turns_by f place (length f.places) ≡ record { out = out; places = g.places }
offering_all f g place out o e =
    o.all ∙ ap (λ (t : Turned). let u : Turned = record { out = out ++ t.out; places = t.places } in
    u) (idle g.places o.left e)
    ∙ ap (λ (l : List Tagged). let u : Turned = record { out = l; places = g.places } in u) (append-nil out) where
      idle : (ps : List Place) (n : ℕ) → is_full g.depth (id_at g place) ps ≡ false →
          turns_while (is_full g.depth (id_at g place)) g.hold n ps ≡ stay ps
      idle ps zero e = refl
      idle ps (suc n) e =
          ap (λ t. cond t (turn_and g.hold ps (turns_while (is_full g.depth (id_at g place)) g.hold n
          (turn g.hold ps).places)) (stay ps)) e

-- and the byte is put where the turns have made room
pub offering_put : (f g h : State) (place byte : ℕ) (out : List Tagged) → Offering f g place out →
    is_full g.depth (id_at g place) g.places ≡ false →
    h ≡ with_places g (put (id_at g place) byte g.places) →
    h ≡ with_places f (put (id_at f place) byte (turns_by f place (length f.places)).places)
offering_put f g h place byte out o e p =
    p ∙ ap (λ s. with_places s (put (id_at s place) byte g.places)) o.same
    ∙ ap (λ (t : Turned). with_places f (put (id_at f place) byte t.places)) (sym (offering_all f g place out o e))
