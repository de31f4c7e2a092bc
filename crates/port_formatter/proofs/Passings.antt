-- What frames before which a funnel is do, one thing after the other.
use Rattle.std.proofs.Common.{◌≡◌, ◌≤◌, ℕ, ◌+◌, ◌*◌, ◌<◌, List, [], ◌∷◌, ◌++◌, ap, sym, ◌∙◌, subst}
use Rattle.std.proofs.Common.{append-nil, append_assoc}
use Rattle.std.proofs.Common.{zero, suc, refl, length, take, get_or, arith, true, false, Option, None, Bool}
use Rattle.std.specs.Prelude.{IsTrue, is_some}
use Rattle.std.proofs.lemmas.List.{take_more}
use Rattle.port_formatter.specs.Names.{of_one, Act, Offer, Turn, Drain, act, State, with_places, Place, Turned, turn}
use Rattle.port_formatter.specs.Names.{drain, load}
use Rattle.trace_funnel.proofs.Acting.{acts_append}
use Rattle.trace_funnel.proofs.Draining.{drain_none, drain_turn}
use Rattle.trace_funnel.specs.declared.tagged.Tagged.{Tagged as Given}
use Rattle.port_formatter.specs.Passed.{bytes_acts}
use Rattle.port_formatter.specs.Passing.{acts_of, Passes}
use Rattle.port_formatter.specs.declared.funnelled.FunnelledFrames.{FunnelledFrames}
use Rattle.port_formatter.specs.declared.ring_frames.RingFrames.{RingFrames}
use Rattle.port_formatter.proofs.RingWays.{Keeps, keeps_none, keeps_join}

abbrev act_of : State → Act → Turned
act_of f a = act f.hold f.depth f.places a

abbrev turned : List Given → List Place → Turned
turned out places = record { out = out; places = places }

-- one act
pub passes_one : (old new : FunnelledFrames) (a : Act) (given : List Given) → given ≡ (act_of old.funnel a).out →
    new.funnel ≡ with_places old.funnel (act_of old.funnel a).places → Keeps old.ring new.ring given →
    Passes old new (a ∷ [])
passes_one old new a given gave is kept = record {
  funnel = is;
  frames = subst (Keeps old.ring new.ring) (gave ∙ sym (append-nil (act_of old.funnel a).out)) kept;
}

pub passes_none : (f : FunnelledFrames) → Passes f f []
passes_none f = record { funnel = refl; frames = keeps_none f.ring }

-- and others after some
pub passes_join : (a b c : FunnelledFrames) (done more : List Act) → Passes a b done → Passes b c more →
    Passes a c (done ++ more)
passes_join a b c done more p q =
    let f = a.funnel in
    let t = acts_of f done in
    let u = acts_of (with_places f t.places) more in
    let all : acts_of f (done ++ more) ≡ turned (t.out ++ u.out) u.places =
    acts_append f.hold f.depth done more f.places in
    let next : acts_of b.funnel more ≡ u = ap (λ (s : State). acts_of s more) p.funnel in
    record {
      funnel = q.funnel ∙ ap (λ (s : State). with_places s (acts_of s more).places) p.funnel
          ∙ ap (λ (w : Turned). with_places f w.places) (sym all);
      frames = subst (Keeps a.ring c.ring) (ap (λ (w : Turned). t.out ++ w.out) next
          ∙ ap (λ (w : Turned). w.out) (sym all))
          (keeps_join a.ring b.ring c.ring t.out (acts_of b.funnel more).out p.frames q.frames);
    }

-- one more byte of a source
pub passes_more : (a b c : FunnelledFrames) (id : ℕ) (bytes : List ℕ) (i at : ℕ) → i < length bytes → at ≡ id →
    Passes a b (bytes_acts (of_one id (take i bytes))) →
    Passes b c (Offer (record { id = at; byte = get_or bytes i 0 }) ∷ []) →
    Passes a c (bytes_acts (of_one id (take (i + 1) bytes)))
passes_more a b c id bytes i at h e p q =
    subst (Passes a c) (sym (longer (take (i + 1) bytes) (take_more bytes i 0 h)))
    (passes_join a b c (offers_of (take i bytes)) (Offer (record { id = id; byte = get_or bytes i 0 }) ∷ []) p
    (subst (λ (x : ℕ). Passes b c (Offer (record { id = x; byte = get_or bytes i 0 }) ∷ [])) e q)) where
      offers_of : List ℕ → List Act
      offers_of l = bytes_acts (of_one id l)

      longer : (l : List ℕ) → l ≡ take i bytes ++ get_or bytes i 0 ∷ [] →
          bytes_acts (of_one id l)
          ≡ bytes_acts (of_one id (take i bytes)) ++ Offer (record { id = id; byte = get_or bytes i 0 }) ∷ []
      longer l is = ap (λ (m : List ℕ). bytes_acts (of_one id m)) is ∙ parts (take i bytes) (get_or bytes i 0) where
        parts : (m : List ℕ) (b : ℕ) → bytes_acts (of_one id (m ++ b ∷ []))
            ≡ bytes_acts (of_one id m) ++ Offer (record { id = id; byte = b }) ∷ []
        parts [] b = refl
        parts (x ∷ m) b = ap (λ (l : List Act). Offer (record { id = id; byte = x }) ∷ l) (parts m b)

-- some turns of a drain
pub record Drains (old now : FunnelledFrames) : Type 0 where
  pub given : List Given
  pub all : drain old.funnel.hold old.funnel.places
      ≡ record {
        out = given ++ (drain old.funnel.hold now.funnel.places).out;
        places = (drain old.funnel.hold now.funnel.places).places;
      }
  pub same : now.funnel ≡ with_places old.funnel now.funnel.places
  pub kept : Keeps old.ring now.ring given

pub drains_none : (f : FunnelledFrames) → Drains f f
drains_none f = record { given = []; all = refl; same = refl; kept = keeps_none f.ring }

pub drains_more : (a b c : FunnelledFrames) → Drains a b → 0 < load b.funnel.places → Passes b c (Turn ∷ []) →
    Drains a c
drains_more a b c d busy p =
    let hold = a.funnel.hold in
    let t = turn hold b.funnel.places in
    let same_hold : b.funnel.hold ≡ hold = ap (λ (s : State). s.hold) d.same in
    let some : 1 ≤ hold = (let k = b.some in omega (arith, same_hold, k)) in
    let gave : (acts_of b.funnel (Turn ∷ [])).out ≡ t.out =
    append-nil (turn b.funnel.hold b.funnel.places).out
    ∙ ap (λ n. (turn n b.funnel.places).out) same_hold in
    let left : c.funnel.places ≡ t.places =
    ap (λ (s : State). s.places) p.funnel ∙ ap (λ n. (turn n b.funnel.places).places) same_hold in
    let next = drain hold t.places in
    record {
      given = d.given ++ t.out;
      all = d.all
          ∙ ap (λ (w : Turned). turned (d.given ++ w.out) w.places) (drain_turn hold b.funnel.places some busy)
          ∙ ap (λ (l : List Given). turned l next.places) (sym (append_assoc d.given t.out next.out))
          ∙ ap (λ (ps : List Place). turned ((d.given ++ t.out) ++ (drain hold ps).out) (drain hold ps).places)
          (sym left);
      same = p.funnel ∙ ap (λ (s : State). with_places s (acts_of b.funnel (Turn ∷ [])).places) d.same
          ∙ ap (λ (ps : List Place). with_places a.funnel ps) (sym (ap (λ (s : State). s.places) p.funnel));
      kept = keeps_join a.ring b.ring c.ring d.given t.out d.kept (subst (Keeps b.ring c.ring) gave p.frames);
    }

-- where no byte waits it is at its end
pub drains_all : (a b : FunnelledFrames) → Drains a b → load b.funnel.places ≡ 0 → Passes a b (Drain ∷ [])
drains_all a b d none =
    let hold = a.funnel.hold in
    let all : drain hold a.funnel.places ≡ turned (d.given ++ []) b.funnel.places =
    d.all ∙ ap (λ (w : Turned). turned (d.given ++ w.out) w.places) (drain_none hold b.funnel.places none) in
    passes_one a b Drain d.given
    (sym (append-nil d.given) ∙ ap (λ (w : Turned). w.out) (sym all))
    (d.same ∙ ap (λ (w : Turned). with_places a.funnel w.places) (sym all)) d.kept

pub is_busy : (n : ℕ) (b : Bool) → (IsTrue b → n ≡ 0) × (n ≡ 0 → IsTrue b) → b ≡ false → 0 < n
is_busy zero b h e = absurd (let t = h.1 refl in cc)
is_busy (suc n) b h e = omega arith

-- a funnel of which only the places change
module _ (old : FunnelledFrames) (f : State) (r : RingFrames) (ps : List Place) (is : f ≡ with_places old.funnel ps)
    (same : r.kept.capacity ≡ old.ring.kept.capacity) where
  most : length f.order * f.depth ≡ length old.funnel.order * old.funnel.depth
  most = ap (λ (s : State). length s.order * s.depth) is

  pub some_stays : 1 ≤ f.hold
  some_stays = let h = ap (λ (s : State). s.hold) is in let k = old.some in omega (arith, h, k)

  pub few_stays : load f.places ≤ load old.funnel.places → load f.places ≤ length f.order * f.depth
  few_stays less = let m = most in let k = old.few in omega (arith, m, k, less)

  pub room_stays : 132 * 240 + 264 * (length f.order * f.depth) ≤ 7 * r.kept.capacity
  room_stays = let m = most in let k = old.room in omega (arith, m, k, same)

-- a source that has a place is found
pub no_place : (o : Option ℕ) (t : Bool) → is_some o ≡ t → t ≡ true → o ≡ None → ⊥
no_place o t e h n = let some = sym (ap is_some n) ∙ (e ∙ h) in cc
