-- The events of a plan's sources, by what each sends.
use Rattle.std.proofs.Common.{◌≡◌, ◌≢◌, ℕ, List, [], ◌∷◌, ◌++◌, refl, sym, ◌∙◌, ap, subst, arith, Bool, true, false}
use Rattle.std.proofs.Common.{Option, None, map, append-nil, ◌==◌, ◌||◌, flat_map, if◌then◌else◌, All}
use Rattle.std.proofs.lemmas.Bool.Decides.{nat_tests}
use Rattle.std.proofs.lemmas.List.{map-append}
use Rattle.std.proofs.lemmas.List.Concat.{flat_map-append}
use Rattle.std.proofs.lemmas.List.Elements.{All-nil, All-cons, All-append}
use Rattle.script_laws.specs.Names.{Cell, Place, units_of, Said, Kept, is_source, Event, What, Packet, Plan}
use Rattle.script_laws.specs.Names.{SourceKind, told, stream_of, sources_by, Mapped, what_of, lifted, triggers}
use Rattle.script_laws.specs.Names.{raw_events, raws, events, id_of, bytes_of, placed_run, list_of, last_at}
use Rattle.source_events.specs.declared.event.What.TheVariants.{Packet as PacketEvent, Raw, Trigger}
use Rattle.source_events.specs.declared.plan.SourceKind.TheVariants.{Itm, Stp}
use Rattle.source_events.specs.Packets.{said_as, given_as}
use Rattle.source_events.proofs.Least.{AreSound}
use Rattle.source_events.proofs.Locking.{units_append}
use Rattle.script_laws.specs.ReadBack.{bytes_in, SaysBytes}
use Rattle.script_laws.proofs.MappedIds.{is_one}

-- what is told, whatever its source and place
abbrev pub whats : List (What Packet × Place) → List (What Packet)
whats given = map (λ e. e.0) given

pub told_whats : (source : Option ℕ) (given : List (What Packet × Place)) → map (λ (e : Event Packet). e.what) (told source given) ≡ whats given
told_whats source [] = refl
told_whats source (e ∷ given) = ap (λ (l : List (What Packet)). e.0 ∷ l) (told_whats source given)

module _ (plan : Plan) (runs : List (List Cell)) where
  abbrev mapped : ℕ × SourceKind → Mapped Packet
  mapped s = record { id = s.0; stream = stream_of plan s.1 }

  abbrev of_kind : SourceKind → List ℕ → List (ℕ × SourceKind)
  of_kind kind ids = map (λ x. (x, kind)) ids

  abbrev given_by : SourceKind → ℕ → List (What Packet × Place)
  given_by kind x = lifted (stream_of plan kind (list_of x runs)).given

  events_in : (kind : SourceKind) (ids : List ℕ) (others : List (ℕ × SourceKind)) (x : ℕ) → is_one x ids ≡ true →
      events (map mapped (of_kind kind ids ++ others)) x runs ≡ given_by kind x
  events_in kind [] others x e = (let z : false ≡ true = e in cc)
  events_in kind (y ∷ ids) others x e = by (y == x) refl e (λ k. events_in kind ids others x k)
    where
      rest : List (What Packet × Place)
      rest = events (map mapped (of_kind kind ids ++ others)) x runs

      by : (v : Bool) → (y == x) ≡ v → (v || is_one x ids) ≡ true → (is_one x ids ≡ true → rest ≡ given_by kind x) →
          (if x == y then given_by kind x else rest) ≡ given_by kind x
      by true k h more = (let s : (x == y) ≡ true = grind (arith, nat_tests) in ap (λ (t : Bool). if t then given_by kind x else rest) s)
      by false k h more = (let s : (x == y) ≡ false = grind (arith, nat_tests) in ap (λ (t : Bool). if t then given_by kind x else rest) s ∙ more h)

  events_out : (kind : SourceKind) (ids : List ℕ) (others : List (ℕ × SourceKind)) (x : ℕ) → is_one x ids ≡ false →
      events (map mapped (of_kind kind ids ++ others)) x runs ≡ events (map mapped others) x runs
  events_out kind [] others x e = refl
  events_out kind (y ∷ ids) others x e = by (y == x) refl e (λ k. events_out kind ids others x k)
    where
      rest : List (What Packet × Place)
      rest = events (map mapped (of_kind kind ids ++ others)) x runs

      by : (v : Bool) → (y == x) ≡ v → (v || is_one x ids) ≡ false → (is_one x ids ≡ false → rest ≡ events (map mapped others) x runs) →
          (if x == y then given_by kind x else rest) ≡ events (map mapped others) x runs
      by true k h more = (let z : true ≡ false = h in cc)
      by false k h more = (let s : (x == y) ≡ false = grind (arith, nat_tests) in ap (λ (t : Bool). if t then given_by kind x else rest) s ∙ more h)

  alone : (x : ℕ) → events (map mapped (of_kind Stp plan.stp)) x runs ≡ events (map mapped (of_kind Stp plan.stp ++ [])) x runs
  alone x = ap (λ (l : List (ℕ × SourceKind)). events (map mapped l) x runs) (sym (append-nil (of_kind Stp plan.stp)))

  pub itm_events : (x : ℕ) → is_one x plan.itm ≡ true → events (sources_by plan) x runs ≡ given_by Itm x
  itm_events x e = events_in Itm plan.itm (of_kind Stp plan.stp) x e

  pub stp_events : (x : ℕ) → is_one x plan.itm ≡ false → is_one x plan.stp ≡ true → events (sources_by plan) x runs ≡ given_by Stp x
  stp_events x a b = events_out Itm plan.itm (of_kind Stp plan.stp) x a ∙ alone x ∙ events_in Stp plan.stp [] x b

  pub other_events : (x : ℕ) → is_one x plan.itm ≡ false → is_one x plan.stp ≡ false → events (sources_by plan) x runs ≡ raws x runs
  other_events x a b = events_out Itm plan.itm (of_kind Stp plan.stp) x a ∙ alone x ∙ events_out Stp plan.stp [] x b

  -- no mapped source has a fault where none of its kind has one
  abbrev IsSoundAt : SourceKind → ℕ → Type 0
  IsSoundAt kind x = (stream_of plan kind (list_of x runs)).fault ≡ None

  all_sound : (kind : SourceKind) (ids : List ℕ) (others : List (ℕ × SourceKind)) → ((x : ℕ) → is_one x ids ≡ true → IsSoundAt kind x) →
      AreSound (map mapped others) runs → AreSound (map mapped (of_kind kind ids ++ others)) runs
  all_sound kind [] others h more = more
  all_sound kind (y ∷ ids) others h more = (
    h y (ap (λ (v : Bool). v || is_one y ids) (same y)),
    all_sound kind ids others (λ x k. h x (later (y == x) (is_one x ids) k)) more,
  )
    where
      same : (y : ℕ) → (y == y) ≡ true
      same y = grind (arith, nat_tests)

      later : (a b : Bool) → b ≡ true → (a || b) ≡ true
      later true b e = refl
      later false b e = e

  pub no_faults : ((x : ℕ) → is_one x plan.itm ≡ true → IsSoundAt Itm x) → ((x : ℕ) → is_one x plan.stp ≡ true → IsSoundAt Stp x) →
      AreSound (sources_by plan) runs
  no_faults itm stp =
      all_sound Itm plan.itm (of_kind Stp plan.stp) itm (without (of_kind Stp plan.stp) (all_sound Stp plan.stp [] stp tt))
    where
      without : (l : List (ℕ × SourceKind)) → AreSound (map mapped (l ++ [])) runs → AreSound (map mapped l) runs
      without [] s = s
      without (y ∷ l) s = (s.0, without l s.1)

-- what a mapped source says, where its reading says these values
lifted_saids : {V : Type 0} (f : V → Packet) (given : List (Said V × Place)) →
    whats (lifted (given_as f given)) ≡ map (λ (s : Said V). what_of (said_as f s)) (map (λ (e : Said V × Place). e.0) given)
lifted_saids f [] = refl
lifted_saids {V} f (e ∷ given) = ap (λ (l : List (What Packet)). what_of (said_as f e.0) ∷ l) (lifted_saids f given)

kept_whats : {V : Type 0} (f : V → Packet) (values : List V) → map (λ (s : Said V). what_of (said_as f s)) (map Kept values) ≡ map (λ (v : V). PacketEvent (f v)) values
kept_whats f [] = refl
kept_whats f (v ∷ values) = ap (λ (l : List (What Packet)). PacketEvent (f v) ∷ l) (kept_whats f values)

pub lifted_whats : {V : Type 0} (f : V → Packet) (given : List (Said V × Place)) (values : List V) → map (λ (e : Said V × Place). e.0) given ≡ map Kept values →
    whats (lifted (given_as f given)) ≡ map (λ (v : V). PacketEvent (f v)) values
lifted_whats {V} f given values e =
    lifted_saids f given ∙ ap (λ (l : List (Said V)). map (λ (s : Said V). what_of (said_as f s)) l) e ∙ kept_whats f values

-- the bytes of raw events
abbrev event_bytes : List (What Packet × Place) → List ℕ
event_bytes given = flat_map bytes_in (whats given)

bytes_append : (a b : List (What Packet × Place)) → event_bytes (a ++ b) ≡ event_bytes a ++ event_bytes b
bytes_append a b =
    ap (λ (l : List (What Packet)). flat_map bytes_in l) (map-append (λ (e : What Packet × Place). e.0) a b) ∙ flat_map-append bytes_in (whats a) (whats b)

trigger_bytes : (run : List Cell) → event_bytes (triggers run) ≡ units_of (placed_run run)
trigger_bytes [] = refl
trigger_bytes (c ∷ run) = ap (λ (l : List ℕ). c.byte ∷ l) (trigger_bytes run)

run_bytes : (run : List Cell) → bytes_of run ++ [] ≡ units_of (placed_run run)
run_bytes [] = refl
run_bytes (c ∷ run) = ap (λ (l : List ℕ). c.byte ∷ l) (run_bytes run)

raw_bytes : (x : ℕ) (run : List Cell) → x ≢ 0 → event_bytes (raw_events x run) ≡ units_of (placed_run run)
raw_bytes x run n = by (x == 0) (x == 125) refl
  where
    by : (v w : Bool) → (x == 0) ≡ v →
        event_bytes (if v then [] else if w then triggers run else (Raw (bytes_of run), record { at = last_at run; half = 0 }) ∷ []) ≡ units_of (placed_run run)
    by true w e = absurd (n (grind (arith, nat_tests)))
    by false true e = trigger_bytes run
    by false false e = run_bytes run

pub raws_bytes : (x : ℕ) (runs : List (List Cell)) → x ≢ 0 → event_bytes (raws x runs) ≡ units_of (list_of x runs)
raws_bytes x [] n = refl
raws_bytes x (run ∷ runs) n =
    bytes_append (if is_source x (id_of run) then raw_events x run else []) (raws x runs)
    ∙ ap (λ (l : List ℕ). l ++ event_bytes (raws x runs)) (by (is_source x (id_of run)))
    ∙ ap (λ (l : List ℕ). units_of (if is_source x (id_of run) then placed_run run else []) ++ l) (raws_bytes x runs n)
    ∙ sym (units_append (if is_source x (id_of run) then placed_run run else []) (list_of x runs))
  where
    by : (v : Bool) → event_bytes (if v then raw_events x run else []) ≡ units_of (if v then placed_run run else [])
    by true = raw_bytes x run n
    by false = refl

-- and there are no other events
trigger_plain : (run : List Cell) → All SaysBytes (whats (triggers run))
trigger_plain [] = All-nil SaysBytes
trigger_plain (c ∷ run) = All-cons SaysBytes (Trigger c.byte) (whats (triggers run)) tt (trigger_plain run)

raw_plain : (x : ℕ) (run : List Cell) → All SaysBytes (whats (raw_events x run))
raw_plain x run = by (x == 0) (x == 125)
  where
    by : (v w : Bool) →
        All SaysBytes (whats (if v then [] else if w then triggers run else (Raw (bytes_of run), record { at = last_at run; half = 0 }) ∷ []))
    by true w = All-nil SaysBytes
    by false true = trigger_plain run
    by false false = All-cons SaysBytes (Raw (bytes_of run)) [] tt (All-nil SaysBytes)

pub raws_plain : (x : ℕ) (runs : List (List Cell)) → All SaysBytes (whats (raws x runs))
raws_plain x [] = All-nil SaysBytes
raws_plain x (run ∷ runs) =
    subst (λ (l : List (What Packet)). All SaysBytes l)
    (sym (map-append (λ (e : What Packet × Place). e.0) (if is_source x (id_of run) then raw_events x run else []) (raws x runs)))
    (All-append SaysBytes (whats (if is_source x (id_of run) then raw_events x run else [])) (whats (raws x runs)) (by (is_source x (id_of run))) (raws_plain x runs))
  where
    by : (v : Bool) → All SaysBytes (whats (if v then raw_events x run else []))
    by true = raw_plain x run
    by false = All-nil SaysBytes

-- without a byte there is no event, and the null source never has one
pub raws_none : (x : ℕ) (runs : List (List Cell)) → list_of x runs ≡ [] → (let none : List (What Packet × Place) = [] in raws x runs ≡ none)
raws_none x [] e = refl
raws_none x ([] ∷ runs) e = raws_none x runs e
raws_none x ((c ∷ run) ∷ runs) e = by (is_source x c.id) e (λ k. raws_none x runs k)
  where
    by : (v : Bool) → (if v then placed_run (c ∷ run) else []) ++ list_of x runs ≡ [] → (list_of x runs ≡ [] → (let none : List (What Packet × Place) = [] in raws x runs ≡ none)) →
        (let none : List (What Packet × Place) = [] in (if v then raw_events x (c ∷ run) else []) ++ raws x runs ≡ none)
    by true k more = cc
    by false k more = more k

pub raws_null : (runs : List (List Cell)) → (let none : List (What Packet × Place) = [] in raws 0 runs ≡ none)
raws_null [] = refl
raws_null (run ∷ runs) = by (is_source 0 (id_of run)) (raws_null runs)
  where
    by : (v : Bool) → (let none : List (What Packet × Place) = [] in raws 0 runs ≡ none) → (let none : List (What Packet × Place) = [] in (if v then raw_events 0 run else []) ++ raws 0 runs ≡ none)
    by true e = e
    by false e = e
