-- The reading of a port's bytes, in each mode.
use Rattle.std.proofs.Common.{◌≡◌, ◌≢◌, ℕ, suc, ◌-◌, List, [], ◌∷◌, ◌++◌, length, refl, sym, ◌∙◌, ap, ◌⊎◌, inl, inr, arith, subst, Bool, true, false, cond, Option, None, Some}
use Rattle.std.specs.Prelude.{is_none, ◌==◌, ◌&&◌}
use Rattle.deformatter.specs.Names.{Reason, Mode, Hunting, Locked, Place, Placed, units_of, byte_at, Progress, advance}
use Rattle.deformatter.specs.Names.{pattern_of, Found, run_after, begun, hunt_on, hunt_from, no_hunt, hunt, StandsIn}
use Rattle.deformatter.specs.Names.{hunts, is_locked, skipped_of, PortItem, Full, State, Spells, why, start, rule}
use Rattle.deformatter.specs.Names.{port_progress, pattern}
use Rattle.trace_values.specs.declared.mode.Mode.TheVariants.{Aligned}
use Rattle.trace_values.specs.Hunted.{Hunt}
use Rattle.trace_values.proofs.Standings.{progress_push, none_of}
use Rattle.trace_values.proofs.HuntedLemmas as hunting
use Rattle.frame_grammar.proofs.Deciding.{port_decided}
use Rattle.deformatter.specs.Rule.{count_of}
use Rattle.deformatter.specs.Reading.{PortStream, read_after, all_skipped, port_hunted, port_stream, IsHunt}
use Rattle.deformatter.proofs.Lawful.{Sound, sound, counted}

apart : pattern.unit ≢ pattern.last
apart e = omega (arith, e)

-- the pattern spells a full synchronisation
spelled : (w : List Placed) → units_of w ≡ pattern_of pattern → Spells Full w
spelled w e = e

abbrev pub port_hunt : List Placed → Hunt State PortItem
port_hunt u = hunt pattern Full rule start u

abbrev Knew : List Placed → ℕ → Option (Found State PortItem) → Type 0
Knew u run o = hunting.Knew Spells why rule start port_decided pattern Full apart spelled u run o

knows : (u : List Placed) → hunting.Knows Spells why rule start port_decided pattern Full apart spelled u (port_hunt u)
knows u = hunting.knows Spells why rule start port_decided pattern Full apart spelled u

knew : (u : List Placed) (o : Option (Found State PortItem)) → (port_hunt u).found ≡ o → Knew u (port_hunt u).run o
knew u o e = subst (λ (x : Option (Found State PortItem)). Knew u (port_hunt u).run x) e (knows u).found

-- the stream of a hunt is one
pub hunt_is : (u : List Placed) → IsHunt u (port_stream true u)
hunt_is u = by_found (port_hunt u).found refl where
  by_found : (o : Option (Found State PortItem)) → (port_hunt u).found ≡ o → IsHunt u (port_stream true u)
  by_found None e =
      inl ((knew u None e).0, ap (λ (o : Option (Found State PortItem)). port_hunted (port_hunt u).units o) e ∙ ap all_skipped (knows u).units)
  by_found (Some f) e =
      let k = knew u (Some f) e in
      inr (
        k.0,
        k.1,
        k.2,
        k.3,
        ap (λ (o : Option (Found State PortItem)). port_hunted (port_hunt u).units o) e
            ∙ ap (λ (p : Progress State PortItem). read_after f.skipped p) k.5 ∙ ap (λ (n : ℕ). read_after n (port_progress k.1)) (sym k.4),
      )

pub from_append : (u w : List Placed) (h : Hunt State PortItem) → hunt_from pattern Full rule start h (u ++ w) ≡ hunt_from pattern Full rule start (hunt_from pattern Full rule start h u) w
from_append [] w h = refl
from_append (b ∷ u) w h = from_append u w (hunt_on pattern Full rule start h b h.found)

pub hunt_push : (u : List Placed) (b : Placed) (f : Option (Found State PortItem)) → (port_hunt u).found ≡ f → port_hunt (u ++ b ∷ []) ≡ hunt_on pattern Full rule start (port_hunt u) b f
hunt_push u b f e = from_append u (b ∷ []) no_hunt ∙ ap (λ (x : Option (Found State PortItem)). hunt_on pattern Full rule start (port_hunt u) b x) e

-- the list is read, from some byte of it on
pub record IsRead (hunts : Bool) (u : List Placed) : Type 0 where
  pub progress : Progress State PortItem
  pub skipped : ℕ
  pub sound : Sound progress.state
  pub counted : progress.fault ≡ None → length progress.rest ≡ count_of progress.state
  pub old : port_stream hunts u ≡ read_after skipped progress
  pub new : (b : Placed) → port_stream hunts (u ++ b ∷ []) ≡ read_after skipped (advance rule start progress b)

abbrev pub aligned_reads : (u : List Placed) → IsRead false u
aligned_reads u = record {
  progress = port_progress u;
  skipped = 0;
  sound = sound u;
  counted = counted u;
  old = refl;
  new = λ b. ap (λ (p : Progress State PortItem). read_after 0 p) (progress_push rule start u b);
}

pub locked_sound : (u : List Placed) (f : Found State PortItem) → (port_hunt u).found ≡ Some f → Sound f.reading.state
locked_sound u f e = let k = knew u (Some f) e in subst (λ (p : Progress State PortItem). Sound p.state) (sym k.5) (sound k.1)

pub locked_counted : (u : List Placed) (f : Found State PortItem) → (port_hunt u).found ≡ Some f → f.reading.fault ≡ None → length f.reading.rest ≡ count_of f.reading.state
locked_counted u f e =
    let k = knew u (Some f) e in
    subst (λ (p : Progress State PortItem). p.fault ≡ None → length p.rest ≡ count_of p.state) (sym k.5) (counted k.1)

abbrev pub locked_reads : (u : List Placed) (f : Found State PortItem) → (port_hunt u).found ≡ Some f → IsRead true u
locked_reads u f e = record {
  progress = f.reading;
  skipped = f.skipped;
  sound = locked_sound u f e;
  counted = locked_counted u f e;
  old = ap (λ (o : Option (Found State PortItem)). port_hunted (port_hunt u).units o) e;
  new = λ b. ap (λ (h : Hunt State PortItem). port_hunted h.units h.found) (hunt_push u b (Some f) e);
}

-- or a hunt seeks in it
pub seeks_old : (u : List Placed) → (port_hunt u).found ≡ None → port_stream true u ≡ all_skipped (port_hunt u).units
seeks_old u e = ap (λ (o : Option (Found State PortItem)). port_hunted (port_hunt u).units o) e

pub by_mode : (h : Bool) (u : List Placed) → IsRead h u ⊎ ((h ≡ true) × ((port_hunt u).found ≡ None))
by_mode false u = inl (aligned_reads u)
by_mode true u = by_found (port_hunt u).found refl where
  by_found : (o : Option (Found State PortItem)) → (port_hunt u).found ≡ o → IsRead true u ⊎ ((true ≡ true) × ((port_hunt u).found ≡ None))
  by_found None e = inr (refl, e)
  by_found (Some f) e = inl (locked_reads u f e)

abbrev pub locks_at : Hunt State PortItem → ℕ → Bool
locks_at h byte = byte == 127 && h.run == 3

abbrev pub after : Hunt State PortItem → ℕ → ℕ → Bool → PortStream
after h at byte t = cond t (read_after (h.units - 3) (begun start Full (record { at = at; half = 0 }))) (all_skipped (suc h.units))

-- one more byte of a hunt that seeks
pub seeks_new : (u : List Placed) (at byte : ℕ) → (port_hunt u).found ≡ None → port_stream true (u ++ byte_at at byte ∷ []) ≡ after (port_hunt u) at byte (locks_at (port_hunt u) byte)
seeks_new u at byte e =
    ap (λ (h : Hunt State PortItem). port_hunted h.units h.found) (hunt_push u (byte_at at byte) None e) ∙ by (locks_at (port_hunt u) byte) where
      by : (t : Bool) →
          (let h : Hunt State PortItem = cond t (record {
            units = suc (port_hunt u).units;
            run = 0;
            found = Some (record { skipped = (port_hunt u).units - 3; place = record { at = at; half = 0 }; reading = begun start Full (record { at = at; half = 0 }) });
          }) (record { units = suc (port_hunt u).units; run = run_after pattern (port_hunt u).run byte; found = None })
          in port_hunted h.units h.found ≡ after (port_hunt u) at byte t)
      by true = refl
      by false = refl

-- where a machine's kept parts are those of a reading
pub record IsReadAt (hunts : Bool) (s : State) (u : List Placed) : Type 0 where
  pub read : IsRead hunts u
  pub state : read.progress.state ≡ s
  pub fault : read.progress.fault ≡ None

abbrev pub is_read : (m : Mode) (live : Bool) (s : State) (u : List Placed) → live ≡ true → is_locked m ≡ true → StandsIn pattern Full rule start m live s u → IsReadAt (hunts m) s u
is_read Aligned live s u l k r = record {
  read = aligned_reads u;
  state = r.state_is;
  fault = none_of (port_progress u).fault (sym l ∙ r.live_is);
}
is_read (Hunting run skipped) live s u l k r = cc
is_read (Locked skipped) live s u l k r = record {
  read = locked_reads u r.found r.some;
  state = r.stands.state_is;
  fault = none_of r.found.reading.fault (sym l ∙ r.stands.live_is);
}

-- What a deformatter shows of the reading of a list: of the tail and the skipped bytes only while it is live.
pub record PortShows (live locked : Bool) (tail skipped : ℕ) (s : PortStream) : Type 0 where
  pub live_is : live ≡ is_none s.fault
  pub locked_is : locked ≡ s.locked
  pub tail_is : live ≡ true → tail ≡ s.tail
  pub skipped_is : live ≡ true → skipped ≡ s.skipped

-- what a machine shows that has locked, or that hunts
shows_read : (m : Mode) (s : State) (u : List Placed) (skipped : ℕ) (r : IsReadAt (hunts m) s u) → is_locked m ≡ true → r.read.skipped ≡ skipped →
    PortShows true (is_locked m) (count_of s) skipped (port_stream (hunts m) u)
shows_read m s u skipped r k e =
    subst (λ (x : PortStream). PortShows true (is_locked m) (count_of s) skipped x) (sym r.read.old) (record {
      live_is = ap (λ (f : Option (Place × Reason)). is_none f) (sym r.fault);
      locked_is = k;
      tail_is = λ _. ap count_of (sym r.state) ∙ sym (r.read.counted r.fault);
      skipped_is = λ _. sym e;
    })

not_true : (live : Bool) → live ≡ false → live ≡ true → ⊥
not_true live e f = (let k : false ≡ true = sym e ∙ f in cc)

shows_by : (m : Mode) (live : Bool) (s : State) (u : List Placed) → live ≡ false → is_locked m ≡ true → live ≡ is_none (port_stream (hunts m) u).fault → (port_stream (hunts m) u).locked ≡ true →
    PortShows live (is_locked m) (count_of s) (skipped_of m) (port_stream (hunts m) u)
shows_by m live s u l k e f = record {
  live_is = e;
  locked_is = k ∙ sym f;
  tail_is = λ t. absurd (not_true live l t);
  skipped_is = λ t. absurd (not_true live l t);
}

-- what a machine shows is what the reading of its list has
pub shows : (m : Mode) (live : Bool) (s : State) (u : List Placed) → StandsIn pattern Full rule start m live s u →
    PortShows live (is_locked m) (count_of s) (skipped_of m) (port_stream (hunts m) u)
shows Aligned live s u r = by live refl where
  by : (t : Bool) → live ≡ t → PortShows live true (count_of s) 0 (port_stream false u)
  by true e = subst (λ (x : Bool). PortShows x true (count_of s) 0 (port_stream false u)) (sym e) (shows_read Aligned s u 0 (is_read Aligned live s u e refl r) refl refl)
  by false e = shows_by Aligned live s u e refl r.live_is refl
shows (Hunting run skipped) live s u r =
    subst (λ (x : PortStream). PortShows live false (count_of s) skipped x) (sym (seeks_old u r.0.none ∙ ap all_skipped r.0.units_is))
    (record { live_is = r.1; locked_is = refl; tail_is = λ _. ap count_of r.2; skipped_is = λ _. refl })
shows (Locked skipped) live s u r = by live refl where
  old : port_stream true u ≡ read_after r.found.skipped r.found.reading
  old = ap (λ (o : Option (Found State PortItem)). port_hunted (port_hunt u).units o) r.some

  by : (t : Bool) → live ≡ t → PortShows live true (count_of s) skipped (port_stream true u)
  by true e = subst (λ (x : Bool). PortShows x true (count_of s) skipped (port_stream true u)) (sym e) (shows_read (Locked skipped) s u skipped (is_read (Locked skipped) live s u e refl r) refl r.skipped_is)
  by false e = shows_by (Locked skipped) live s u e refl (r.stands.live_is ∙ ap (λ (x : PortStream). is_none x.fault) (sym old)) (ap (λ (x : PortStream). x.locked) old)
