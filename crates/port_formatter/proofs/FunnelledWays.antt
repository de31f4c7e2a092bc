-- Bytes that come to the frames through a funnel.
use Rattle.std.proofs.Common.{◌≡◌, ℕ, List, [], ◌∷◌, ◌++◌, ap, sym, ◌∙◌, subst, append_assoc, Option, None, Some}
use Rattle.port_formatter.specs.Names.{sure_after, Tagged, written_segments, Act, Drain, State, Place, Turned, empty}
use Rattle.port_formatter.specs.Names.{Turns}
use Rattle.frame_writer.specs.Sure as sures
use Rattle.port_formatter.specs.Formatter.{Stands, HasPassed, Puts, Ends, turns_by}
use Rattle.port_formatter.specs.Passed.{from_funnel, bytes_acts, act_by, passed, places_after}
use Rattle.port_formatter.specs.PassedLaws.{more_passed, passed_bytes, places_bytes, passed_ends, places_ends}
use Rattle.port_formatter.specs.Passing.{acts_of, Passes}
use Rattle.port_formatter.specs.Port.{Port, sure_of, written}
use Rattle.port_formatter.specs.Ring.{kept_in}
use Rattle.port_formatter.specs.Segments.{Segments, with_bytes, now_ended, after_flush}
use Rattle.port_formatter.specs.declared.formatter.Formatter.TheVariants.{Funnelled}
use Rattle.port_formatter.specs.declared.funnelled.FunnelledFrames.{FunnelledFrames}

abbrev port : ℕ → ℕ → Option Turns → Port
port every halves o = record { every = every; halves = halves; funnel = o }

-- what a funnel that passed these on does
same_acts : (f : State) (t : Turns) (s : Segments) (done : List Act) → HasPassed f t s →
    acts_of f done ≡ act_by t (places_after t s) done
same_acts f t s done h =
    ap (λ (u : Turns). act_by u f.places done) (sym h.turns)
    ∙ ap (λ (ps : List Place). act_by t ps done) h.places

module _ (old new : FunnelledFrames) (done : List Act) (p : Passes old new done) (t : Turns) (s : Segments)
    (h : HasPassed old.funnel t s) where
  pub given : from_funnel (acts_of old.funnel done).out ≡ more_passed t (empty t.order) s.ended s.begun done
  given = ap (λ (w : Turned). from_funnel w.out) (same_acts old.funnel t s done h)

  pub turns_same : t ≡ turns_by new.funnel
  turns_same = h.turns ∙ sym (ap turns_by p.funnel)

  pub places_now : new.funnel.places ≡ (act_by t (places_after t s) done).places
  places_now =
      ap (λ (f : State). f.places) p.funnel ∙ ap (λ (w : Turned). w.places) (same_acts old.funnel t s done h)

-- bytes that are offered
module _ (old new : FunnelledFrames) (bytes : List Tagged) (p : Passes old new (bytes_acts bytes)) where
  module _ (every halves : ℕ) (t : Turns) (s : Segments) (st : Stands (Funnelled old) (port every halves (Some t)) s)
    where
      abbrev more : List Tagged
      more = more_passed t (empty t.order) s.ended s.begun (bytes_acts bytes)

      offered : passed t (with_bytes s bytes) ≡ with_bytes (passed t s) more
      offered = passed_bytes t (empty t.order) s.ended s.begun bytes

      put_list : Stands (Funnelled new) (port every halves (Some t)) (with_bytes s bytes)
      put_list = record {
        frames = subst (λ (r : Segments). sures.IsSure new.ring.frames every halves r.ended r.begun) (sym offered)
            (subst (λ (l : List Tagged). sures.IsSure new.ring.frames every halves (passed t s).ended
            ((passed t s).begun ++ l)) (given old new (bytes_acts bytes) p t s st.funnel)
            (p.frames.list every halves (passed t s).ended (passed t s).begun st.frames));
        funnel = record {
          turns = turns_same old new (bytes_acts bytes) p t s st.funnel;
          places = places_now old new (bytes_acts bytes) p t s st.funnel
              ∙ sym (places_bytes t (empty t.order) s.ended s.begun bytes);
        };
      }

      put_grown : sure_of (port every halves (Some t)) (with_bytes s bytes)
          ≡ sure_of (port every halves (Some t)) s ++ p.frames.more
      put_grown =
          ap (λ (r : Segments). sure_after every halves r.ended r.begun) offered
          ∙ ap (λ (l : List Tagged). sure_after every halves (passed t s).ended ((passed t s).begun ++ l))
          (sym (given old new (bytes_acts bytes) p t s st.funnel))
          ∙ p.frames.grown every halves (passed t s).ended (passed t s).begun st.frames

  puts_list : (every halves : ℕ) (o : Option Turns) (s : Segments) → Stands (Funnelled old) (port every halves o) s →
      Stands (Funnelled new) (port every halves o) (with_bytes s bytes)
  puts_list every halves None s st = absurd st.funnel
  puts_list every halves (Some t) s st = put_list every halves t s st

  puts_grown : (every halves : ℕ) (o : Option Turns) (s : Segments) → Stands (Funnelled old) (port every halves o) s →
      sure_of (port every halves o) (with_bytes s bytes) ≡ sure_of (port every halves o) s ++ p.frames.more
  puts_grown every halves None s st = absurd st.funnel
  puts_grown every halves (Some t) s st = put_grown every halves t s st

  pub funnelled_puts : Puts (Funnelled old) (Funnelled new) bytes
  funnelled_puts = record {
    more = p.frames.more;
    kept = p.frames.appended;
    list = λ q s st. puts_list q.every q.halves q.funnel s st;
    grown = λ q s st. puts_grown q.every q.halves q.funnel s st;
  }

-- a drain, and then the end of the segment
module _ (old mid new : FunnelledFrames) (p : Passes old mid (Drain ∷ [])) (same : new.funnel ≡ mid.funnel)
    (e : sures.Ends mid.ring.frames new.ring.frames (kept_in mid.ring) (kept_in new.ring)) where
  module _ (every halves : ℕ) (t : Turns) (s : Segments) (st : Stands (Funnelled old) (port every halves (Some t)) s)
    where
      abbrev last : List Tagged
      last = from_funnel (acts_of old.funnel (Drain ∷ [])).out

      abbrev whole : Segments
      whole = with_bytes (passed t s) last

      ended : passed t (after_flush s) ≡ after_flush whole
      ended =
          passed_ends t (empty t.order) s.ended s.begun
          ∙ ap (λ (l : List Tagged). after_flush (with_bytes (passed t s) l))
          (sym (given old mid (Drain ∷ []) p t s st.funnel))

      drained : sures.IsSure mid.ring.frames every halves whole.ended whole.begun
      drained = p.frames.list every halves (passed t s).ended (passed t s).begun st.frames

      end_list : Stands (Funnelled new) (port every halves (Some t)) (after_flush s)
      end_list = record {
        frames = subst (λ (r : Segments). sures.IsSure new.ring.frames every halves r.ended r.begun) (sym ended)
            (e.list every halves whole.ended whole.begun drained);
        funnel = record {
          turns = turns_same old mid (Drain ∷ []) p t s st.funnel ∙ sym (ap turns_by same);
          places = ap (λ (f : State). f.places) same ∙ places_now old mid (Drain ∷ []) p t s st.funnel
              ∙ sym (places_ends t (empty t.order) s.ended s.begun);
        };
      }

      grows : sure_after every halves whole.ended whole.begun ++ e.more
          ≡ sure_of (port every halves (Some t)) s ++ (p.frames.more ++ e.more)
      grows =
          ap (λ (l : List ℕ). l ++ e.more) (p.frames.grown every halves (passed t s).ended (passed t s).begun st.frames)
          ∙ append_assoc (sure_of (port every halves (Some t)) s) p.frames.more e.more

      end_grown : sure_of (port every halves (Some t)) (after_flush s)
          ≡ sure_of (port every halves (Some t)) s ++ (p.frames.more ++ e.more)
      end_grown =
          ap (λ (r : Segments). sure_after every halves r.ended r.begun) ended
          ∙ e.grown every halves whole.ended whole.begun drained ∙ grows

      end_all : written (port every halves (Some t)) (now_ended s)
          ≡ sure_of (port every halves (Some t)) s ++ (p.frames.more ++ e.more)
      end_all =
          ap (λ (r : Segments). written_segments every halves r.ended) ended
          ∙ e.all every halves whole.ended whole.begun drained ∙ grows

  ends_list : (every halves : ℕ) (o : Option Turns) (s : Segments) → Stands (Funnelled old) (port every halves o) s →
      Stands (Funnelled new) (port every halves o) (after_flush s)
  ends_list every halves None s st = absurd st.funnel
  ends_list every halves (Some t) s st = end_list every halves t s st

  ends_grown : (every halves : ℕ) (o : Option Turns) (s : Segments) → Stands (Funnelled old) (port every halves o) s →
      sure_of (port every halves o) (after_flush s) ≡ sure_of (port every halves o) s ++ (p.frames.more ++ e.more)
  ends_grown every halves None s st = absurd st.funnel
  ends_grown every halves (Some t) s st = end_grown every halves t s st

  ends_all : (every halves : ℕ) (o : Option Turns) (s : Segments) → Stands (Funnelled old) (port every halves o) s →
      written (port every halves o) (now_ended s) ≡ sure_of (port every halves o) s ++ (p.frames.more ++ e.more)
  ends_all every halves None s st = absurd st.funnel
  ends_all every halves (Some t) s st = end_all every halves t s st

  pub funnelled_ends : Ends (Funnelled old) (Funnelled new)
  funnelled_ends = record {
    more = p.frames.more ++ e.more;
    kept = e.appended ∙ ap (λ (l : List ℕ). l ++ e.more) p.frames.appended
        ∙ append_assoc (kept_in old.ring) p.frames.more e.more;
    list = λ q s st. ends_list q.every q.halves q.funnel s st;
    grown = λ q s st. ends_grown q.every q.halves q.funnel s st;
    all = λ q s st. ends_all q.every q.halves q.funnel s st;
  }
