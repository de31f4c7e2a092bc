-- A frame that is taken at once, in what a deformatter stands for.
use Rattle.std.proofs.Common.{◌≡◌, ℕ, List, [], ◌∷◌, ◌++◌, refl, sym, ◌∙◌, ap, subst, arith, true, Option, Some, None}
use Rattle.std.specs.Prelude.{is_none}
use Rattle.deformatter.specs.Names.{Reason, Mode, Hunting, Locked, End, Place, Placed, units_of, walk, Progress}
use Rattle.deformatter.specs.Names.{advance, progress_from, unread, Found, hunt_on, hunt_from, no_hunt, StandsIn, hunts}
use Rattle.deformatter.specs.Names.{is_locked, id_after, PortItem, Full, Frame, State, Spells, start, rule}
use Rattle.deformatter.specs.Names.{port_progress, fulls_in, halves_in, frames_in, pattern}
use Rattle.trace_values.specs.declared.mode.Mode.TheVariants.{Aligned}
use Rattle.trace_values.specs.Hunted.{Hunt}
use Rattle.trace_values.proofs.Standings as standings
use Rattle.trace_values.proofs.Wholes.{whole_reads}
use Rattle.frame_grammar.proofs.Deciding.{port_decided}
use Rattle.deformatter.specs.Reading.{PortStream, read_after, port_hunted, port_stream, id_in}
use Rattle.deformatter.specs.Frames.{last_place, GrowsByFrame}
use Rattle.deformatter.specs.Rule.{id_by}
use Rattle.deformatter.proofs.Growing as growing
use Rattle.deformatter.proofs.Readings.{port_hunt, from_append}

-- all bytes before the last, and the last
record Ended (w : List Placed) : Type 0 where
  front : List Placed
  last : Placed
  parts : w ≡ front ++ last ∷ []
  place : last.place ≡ last_place w

ended : (x : Placed) (w : List Placed) → Ended (x ∷ w)
ended x [] = record { front = []; last = x; parts = refl; place = refl }
ended x (y ∷ w) =
    let r = ended y w in
    record { front = x ∷ r.front; last = r.last; parts = ap (λ (l : List Placed). x ∷ l) r.parts; place = r.place }

not_empty : (before w : List Placed) (a : Placed) → (let none : List Placed = [] in none ≡ before ++ (a ∷ w)) → ⊥
not_empty [] w a e = cc
not_empty (x ∷ before) w a e = cc

-- a frame has a last byte
frame_ended : (f w : List Placed) (halves : ℕ) → Spells (Frame f halves) w → Ended w
frame_ended f [] halves (a, b, g, r, word, e, words) = absurd (not_empty word.before (b ∷ r) a word.parts)
frame_ended f (x ∷ w) halves s = ended x w

abbrev taken_to : Progress State PortItem → List Placed → ℕ → Place → Progress State PortItem
taken_to p f halves place = record { items = p.items ++ (Frame f halves, place) ∷ []; rest = []; fault = None; state = start }

module _ (w f : List Placed) (halves : ℕ) (spelled : Spells (Frame f halves) w) where
  reads_by : (items : List (PortItem × Place)) (rest : List Placed) (fault : Option (Place × Reason)) (state : State) → state ≡ start → fault ≡ None →
      progress_from rule start (record { items = items; rest = rest; fault = fault; state = state }) w
      ≡ record { items = items ++ (Frame f halves, last_place w) ∷ []; rest = []; fault = None; state = start }
  reads_by items rest fault state s n =
      let p = frame_ended f w halves spelled in
      ap (λ (t : State). progress_from rule start (record { items = items; rest = rest; fault = fault; state = t }) w) s
      ∙ ap (λ (g : Option (Place × Reason)). progress_from rule start (record { items = items; rest = rest; fault = g; state = start }) w) n
      ∙ ap (λ (l : List Placed). progress_from rule start (record { items = items; rest = rest; fault = None; state = start }) l) p.parts
      ∙ whole_reads rule start p.front p.last items rest start (Frame f halves)
      (ap (walk rule start) (sym p.parts) ∙ port_decided.complete (Frame f halves) w spelled)
      ∙ ap (λ (l : Place). record { items = items ++ (Frame f halves, l) ∷ []; rest = []; fault = None; state = start }) p.place

  reads : (p : Progress State PortItem) → p.state ≡ start → p.fault ≡ None → progress_from rule start p w ≡ taken_to p f halves (last_place w)
  reads p s n = reads_by p.items p.rest p.fault p.state s n

-- a hunt that has locked reads on
found_more : (w : List Placed) (h : Hunt State PortItem) (f : Found State PortItem) → h.found ≡ Some f →
    (hunt_from pattern Full rule start h w).found ≡ Some (record { skipped = f.skipped; place = f.place; reading = progress_from rule start f.reading w })
found_more [] h f e = e
found_more (b ∷ w) h f e =
    ap (λ (o : Option (Found State PortItem)). (hunt_from pattern Full rule start (hunt_on pattern Full rule start h b o) w).found) e
    ∙ found_more w (hunt_on pattern Full rule start h b (Some f)) (record { skipped = f.skipped; place = f.place; reading = advance rule start f.reading b }) refl

found_on : (u w : List Placed) (f : Found State PortItem) → (port_hunt u).found ≡ Some f →
    (port_hunt (u ++ w)).found ≡ Some (record { skipped = f.skipped; place = f.place; reading = progress_from rule start f.reading w })
found_on u w f e = ap (λ (h : Hunt State PortItem). h.found) (from_append u w no_hunt) ∙ found_more w (port_hunt u) f e

-- what it stands for then
pub record Passed (m : Mode) (u w f : List Placed) (halves : ℕ) : Type 0 where
  pub progress : Progress State PortItem
  pub skipped : ℕ
  pub state : progress.state ≡ start
  pub old : port_stream (hunts m) u ≡ read_after skipped progress
  pub new : port_stream (hunts m) (u ++ w) ≡ read_after skipped (taken_to progress f halves (last_place w))
  pub stands : StandsIn pattern Full rule start m true start (u ++ w)

pub passed : (m : Mode) (u w f : List Placed) (halves : ℕ) → Spells (Frame f halves) w → is_locked m ≡ true →
    StandsIn pattern Full rule start m true start u → Passed m u w f halves
passed Aligned u w f halves q l s =
    let n = standings.none_of (port_progress u).fault s.live_is in
    let e : port_progress (u ++ w) ≡ taken_to (port_progress u) f halves (last_place w) =
    standings.from_append rule start u w (unread start) ∙ reads w f halves q (port_progress u) s.state_is n in
    record {
      progress = port_progress u;
      skipped = 0;
      state = s.state_is;
      old = refl;
      new = ap (λ (p : Progress State PortItem). read_after 0 p) e;
      stands = record { live_is = ap (λ (p : Progress State PortItem). is_none p.fault) (sym e); state_is = ap (λ (p : Progress State PortItem). p.state) e };
    }
passed (Hunting run skipped) u w f halves q l s = cc
passed (Locked skipped) u w f halves q l s =
    let g = s.found in
    let none = standings.none_of g.reading.fault s.stands.live_is in
    let state = s.stands.state_is in
    let next : Progress State PortItem = taken_to g.reading f halves (last_place w) in
    let e : progress_from rule start g.reading w ≡ next = reads w f halves q g.reading state none in
    let some : (port_hunt (u ++ w)).found ≡ Some (record { skipped = g.skipped; place = g.place; reading = next }) =
    found_on u w g s.some ∙ ap (λ (p : Progress State PortItem). Some (record { skipped = g.skipped; place = g.place; reading = p })) e in
    record {
      progress = g.reading;
      skipped = g.skipped;
      state = state;
      old = ap (λ (o : Option (Found State PortItem)). port_hunted (port_hunt u).units o) s.some;
      new = ap (λ (o : Option (Found State PortItem)). port_hunted (port_hunt (u ++ w)).units o) some;
      stands = record {
        found = record { skipped = g.skipped; place = g.place; reading = next };
        some = some;
        skipped_is = s.skipped_is;
        stands = record { live_is = refl; state_is = refl };
      };
    }

module _ (m : Mode) (u w f : List Placed) (halves : ℕ) (t : Passed m u w f halves) where
  frame_end : Placed
  frame_end = record { unit = 0; place = last_place w }

  pub id : id_in (port_stream (hunts m) (u ++ w)) ≡ id_after (units_of f) (id_in (port_stream (hunts m) u))
  unfolding frame_end
  id =
      ap id_in t.new ∙ growing.id_fed t.skipped t.progress frame_end (End (Frame f halves))
      ∙ ap (λ (x : PortStream). id_by (id_in x) (End (Frame f halves))) (sym t.old)

  read_on : GrowsByFrame (read_after t.skipped t.progress) (read_after t.skipped (taken_to t.progress f halves (last_place w))) w f halves (id_in (read_after t.skipped t.progress))
  unfolding frame_end
  read_on = record {
    items = refl;
    cells = growing.cells_fed t.skipped t.progress frame_end (End (Frame f halves));
    halves = (let e = growing.sum_push halves_in t.progress.items (Frame f halves) (last_place w) in let z = ap (λ (s : State). s.halves) t.state in omega (arith, e, z));
    fulls = (let e = growing.sum_push fulls_in t.progress.items (Frame f halves) (last_place w) in omega (arith, e));
    frames = growing.sum_push frames_in t.progress.items (Frame f halves) (last_place w);
    fault = refl;
    hunt = record { before = refl; after = refl; skipped = refl };
  }

  pub grows : GrowsByFrame (port_stream (hunts m) u) (port_stream (hunts m) (u ++ w)) w f halves (id_in (port_stream (hunts m) u))
  grows =
      subst (λ (x : PortStream). GrowsByFrame x (port_stream (hunts m) (u ++ w)) w f halves (id_in x)) (sym t.old)
      (subst (λ (x : PortStream). GrowsByFrame (read_after t.skipped t.progress) x w f halves (id_in (read_after t.skipped t.progress))) (sym t.new) read_on)
