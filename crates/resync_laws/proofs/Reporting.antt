-- The report of the rest of a capture follows the whole's.
use Rattle.std.proofs.Common.{◌≡◌, ℕ, List, [], ◌∷◌, ◌++◌, map, refl, sym, ◌∙◌, ap, subst, inl, inr, append_assoc}
use Rattle.std.proofs.Common.{append-nil, Bool, true, false, cond, Option, None}
use Rattle.std.specs.Prelude.{◌==◌}
use Rattle.std.proofs.lemmas.List.{map-append}
use Rattle.std.proofs.lemmas.List.Elements.{filter-append}
use Rattle.resync_laws.specs.Names.{Cell, Reason, Place, Placed, FramesMode, Hunt, Aligned, Bare, PortItem, Full}
use Rattle.resync_laws.specs.Names.{id_of_items, frames_of_items, framed, bare_cell, bare, port_reading, BytesRise}
use Rattle.resync_laws.specs.Names.{Event, id_of, all_runs, list_of, told, cut, Mapped, AreLawful, lifted, events}
use Rattle.resync_laws.specs.Names.{lesser, of_source, least_fault, all_events, capture_events, port_events, lock_at}
use Rattle.resync_laws.specs.Names.{is_item, runs_in, stop_in, report, IsPortRest, IsFramedRest, PortLocks, rest_mode}
use Rattle.deformatter.specs.Reading.{PortStream, items_of, port_stream}
use Rattle.deformatter.proofs.PortReadingLaws.{frames_of_items-append}
use Rattle.deformatter.proofs.RisingLaws.{reading_rises}
use Rattle.source_events.proofs.Placing.{RunsBetween, frames_between}
use Rattle.source_events.proofs.Least.{AreSound, Full as Stop, least_none, list_append}
use Rattle.source_events.proofs.Settling.{all_sound}
use Rattle.source_events.proofs.Growth.{no_stop}
use Rattle.resync_laws.proofs.RunTerms.{unnamed_run, RunsRest}
use Rattle.resync_laws.specs.FromPoints.{items_among, from_points}
use Rattle.resync_laws.specs.Resumed.{Resumed, wholes, rests, CanAll, points_in}
use Rattle.resync_laws.proofs.ReportTerms.{AllRead, AllRest, FollowsReport}
use Rattle.resync_grammars.proofs.Resting.{is_rest}
use Rattle.resync_grammars.proofs.Modes as ports
use Rattle.resync_laws.proofs.RunsLater.{runs_parts, items_runs}
use Rattle.resync_laws.proofs.Sources.{none_hidden, rest_list}
use Rattle.resync_laws.proofs.Listing.{grow, raws_hidden, each_follows}
use Rattle.resync_laws.proofs.Merging.{merged_follows}

-- the runs of a port with a formatter
nothing_runs : (whole rest : List (List Cell)) → rest ≡ [] → RunsRest whole rest
nothing_runs whole rest e = record { before = whole; hidden = []; named = []; whole_is = sym (append-nil (whole ++ []) ∙ append-nil whole); rest_is = e }

locked_runs : (h : Bool) (u w front : List Placed) → PortLocks h u w front →
    RunsRest (runs_in (framed (port_stream h (u ++ w)))) (runs_in (framed (port_stream true w)))
locked_runs h u w front l =
    let early = items_of l.early in
    let later = items_of l.later in
    let id = id_of_items None early in
    let k = items_runs id later in
    let whole : runs_in (framed (port_stream h (u ++ w))) ≡ all_runs (frames_of_items None early) ++ all_runs (frames_of_items id later) =
    ap (λ (z : List (PortItem × Place)). all_runs (frames_of_items None (items_of z))) l.whole_items
    ∙ ap (λ (z : List PortItem). all_runs (frames_of_items None z)) (map-append (λ (x : PortItem × Place). x.0) l.early ((Full, l.last.place) ∷ l.later))
    ∙ ap all_runs (frames_of_items-append None early (Full ∷ later))
    ∙ runs_parts (frames_of_items None early) (frames_of_items id later) in
    record {
      before = all_runs (frames_of_items None early);
      hidden = k.hidden;
      named = k.named;
      whole_is = whole ∙ ap (λ (z : List (List Cell)). all_runs (frames_of_items None early) ++ z) k.whole_is ∙ sym (append_assoc (all_runs (frames_of_items None early)) k.hidden k.named);
      rest_is = ap (λ (z : List (PortItem × Place)). all_runs (frames_of_items None (items_of z))) l.rest_items ∙ k.rest_is;
    }

framed_runs : (h : Bool) (u w : List Placed) → IsFramedRest h u w → RunsRest (runs_in (framed (port_stream h (u ++ w)))) (runs_in (framed (port_stream true w)))
framed_runs h u w r = elim r [
  | inl m ↦ nothing_runs (runs_in (framed (port_stream h (u ++ w)))) (runs_in (framed (port_stream true w))) (ap (λ (s : PortStream). runs_in (framed s)) m.1)
  | inr m ↦ locked_runs h u w m.0 m.1
]

bare_rest : (u w : List Placed) → RunsRest (runs_in (bare (u ++ w))) (runs_in (bare w))
bare_rest u w = record {
  before = runs_in (bare u);
  hidden = [];
  named = runs_in (bare w);
  whole_is =
      ap all_runs (map-append (λ (b : Placed). bare_cell b ∷ []) u w) ∙ runs_parts (bare u).frames (bare w).frames
      ∙ ap (λ (z : List (List Cell)). z ++ runs_in (bare w)) (sym (append-nil (runs_in (bare u))));
  rest_is = refl;
}

-- what the port owes, in each mode
record PortPart (mode : FramesMode) (u w : List Placed) : Type 0 where
  port : IsPortRest mode u w
  runs : RunsRest (runs_in (port_reading mode (u ++ w))) (runs_in (port_reading (rest_mode mode) w))
  fault : (port_reading (rest_mode mode) w).fault ≡ None
  tail : (port_reading (rest_mode mode) w).locked ≡ true → (port_reading (rest_mode mode) w).tail ≡ (port_reading mode (u ++ w)).tail

framed_fault : (h : Bool) (u w : List Placed) → (port_stream h (u ++ w)).fault ≡ None → IsFramedRest h u w → (port_stream true w).fault ≡ None
framed_fault h u w e r = elim r [ inl m ↦ ap (λ (s : PortStream). s.fault) m.1 | inr m ↦ m.1.fault ∙ e ]

framed_tail : (h : Bool) (u w : List Placed) → IsFramedRest h u w → (port_stream true w).locked ≡ true → (port_stream true w).tail ≡ (port_stream h (u ++ w)).tail
framed_tail h u w r t = elim r [
  | inl m ↦ absurd (let k : false ≡ true = sym (ap (λ (s : PortStream). s.locked) m.1) ∙ t in cc)
  | inr m ↦ m.1.tail
]

port_part : (mode : FramesMode) (u w : List Placed) → (port_reading mode (u ++ w)).fault ≡ None → PortPart mode u w
port_part Hunt u w e = let r = is_rest true u w e in record { port = r; runs = framed_runs true u w r; fault = framed_fault true u w e r; tail = framed_tail true u w r }
port_part Aligned u w e = let r = is_rest false u w e in record { port = r; runs = framed_runs false u w r; fault = framed_fault false u w e r; tail = framed_tail false u w r }
port_part Bare u w e = record {
  port = ports.is_rest Bare u w e;
  runs = bare_rest u w;
  fault = refl;
  tail = λ t. refl;
}

none_named : (hidden : List (List Cell)) → map id_of (map unnamed_run hidden) ≡ map (λ m. None) (map unnamed_run hidden)
none_named [] = refl
none_named ([] ∷ hidden) = ap (λ (l : List (Option ℕ)). None ∷ l) (none_named hidden)
none_named ((c ∷ run) ∷ hidden) = ap (λ (l : List (Option ℕ)). None ∷ l) (none_named hidden)

module _ {V : Type 0} where
  whole_laws : {K : Type 0} (ps : List (Resumed K V)) → CanAll ps → AreLawful (wholes ps)
  whole_laws [] can = tt
  whole_laws (p ∷ ps) can = (can.0.whole_lawful, whole_laws ps can.1)

  pub rest_laws : {K : Type 0} (ps : List (Resumed K V)) → CanAll ps → AreLawful (rests ps)
  rest_laws [] can = tt
  rest_laws (p ∷ ps) can = (can.0.rest_lawful, rest_laws ps can.1)

  -- hidden runs give no events
  none_given : {K : Type 0} (ps : List (Resumed K V)) → CanAll ps → (x : ℕ) (hidden : List (List Cell)) → events (rests ps) x (map unnamed_run hidden) ≡ []
  none_given [] can x hidden = raws_hidden x hidden
  none_given (p ∷ ps) can x hidden = by (x == p.id) (none_given ps can.1 x hidden) where
    by : (b : Bool) → events (rests ps) x (map unnamed_run hidden) ≡ [] → cond b (lifted (p.rest (p.units (list_of x (map unnamed_run hidden)))).given) (events (rests ps) x (map unnamed_run hidden)) ≡ []
    by true k = ap (λ (l : List Placed). lifted (p.rest (p.units l)).given) (none_hidden x hidden) ∙ ap lifted can.0.rest_lawful.begins
    by false k = k

  -- each mapped source's rest, and that it has no fault
  sources_rest : {K : Type 0} (reads : K → List Placed → List Placed → Type 0) (ps : List (Resumed K V)) → CanAll ps → AllRead reads ps → (whole rest : List (List Cell)) → RunsRest whole rest → AreSound (wholes ps) whole → AllRest reads ps whole rest × AreSound (rests ps) rest
  sources_rest reads [] can read whole rest k sound = (tt, tt)
  sources_rest reads (p ∷ ps) can read whole rest k sound =
      let early = list_of p.id (k.before ++ k.hidden) in
      let last : list_of p.id rest ≡ list_of p.id k.named = ap (list_of p.id) k.rest_is ∙ rest_list p.id k.hidden k.named in
      let parts : list_of p.id whole ≡ early ++ list_of p.id rest = ap (list_of p.id) k.whole_is ∙ list_append p.id (k.before ++ k.hidden) k.named ∙ ap (λ (l : List Placed). early ++ l) (sym last) in
      let units : p.units (list_of p.id whole) ≡ p.units early ++ p.units (list_of p.id rest) = ap p.units parts ∙ can.0.append early (list_of p.id rest) in
      let e = ap (λ (l : List Placed). (p.whole l).fault) (sym units) ∙ sound.0 in
      let more = sources_rest reads ps can.1 read.1 whole rest k sound.1 in (
        (record { early = early; bytes = parts; word = read.0 (p.units early) (p.units (list_of p.id rest)) e; tail = λ t. can.0.tail (p.units early) (p.units (list_of p.id rest)) e t ∙ ap (λ (l : List Placed). (p.whole l).held) (sym units) }, more.0),
        (can.0.stays_sound (p.units early) (p.units (list_of p.id rest)) e, more.1),
      )

  pub sound_report : (ss : List (Mapped V)) (mode : FramesMode) (u : List Placed) → stop_in ss (port_reading mode u) ≡ None → report ss mode u ≡ told None (port_events mode u) ++ all_events ss (runs_in (port_reading mode u))
  sound_report ss mode u e = ap (λ (o : Option Stop). cut o (capture_events ss mode u)) e

  -- the port gives notices only
  no_port_items : (mode : FramesMode) (u : List Placed) → items_among {V = V} (told None (port_events mode u)) ≡ []
  no_port_items Aligned u = refl
  no_port_items Bare u = refl
  no_port_items Hunt u = by (port_stream true u).skipped (port_stream true u).items where
    by : (n : ℕ) (l : List (PortItem × Place)) → items_among {V = V} (told None (lock_at n l)) ≡ []
    by n [] = refl
    by n (x ∷ l) = refl

  pub report_items : (ss : List (Mapped V)) (mode : FramesMode) (u : List Placed) → stop_in ss (port_reading mode u) ≡ None → items_among (report ss mode u) ≡ items_among (all_events ss (runs_in (port_reading mode u)))
  report_items ss mode u e =
      ap items_among (sound_report ss mode u e)
      ∙ filter-append (λ (x : Event V). is_item x.what) (told None (port_events mode u)) (all_events ss (runs_in (port_reading mode u)))
      ∙ ap (λ (l : List (Event V)). l ++ items_among (all_events ss (runs_in (port_reading mode u)))) (no_port_items mode u)

  events_follow : {K : Type 0} (ps : List (Resumed K V)) → CanAll ps → (whole rest : List (List Cell)) → RunsRest whole rest → (hi : ℕ) → RunsBetween 0 hi whole → AreSound (wholes ps) whole →
      from_points (points_in ps rest) (items_among (all_events (rests ps) rest)) ≡ from_points (points_in ps rest) (items_among (all_events (wholes ps) whole))
  events_follow ps can whole rest k hi b sound =
      let before = k.before ++ k.hidden in
      let hidden = map unnamed_run k.hidden in
      let all : from_points (points_in ps (hidden ++ k.named)) (items_among (all_events (rests ps) (hidden ++ k.named))) ≡ from_points (points_in ps (hidden ++ k.named)) (items_among (all_events (wholes ps) (before ++ k.named))) =
      merged_follows (points_in ps (hidden ++ k.named)) id_of (events (wholes ps)) (events (rests ps)) (grow (wholes ps) (whole_laws ps can)) (grow (rests ps) (rest_laws ps can)) before hidden k.named
      (none_named k.hidden) (λ x. none_given ps can x k.hidden)
      (each_follows before k.hidden k.named hi (subst (λ (l : List (List Cell)). RunsBetween 0 hi l) k.whole_is b) ps can (subst (λ (l : List (List Cell)). AreSound (wholes ps) l) k.whole_is sound)) in
      subst (λ (l : List (List Cell)). from_points (points_in ps l) (items_among (all_events (rests ps) l)) ≡ from_points (points_in ps l) (items_among (all_events (wholes ps) whole))) (sym k.rest_is)
      (all ∙ ap (λ (l : List (List Cell)). from_points (points_in ps (hidden ++ k.named)) (items_among (all_events (wholes ps) l))) (sym k.whole_is))

  -- With any front lost, the report of the rest follows the whole's, in each mode.
  pub report_follows : {K : Type 0} (reads : K → List Placed → List Placed → Type 0) (ps : List (Resumed K V)) → CanAll ps → AllRead reads ps → (mode : FramesMode) (u w : List Placed) (hi : ℕ) → BytesRise 0 hi (u ++ w) → stop_in (wholes ps) (port_reading mode (u ++ w)) ≡ None → FollowsReport reads ps mode u w
  report_follows reads ps can read mode u w hi rise e =
      let W = port_reading mode (u ++ w) in
      let R = port_reading (rest_mode mode) w in
      let none : W.fault ≡ None = no_stop (wholes ps) W e in
      let between = frames_between W.frames 0 hi (reading_rises mode (u ++ w) 0 hi rise) in
      let least : least_fault (wholes ps) (runs_in W) ≡ None = sym (ap (λ (o : Option (Place × Reason)). lesser (of_source None o) (least_fault (wholes ps) (runs_in W))) none) ∙ e in
      let sound : AreSound (wholes ps) (runs_in W) = all_sound (runs_in W) [] hi between tt (wholes ps) least in
      let part = port_part mode u w none in
      let sources = sources_rest reads ps can read (runs_in W) (runs_in R) part.runs sound in
      let stop : stop_in (rests ps) R ≡ None =
      ap (λ (o : Option (Place × Reason)). lesser (of_source None o) (least_fault (rests ps) (runs_in R))) part.fault ∙ least_none (rests ps) (runs_in R) sources.1 in
      let points = points_in ps (runs_in R) in
      record {
        port = part.port;
        runs = part.runs;
        sources = sources.0;
        events = ap (from_points points) (report_items (rests ps) (rest_mode mode) w stop)
            ∙ events_follow ps can (runs_in W) (runs_in R) part.runs hi between sound
            ∙ ap (from_points points) (sym (report_items (wholes ps) mode (u ++ w) e));
        sound = stop;
        tail = part.tail;
      }
