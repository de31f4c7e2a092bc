-- The report of the same bytes at later offsets is the report, at later offsets.
use Rattle.std.proofs.Common.{◌≡◌, ℕ, zero, suc, ◌+◌, ◌*◌, ◌<◌, ◌≤◌, List, [], ◌∷◌, ◌++◌, length, drop, map, refl, sym}
use Rattle.std.proofs.Common.{◌∙◌, ap, subst, inl, inr, arith, Bool, true, false, cond, Option, None, Some}
use Rattle.std.specs.Prelude.{◌==◌, slice_index}
use Rattle.std.specs.List.{sum_by}
use Rattle.std.proofs.lemmas.List.{map-append, length-map}
use Rattle.std.proofs.lemmas.List.Sums.{sum_by-append}
use Rattle.resync_laws.specs.Names.{Cell, Place, Placed, byte_at, placed_from, units_of, Splits, Stream, Said}
use Rattle.resync_laws.specs.Names.{FramesMode, Hunt, Aligned, Bare, names, cell, even_data, even_cells}
use Rattle.resync_laws.specs.Names.{cells_below, cells, id_after, PortItem, Full, Half, Frame, Spells, why, rule, start}
use Rattle.resync_laws.specs.Names.{frames_of_items, framed, bare_cell, bare, port_reading, Event, What, Raw, Trigger}
use Rattle.resync_laws.specs.Names.{joined, runs_of, all_runs, id_of, bytes_of, placed_run, last_at, list_of, told}
use Rattle.resync_laws.specs.Names.{grown, merged_from, what_of, lifted, triggers, raw_events, raws, events, all_events}
use Rattle.resync_laws.specs.Names.{later_place, later, of_sources}
use Rattle.frame_grammar.proofs.Cells.{odd_cells}
use Rattle.trace_values.proofs.Readings as readings
use Rattle.frame_grammar.specs.Reading.{offsets_of, item_id, fulls_in, is_source, port_reading as grammar_reading}
use Rattle.frame_grammar.proofs.Deciding.{port_decided}
use Rattle.frame_grammar.proofs.Items.{frame_bytes}
use Rattle.deformatter.specs.Reading.{PortStream, port_stream, items_of}
use Rattle.deformatter.proofs.Readings.{hunt_is}
use Rattle.resync_laws.specs.Moved.{later_cell, later_run, later_reading, later_event}
use Rattle.resync_laws.proofs.MovedTerms.{later_item, later_port}
use Rattle.resync_laws.specs.Resumed.{Resumed, rests, CanAll}
use Rattle.resync_laws.proofs.MovedPort.{port_later}

pub placed_later : (c at : ℕ) (bytes : List ℕ) → placed_from (at + c) bytes ≡ map (λ b. later c b) (placed_from at bytes)
placed_later c at [] = refl
placed_later c at (b ∷ bytes) =
    ap (λ (l : List Placed). byte_at (at + c) b ∷ l) (ap (λ (n : ℕ). placed_from n bytes) (let k : at + c + 1 ≡ at + 1 + c = omega arith in k) ∙ placed_later c (at + 1) bytes)

-- every frame has its 16 bytes
abbrev AllSized : List PortItem → Type 0
AllSized [] = Unit {0}
AllSized (Full ∷ port_items) = AllSized port_items
AllSized (Half ∷ port_items) = AllSized port_items
AllSized (Frame f halves ∷ port_items) = (length f ≡ 16) × AllSized port_items

items_sized : (items : List (PortItem × Place)) (rest u : List Placed) → Splits Spells items rest u → AllSized (items_of items)
items_sized [] rest u s = tt
items_sized ((Full, place) ∷ items) rest u (a, l, w, spelled, parts, at, more) = items_sized items rest w more
items_sized ((Half, place) ∷ items) rest u (a, l, w, spelled, parts, at, more) = items_sized items rest w more
items_sized ((Frame f halves, place) ∷ items) rest u (a, l, w, spelled, parts, at, more) = (frame_bytes f (a ++ l ∷ []) halves spelled, items_sized items rest w more)

read_sized : (u : List Placed) → AllSized (items_of (grammar_reading u).items)
read_sized u = items_sized (grammar_reading u).items (grammar_reading u).rest u (readings.reading_is Spells why rule start port_decided u).splits

pub sized : (h : Bool) (u : List Placed) → AllSized (items_of (port_stream h u).items)
sized false u = read_sized u
sized true u = elim (hunt_is u) [
  | inl m ↦ subst (λ (s : PortStream). AllSized (items_of s.items)) (sym m.1) tt
  | inr (before, after, parts, first, is) ↦ subst (λ (s : PortStream). AllSized (items_of s.items)) (sym is) (read_sized after)
]

module _ (c : ℕ) where
  units_later : (f : List Placed) → units_of (map (λ b. later c b) f) ≡ units_of f
  units_later [] = refl
  units_later (b ∷ f) = ap (λ (l : List ℕ). b.unit ∷ l) (units_later f)

  offsets_later : (f : List Placed) → offsets_of (map (λ b. later c b) f) ≡ map (λ o. o + c) (offsets_of f)
  offsets_later [] = refl
  offsets_later (b ∷ f) = ap (λ (l : List ℕ). (b.place.at + c) ∷ l) (offsets_later f)

  index_later : (offsets : List ℕ) (i : ℕ) → i < length offsets → slice_index (map (λ o. o + c) offsets) i ≡ slice_index offsets i + c
  index_later [] i l = absurd (omega arith)
  index_later (o ∷ offsets) zero l = refl
  index_later (o ∷ offsets) (suc i) l = index_later offsets i (omega arith)

  module _ (frame offsets : List ℕ) (id : Option ℕ) (size : length offsets ≡ 16) where
    abbrev moved_offsets : List ℕ
    moved_offsets = map (λ o. o + c) offsets

    cell_later : (i byte : ℕ) → i < 16 → cell frame moved_offsets id i byte ≡ later_cell c (cell frame offsets id i byte)
    cell_later i byte l = ap (λ (n : ℕ). record (cell frame offsets id i byte) { at = n }) (index_later offsets i (omega (arith, size, l)))

    even_later : (k : ℕ) → k < 8 → (b : Bool) → cond b [] (cell frame moved_offsets id (2 * k) (even_data frame k) ∷ []) ≡ later_run c (cond b [] (cell frame offsets id (2 * k) (even_data frame k) ∷ []))
    even_later k l true = refl
    even_later k l false = ap (λ (x : Cell). x ∷ []) (cell_later (2 * k) (even_data frame k) (omega arith))

    below_later : (k : ℕ) → k ≤ 7 → cells_below frame moved_offsets id k ≡ later_run c (cells_below frame offsets id k)
    below_later zero l = refl
    below_later (suc k) l =
        ap (λ (z : List Cell). z ++ (even_cells frame moved_offsets id k ++ odd_cells frame moved_offsets id k)) (below_later k (omega arith))
        ∙ ap (λ (z : List Cell). later_run c (cells_below frame offsets id k) ++ (z ++ odd_cells frame moved_offsets id k)) (even_later k (omega arith) (names frame k))
        ∙ ap (λ (z : Cell). later_run c (cells_below frame offsets id k) ++ (later_run c (even_cells frame offsets id k) ++ z ∷ [])) (cell_later (2 * k + 1) (slice_index frame (2 * k + 1)) (omega arith))
        ∙ ap (λ (z : List Cell). later_run c (cells_below frame offsets id k) ++ z) (sym (map-append (λ (x : Cell). later_cell c x) (even_cells frame offsets id k) (odd_cells frame offsets id k)))
        ∙ sym (map-append (λ (x : Cell). later_cell c x) (cells_below frame offsets id k) (even_cells frame offsets id k ++ odd_cells frame offsets id k))

    cells_later : cells frame moved_offsets id ≡ later_run c (cells frame offsets id)
    cells_later =
        ap (λ (z : List Cell). z ++ even_cells frame moved_offsets id 7) (below_later 7 (omega arith))
        ∙ ap (λ (z : List Cell). later_run c (cells_below frame offsets id 7) ++ z) (even_later 7 (omega arith) (names frame 7))
        ∙ sym (map-append (λ (x : Cell). later_cell c x) (cells_below frame offsets id 7) (even_cells frame offsets id 7))

  offsets_length : (f : List Placed) → length (offsets_of f) ≡ length f
  offsets_length f = length-map f (λ (b : Placed). b.place.at)

  frames_later : (id : Option ℕ) (port_items : List PortItem) → AllSized port_items → frames_of_items id (map (λ p. later_item c p) port_items) ≡ map (λ frame. later_run c frame) (frames_of_items id port_items)
  frames_later id [] s = refl
  frames_later id (Full ∷ port_items) s = frames_later id port_items s
  frames_later id (Half ∷ port_items) s = frames_later id port_items s
  frames_later id (Frame f halves ∷ port_items) s =
      ap (λ (u : List ℕ). cells u (offsets_of (map (λ b. later c b) f)) id ∷ frames_of_items (id_after u id) (map (λ p. later_item c p) port_items)) (units_later f)
      ∙ ap (λ (o : List ℕ). cells (units_of f) o id ∷ frames_of_items (item_id id (Frame f halves)) (map (λ p. later_item c p) port_items)) (offsets_later f)
      ∙ ap (λ (z : List Cell). z ∷ frames_of_items (item_id id (Frame f halves)) (map (λ p. later_item c p) port_items)) (cells_later (units_of f) (offsets_of f) id (offsets_length f ∙ s.0))
      ∙ ap (λ (z : List (List Cell)). later_run c (cells (units_of f) (offsets_of f) id) ∷ z) (frames_later (item_id id (Frame f halves)) port_items s.1)

  items_map : (l : List (PortItem × Place)) → items_of (map (λ x. (later_item c x.0, later_place c x.1)) l) ≡ map (λ p. later_item c p) (items_of l)
  items_map [] = refl
  items_map (x ∷ l) = ap (λ (z : List PortItem). later_item c x.0 ∷ z) (items_map l)

  fulls_later : (l : List PortItem) → sum_by fulls_in (map (λ p. later_item c p) l) ≡ sum_by fulls_in l
  fulls_later [] = refl
  fulls_later (x ∷ l) =
      sum_by-append fulls_in (later_item c x ∷ []) (map (λ p. later_item c p) l) ∙ ap (λ (n : ℕ). 0 + n + sum_by fulls_in (map (λ p. later_item c p) l)) (one x)
      ∙ ap (λ (n : ℕ). 0 + fulls_in x + n) (fulls_later l) ∙ sym (sum_by-append fulls_in (x ∷ []) l) where
        one : (p : PortItem) → fulls_in (later_item c p) ≡ fulls_in p
        one Full = refl
        one x = refl

  framed_later : (s : PortStream) → AllSized (items_of s.items) → framed (later_port c s) ≡ later_reading c (framed s)
  framed_later s k =
      ap (λ (l : List PortItem). record (later_reading c (framed s)) { frames = frames_of_items None l; fulls = sum_by fulls_in l }) (items_map s.items)
      ∙ ap (λ (l : List (List Cell)). record (later_reading c (framed s)) { frames = l; fulls = sum_by fulls_in (map (λ p. later_item c p) (items_of s.items)) }) (frames_later None (items_of s.items) k)
      ∙ ap (λ (n : ℕ). record (later_reading c (framed s)) { fulls = n }) (fulls_later (items_of s.items))

  bare_frames : (u : List Placed) → map (λ b. bare_cell b ∷ []) (map (λ b. later c b) u) ≡ map (λ frame. later_run c frame) (map (λ b. bare_cell b ∷ []) u)
  bare_frames [] = refl
  bare_frames (b ∷ u) = ap (λ (l : List (List Cell)). (bare_cell (later c b) ∷ []) ∷ l) (bare_frames u)

  pub reading_later : (mode : FramesMode) (u : List Placed) → port_reading mode (map (λ b. later c b) u) ≡ later_reading c (port_reading mode u)
  reading_later Hunt u = ap framed (port_later c true u) ∙ framed_later (port_stream true u) (sized true u)
  reading_later Aligned u = ap framed (port_later c false u) ∙ framed_later (port_stream false u) (sized false u)
  reading_later Bare u = ap (λ (l : List (List Cell)). record (bare u) { frames = l }) (bare_frames u)

  -- runs
  abbrev later_runs : List (List Cell) → List (List Cell)
  later_runs runs = map (λ run. later_run c run) runs

  joined_later : (x : Cell) (runs : List (List Cell)) → joined (later_cell c x) (later_runs runs) ≡ later_runs (joined x runs)
  joined_later x [] = refl
  joined_later x ([] ∷ runs) = refl
  joined_later x ((d ∷ run) ∷ runs) = by (d.run == x.run) where
    by : (b : Bool) → cond b ((later_cell c x ∷ (later_cell c d ∷ later_run c run)) ∷ later_runs runs) ((later_cell c x ∷ []) ∷ ((later_cell c d ∷ later_run c run) ∷ later_runs runs))
        ≡ later_runs (cond b ((x ∷ (d ∷ run)) ∷ runs) ((x ∷ []) ∷ ((d ∷ run) ∷ runs)))
    by true = refl
    by false = refl

  runs_later : (cs : List Cell) → runs_of (later_run c cs) ≡ later_runs (runs_of cs)
  runs_later [] = refl
  runs_later (x ∷ cs) = ap (joined (later_cell c x)) (runs_later cs) ∙ joined_later x (runs_of cs)

  pub all_later : (frames : List (List Cell)) → all_runs (map (λ frame. later_run c frame) frames) ≡ later_runs (all_runs frames)
  all_later [] = refl
  all_later (f ∷ frames) =
      ap (λ (z : List (List Cell)). z ++ all_runs (map (λ frame. later_run c frame) frames)) (runs_later f) ∙ ap (λ (z : List (List Cell)). later_runs (runs_of f) ++ z) (all_later frames)
      ∙ sym (map-append (λ (run : List Cell). later_run c run) (runs_of f) (all_runs frames))

  id_later : (run : List Cell) → id_of (later_run c run) ≡ id_of run
  id_later [] = refl
  id_later (x ∷ run) = refl

  run_later : (run : List Cell) → placed_run (later_run c run) ≡ map (λ b. later c b) (placed_run run)
  run_later [] = refl
  run_later (x ∷ run) = ap (λ (l : List Placed). byte_at (x.at + c) x.byte ∷ l) (run_later run)

  pub list_later : (x : ℕ) (runs : List (List Cell)) → list_of x (later_runs runs) ≡ map (λ b. later c b) (list_of x runs)
  list_later x [] = refl
  list_later x (run ∷ runs) =
      ap (λ (o : Option ℕ). cond (is_source x o) (placed_run (later_run c run)) [] ++ list_of x (later_runs runs)) (id_later run)
      ∙ ap (λ (l : List Placed). cond (is_source x (id_of run)) (placed_run (later_run c run)) [] ++ l) (list_later x runs)
      ∙ by (is_source x (id_of run)) where
        by : (t : Bool) → cond t (placed_run (later_run c run)) [] ++ map (λ b. later c b) (list_of x runs) ≡ map (λ b. later c b) (cond t (placed_run run) [] ++ list_of x runs)
        by true = ap (λ (l : List Placed). l ++ map (λ b. later c b) (list_of x runs)) (run_later run) ∙ sym (map-append (λ (b : Placed). later c b) (placed_run run) (list_of x runs))
        by false = refl

  bytes_later : (run : List Cell) → bytes_of (later_run c run) ≡ bytes_of run
  bytes_later [] = refl
  bytes_later (x ∷ run) = ap (λ (l : List ℕ). x.byte ∷ l) (bytes_later run)

  last_later : (x : Cell) (run : List Cell) → last_at (later_run c (x ∷ run)) ≡ last_at (x ∷ run) + c
  last_later x [] = refl
  last_later x (d ∷ run) = last_later d run

  module _ {V : Type 0} where
    abbrev later_given : List (What V × Place) → List (What V × Place)
    later_given es = map (λ e. (e.0, later_place c e.1)) es

    triggers_later : (run : List Cell) → triggers {V = V} (later_run c run) ≡ later_given (triggers run)
    triggers_later [] = refl
    triggers_later (x ∷ run) = ap (λ (l : List (What V × Place)). (Trigger x.byte, record { at = x.at + c; half = 0 }) ∷ l) (triggers_later run)

    raw_later : (n : ℕ) (x : Cell) (run : List Cell) → raw_events {V = V} n (later_run c (x ∷ run)) ≡ later_given (raw_events n (x ∷ run))
    raw_later n x run = by (n == 0) (n == 125) where
      by : (s t : Bool) → cond s [] (cond t (triggers (later_run c (x ∷ run))) ((Raw (bytes_of (later_run c (x ∷ run))), record { at = last_at (later_run c (x ∷ run)); half = 0 }) ∷ []))
          ≡ later_given (cond s [] (cond t (triggers (x ∷ run)) ((Raw (bytes_of (x ∷ run)), record { at = last_at (x ∷ run); half = 0 }) ∷ [])))
      by true t = refl
      by false true = triggers_later (x ∷ run)
      by false false =
          ap (λ (l : List ℕ). (Raw l, record { at = last_at (later_run c (x ∷ run)); half = 0 }) ∷ []) (bytes_later (x ∷ run))
          ∙ ap (λ (k : ℕ). (Raw (bytes_of (x ∷ run)), record { at = k; half = 0 }) ∷ []) (last_later x run)

    raws_later : (n : ℕ) (runs : List (List Cell)) → raws {V = V} n (later_runs runs) ≡ later_given (raws n runs)
    raws_later n [] = refl
    raws_later n ([] ∷ runs) = raws_later n runs
    raws_later n ((x ∷ run) ∷ runs) =
        ap (λ (l : List (What V × Place)). cond (is_source n x.id) (raw_events n (later_run c (x ∷ run))) [] ++ l) (raws_later n runs) ∙ by (is_source n x.id) where
          by : (t : Bool) → cond t (raw_events n (later_run c (x ∷ run))) [] ++ later_given (raws n runs) ≡ later_given (cond t (raw_events n (x ∷ run)) [] ++ raws n runs)
          by true = ap (λ (l : List (What V × Place)). l ++ later_given (raws n runs)) (raw_later n x run) ∙ sym (map-append (λ (e : What V × Place). (e.0, later_place c e.1)) (raw_events n (x ∷ run)) (raws n runs))
          by false = refl

    lifted_later : (g : List (Said V × Place)) → lifted (map (λ x. (x.0, later_place c x.1)) g) ≡ later_given (lifted g)
    lifted_later [] = refl
    lifted_later (x ∷ g) = ap (λ (l : List (What V × Place)). (what_of x.0, later_place c x.1) ∷ l) (lifted_later g)

    events_later : {K : Type 0} (ps : List (Resumed K V)) → CanAll ps → (n : ℕ) (runs : List (List Cell)) → events (rests ps) n (later_runs runs) ≡ later_given (events (rests ps) n runs)
    events_later [] can n runs = raws_later n runs
    events_later (p ∷ ps) can n runs = by (n == p.id) (events_later ps can.1 n runs) where
      by : (t : Bool) → events (rests ps) n (later_runs runs) ≡ later_given (events (rests ps) n runs) →
          cond t (lifted (p.rest (p.units (list_of n (later_runs runs)))).given) (events (rests ps) n (later_runs runs)) ≡ later_given (cond t (lifted (p.rest (p.units (list_of n runs))).given) (events (rests ps) n runs))
      by true k =
          ap (λ (l : List Placed). lifted (p.rest l).given) (ap p.units (list_later n runs) ∙ can.0.shifts c (list_of n runs)) ∙ ap (λ (s : Stream V). lifted s.given) (can.0.moves c (p.units (list_of n runs))) ∙ lifted_later (p.rest (p.units (list_of n runs))).given
      by false k = k

    told_later : (x : Option ℕ) (es : List (What V × Place)) → told x (later_given es) ≡ map (λ e. later_event c e) (told x es)
    told_later x [] = refl
    told_later x (e ∷ es) = ap (λ (l : List (Event V)). record { at = e.1.at + c; half = e.1.half; source = x; what = e.0 } ∷ l) (told_later x es)

    drop_later : (n : ℕ) (es : List (What V × Place)) → drop n (later_given es) ≡ later_given (drop n es)
    drop_later zero es = refl
    drop_later (suc n) [] = refl
    drop_later (suc n) (e ∷ es) = drop_later n es

    module _ {K : Type 0} (ps : List (Resumed K V)) (can : CanAll ps) where
      abbrev said : Option ℕ → List (List Cell) → List (What V × Place)
      said = of_sources (events (rests ps))

      grown_later : (before : List (List Cell)) (run : List Cell) (o : Option ℕ) → grown said (later_runs before) (later_run c run) o ≡ map (λ e. later_event c e) (grown said before run o)
      grown_later before run None = refl
      grown_later before run (Some x) =
          let all : events (rests ps) x (later_runs before ++ later_run c run ∷ []) ≡ later_given (events (rests ps) x (before ++ run ∷ [])) =
          ap (events (rests ps) x) (sym (map-append (λ (r : List Cell). later_run c r) before (run ∷ []))) ∙ events_later ps can x (before ++ run ∷ []) in
          let size : length (events (rests ps) x (later_runs before)) ≡ length (events (rests ps) x before) =
          ap length (events_later ps can x before) ∙ length-map (events (rests ps) x before) (λ (e : What V × Place). (e.0, later_place c e.1)) in
          ap (λ (l : List (What V × Place)). told (Some x) (drop (length (events (rests ps) x (later_runs before))) l)) all
          ∙ ap (λ (n : ℕ). told (Some x) (drop n (later_given (events (rests ps) x (before ++ run ∷ []))))) size
          ∙ ap (told (Some x)) (drop_later (length (events (rests ps) x before)) (events (rests ps) x (before ++ run ∷ [])))
          ∙ told_later (Some x) (drop (length (events (rests ps) x before)) (events (rests ps) x (before ++ run ∷ [])))

      merged_later : (runs before : List (List Cell)) → merged_from id_of said (later_runs before) (later_runs runs) ≡ map (λ e. later_event c e) (merged_from id_of said before runs)
      merged_later [] before = refl
      merged_later (run ∷ runs) before =
          ap (λ (o : Option ℕ). grown said (later_runs before) (later_run c run) o ++ merged_from id_of said (later_runs before ++ later_run c run ∷ []) (later_runs runs)) (id_later run)
          ∙ ap (λ (l : List (Event V)). l ++ merged_from id_of said (later_runs before ++ later_run c run ∷ []) (later_runs runs)) (grown_later before run (id_of run))
          ∙ ap (λ (l : List (Event V)). map (λ e. later_event c e) (grown said before run (id_of run)) ++ l)
          (ap (λ (l : List (List Cell)). merged_from id_of said l (later_runs runs)) (sym (map-append (λ (r : List Cell). later_run c r) before (run ∷ []))) ∙ merged_later runs (before ++ run ∷ []))
          ∙ sym (map-append (λ (e : Event V). later_event c e) (grown said before run (id_of run)) (merged_from id_of said (before ++ run ∷ []) runs))

      -- all events of the rest, at later places
      pub report_later : (runs : List (List Cell)) → all_events (rests ps) (later_runs runs) ≡ map (λ e. later_event c e) (all_events (rests ps) runs)
      report_later runs = merged_later runs []
