-- One more byte of a port with a formatter: its frames and cells.
use Rattle.std.proofs.Common.{◌≡◌, ℕ, ◌+◌, ◌<◌, ◌≤◌, refl, arith, take, get_or, List, [], ◌∷◌, ◌++◌, length, sym, ◌∙◌}
use Rattle.std.proofs.Common.{ap, subst, ◌⊎◌, inl, inr, append_assoc, append-nil, Bool, true, false, cond, Option, None}
use Rattle.std.proofs.lemmas.List.{map-append, append_cancel_left}
use Rattle.deformatter.specs.Names.{Cell, Place, Placed, units_of, byte_at, placed_from, FramesMode, Hunt, Aligned}
use Rattle.deformatter.specs.Names.{Bare, PortItem, Full, Half, Frame, cells, offsets_of, item_cells, cells_of_items}
use Rattle.trace_values.proofs.Placing.{placed_from_push}
use Rattle.frame_grammar.proofs.Items.{cells_of_items-push}
use Rattle.deformatter.specs.Reading.{PortStream, port_stream, items_of, cells_in, id_in}
use Rattle.deformatter.specs.Growth as port
use Rattle.deformatter.specs.Frames as port_frames
use Rattle.deformatter.specs.Frames.{last_place}
use Rattle.deformatter.specs.Block as stream
use Rattle.deformatter.specs.Block.{EachByte, FedAs}
use Rattle.deformatter.specs.Growth.{place_at, PortGrows}
use Rattle.deformatter.specs.Deformatter as deformatter
use Rattle.deformatter.specs.declared.deformatter.Deformatter.{Deformatter}
use Rattle.deformatter.specs.declared.step.PortStep.{PortStep}
use Rattle.deformatter.specs.declared.step.PortStep.TheVariants.{Quiet, Half as HalfEnds, Full as FullEnds}
use Rattle.deformatter.specs.declared.step.PortStep.TheVariants.{Frame as FrameEnds, Locked, Fault as Faulty}
use Rattle.deformatter.specs.Modes.{is_bare, hunts}
use Rattle.deformatter.specs.PortReading.{PortReading, frames_of_items, framed, bare_cell, bare, port_reading}
use Rattle.deformatter.specs.ReadingGrowth.{frames_by, CellsFit, Grows, Answers, IsInside, FedFrame, GrowsByFrame}
use Rattle.deformatter.specs.Reader.{StandsByMode}
use Rattle.deformatter.proofs.Growing.{items_push}
use Rattle.deformatter.proofs.PortReadingLaws.{frames_of_items-append}

-- the frames that a step ends, and its cells
record Gained (a b : PortStream) (step : PortStep) (cells : List Cell) : Type 0 where
  frames : (framed b).frames ≡ (framed a).frames ++ frames_by step cells
  fit : CellsFit step cells

-- the frames and cells of items with one more
frames_push : (a b : PortStream) (p : PortItem) (place : Place) → b.items ≡ a.items ++ (p, place) ∷ [] → (framed b).frames ≡ (framed a).frames ++ frames_of_items (id_in a) (p ∷ [])
frames_push a b p place e =
    ap (λ (l : List (PortItem × Place)). frames_of_items None (items_of l)) e
    ∙ ap (frames_of_items None) (items_push a.items p place)
    ∙ frames_of_items-append None (items_of a.items) (p ∷ [])

cells_push : (a b : PortStream) (p : PortItem) (place : Place) → b.items ≡ a.items ++ (p, place) ∷ [] → cells_in b ≡ cells_in a ++ item_cells (id_in a) p
cells_push a b p place e =
    ap (λ (l : List (PortItem × Place)). cells_of_items None (items_of l)) e
    ∙ ap (cells_of_items None) (items_push a.items p place) ∙ cells_of_items-push None (items_of a.items) p

module _ (a b : PortStream) (at : ℕ) (cells : List Cell) (given : cells_in b ≡ cells_in a ++ cells) where
  -- the cells are those of the piece that was ended
  cells_are : (p : PortItem) → b.items ≡ a.items ++ (p, place_at at) ∷ [] → cells ≡ item_cells (id_in a) p
  cells_are p e = append_cancel_left (cells_in a) cells (item_cells (id_in a) p) (sym given ∙ cells_push a b p (place_at at) e)

  -- no piece was ended
  same_frames : b.items ≡ a.items → (framed b).frames ≡ (framed a).frames ++ []
  same_frames e = ap (λ (l : List (PortItem × Place)). frames_of_items None (items_of l)) e ∙ sym (append-nil (framed a).frames)

  no_cells : b.items ≡ a.items → cells ≡ []
  no_cells e = append_cancel_left (cells_in a) cells []
      (sym given ∙ ap (λ (l : List (PortItem × Place)). cells_of_items None (items_of l)) e ∙ sym (append-nil (cells_in a)))

  gained : (step : PortStep) → port.ItemsBy a.items b.items at step → Gained a b step cells
  gained Quiet e = record { frames = same_frames e; fit = no_cells e }
  gained HalfEnds e = elim e [
    | inl k ↦ record { frames = same_frames k; fit = no_cells k }
    | inr k ↦ record { frames = frames_push a b Half (place_at at) k; fit = cells_are Half k }
  ]
  gained FullEnds e = record { frames = frames_push a b Full (place_at at) e; fit = cells_are Full e }
  gained FrameEnds e = record {
    frames = frames_push a b (Frame e.0 e.1) (place_at at) e.2 ∙ ap (λ (l : List Cell). (framed a).frames ++ l ∷ []) (sym (cells_are (Frame e.0 e.1) e.2));
    fit = tt;
  }
  gained (Locked skipped) e = record { frames = frames_push a b Full (place_at at) e; fit = cells_are Full e }
  gained (Faulty f) e = record { frames = same_frames e; fit = no_cells e }

-- as a deformatter's reading grows, so do the frames
pub framed_grows : (a b : PortStream) (at : ℕ) (step : PortStep) (cells : List Cell) → PortGrows a b at step → cells_in b ≡ cells_in a ++ cells →
    Grows (framed a) (framed b) at step cells
framed_grows a b at step cells g given =
    let k = gained a b at cells given step g.items in
    record { frames = k.frames; fit = k.fit; fulls = g.fulls; halves = g.halves; fault = g.fault; hunt = g.hunt }

-- a mode with a formatter
pub has_formatter : (mode : FramesMode) → (mode ≡ Hunt) ⊎ (mode ≡ Aligned) → is_bare mode ≡ false
has_formatter mode e = elim e [ inl h ↦ ap is_bare h | inr a ↦ ap is_bare a ]

pub port_of : (mode : FramesMode) (port : Deformatter) (u : List Placed) → is_bare mode ≡ false → StandsByMode mode port u → deformatter.Stands port u
port_of Hunt port u e s = s
port_of Aligned port u e s = s
port_of Bare port u e s = (let k : true ≡ false = e in cc)

pub is_of_port : (mode : FramesMode) (port : Deformatter) (u : List Placed) → is_bare mode ≡ false → deformatter.Stands port u → StandsByMode mode port u
is_of_port Hunt port u e s = s
is_of_port Aligned port u e s = s
is_of_port Bare port u e s = tt

-- with a formatter the reading is that of the frames
reads_as : (mode : FramesMode) → is_bare mode ≡ false → (h : Bool) → h ≡ hunts mode → (u : List Placed) → framed (port_stream h u) ≡ port_reading mode u
reads_as Hunt e h m u = ap (λ (b : Bool). framed (port_stream b u)) m
reads_as Aligned e h m u = ap (λ (b : Bool). framed (port_stream b u)) m
reads_as Bare e h m u = absurd (let k : true ≡ false = e in cc)

pub reading_grows : (mode : FramesMode) → is_bare mode ≡ false → (h : Bool) → h ≡ hunts mode → (u v : List Placed) (at : ℕ) (step : PortStep) (cells : List Cell) →
    PortGrows (port_stream h u) (port_stream h v) at step → cells_in (port_stream h v) ≡ cells_in (port_stream h u) ++ cells →
    Grows (port_reading mode u) (port_reading mode v) at step cells
reading_grows mode e h m u v at step cells g k =
    subst (λ (r : PortReading). Grows r (port_reading mode v) at step cells) (reads_as mode e h m u)
    (subst (λ (r : PortReading). Grows (framed (port_stream h u)) r at step cells) (reads_as mode e h m v)
    (framed_grows (port_stream h u) (port_stream h v) at step cells g k))

pub few_more : (b : Bool) (x y z w n : ℕ) → b ≡ false → x + y ≤ z + w + n → cond b 0 x + cond b 0 y ≤ cond b 0 z + cond b 0 w + n
few_more true x y z w n e h = absurd (let k : true ≡ false = e in cc)
few_more false x y z w n e h = h

-- as a deformatter's reading grows by a frame, so do the frames
framed_frame : (a b : PortStream) (w f : List Placed) (inner : ℕ) (id : Option ℕ) → port_frames.GrowsByFrame a b w f inner id →
    GrowsByFrame (framed a) (framed b) inner (cells (units_of f) (offsets_of f) id)
framed_frame a b w f inner id g = record {
  frames = frames_push a b (Frame f inner) (last_place w) g.items
      ∙ ap (λ (l : List Cell). (framed a).frames ++ l ∷ []) (append_cancel_left (cells_in a) (item_cells (id_in a) (Frame f inner)) (cells (units_of f) (offsets_of f) id)
      (sym (cells_push a b (Frame f inner) (last_place w) g.items) ∙ g.cells));
  fulls = g.fulls;
  halves = g.halves;
  fault = g.fault;
  hunt = g.hunt;
}

pub reading_frame : (mode : FramesMode) → is_bare mode ≡ false → (h : Bool) → h ≡ hunts mode → (u w f : List Placed) (inner : ℕ) (id : Option ℕ) →
    port_frames.GrowsByFrame (port_stream h u) (port_stream h (u ++ w)) w f inner id →
    GrowsByFrame (port_reading mode u) (port_reading mode (u ++ w)) inner (cells (units_of f) (offsets_of f) id)
reading_frame mode e h m u w f inner id g =
    subst (λ (r : PortReading). GrowsByFrame r (port_reading mode (u ++ w)) inner (cells (units_of f) (offsets_of f) id)) (reads_as mode e h m u)
    (subst (λ (r : PortReading). GrowsByFrame (framed (port_stream h u)) r inner (cells (units_of f) (offsets_of f) id)) (reads_as mode e h m (u ++ w))
    (framed_frame (port_stream h u) (port_stream h (u ++ w)) w f inner id g))

-- bytes of each of which one thing is so, and so the other
each_map : (P Q : List Placed → ℕ → ℕ → Type 0) → ((u : List Placed) (at byte : ℕ) → P u at byte → Q u at byte) → (u : List Placed) (at : ℕ) (bytes : List ℕ) → EachByte P u at bytes → EachByte Q u at bytes
each_map P Q h u at [] e = tt
each_map P Q h u at (b ∷ bytes) e = (h u at b e.0, each_map P Q h (u ++ byte_at at b ∷ []) (at + 1) bytes e.1)

-- bytes that end no frame leave the cells as they are
inside_cells : (h : Bool) (u : List Placed) (at byte : ℕ) → stream.IsInside h u at byte → cells_in (port_stream h (u ++ byte_at at byte ∷ [])) ≡ cells_in (port_stream h u)
inside_cells h u at byte s = elim s [
  | inl g ↦ same g.items
  | inr g ↦ elim g.items [ inl e ↦ same e | inr e ↦ cells_push (port_stream h u) (port_stream h (u ++ byte_at at byte ∷ [])) Half (place_at at) e ∙ append-nil (cells_in (port_stream h u)) ]
] where
  same : (port_stream h (u ++ byte_at at byte ∷ [])).items ≡ (port_stream h u).items → cells_in (port_stream h (u ++ byte_at at byte ∷ [])) ≡ cells_in (port_stream h u)
  same e = ap (λ (l : List (PortItem × Place)). cells_of_items None (items_of l)) e

module _ (mode : FramesMode) (e : is_bare mode ≡ false) (h : Bool) (m : h ≡ hunts mode) where
  -- a byte inside a frame
  no_cells_given : (u : List Placed) (at byte : ℕ) → stream.IsInside h u at byte → cells_in (port_stream h (u ++ byte_at at byte ∷ [])) ≡ cells_in (port_stream h u) ++ []
  no_cells_given u at byte s = inside_cells h u at byte s ∙ sym (append-nil (cells_in (port_stream h u)))

  quiet_answer : (u : List Placed) (at byte : ℕ) → stream.Answers h Quiet u at byte → Answers mode Quiet [] u at byte
  quiet_answer u at byte g = reading_grows mode e h m u (u ++ byte_at at byte ∷ []) at Quiet [] g (no_cells_given u at byte (inl g))

  inside_answer : (u : List Placed) (at byte : ℕ) → stream.IsInside h u at byte → IsInside mode u at byte
  inside_answer u at byte s = elim s [
    | inl g ↦ inl (quiet_answer u at byte g)
    | inr g ↦ inr (reading_grows mode e h m u (u ++ byte_at at byte ∷ []) at HalfEnds [] g (no_cells_given u at byte (inr g)))
  ]

  -- bytes of which the last may end a frame
  module _ (P Q : List Placed → ℕ → ℕ → Type 0) (inside : (u : List Placed) (at byte : ℕ) → P u at byte → stream.IsInside h u at byte)
      (answer : (u : List Placed) (at byte : ℕ) → P u at byte → Q u at byte) where
    all_inside : (u : List Placed) (at : ℕ) (bytes : List ℕ) → EachByte P u at bytes → cells_in (port_stream h (u ++ placed_from at bytes)) ≡ cells_in (port_stream h u)
    all_inside u at [] q = ap (λ (l : List Placed). cells_in (port_stream h l)) (append-nil u)
    all_inside u at (b ∷ bytes) q =
        ap (λ (l : List Placed). cells_in (port_stream h l)) (sym (append_assoc u (byte_at at b ∷ []) (placed_from (at + 1) bytes)))
        ∙ all_inside (u ++ byte_at at b ∷ []) (at + 1) bytes q.1 ∙ inside_cells h u at b (inside u at b q.0)

    fed_by : (u : List Placed) (at : ℕ) (bytes : List ℕ) (step : PortStep) (given : List Cell) →
        FedAs P (stream.Answers h step) u at bytes → cells_in (port_stream h (u ++ placed_from at bytes)) ≡ cells_in (port_stream h u) ++ given →
        FedAs Q (Answers mode step given) u at bytes
    fed_by u at bytes step given r k =
        let w = u ++ placed_from at r.front in
        let next : w ++ byte_at (at + length r.front) r.last ∷ [] ≡ u ++ placed_from at bytes =
        append_assoc u (placed_from at r.front) (byte_at (at + length r.front) r.last ∷ [])
        ∙ ap (λ (l : List Placed). u ++ l) (sym (placed_from_push at r.front r.last) ∙ ap (placed_from at) (sym r.parts)) in
        record {
          front = r.front;
          last = r.last;
          parts = r.parts;
          quiet = each_map P Q answer u at r.front r.quiet;
          ends = reading_grows mode e h m w (w ++ byte_at (at + length r.front) r.last ∷ []) (at + length r.front) step given r.ends
              (ap (λ (l : List Placed). cells_in (port_stream h l)) next ∙ k ∙ ap (λ (l : List Cell). l ++ given) (sym (all_inside u at r.front r.quiet)));
        }

  -- a block of a deformatter is one of its reader
  pub reading_fed : (u : List Placed) (at : ℕ) (bytes : List ℕ) (step : PortStep) (given : List Cell) →
      FedAs (stream.Answers h Quiet) (stream.Answers h step) u at bytes → cells_in (port_stream h (u ++ placed_from at bytes)) ≡ cells_in (port_stream h u) ++ given →
      FedAs (Answers mode Quiet []) (Answers mode step given) u at bytes
  reading_fed = fed_by (stream.Answers h Quiet) (Answers mode Quiet []) (λ u at byte g. inl g) quiet_answer

  -- and so is a frame
  pub reading_fed_frame : (u : List Placed) (at : ℕ) (bytes : List ℕ) (given : List Cell) →
      stream.FedFrame h u at bytes → cells_in (port_stream h (u ++ placed_from at bytes)) ≡ cells_in (port_stream h u) ++ given → FedFrame mode given u at bytes
  reading_fed_frame u at bytes given = fed_by (stream.IsInside h) (IsInside mode) (λ v n b s. s) inside_answer u at bytes FrameEnds given

-- with no formatter each byte is a frame
bare_fed : (u : List Placed) (at b : ℕ) (bytes : List ℕ) (given : List Cell) → given ≡ bare_cell (byte_at at b) ∷ [] → FedAs (Answers Bare Quiet []) (Answers Bare FrameEnds given) u at (b ∷ [])
bare_fed u at b bytes given e = record {
  front = [];
  last = b;
  parts = refl;
  quiet = tt;
  ends = record {
    frames = map-append (λ (p : Placed). bare_cell p ∷ []) (u ++ []) (byte_at (at + 0) b ∷ [])
        ∙ ap (λ (n : ℕ). (bare (u ++ [])).frames ++ (bare_cell (byte_at n b) ∷ []) ∷ []) (let k : at + 0 ≡ at = omega arith in k)
        ∙ ap (λ (l : List Cell). (bare (u ++ [])).frames ++ l ∷ []) (sym e);
    fit = tt;
    fulls = refl;
    halves = refl;
    fault = refl;
    hunt = record { before = refl; after = refl; skipped = refl };
  };
}

pub bare_taken : (mode : FramesMode) → mode ≡ Bare → (u : List Placed) (at : ℕ) (piece : List ℕ) (given : List Cell) → 0 < length piece → given ≡ bare_cell (byte_at at (get_or piece 0 0)) ∷ [] →
    FedAs (Answers mode Quiet []) (Answers mode FrameEnds given) u at (take 1 piece)
bare_taken mode m u at [] given l e = absurd (omega arith)
bare_taken mode m u at (b ∷ bytes) given l e =
    subst (λ (x : FramesMode). FedAs (Answers x Quiet []) (Answers x FrameEnds given) u at (b ∷ [])) (sym m) (bare_fed u at b bytes given e)
