-- Laws of the reading of a port's bytes, in each mode.
use Rattle.std.specs.Prelude.{◌≡◌, ℕ, ◌+◌, List, [], ◌∷◌, ◌++◌, map, refl, true, false, Option, None, is_none}
use Rattle.std.specs.List.{flat_map, sum_by}
use Rattle.std.proofs.Common.{ap, sym, ◌∙◌, arith, append_assoc, append-nil}
use Rattle.std.proofs.lemmas.List.{map-append}
use Rattle.std.proofs.lemmas.List.Concat.{flat_map-append}
use Rattle.deformatter.specs.Names.{Cell, Place, Placed, byte_at, placed_from, units_of, FramesMode, Hunt, Aligned}
use Rattle.deformatter.specs.Names.{Bare, PortItem, Full, Half, Frame, offsets_of, cells_of_items, id_of_items}
use Rattle.deformatter.specs.Names.{cells, id_after, item_cells, item_id, fulls_in}
use Rattle.deformatter.specs.Reading.{PortStream, port_stream, items_of, cells_in}
use Rattle.deformatter.specs.Growth.{PortSettled, PortRises}
use Rattle.deformatter.proofs.ReadingLaws as port
use Rattle.frame_grammar.proofs.Runs.{cells_have_runs, one_has_runs}
use Rattle.deformatter.specs.PortReading.{frames_of_items, framed, bare_cell, bare, port_reading, cells_of}
use Rattle.deformatter.specs.ReadingGrowth.{Settled, Rises, IsNothing}
use Rattle.deformatter.specs.Runs.{HaveRuns}

-- of no bytes nothing is read
pub none_read : (mode : FramesMode) → IsNothing (port_reading mode [])
none_read Hunt = record { frames = refl; fulls = refl; halves = refl; fault = refl; tail = refl; skipped = refl }
none_read Aligned = record { frames = refl; fulls = refl; halves = refl; fault = refl; tail = refl; skipped = refl }
none_read Bare = record { frames = refl; fulls = refl; halves = refl; fault = refl; tail = refl; skipped = refl }

-- the cells of the frames are those of the items
pub concat-frames_of_items : (id : Option ℕ) (items : List PortItem) → flat_map (λ (frame : List Cell). frame) (frames_of_items id items) ≡ cells_of_items id items
concat-frames_of_items id [] = refl
concat-frames_of_items id (Full ∷ items) = concat-frames_of_items id items
concat-frames_of_items id (Half ∷ items) = concat-frames_of_items id items
concat-frames_of_items id (Frame f halves ∷ items) =
    ap (λ (l : List Cell). item_cells id (Frame f halves) ++ l) (concat-frames_of_items (item_id id (Frame f halves)) items)

-- and so in a reading with a formatter
pub framed_cells : (s : PortStream) → cells_of (framed s) ≡ cells_in s
framed_cells s = concat-frames_of_items None (items_of s.items)

-- with no formatter they are all bytes, in order
pub bare_cells : (u : List Placed) → cells_of (bare u) ≡ map bare_cell u
bare_cells [] = refl
bare_cells (b ∷ u) = ap (λ (l : List Cell). bare_cell b ∷ l) (bare_cells u)

-- the frames of items that follow one another: each begins with the ID in force after those before it
pub frames_of_items-append : (id : Option ℕ) (xs ys : List PortItem) → frames_of_items id (xs ++ ys) ≡ frames_of_items id xs ++ frames_of_items (id_of_items id xs) ys
frames_of_items-append id [] ys = refl
frames_of_items-append id (Full ∷ xs) ys = frames_of_items-append id xs ys
frames_of_items-append id (Half ∷ xs) ys = frames_of_items-append id xs ys
frames_of_items-append id (Frame f halves ∷ xs) ys =
    ap (λ (l : List (List Cell)). cells (units_of f) (offsets_of f) id ∷ l)
    (frames_of_items-append (id_after (units_of f) id) xs ys)

-- a fault is the end of a reading
framed_settled : (a b : PortStream) → PortSettled a b → Settled (framed a) (framed b)
framed_settled a b s = record {
  frames = ap (λ (l : List (PortItem × Place)). frames_of_items None (items_of l)) s.items;
  fulls = ap (λ (l : List (PortItem × Place)). sum_by fulls_in (items_of l)) s.items;
  halves = s.halves;
  fault = s.fault;
  skipped = s.skipped;
  locked = s.locked;
}

pub settles : (mode : FramesMode) (u w : List Placed) → is_none (port_reading mode u).fault ≡ false → Settled (port_reading mode u) (port_reading mode (u ++ w))
settles Hunt u w e = framed_settled (port_stream true u) (port_stream true (u ++ w)) (port.settles true u w e)
settles Aligned u w e = framed_settled (port_stream false u) (port_stream false (u ++ w)) (port.settles false u w e)
settles Bare u w e = (let k : true ≡ false = e in cc)

-- with one more byte there is more, and nothing is taken back
framed_rises : (a b : PortStream) (at : ℕ) → PortRises a b at → Rises (framed a) (framed b) at
framed_rises a b at r = record {
  more = frames_of_items (id_of_items None (items_of a.items)) (items_of r.more);
  frames = ap (λ (l : List (PortItem × Place)). frames_of_items None (items_of l)) r.items
      ∙ ap (frames_of_items None) (map-append (λ (x : PortItem × Place). x.0) a.items r.more)
      ∙ frames_of_items-append None (items_of a.items) (items_of r.more);
  fulls = r.fulls;
  halves = r.halves;
  fault = r.fault;
}

pub rises : (mode : FramesMode) (u : List Placed) (at byte : ℕ) → Rises (port_reading mode u) (port_reading mode (u ++ byte_at at byte ∷ [])) at
rises Hunt u at byte = framed_rises (port_stream true u) (port_stream true (u ++ byte_at at byte ∷ [])) at (port.rises true u at byte)
rises Aligned u at byte = framed_rises (port_stream false u) (port_stream false (u ++ byte_at at byte ∷ [])) at (port.rises false u at byte)
rises Bare u at byte = record {
  more = (bare_cell (byte_at at byte) ∷ []) ∷ [];
  frames = map-append (λ (b : Placed). bare_cell b ∷ []) u (byte_at at byte ∷ []);
  fulls = omega arith;
  halves = omega arith;
  fault = tt;
}

-- with more bytes there are more frames, and none is taken back
pub frames_grow : (mode : FramesMode) (u : List Placed) (at : ℕ) (bytes : List ℕ) →
    (more : List (List Cell)) × ((port_reading mode (u ++ placed_from at bytes)).frames ≡ (port_reading mode u).frames ++ more)
frames_grow mode u at [] =
    ([], ap (λ (l : List Placed). (port_reading mode l).frames) (append-nil u) ∙ sym (append-nil (port_reading mode u).frames))
frames_grow mode u at (b ∷ bytes) =
    let one = rises mode u at b in
    let rest = frames_grow mode (u ++ byte_at at b ∷ []) (at + 1) bytes in (
      one.more ++ rest.0,
      ap (λ (l : List Placed). (port_reading mode l).frames) (sym (append_assoc u (byte_at at b ∷ []) (placed_from (at + 1) bytes)))
          ∙ rest.1 ∙ ap (λ (l : List (List Cell)). l ++ rest.0) one.frames ∙ append_assoc (port_reading mode u).frames one.more rest.0,
    )

-- and so there are more cells
pub cells_grow : (mode : FramesMode) (u : List Placed) (at : ℕ) (bytes : List ℕ) →
    (more : List Cell) × (cells_of (port_reading mode (u ++ placed_from at bytes)) ≡ cells_of (port_reading mode u) ++ more)
cells_grow mode u at bytes =
    let grown = frames_grow mode u at bytes in (
      flat_map (λ (frame : List Cell). frame) grown.0,
      ap (flat_map (λ (frame : List Cell). frame)) grown.1 ∙ flat_map-append (λ (frame : List Cell). frame) (port_reading mode u).frames grown.0,
    )

-- the cells of a frame have runs that never fall, and one ID in a run
items_have_runs : (id : Option ℕ) (items : List PortItem) → HaveRuns (frames_of_items id items)
items_have_runs id [] = tt
items_have_runs id (Full ∷ items) = items_have_runs id items
items_have_runs id (Half ∷ items) = items_have_runs id items
items_have_runs id (Frame f halves ∷ items) = (cells_have_runs (units_of f) (offsets_of f) id, items_have_runs (item_id id (Frame f halves)) items)

bare_have_runs : (u : List Placed) → HaveRuns (bare u).frames
bare_have_runs [] = tt
bare_have_runs (b ∷ u) = (one_has_runs (bare_cell b) (omega arith), bare_have_runs u)

pub frames_have_runs : (mode : FramesMode) (u : List Placed) → HaveRuns (port_reading mode u).frames
frames_have_runs Hunt u = items_have_runs None (items_of (port_stream true u).items)
frames_have_runs Aligned u = items_have_runs None (items_of (port_stream false u).items)
frames_have_runs Bare u = bare_have_runs u
