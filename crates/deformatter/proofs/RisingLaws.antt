-- Of bytes at rising offsets the cells of all frames are at rising offsets.
use Rattle.std.proofs.Common.{◌≡◌, ℕ, zero, suc, ◌+◌, ◌*◌, ◌<◌, ◌≤◌, List, [], ◌∷◌, ◌++◌, length, map, refl, sym, ◌∙◌}
use Rattle.std.proofs.Common.{ap, subst, append_assoc, inl, inr, arith, Bool, true, false, cond, Option, None}
use Rattle.std.specs.Prelude.{slice_index}
use Rattle.std.proofs.lemmas.List.{map-append}
use Rattle.deformatter.specs.Names.{Cell, Place, Placed, placed_from, placed, units_of, Splits, FramesMode, Hunt}
use Rattle.deformatter.specs.Names.{Aligned, Bare, names, cell, even_data, even_cells, cells_below, cells}
use Rattle.deformatter.specs.Names.{PortItem, Full, Half, Frame, IsWord, IsWords, IsFrame, Spells, why, rule, start}
use Rattle.deformatter.specs.Names.{offsets_of, item_cells, item_id, cells_of_items, port_reading as grammar_reading}
use Rattle.frame_grammar.proofs.Cells.{odd_cells}
use Rattle.trace_values.proofs.Readings as readings
use Rattle.frame_grammar.proofs.Deciding.{port_decided}
use Rattle.frame_grammar.proofs.Items.{frame_bytes}
use Rattle.deformatter.specs.Reading.{PortStream, port_stream, items_of, cells_in}
use Rattle.deformatter.proofs.Readings.{hunt_is}
use Rattle.deformatter.specs.PortReading.{bare_cell, port_reading, cells_of}
use Rattle.deformatter.specs.Rising.{Rise, offsets_in, BytesRise, CellsRise, end_at}
use Rattle.deformatter.proofs.PortReadingLaws.{framed_cells, bare_cells}

pub rise_le : (xs : List ℕ) (lo hi : ℕ) → Rise lo hi xs → lo ≤ hi
rise_le [] lo hi r = r
rise_le (x ∷ xs) lo hi r = let a = r.0 in let b = rise_le xs (x + 1) hi r.1 in omega arith

pub rise_split : (xs ys : List ℕ) (lo hi : ℕ) → Rise lo hi (xs ++ ys) → Rise lo (end_at lo xs) xs × Rise (end_at lo xs) hi ys
rise_split [] ys lo hi r = ((let k : lo ≤ lo = omega arith in k), r)
rise_split (x ∷ xs) ys lo hi r = let k = rise_split xs ys (x + 1) hi r.1 in ((r.0, k.0), k.1)

pub rise_join : (xs ys : List ℕ) (lo mid hi : ℕ) → Rise lo mid xs → Rise mid hi ys → Rise lo hi (xs ++ ys)
rise_join [] [] lo mid hi r s = (let a : lo ≤ mid = r in let b : mid ≤ hi = s in let k : lo ≤ hi = omega arith in k)
rise_join [] (y ∷ ys) lo mid hi r s = ((let a : lo ≤ mid = r in let b = s.0 in omega arith), s.1)
rise_join (x ∷ xs) ys lo mid hi r s = (r.0, rise_join xs ys (x + 1) mid hi r.1 s)

-- numbers at neighbouring indexes, the first, and the last
rise_next : (xs : List ℕ) (lo hi i : ℕ) → Rise lo hi xs → i + 1 < length xs → slice_index xs i + 1 ≤ slice_index xs (i + 1)
rise_next [] lo hi i r l = absurd (omega arith)
rise_next (x ∷ []) lo hi i r l = absurd (omega arith)
rise_next (x ∷ (y ∷ xs)) lo hi zero r l = r.1.0
rise_next (x ∷ (y ∷ xs)) lo hi (suc i) r l =
    subst (λ (n : ℕ). slice_index (y ∷ xs) i + 1 ≤ slice_index (x ∷ (y ∷ xs)) n) (let k : suc (i + 1) ≡ suc i + 1 = omega arith in k) (rise_next (y ∷ xs) (x + 1) hi i r.1 (omega arith))

rise_first : (xs : List ℕ) (lo hi : ℕ) → Rise lo hi xs → 0 < length xs → lo ≤ slice_index xs 0
rise_first [] lo hi r l = absurd (omega arith)
rise_first (x ∷ xs) lo hi r l = r.0

rise_below : (xs : List ℕ) (lo hi i : ℕ) → Rise lo hi xs → i < length xs → slice_index xs i + 1 ≤ hi
rise_below [] lo hi i r l = absurd (omega arith)
rise_below (x ∷ xs) lo hi zero r l = rise_le xs (x + 1) hi r.1
rise_below (x ∷ xs) lo hi (suc i) r l = rise_below xs (x + 1) hi i r.1 (omega arith)

-- the cells of a frame
module _ (frame offsets : List ℕ) (id : Option ℕ) (lo hi : ℕ) (rising : Rise lo hi offsets) (size : length offsets ≡ 16) where
  even_rise : (k n : ℕ) → slice_index offsets (2 * k) + 1 ≤ n → (b : Bool) → Rise (slice_index offsets (2 * k)) n (offsets_in (cond b [] (cell frame offsets id (2 * k) (even_data frame k) ∷ [])))
  even_rise k n h true = (let q : slice_index offsets (2 * k) ≤ n = omega arith in q)
  even_rise k n h false = ((let q : slice_index offsets (2 * k) ≤ slice_index offsets (2 * k) = omega arith in q), h)

  below_rise : (k : ℕ) → k ≤ 7 → Rise lo (slice_index offsets (2 * k)) (offsets_in (cells_below frame offsets id k))
  below_rise zero h = rise_first offsets lo hi rising (omega (arith, size))
  below_rise (suc k) h =
      let a = below_rise k (omega arith) in
      let two : 2 * suc k ≡ 2 * k + 1 + 1 = omega arith in
      let next : slice_index offsets (2 * k) + 1 ≤ slice_index offsets (2 * k + 1) = rise_next offsets lo hi (2 * k) rising (omega (arith, size)) in
      let last : slice_index offsets (2 * k + 1) + 1 ≤ slice_index offsets (2 * suc k) =
      subst (λ (n : ℕ). slice_index offsets (2 * k + 1) + 1 ≤ slice_index offsets n) (sym two) (rise_next offsets lo hi (2 * k + 1) rising (omega (arith, size))) in
      let even = even_rise k (slice_index offsets (2 * k + 1)) next (names frame k) in
      let odd : Rise (slice_index offsets (2 * k + 1)) (slice_index offsets (2 * suc k)) (slice_index offsets (2 * k + 1) ∷ []) = ((let q : slice_index offsets (2 * k + 1) ≤ slice_index offsets (2 * k + 1) = omega arith in q), last) in
      subst (λ (l : List ℕ). Rise lo (slice_index offsets (2 * suc k)) l)
      (sym (map-append (λ (c : Cell). c.at) (cells_below frame offsets id k) (even_cells frame offsets id k ++ odd_cells frame offsets id k)
      ∙ ap (λ (l : List ℕ). offsets_in (cells_below frame offsets id k) ++ l) (map-append (λ (c : Cell). c.at) (even_cells frame offsets id k) (odd_cells frame offsets id k))))
      (rise_join (offsets_in (cells_below frame offsets id k)) (offsets_in (even_cells frame offsets id k) ++ offsets_in (odd_cells frame offsets id k)) lo (slice_index offsets (2 * k)) (slice_index offsets (2 * suc k)) a
      (rise_join (offsets_in (even_cells frame offsets id k)) (offsets_in (odd_cells frame offsets id k)) (slice_index offsets (2 * k)) (slice_index offsets (2 * k + 1)) (slice_index offsets (2 * suc k)) even odd))

  cells_rise : CellsRise lo hi (cells frame offsets id)
  cells_rise =
      subst (λ (l : List ℕ). Rise lo hi l) (sym (map-append (λ (c : Cell). c.at) (cells_below frame offsets id 7) (even_cells frame offsets id 7)))
      (rise_join (offsets_in (cells_below frame offsets id 7)) (offsets_in (even_cells frame offsets id 7)) lo (slice_index offsets 14) hi (below_rise 7 (omega arith))
      (even_rise 7 hi (rise_below offsets lo hi 14 rising (omega (arith, size))) (names frame 7)))

-- a frame's bytes rise as its spelling does
offsets_append : (xs ys : List Placed) → offsets_of (xs ++ ys) ≡ offsets_of xs ++ offsets_of ys
offsets_append xs ys = map-append (λ (p : Placed). p.place.at) xs ys

word_rise : (halves : ℕ) (a b : Placed) (r w : List Placed) (lo hi : ℕ) → IsWord halves a b r w → BytesRise lo hi r → (lo ≤ a.place.at) × (a.place.at + 1 ≤ b.place.at) × BytesRise (b.place.at + 1) hi w
word_rise halves a b r w lo hi i rise =
    let s = rise_split (offsets_of i.before) (offsets_of (a ∷ (b ∷ w))) lo hi (subst (λ (l : List ℕ). Rise lo hi l) (ap offsets_of i.parts ∙ offsets_append i.before (a ∷ (b ∷ w))) rise) in
    let low = rise_le (offsets_of i.before) lo (end_at lo (offsets_of i.before)) s.0 in
    let at = s.1.0 in
    ((let k : lo ≤ a.place.at = omega (arith, low, at) in k), s.1.1.0, s.1.1.1)

words_rise : (n halves : ℕ) (f r : List Placed) (lo hi : ℕ) → IsWords n halves f r → BytesRise lo hi r → BytesRise lo hi f
words_rise zero halves f r lo hi w rise = subst (λ (l : List Placed). BytesRise lo hi l) (w.2 ∙ sym w.1) rise
words_rise (suc n) halves f r lo hi (here, later, a, b, g, w, i, ek, ef, m) rise =
    let k = word_rise here a b r w lo hi i rise in
    subst (λ (l : List Placed). BytesRise lo hi l) (sym ef) (k.0, (k.1, words_rise n later g w (b.place.at + 1) hi m k.2))

frame_rise : (halves : ℕ) (f r : List Placed) (lo hi : ℕ) → IsFrame halves f r → BytesRise lo hi r → BytesRise lo hi f
frame_rise halves f r lo hi (a, b, g, w, i, ef, m) rise =
    let k = word_rise 0 a b r w lo hi i rise in
    subst (λ (l : List Placed). BytesRise lo hi l) (sym ef) (k.0, (k.1, words_rise 7 halves g w (b.place.at + 1) hi m k.2))

offsets_length : (f : List Placed) → length (offsets_of f) ≡ length f
offsets_length [] = refl
offsets_length (b ∷ f) = ap suc (offsets_length f)

item_rise : (p : PortItem) (id : Option ℕ) (r : List Placed) (lo hi : ℕ) → Spells p r → BytesRise lo hi r → CellsRise lo hi (item_cells id p)
item_rise Full id r lo hi s rise = rise_le (offsets_of r) lo hi rise
item_rise Half id r lo hi s rise = rise_le (offsets_of r) lo hi rise
item_rise (Frame f halves) id r lo hi s rise = cells_rise (units_of f) (offsets_of f) id lo hi (frame_rise halves f r lo hi s rise) (offsets_length f ∙ frame_bytes f r halves s)

pub items_rise : (items : List (PortItem × Place)) (id : Option ℕ) (rest u : List Placed) (lo hi : ℕ) → Splits Spells items rest u → BytesRise lo hi u → CellsRise lo hi (cells_of_items id (items_of items))
items_rise [] id rest u lo hi s rise = rise_le (offsets_of u) lo hi rise
items_rise (x ∷ items) id rest u lo hi (a, l, w, spelled, parts, place, more) rise =
    let first = a ++ l ∷ [] in
    let all : u ≡ first ++ w = parts ∙ sym (append_assoc a (l ∷ []) w) in
    let s = rise_split (offsets_of first) (offsets_of w) lo hi (subst (λ (z : List ℕ). Rise lo hi z) (ap offsets_of all ∙ offsets_append first w) rise) in
    subst (λ (z : List ℕ). Rise lo hi z) (sym (map-append (λ (c : Cell). c.at) (item_cells id x.0) (cells_of_items (item_id id x.0) (items_of items))))
    (rise_join (offsets_in (item_cells id x.0)) (offsets_in (cells_of_items (item_id id x.0) (items_of items))) lo (end_at lo (offsets_of first)) hi
    (item_rise x.0 id first lo (end_at lo (offsets_of first)) spelled s.0)
    (items_rise items (item_id id x.0) rest w (end_at lo (offsets_of first)) hi more s.1))

read_rise : (u : List Placed) (lo hi : ℕ) → BytesRise lo hi u → CellsRise lo hi (cells_of_items None (items_of (grammar_reading u).items))
read_rise u lo hi rise = items_rise (grammar_reading u).items None (grammar_reading u).rest u lo hi (readings.reading_is Spells why rule start port_decided u).splits rise

hunted_rise : (u : List Placed) (lo hi : ℕ) → BytesRise lo hi u → CellsRise lo hi (cells_in (port_stream true u))
hunted_rise u lo hi rise = elim (hunt_is u) [
  | inl m ↦ subst (λ (s : PortStream). CellsRise lo hi (cells_in s)) (sym m.1) (rise_le (offsets_of u) lo hi rise)
  | inr (before, after, parts, first, is) ↦
      let s = rise_split (offsets_of before) (offsets_of after) lo hi (subst (λ (z : List ℕ). Rise lo hi z) (ap offsets_of parts ∙ offsets_append before after) rise) in
      subst (λ (s : PortStream). CellsRise lo hi (cells_in s)) (sym is)
      (rise_join [] (offsets_in (cells_of_items None (items_of (grammar_reading after).items))) lo (end_at lo (offsets_of before)) hi (rise_le (offsets_of before) lo (end_at lo (offsets_of before)) s.0) (read_rise after (end_at lo (offsets_of before)) hi s.1))
]

bare_rise : (u : List Placed) (lo hi : ℕ) → BytesRise lo hi u → CellsRise lo hi (map bare_cell u)
bare_rise [] lo hi rise = rise
bare_rise (b ∷ u) lo hi rise = (rise.0, bare_rise u (b.place.at + 1) hi rise.1)

-- in each mode
pub reading_rises : (mode : FramesMode) (u : List Placed) (lo hi : ℕ) → BytesRise lo hi u → CellsRise lo hi (cells_of (port_reading mode u))
reading_rises Hunt u lo hi rise = subst (λ (l : List Cell). CellsRise lo hi l) (sym (framed_cells (port_stream true u))) (hunted_rise u lo hi rise)
reading_rises Aligned u lo hi rise = subst (λ (l : List Cell). CellsRise lo hi l) (sym (framed_cells (port_stream false u))) (read_rise u lo hi rise)
reading_rises Bare u lo hi rise = subst (λ (l : List Cell). CellsRise lo hi l) (sym (bare_cells u)) (bare_rise u lo hi rise)

pub placed_rise : (bytes : List ℕ) (at : ℕ) → BytesRise at (at + length bytes) (placed_from at bytes)
placed_rise [] at = (let k : at ≤ at + 0 = omega arith in k)
placed_rise (b ∷ bytes) at = ((let k : at ≤ at = omega arith in k), subst (λ (n : ℕ). BytesRise (at + 1) n (placed_from (at + 1) bytes)) (let k : at + 1 + length bytes ≡ at + suc (length bytes) = omega arith in k) (placed_rise bytes (at + 1)))

-- and so the cells of a whole capture rise, and are below its length
pub capture_rises : (mode : FramesMode) (bytes : List ℕ) → CellsRise 0 (length bytes) (cells_of (port_reading mode (placed bytes)))
capture_rises mode bytes = reading_rises mode (placed bytes) 0 (length bytes) (subst (λ (n : ℕ). BytesRise 0 n (placed bytes)) (let k : 0 + length bytes ≡ length bytes = omega arith in k) (placed_rise bytes 0))
