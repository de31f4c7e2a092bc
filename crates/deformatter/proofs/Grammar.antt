-- The reading in each mode is the one that the grammar's spellings give, and there is no other.
use Rattle.std.proofs.Common.{◌≡◌, ℕ, suc, ◌+◌, List, [], ◌∷◌, ◌++◌, length, refl, sym, ◌∙◌, ap, subst, inl, inr}
use Rattle.std.proofs.Common.{arith, Bool, true, false, Option, None, Some, ◌↔◌}
use Rattle.std.specs.List.{sum_by}
use Rattle.std.proofs.lemmas.List.Sums.{sum_by-cons}
use Rattle.deformatter.specs.Names.{Cell, Reason, Place, Placed, units_of, IsFirst, Reading, reading, FramesMode, Hunt}
use Rattle.deformatter.specs.Names.{Aligned, Bare, PortItem, Full, Half, Frame, Spells, why, half_words, start, rule}
use Rattle.deformatter.specs.Names.{port_progress, port_cells, item_id, halves_in, frames_in}
use Rattle.trace_values.proofs.Lists.{same_fronts}
use Rattle.trace_values.proofs.Readings as readings
use Rattle.frame_grammar.proofs.Deciding.{port_decided}
use Rattle.frame_grammar.proofs.Items.{unfinished_halves}
use Rattle.frame_grammar.proofs.Broken.{broken_halves, same_before}
use Rattle.deformatter.specs.Reading.{PortStream, port_stream, read_after, items_of, IsHunt}
use Rattle.deformatter.proofs.Readings.{hunt_is}
use Rattle.deformatter.specs.PortReading.{PortReading, frames_of_items, framed, port_reading, cells_of}
use Rattle.deformatter.proofs.PortReadingLaws.{framed_cells}
use Rattle.deformatter.specs.ByGrammar.{full_sync, HasHalves, IsOfItems, IsByGrammar, IsPortReading}

made : List (List Cell) → ℕ → ℕ → Option (Place × Reason) → ℕ → ℕ → Bool → PortReading
made a b c d e f g = record { frames = a; fulls = b; halves = c; fault = d; tail = e; skipped = f; locked = g }

same_record : (r q : PortReading) → r.frames ≡ q.frames → r.fulls ≡ q.fulls → r.halves ≡ q.halves → r.fault ≡ q.fault → r.tail ≡ q.tail → r.skipped ≡ q.skipped → r.locked ≡ q.locked → r ≡ q
unfolding made
same_record r q a b c d e f g = let k : made r.frames r.fulls r.halves r.fault r.tail r.skipped r.locked ≡ made q.frames q.fulls q.halves q.fault q.tail q.skipped q.locked = cc in k

-- the half synchronisations of the unfinished frame, that are kept
kept_halves : (u : List Placed) → HasHalves (port_progress u).rest (port_progress u).fault (port_progress u).state.halves
kept_halves u = by (port_progress u).fault refl where
  by : (f : Option (Place × Reason)) → (port_progress u).fault ≡ f → HasHalves (port_progress u).rest f (port_progress u).state.halves
  by None e = unfinished_halves u e
  by (Some f) e = let k = broken_halves u f e in (k.broken, k.halves)

same_halves : (rest : List Placed) (f : Option (Place × Reason)) (m n : ℕ) → HasHalves rest f m → HasHalves rest f n → m ≡ n
same_halves rest None m n s t = s ∙ sym t
same_halves rest (Some f) m n s t = s.1 ∙ ap half_words (same_before rest f f s.0 t.0) ∙ sym t.1

-- in frames from some byte on
is_by_grammar : (skipped : ℕ) (u : List Placed) → IsByGrammar skipped u (framed (read_after skipped (port_progress u)))
is_by_grammar skipped u = (
  reading rule start u,
  readings.reading_is Spells why rule start port_decided u,
  record {
    unfinished = (port_progress u).state.halves;
    has = kept_halves u;
    frames = refl;
    fulls = refl;
    halves = refl;
    fault = refl;
    tail = refl;
    skipped_is = refl;
    locked = refl;
  },
)

one_of_items : (skipped : ℕ) (u : List Placed) (r : PortReading) → IsOfItems skipped (reading rule start u) r → r ≡ framed (read_after skipped (port_progress u))
one_of_items skipped u r i =
    same_record r (framed (read_after skipped (port_progress u))) i.frames i.fulls
    (i.halves ∙ ap (λ (n : ℕ). sum_by halves_in (items_of (port_progress u).items) + n) (same_halves (port_progress u).rest (port_progress u).fault i.unfinished (port_progress u).state.halves i.has (kept_halves u)))
    i.fault i.tail i.skipped_is i.locked

only_by_grammar : (skipped : ℕ) (u : List Placed) (r : PortReading) → IsByGrammar skipped u r → r ≡ framed (read_after skipped (port_progress u))
only_by_grammar skipped u r (read, is, i) =
    one_of_items skipped u r (subst (λ (x : Reading PortItem). IsOfItems skipped x r) (readings.only_reading Spells why rule start port_decided u read is) i)

-- the least place is one place
units_length : (u : List Placed) → length (units_of u) ≡ length u
units_length [] = refl
units_length (b ∷ u) = ap suc (units_length u)

one_place : (u a b v w : List Placed) → u ≡ a ++ v → u ≡ b ++ w → IsFirst full_sync (units_of u) (units_of a) → IsFirst full_sync (units_of u) (units_of b) → (a ≡ b) × (v ≡ w)
one_place u a b v w e f s t =
    let k = s.least (units_of b) t.stands in
    let l = t.least (units_of a) s.stands in
    let m = units_length a in
    let n = units_length b in
    same_fronts a b v w (omega arith) (sym e ∙ f)

-- in a hunt
hunt_reads : (u : List Placed) (s : PortStream) → IsHunt u s → IsPortReading Hunt u (framed s)
hunt_reads u s (inl m) = inl (m.0, ap framed m.1)
hunt_reads u s (inr (before, after, parts, first, is)) =
    inr (before, after, parts, first, subst (λ (x : PortStream). IsByGrammar (length before) after (framed x)) (sym is) (is_by_grammar (length before) after))

hunt_only : (u : List Placed) (s : PortStream) (r : PortReading) → IsHunt u s → IsPortReading Hunt u r → r ≡ framed s
hunt_only u s r (inl m) (inl n) = n.1 ∙ ap framed (sym m.1)
hunt_only u s r (inl m) (inr (before, after, parts, first, is)) = absurd (m.0 (units_of before) first.stands)
hunt_only u s r (inr (before, after, parts, first, is)) (inl n) = absurd (n.0 (units_of before) first.stands)
hunt_only u s r (inr (a, v, e, first, is)) (inr (b, w, f, other, read)) =
    let k = one_place u b a w v f e other first in
    only_by_grammar (length b) w r read ∙ ap (λ (l : List Placed). framed (read_after (length l) (port_progress w))) k.0
    ∙ ap (λ (l : List Placed). framed (read_after (length a) (port_progress l))) k.1 ∙ ap framed (sym is)

reads : (mode : FramesMode) (u : List Placed) → IsPortReading mode u (port_reading mode u)
reads Aligned u = is_by_grammar 0 u
reads Hunt u = hunt_reads u (port_stream true u) (hunt_is u)
reads Bare u = refl

only : (mode : FramesMode) (u : List Placed) (r : PortReading) → IsPortReading mode u r → r ≡ port_reading mode u
only Aligned u r i = only_by_grammar 0 u r i
only Hunt u r i = hunt_only u (port_stream true u) r (hunt_is u) i
only Bare u r i = i

pub reading_law : (mode : FramesMode) (u : List Placed) (r : PortReading) → IsPortReading mode u r ↔ (r ≡ port_reading mode u)
reading_law mode u r = (only mode u r, λ e. subst (λ (x : PortReading). IsPortReading mode u x) (sym e) (reads mode u))

-- each frame is one of the items
pub frames_counted : (id : Option ℕ) (items : List PortItem) → length (frames_of_items id items) ≡ sum_by frames_in items
frames_counted id [] = refl
frames_counted id (Full ∷ items) = frames_counted id items
frames_counted id (Half ∷ items) = frames_counted id items
frames_counted id (Frame f halves ∷ items) =
    more (length (frames_of_items (item_id id (Frame f halves)) items)) (sum_by frames_in items) (frames_counted (item_id id (Frame f halves)) items)
    ∙ sym (sum_by-cons frames_in (Frame f halves) items) where
      more : (m n : ℕ) → m ≡ n → suc m ≡ 1 + n
      more m n e = omega arith

-- the cells of the frames are those of the grammar's reading
pub aligned_cells : (u : List Placed) → cells_of (port_reading Aligned u) ≡ port_cells u
aligned_cells u = framed_cells (port_stream false u)
