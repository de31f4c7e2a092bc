-- The written capture reads as the tagged bytes.
use Rattle.std.proofs.Common.{◌≡◌, ◌≢◌, ℕ, zero, suc, ◌+◌, ◌*◌, ◌/◌, ◌≤◌, List, [], ◌∷◌, ◌++◌, refl, sym, ◌∙◌, ap}
use Rattle.std.proofs.Common.{subst, arith, length, Bool, true, false, cond, Option, None, Some, append_assoc}
use Rattle.std.proofs.Common.{append-nil, map, replicate}
use Rattle.std.specs.Prelude.{◌==◌, not}
use Rattle.std.specs.List.{All, concat, filter}
use Rattle.std.proofs.lemmas.Bool.Decides.{nat_tests}
use Rattle.std.proofs.lemmas.List.{map-append, replicate-append-replicate}
use Rattle.std.proofs.lemmas.List.Elements.{All-nil, All-cons, All-head, All-tail, filter-append}
use Rattle.frame_grammar.proofs.Wholes.{units_from}
use Rattle.frame_grammar.proofs.Items.{id_of_items-push, cells_of_items-push}
use Rattle.trace_values.specs.declared.cell.Cell.{Cell}
use Rattle.trace_values.specs.Placed.{Place, Placed, units_of, byte_at, placed_from, placed}
use Rattle.trace_values.specs.Reading.{Progress, progress_from, advance}
use Rattle.trace_values.proofs.Placing.{placed_from_append}
use Rattle.trace_values.proofs.Wholes.{spelled_reads}
use Rattle.frame_grammar.specs.Frame.{cells, id_after}
use Rattle.frame_grammar.specs.Port.{PortItem, Full, Frame, half_spelling, IsWords, IsFrame, Spells, why, State, start}
use Rattle.frame_grammar.specs.Port.{rule}
use Rattle.frame_grammar.specs.Reading.{port_progress, port_cells, cells_of_items, id_of_items, item_cells, item_id}
use Rattle.frame_grammar.specs.Reading.{offsets_of, is_source}
use Rattle.frame_grammar.proofs.Deciding.{port_decided}
use Rattle.frame_writer.specs.declared.pair.Pair.{Pair}
use Rattle.frame_writer.specs.Written.{Tagged, first, after_first, is_id, paired, Paired, Closed, Filled, filled}
use Rattle.frame_writer.specs.Written.{spread, aux_byte, sync, is_due, known, frame_bytes, frames_by, Later}
use Rattle.frame_writer.specs.Written.{none_later, segments_then, joined, written_segments}
use Rattle.deformatter.specs.PortReading.{cells_of}
use Rattle.deformatter.proofs.Grammar.{aligned_cells}
use Rattle.frame_writer.specs.ReadBack.{IsOfSource, seen, as_seen, source_cells, read_back, ReadsBack}
use Rattle.frame_writer.proofs.Frames.{filled_zero, filled_suc, filled_less, by_some, by_nothing}
use Rattle.frame_writer.proofs.Law.{flat, null, AllIds, Knows, frame_law, filled_length, first_id, behind_ids}

-- how many half synchronisations are after pairs
abbrev halves_in : ℕ → List Pair → ℕ
halves_in h [] = h + 0
halves_in h (p ∷ pairs) = h + halves_in h pairs

abbrev NoMarks : List Pair → Type 0
NoMarks [] = Unit {0}
NoMarks (p ∷ pairs) = (p.even ≢ 255) × NoMarks pairs

-- the halfwords after the first
words : (h m : ℕ) (pairs : List Pair) (e a : ℕ) → NoMarks pairs → e ≢ 255 →
    (f : List Placed) × (units_of f ≡ flat pairs ++ (e ∷ (a ∷ []))) × IsWords (suc (length pairs)) (halves_in h pairs) f (placed_from m (half_spelling h ++ (spread h pairs ++ (e ∷ (a ∷ [])))))
words h m [] e a n k =
    let z = m + length (half_spelling h) in
    let x = byte_at z e in
    let y = byte_at (z + 1) a in (
      x ∷ (y ∷ []),
      refl,
      (
        h,
        0,
        x,
        y,
        [],
        [],
        record { before = placed_from m (half_spelling h); halves_are = units_from m (half_spelling h); proper = k; parts = placed_from_append m (half_spelling h) (e ∷ (a ∷ [])) },
        refl,
        refl,
        (refl, refl, refl),
      ),
    )
words h m (p ∷ pairs) e a n k =
    let z = m + length (half_spelling h) in
    let x = byte_at z p.even in
    let y = byte_at (z + 1) p.odd in
    let more = words h (z + 1 + 1) pairs e a n.1 k in
    let w = placed_from (z + 1 + 1) (half_spelling h ++ (spread h pairs ++ (e ∷ (a ∷ [])))) in (
      x ∷ (y ∷ more.0),
      ap (λ (l : List ℕ). p.even ∷ (p.odd ∷ l)) more.1,
      (
        h,
        halves_in h pairs,
        x,
        y,
        more.0,
        w,
        record {
          before = placed_from m (half_spelling h);
          halves_are = units_from m (half_spelling h);
          proper = n.0;
          parts = placed_from_append m (half_spelling h) (spread h (p ∷ pairs) ++ (e ∷ (a ∷ [])))
              ∙ ap (λ (l : List ℕ). placed_from m (half_spelling h) ++ (x ∷ (y ∷ placed_from (z + 1 + 1) l))) (append_assoc (half_spelling h) (spread h pairs) (e ∷ (a ∷ [])));
        },
        refl,
        refl,
        more.2,
      ),
    )

-- a frame of eight halfwords
one_frame : (h m : ℕ) (pairs : List Pair) (e a : ℕ) → length pairs ≡ 7 → NoMarks pairs → e ≢ 255 →
    (f : List Placed) × (n : ℕ) × (units_of f ≡ flat pairs ++ (e ∷ (a ∷ []))) × IsFrame n f (placed_from m (spread h pairs ++ (e ∷ (a ∷ []))))
one_frame h m [] e a l n k = absurd (omega arith)
one_frame h m (p ∷ pairs) e a l n k =
    let x = byte_at m p.even in
    let y = byte_at (m + 1) p.odd in
    let more = words h (m + 1 + 1) pairs e a n.1 k in
    let w = placed_from (m + 1 + 1) (half_spelling h ++ (spread h pairs ++ (e ∷ (a ∷ [])))) in (
      x ∷ (y ∷ more.0),
      halves_in h pairs,
      ap (λ (l : List ℕ). p.even ∷ (p.odd ∷ l)) more.1,
      (
        x,
        y,
        more.0,
        w,
        record {
          before = [];
          halves_are = refl;
          proper = n.0;
          parts = ap (λ (l : List ℕ). x ∷ (y ∷ placed_from (m + 1 + 1) l)) (append_assoc (half_spelling h) (spread h pairs) (e ∷ (a ∷ [])));
        },
        refl,
        subst (λ (s : ℕ). IsWords s (halves_in h pairs) more.0 w) (let q : suc (length pairs) ≡ 7 = omega arith in q) more.2,
      ),
    )

-- no mixed-use byte is FF
odd_mark : (i : ℕ) → i ≤ 126 → 2 * i + 1 ≢ 255
odd_mark i h e = omega arith

even_mark : (b : ℕ) → 2 * (b / 2) ≢ 255
even_mark b e = omega arith

placed_cond : (b : Bool) (x y : Paired) → x.pair.even ≢ 255 → y.pair.even ≢ 255 → (cond b x y).pair.even ≢ 255
placed_cond true x y h k = h
placed_cond false x y h k = k

placed_ids_cond : (b : Bool) (x y : Paired) → AllIds x.rest → AllIds y.rest → AllIds (cond b x y).rest
placed_ids_cond true x y h k = h
placed_ids_cond false x y h k = k

placed_mark : (c : Option ℕ) (t : List Tagged) → AllIds t → (paired c t).pair.even ≢ 255
placed_mark c t a =
    placed_cond (is_id c (first t).id) _ _ (placed_cond ((first (after_first t)).id == (first t).id) _ _ (even_mark (first t).byte) (odd_mark _ (first_id (after_first t) (behind_ids t a)))) (odd_mark _ (first_id t a))

placed_ids : (c : Option ℕ) (t : List Tagged) → AllIds t → AllIds (paired c t).rest
placed_ids c t a =
    placed_ids_cond (is_id c (first t).id) _ _ (placed_ids_cond ((first (after_first t)).id == (first t).id) _ _ (behind_ids (after_first t) (behind_ids t a)) (behind_ids t a)) (behind_ids t a)

closed_cond : (b : Bool) (x y : Closed) → x.even ≢ 255 → y.even ≢ 255 → (cond b x y).even ≢ 255
closed_cond true x y h k = h
closed_cond false x y h k = k

filled_marks : (r : ℕ) (c : Option ℕ) (t : List Tagged) → AllIds t → NoMarks (filled r c t).pairs × ((filled r c t).end.even ≢ 255)
filled_marks zero c t a =
    subst (λ (f : Filled). NoMarks f.pairs × (f.end.even ≢ 255)) (sym (filled_zero c t)) (tt, closed_cond (is_id c (first t).id) _ _ (even_mark (first t).byte) (odd_mark _ (first_id t a)))
filled_marks (suc r) c t a =
    subst (λ (f : Filled). NoMarks f.pairs × (f.end.even ≢ 255)) (sym (filled_suc r c t))
    (let m = filled_marks r (paired c t).id (paired c t).rest (placed_ids c t a) in ((placed_mark c t a, m.0), m.1))

progress_append : (p : Progress State PortItem) (u w : List Placed) → progress_from rule start p (u ++ w) ≡ progress_from rule start (progress_from rule start p u) w
progress_append p [] w = refl
progress_append p (b ∷ u) w = progress_append (advance rule start p b) u w

split_last : (b : Placed) (w : List Placed) → (a : List Placed) × (l : Placed) × ((b ∷ w) ≡ a ++ l ∷ [])
split_last b [] = ([], b, refl)
split_last b (c ∷ w) = let s = split_last c w in (b ∷ s.0, s.1, ap (λ (l : List Placed). b ∷ l) s.2)

-- items, and nothing after them
abbrev whole_items : List (PortItem × Place) → Progress State PortItem
whole_items items = record { items = items; rest = []; fault = None; state = start }

abbrev item_of : PortItem × Place → PortItem
item_of x = x.0

-- the reading has items alone, with this ID in force after them
record Clean (u : List Placed) (id : Option ℕ) : Type 0 where
  items : List (PortItem × Place)
  reads : port_progress u ≡ whole_items items
  id_is : id_of_items None (map item_of items) ≡ id

items_are : (u : List Placed) (items : List (PortItem × Place)) → port_progress u ≡ whole_items items → port_cells u ≡ cells_of_items None (map item_of items)
items_are u items e = ap (λ (q : Progress State PortItem). cells_of_items None (map item_of q.items)) e

abbrev Adds : List Placed → List Placed → Option ℕ → PortItem → Type 0
Adds u v id p = Clean v (item_id id p) × (port_cells v ≡ port_cells u ++ item_cells id p)

adds_last : (u a : List Placed) (l : Placed) (id : Option ℕ) (p : PortItem) → Clean u id → Spells p (a ++ l ∷ []) → Adds u (u ++ (a ++ l ∷ [])) id p
adds_last u a l id p c s =
    let more : List (PortItem × Place) = c.items ++ (p, l.place) ∷ [] in
    let reads : port_progress (u ++ (a ++ l ∷ [])) ≡ whole_items more =
    progress_append (record { items = []; rest = []; fault = None; state = start }) u (a ++ l ∷ [])
    ∙ ap (λ (q : Progress State PortItem). progress_from rule start q (a ++ l ∷ [])) c.reads
    ∙ spelled_reads rule start Spells why port_decided c.items p a l s in
    let items : map item_of more ≡ map item_of c.items ++ p ∷ [] = map-append item_of c.items ((p, l.place) ∷ []) in (
      record {
        items = more;
        reads = reads;
        id_is = ap (id_of_items None) items ∙ id_of_items-push None (map item_of c.items) p ∙ ap (λ (z : Option ℕ). item_id z p) c.id_is;
      },
      items_are (u ++ (a ++ l ∷ [])) more reads ∙ ap (cells_of_items None) items ∙ cells_of_items-push None (map item_of c.items) p
          ∙ ap (λ (z : Option ℕ). cells_of_items None (map item_of c.items) ++ item_cells z p) c.id_is
          ∙ ap (λ (x : List Cell). x ++ item_cells id p) (sym (items_are u c.items c.reads)),
    )

adds : (u : List Placed) (b : Placed) (w : List Placed) (id : Option ℕ) (p : PortItem) → Clean u id → Spells p (b ∷ w) → Adds u (u ++ (b ∷ w)) id p
adds u b w id p c s =
    let e = split_last b w in
    subst (λ (v : List Placed). Adds u (u ++ v) id p) (sym e.2) (adds_last u e.0 e.1 id p c (subst (Spells p) e.2 s))

-- the same, where the bytes of a frame are spelled as such
adds_frame : (u : List Placed) (m : ℕ) (l : List ℕ) (id : Option ℕ) (p : PortItem) → Clean u id → Spells p (placed_from m l) → l ≢ [] → Adds u (u ++ placed_from m l) id p
adds_frame u m [] id p c s n = absurd (n refl)
adds_frame u m (b ∷ l) id p c s n = adds u (byte_at m b) (placed_from (m + 1) l) id p c s

never_empty : (a l : List ℕ) (x : ℕ) → a ++ (x ∷ l) ≢ []
never_empty [] l x e = cc
never_empty (y ∷ a) l x e = cc

synced : (u : List Placed) (m : ℕ) (id : Option ℕ) (b : Bool) → Clean u id →
    Clean (u ++ placed_from m (cond {A = List ℕ} b (255 ∷ (255 ∷ (255 ∷ (127 ∷ [])))) [])) id × (port_cells (u ++ placed_from m (cond {A = List ℕ} b (255 ∷ (255 ∷ (255 ∷ (127 ∷ [])))) [])) ≡ port_cells u)
synced u m id true c = let a = adds u (byte_at m 255) (placed_from (m + 1) (255 ∷ (255 ∷ (127 ∷ [])))) id Full c refl in (a.0, a.1 ∙ append-nil (port_cells u))
synced u m id false c = (subst (λ (l : List Placed). Clean l id) (sym (append-nil u)) c, ap port_cells (append-nil u))

knows_start : (b : Bool) (c id : Option ℕ) → Knows c id → Knows (cond b None c) id
knows_start true c id k = tt
knows_start false c id k = k

knows_named : (c id : Option ℕ) (i : ℕ) → c ≡ Some i → id ≡ c → Knows c id
knows_named None id i e f = tt
knows_named (Some j) id i e f = f

all_ids : (t : List Tagged) → All IsOfSource t → AllIds t
all_ids [] a = tt
all_ids (x ∷ t) a = ((All-head IsOfSource x t a).in_range, all_ids t (All-tail IsOfSource x t a))

-- a cell as it is seen, of an ID other than 0
abbrev is_kept : Option ℕ × ℕ → Bool
is_kept s = not (is_source 0 s.0)

kept_cond : (b : Bool) (c : Cell) (l : List Cell) → map seen (cond b (c ∷ l) l) ≡ cond b (seen c ∷ map seen l) (map seen l)
kept_cond true c l = refl
kept_cond false c l = refl

filter_seen : (cs : List Cell) → map seen (source_cells cs) ≡ filter is_kept (map seen cs)
filter_seen [] = refl
filter_seen (c ∷ cs) =
    kept_cond (not (is_source 0 c.id)) c (source_cells cs)
    ∙ ap (λ (l : List (Option ℕ × ℕ)). cond (not (is_source 0 c.id)) (seen c ∷ l) l) (filter_seen cs)

dropped : (n : ℕ) → filter is_kept (map as_seen (replicate n null)) ≡ []
dropped zero = refl
dropped (suc n) = dropped n

named_not : (i : ℕ) → 1 ≤ i → not (i == 0) ≡ true
named_not i h = grind (arith, nat_tests)

kept : (t : List Tagged) (n : ℕ) → All IsOfSource t → filter is_kept (map as_seen (t ++ replicate n null)) ≡ map as_seen t
kept [] n a = dropped n
kept (x ∷ t) n a =
    let l = filter is_kept (map as_seen (t ++ replicate n null)) in
    ap (λ (b : Bool). cond b (as_seen x ∷ l) l) (named_not x.id (All-head IsOfSource x t a).named)
    ∙ ap (λ (k : List (Option ℕ × ℕ)). as_seen x ∷ k) (kept t n (All-tail IsOfSource x t a))

parts_of : (a b : Option ℕ × ℕ) (l m : List (Option ℕ × ℕ)) → a ∷ l ≡ b ∷ m → (a ≡ b) × (l ≡ m)
parts_of a b l m e = (cc, cc)

attributed : (cs : List Cell) (ts : List Tagged) → map seen cs ≡ map as_seen ts → All (λ c. c.id ≢ None) cs
attributed [] ts e = All-nil (λ (c : Cell). c.id ≢ None)
attributed (c ∷ cs) [] e = cc
attributed (c ∷ cs) (x ∷ ts) e =
    let p = parts_of (seen c) (as_seen x) (map seen cs) (map as_seen ts) e in
    let h : c.id ≡ Some x.id = ap (λ (s : Option ℕ × ℕ). s.0) p.0 in
    All-cons (λ (d : Cell). d.id ≢ None) c cs (λ z. (let k : Some x.id ≡ None = sym h ∙ z in cc)) (attributed cs ts p.1)

-- what the reading grew by: bytes of which those of IDs other than 0 are these
record Grown (u v : List Placed) (t : List Tagged) : Type 0 where
  taken : List Tagged
  id : Option ℕ
  clean : Clean v id
  cells : map seen (port_cells v) ≡ map seen (port_cells u) ++ map as_seen taken
  source : filter is_kept (map as_seen taken) ≡ map as_seen t

-- the bytes t and null bytes after them, and then others
record GrownBy (u v : List Placed) (t s : List Tagged) : Type 0 where
  nulls : ℕ
  more : List Tagged
  id : Option ℕ
  clean : Clean v id
  cells : map seen (port_cells v) ≡ map seen (port_cells u) ++ map as_seen ((t ++ replicate nulls null) ++ more)
  source : filter is_kept (map as_seen more) ≡ map as_seen s

as_grown : (u v : List Placed) (t s : List Tagged) → All IsOfSource t → GrownBy u v t s → Grown u v (t ++ s)
as_grown u v t s a g =
    let both = map-append as_seen (t ++ replicate g.nulls null) g.more in record {
      taken = (t ++ replicate g.nulls null) ++ g.more;
      id = g.id;
      clean = g.clean;
      cells = g.cells;
      source = ap (filter is_kept) both ∙ filter-append is_kept (map as_seen (t ++ replicate g.nulls null)) (map as_seen g.more)
          ∙ ap (λ (l : List (Option ℕ × ℕ)). l ++ filter is_kept (map as_seen g.more)) (kept t g.nulls a)
          ∙ ap (λ (l : List (Option ℕ × ℕ)). map as_seen t ++ l) g.source ∙ sym (map-append as_seen t s);
    }

module _ (every halves : ℕ) where
  -- one frame
  record Framed (u : List Placed) (m n : ℕ) (c : Option ℕ) (t : List Tagged) : Type 0 where
    taken : List Tagged
    nulls : ℕ
    id : Option ℕ
    clean : Clean (u ++ placed_from m (frame_bytes every halves n (filled 7 (known every n c) t).pairs (filled 7 (known every n c) t).end.even (filled 7 (known every n c) t).end.aux)) id
    cells : map seen (port_cells (u ++ placed_from m (frame_bytes every halves n (filled 7 (known every n c) t).pairs (filled 7 (known every n c) t).end.even (filled 7 (known every n c) t).end.aux))) ≡ map seen (port_cells u) ++ map as_seen taken
    bytes : taken ++ (filled 7 (known every n c) t).end.rest ≡ t ++ replicate nulls null
    knows : Knows (filled 7 (known every n c) t).end.id id
    ids : AllIds (filled 7 (known every n c) t).end.rest

  framed : (u : List Placed) (m n : ℕ) (c id : Option ℕ) (t : List Tagged) → Clean u id → Knows c id → AllIds t → Framed u m n c t
  unfolding frame_bytes
  framed u m n c id t cl kn a =
      let k = known every n c in
      let f = filled 7 k t in
      let marks = filled_marks 7 k t a in
      let s = sync every n in
      let mid = u ++ placed_from m s in
      let tail = spread halves f.pairs ++ (f.end.even ∷ (aux_byte f.pairs f.end.aux ∷ [])) in
      let one = one_frame halves (m + length s) f.pairs f.end.even (aux_byte f.pairs f.end.aux) (filled_length 7 k t) marks.0 marks.1 in
      let y = synced u m id (is_due every n) cl in
      let z = adds_frame mid (m + length s) tail id (Frame one.0 one.1) y.0 one.3 (never_empty (spread halves f.pairs) (aux_byte f.pairs f.end.aux ∷ []) f.end.even) in
      let law = frame_law (offsets_of one.0) id k t a (knows_start (is_due every n) c id kn) in
      let parts : mid ++ placed_from (m + length s) tail ≡ u ++ placed_from m (s ++ tail) = append_assoc u (placed_from m s) (placed_from (m + length s) tail) ∙ ap (λ (l : List Placed). u ++ l) (sym (placed_from_append m s tail)) in
      let after = item_id id (Frame one.0 one.1) in
      record {
        taken = law.taken;
        nulls = law.nulls;
        id = after;
        clean = subst (λ (l : List Placed). Clean l after) parts z.0;
        cells = ap (λ (l : List Placed). map seen (port_cells l)) (sym parts) ∙ ap (λ (l : List Cell). map seen l) (z.1 ∙ ap (λ (l : List Cell). l ++ item_cells id (Frame one.0 one.1)) y.1)
            ∙ map-append seen (port_cells u) (item_cells id (Frame one.0 one.1))
            ∙ ap (λ (l : List (Option ℕ × ℕ)). map seen (port_cells u) ++ l) (ap (λ (l : List ℕ). map seen (cells l (offsets_of one.0) id)) one.2 ∙ law.cells);
        bytes = law.bytes;
        knows = knows_named f.end.id after law.named.0 law.named.1 (ap (λ (l : List ℕ). id_after l id) one.2 ∙ law.id);
        ids = law.ids;
      }

  -- what the later frames are
  abbrev LaterLaw : Later → List Tagged → Type 0
  LaterLaw later s = (m n : ℕ) (u : List Placed) (c id : Option ℕ) → Clean u id → Knows c id → Grown u (u ++ placed_from m (concat (later n c))) s

  law_by : (later : Later) (s : List Tagged) → LaterLaw later s → (k m n : ℕ) (u : List Placed) (c id : Option ℕ) (t : List Tagged) → length t ≤ k → Clean u id → Knows c id → AllIds t →
      GrownBy u (u ++ placed_from m (concat (frames_by every halves later k n c t))) t s
  law_by later s h k m n u c id [] l cl kn a =
      let g = h m n u c id cl kn in
      subst (λ (w : List (List ℕ)). GrownBy u (u ++ placed_from m (concat w)) [] s) (sym (by_nothing every halves later k n c))
      (record { nulls = 0; more = g.taken; id = g.id; clean = g.clean; cells = g.cells; source = g.source })
  law_by later s h zero m n u c id (x ∷ t) l cl kn a = absurd (omega arith)
  law_by later s h (suc k) m n u c id (x ∷ t) l cl kn a =
      let f = filled 7 (known every n c) (x ∷ t) in
      let w = frame_bytes every halves n f.pairs f.end.even f.end.aux in
      let fr = framed u m n c id (x ∷ t) cl kn a in
      let less = filled_less 6 (known every n c) x t in
      let more = law_by later s h k (m + length w) (n + 1) (u ++ placed_from m w) f.end.id fr.id f.end.rest (omega arith) fr.clean fr.knows fr.ids in
      let after = concat (frames_by every halves later k (n + 1) f.end.id f.end.rest) in
      let parts : (u ++ placed_from m w) ++ placed_from (m + length w) after ≡ u ++ placed_from m (concat (frames_by every halves later (suc k) n c (x ∷ t))) =
      append_assoc u (placed_from m w) (placed_from (m + length w) after) ∙ ap (λ (q : List Placed). u ++ q) (sym (placed_from_append m w after) ∙ ap (λ (q : List (List ℕ)). placed_from m (concat q)) (sym (by_some every halves later k n c x t))) in
      subst (λ (v : List Placed). GrownBy u v (x ∷ t) s) parts
      (record {
        nulls = fr.nulls + more.nulls;
        more = more.more;
        id = more.id;
        clean = more.clean;
        cells = more.cells ∙ ap (λ (q : List (Option ℕ × ℕ)). q ++ map as_seen ((f.end.rest ++ replicate more.nulls null) ++ more.more)) fr.cells
            ∙ append_assoc (map seen (port_cells u)) (map as_seen fr.taken) (map as_seen ((f.end.rest ++ replicate more.nulls null) ++ more.more))
            ∙ ap (λ (q : List (Option ℕ × ℕ)). map seen (port_cells u) ++ q) (sym (map-append as_seen fr.taken ((f.end.rest ++ replicate more.nulls null) ++ more.more))
            ∙ ap (map as_seen) (sym (append_assoc fr.taken (f.end.rest ++ replicate more.nulls null) more.more) ∙ ap (λ (q : List Tagged). q ++ more.more)
            (sym (append_assoc fr.taken f.end.rest (replicate more.nulls null)) ∙ ap (λ (q : List Tagged). q ++ replicate more.nulls null) fr.bytes
            ∙ append_assoc (x ∷ t) (replicate fr.nulls null) (replicate more.nulls null) ∙ ap (λ (q : List Tagged). (x ∷ t) ++ q) (replicate-append-replicate fr.nulls more.nulls null))));
        source = more.source;
      })

  segments_law : (segments : List (List Tagged)) → All (λ t. All IsOfSource t) segments → LaterLaw (λ n c. segments_then every halves none_later segments n c) (joined segments)
  segments_law [] a m n u c id cl kn =
      subst (λ (v : List Placed). Grown u v []) (sym (append-nil u)) (record { taken = []; id = id; clean = cl; cells = sym (append-nil (map seen (port_cells u))); source = refl })
  segments_law (t ∷ segments) a m n u c id cl kn =
      let one = All-head (λ t. All IsOfSource t) t segments a in
      as_grown u (u ++ placed_from m (concat (segments_then every halves none_later (t ∷ segments) n c))) t (joined segments) one
      (law_by (λ n c. segments_then every halves none_later segments n c) (joined segments) (segments_law segments (All-tail (λ t. All IsOfSource t) t segments a))
      (length t) m n u c id t (omega arith) cl kn (all_ids t one))

-- the cells are the tagged bytes and null bytes among them
written : (bytes : List ℕ) (t : List Tagged) → Grown [] (placed bytes) t → ReadsBack bytes t
written bytes t g = record {
  no_fault = ap (λ (q : Progress State PortItem). q.fault) g.clean.reads;
  no_tail = ap (λ (q : Progress State PortItem). length q.rest) g.clean.reads;
  attributed = subst (λ (l : List Cell). All (λ (c : Cell). c.id ≢ None) l) (sym read_cells) (attributed (port_cells (placed bytes)) g.taken g.cells);
  cells = ap (λ (l : List Cell). map seen (source_cells l)) read_cells
      ∙ filter_seen (port_cells (placed bytes)) ∙ ap (filter is_kept) g.cells ∙ g.source;
} where
  -- the cells of the frames are the grammar's
  read_cells : cells_of (read_back bytes) ≡ port_cells (placed bytes)
  read_cells = aligned_cells (placed bytes)

pub written_reads : (every halves : ℕ) (segments : List (List Tagged)) → All (λ t. All IsOfSource t) segments → ReadsBack (written_segments every halves segments) (joined segments)
written_reads every halves segments a =
    written (written_segments every halves segments) (joined segments)
    (segments_law every halves segments a 0 0 [] None None (record { items = []; reads = refl; id_is = refl }) tt)
