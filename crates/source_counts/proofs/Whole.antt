-- The counts of a whole frame, run by run.
use Rattle.std.proofs.Common.{◌≡◌, ◌≢◌, ℕ, zero, suc, ◌+◌, ◌-◌, ◌*◌, ◌/◌, ◌<◌, ◌≤◌, ◌⊎◌, inl, inr, List, [], ◌∷◌, ◌++◌, length, get_or, refl, sym, ◌∙◌, ap, subst, arith, Bool, true, false, cond, Option, Some, None, append_assoc, append-nil, add-one}
use Rattle.std.specs.Prelude.{◌==◌, ◌&&◌, not, is_none, min, slice_index}
use Rattle.std.specs.List.{count_by, flat_map}
use Rattle.std.proofs.lemmas.Bool.Decides.{nat_tests}
use Rattle.std.proofs.lemmas.List.{length-append, length_push}
use Rattle.std.proofs.lemmas.List.Elements.{filter-append}
use Rattle.std.proofs.lemmas.List.Sums.{sum_by_push, sum_by-append}
use Rattle.std.proofs.lemmas.List.Concat.{flat_map-append}
use Rattle.std.proofs.Math.Seq.{take-append_seam}
use Rattle.trace_values.specs.declared.cell.Cell.{Cell}
use Rattle.frame_grammar.specs.Reading.{is_source, source_list}
use Rattle.frame_grammar.specs.Runs.{HasRuns}
use Rattle.frame_grammar.specs.Frame.{names, aux_bit, even_data, even_cells, cells_below, cells, cell, id_at, run_at, IsInForce}
use Rattle.frame_grammar.proofs.Cells.{odd_cells}
use Rattle.frame_grammar.proofs.Looks.{passes, passes_odd, names_now, defers, names_next}
use Rattle.frame_grammar.proofs.Runs.{take_has_runs, cells_have_runs}
use Rattle.trace_values.specs.Cells.{source_id}
use Rattle.source_counts.specs.declared.source_counts.SourceCounts.{SourceCounts}
use Rattle.source_counts.specs.Counts.{bytes_of, items_of, unattributed_of, frame_items, null_source, trigger_source}
use Rattle.source_counts.specs.Adding.{byte_by, item_by, run_bytes, run_items}
use Rattle.source_counts.specs.Kept.{HasBytes, HasItems, total_of}
use Rattle.source_counts.proofs.Counting.{begins, IsBehind, behind_cell, bytes_push, items_push, unattributed_push}
use Rattle.source_counts.proofs.Parts.{part_none, items_none}

-- the counts grew from the old ones by the cells of a frame but for the last n, which are of this source and this run
pub record IsLazy (old now : SourceCounts) (cs : List Cell) (source : Option ℕ) (run n : ℕ) : Type 0 where
  pub bytes : (id : ℕ) → get_or now.bytes id 0 + run_bytes id source n ≡ get_or old.bytes id 0 + length (source_list id cs)
  pub items : (id : ℕ) → get_or now.items id 0 + run_items id source n ≡ get_or old.items id 0 + frame_items id cs
  pub unattributed : now.unattributed + cond (is_none source) n 0 ≡ old.unattributed + count_by (λ c. is_none c.id) cs
  pub frames : now.frames ≡ old.frames
  pub total : total_of now + n ≡ total_of old + length cs
  pub before : Option ℕ
  pub behind : IsBehind before cs
  pub begins_is : begins before run ≡ (n == 0)
  pub most : (r : ℕ) → before ≡ Some r → r ≤ run

-- the counts grew by a run
pub record IsRun (now new : SourceCounts) (source : Option ℕ) (n : ℕ) : Type 0 where
  pub bytes : (id : ℕ) → get_or new.bytes id 0 ≡ get_or now.bytes id 0 + run_bytes id source n
  pub items : (id : ℕ) → get_or new.items id 0 ≡ get_or now.items id 0 + run_items id source n
  pub unattributed : new.unattributed ≡ now.unattributed + cond (is_none source) n 0
  pub frames : new.frames ≡ now.frames
  pub total : total_of new ≡ total_of now + n

nothing : (b : Bool) (z : ℕ) → cond b z z ≡ z
nothing true z = refl
nothing false z = refl

abbrev unknown : Option ℕ → ℕ
unknown s = cond (is_none s) 1 0

no_items : (a b t : Bool) (z : ℕ) → z ≡ 0 → cond a (cond b z (cond t z (min z 1))) z ≡ z
no_items true true t z e = refl
no_items true false true z e = refl
no_items true false false z e = (let k : min z 1 ≡ z = grind (arith, e) in k)
no_items false b t z e = refl

pub none_items : (id : ℕ) (source : Option ℕ) → run_items id source 0 ≡ 0
none_items id source = no_items (is_source id source) (id == null_source) (id == trigger_source) 0 refl

pub none_bytes : (id : ℕ) (source : Option ℕ) → run_bytes id source 0 ≡ 0
none_bytes id source = nothing (is_source id source) 0

one_more : (b : Bool) (n : ℕ) → cond b (n + 1) 0 ≡ cond b n 0 + cond b 1 0
one_more true n = refl
one_more false n = refl

min_more : (n : ℕ) → min (n + 1) 1 ≡ min n 1 + cond (n == 0) 1 0
min_more zero = refl
min_more (suc n) = grind (arith, nat_tests)

item_more : (a b t : Bool) (n : ℕ) → cond a (cond b 0 (cond t (n + 1) (min (n + 1) 1))) 0 ≡ cond a (cond b 0 (cond t n (min n 1))) 0 + cond (a && (not b && cond t true (n == 0))) 1 0
item_more false b t n = refl
item_more true true t n = refl
item_more true false true n = refl
item_more true false false n = min_more n

-- no cell yet
pub lazy_none : (old : SourceCounts) (source : Option ℕ) → IsLazy old old [] source 0 0
lazy_none old source =
    let p = part_none old in
    record {
      bytes = λ id. (let e = none_bytes id source in let f = p.bytes id in omega arith);
      items = λ id. (let e = none_items id source in let f = (items_none old).items id in omega arith);
      unattributed = (let e = nothing (is_none source) 0 in let f = p.unattributed in omega arith);
      frames = refl;
      total = omega arith;
      before = None;
      behind = refl;
      begins_is = refl;
      most = λ r e. cc;
    }

itself : (a : ℕ) → not (a == a) ≡ false
itself a = grind (arith, nat_tests)

not_none : (n : ℕ) → false ≡ (n + 1 == 0)
not_none n = grind (arith, nat_tests)

same_some : (a b : ℕ) → Some a ≡ Some b → b ≤ a
same_some a b e = let k : a ≡ b = cc in omega arith

-- a cell of the run
pub lazy_push : (old now : SourceCounts) (cs : List Cell) (source : Option ℕ) (run n : ℕ) (c : Cell) → HasRuns (cs ++ c ∷ []) → c.id ≡ source → c.run ≡ run → IsLazy old now cs source run n →
    IsLazy old now (cs ++ c ∷ []) source run (n + 1)
lazy_push old now cs source run n c h i r l = record {
  bytes = λ id. (
      let e = l.bytes id in let f = bytes_push id cs c in let g = one_more (is_source id source) n in
      let k : byte_by id c.id ≡ byte_by id source = ap (byte_by id) i in omega arith);
  items = λ id. (
      let e = l.items id in let f = items_push id cs c l.before h l.behind in let g = item_more (is_source id source) (id == null_source) (id == trigger_source) n in
      let k : item_by id c.id (begins l.before c.run) ≡ item_by id source (n == 0) =
      ap (λ (s : Option ℕ). item_by id s (begins l.before c.run)) i ∙ ap (item_by id source) (ap (begins l.before) r ∙ l.begins_is) in omega arith);
  unattributed = (
      let e = l.unattributed in let f = unattributed_push cs c in let g = one_more (is_none source) n in
      let k : unknown c.id ≡ unknown source = ap unknown i in omega arith);
  frames = l.frames;
  total = (let e = l.total in let f = length-append cs (c ∷ []) in omega arith);
  before = Some c.run;
  behind = behind_cell cs c h;
  begins_is = ap (λ (x : ℕ). not (x == run)) r ∙ itself run ∙ not_none n;
  most = λ x e. (let k = same_some c.run x e in omega (arith, r));
}

begins_next : (before : Option ℕ) (run : ℕ) → ((r : ℕ) → before ≡ Some r → r ≤ run) → begins before (run + 1) ≡ true
begins_next None run h = refl
begins_next (Some r) run h = let k : r ≤ run = h r refl in grind (arith, nat_tests)

-- the run is counted, and the next begins
pub lazy_flush : (old now new : SourceCounts) (cs : List Cell) (source next : Option ℕ) (run n : ℕ) → IsRun now new source n → IsLazy old now cs source run n → IsLazy old new cs next (run + 1) 0
lazy_flush old now new cs source next run n f l = record {
  bytes = λ id. (let e = l.bytes id in let g = f.bytes id in let k = none_bytes id next in omega arith);
  items = λ id. (let e = l.items id in let g = f.items id in let k = none_items id next in omega arith);
  unattributed = (let e = l.unattributed in let g = f.unattributed in let k = nothing (is_none next) 0 in omega arith);
  frames = f.frames ∙ l.frames;
  total = (let e = l.total in let g = f.total in omega arith);
  before = l.before;
  behind = l.behind;
  begins_is = begins_next l.before run l.most;
  most = λ r e. (let k = l.most r e in omega arith);
}

front_runs : (xs ys : List Cell) → HasRuns (xs ++ ys) → HasRuns xs
front_runs xs ys h = subst HasRuns (take-append_seam xs ys) (take_has_runs (length xs) (xs ++ ys) h)

module _ (frame offsets : List ℕ) (id : Option ℕ) where
  more_below : (n k : ℕ) → (rest : List Cell) × (cells_below frame offsets id (n + k) ≡ cells_below frame offsets id k ++ rest)
  more_below zero k = ([], let e : zero + k ≡ k = omega arith in ap (cells_below frame offsets id) e ∙ sym (append-nil (cells_below frame offsets id k)))
  more_below (suc n) k =
      let r = more_below n k in
      let e : suc n + k ≡ suc (n + k) = omega arith in
      let x = even_cells frame offsets id (n + k) ++ odd_cells frame offsets id (n + k) in
      (r.0 ++ x, ap (cells_below frame offsets id) e ∙ ap (λ (l : List Cell). l ++ x) r.1 ∙ append_assoc (cells_below frame offsets id k) r.0 x)

  -- the cells below an index have runs
  below_runs : (n k : ℕ) → n + k ≡ 7 → HasRuns (cells_below frame offsets id k)
  below_runs n k e =
      let r = more_below n k in
      let f : cells frame offsets id ≡ cells_below frame offsets id k ++ (r.0 ++ even_cells frame offsets id 7) =
      ap (λ (m : ℕ). cells_below frame offsets id m ++ even_cells frame offsets id 7) (sym e) ∙ ap (λ (l : List Cell). l ++ even_cells frame offsets id 7) r.1
      ∙ append_assoc (cells_below frame offsets id k) r.0 (even_cells frame offsets id 7) in
      front_runs (cells_below frame offsets id k) (r.0 ++ even_cells frame offsets id 7) (subst HasRuns f (cells_have_runs frame offsets id))

  left_of : (k : ℕ) → k < 7 → (n : ℕ) × (n + suc k ≡ 7)
  left_of k h = (6 - k, omega arith)

  pair_runs : (k : ℕ) → k < 7 → HasRuns (cells_below frame offsets id k ++ (even_cells frame offsets id k ++ odd_cells frame offsets id k))
  pair_runs k h = let r = left_of k h in below_runs r.0 (suc k) r.1

  even_plain : (k : ℕ) → names frame k ≡ false → even_cells frame offsets id k ≡ cell frame offsets id (2 * k) (even_data frame k) ∷ []
  even_plain k n = ap (λ (b : Bool). cond b [] (cell frame offsets id (2 * k) (even_data frame k) ∷ [])) n

  even_named : (k : ℕ) → names frame k ≡ true → even_cells frame offsets id k ≡ []
  even_named k n = ap (λ (b : Bool). cond b [] (cell frame offsets id (2 * k) (even_data frame k) ∷ [])) n

  -- where the even byte is data, both cells are of the run
  pub pair_plain : (old now : SourceCounts) (source : Option ℕ) (k n : ℕ) → k < 7 → names frame k ≡ false → source ≡ id_at frame id (2 * k) →
      IsLazy old now (cells_below frame offsets id k) source (run_at frame (2 * k)) n → IsLazy old now (cells_below frame offsets id (k + 1)) source (run_at frame (2 * (k + 1))) (n + 2)
  pair_plain old now source k n h p i l =
      let cs = cells_below frame offsets id k in
      let a = cell frame offsets id (2 * k) (even_data frame k) in
      let b = cell frame offsets id (2 * k + 1) (slice_index frame (2 * k + 1)) in
      let force : IsInForce frame id (2 * k) source (run_at frame (2 * k)) = record { id_is = i; run_is = refl } in
      let odd = passes_odd frame id source k (run_at frame (2 * k)) (omega arith) p force in
      let next = passes frame id source k (run_at frame (2 * k)) (omega arith) p force in
      let runs : HasRuns ((cs ++ a ∷ []) ++ b ∷ []) =
      subst HasRuns (ap (λ (l : List Cell). cs ++ (l ++ b ∷ [])) (even_plain k p) ∙ sym (append_assoc cs (a ∷ []) (b ∷ []))) (pair_runs k h) in
      let one = lazy_push old now cs source (run_at frame (2 * k)) n a (front_runs (cs ++ a ∷ []) (b ∷ []) runs) (sym i) refl l in
      let two = lazy_push old now (cs ++ a ∷ []) source (run_at frame (2 * k)) (n + 1) b runs (sym odd.id_is) (sym odd.run_is) one in
      rw add-one
      (subst (λ (r : ℕ). IsLazy old now (cells_below frame offsets id (suc k)) source r (n + 2)) (next.run_is ∙ ap (λ (m : ℕ). run_at frame (2 * m)) (add-one k))
      (subst (λ (c : List Cell). IsLazy old now c source (run_at frame (2 * k)) (n + 2)) (append_assoc cs (a ∷ []) (b ∷ []) ∙ ap (λ (l : List Cell). cs ++ (l ++ b ∷ [])) (sym (even_plain k p)))
      (subst (λ (m : ℕ). IsLazy old now ((cs ++ a ∷ []) ++ b ∷ []) source (run_at frame (2 * k)) m) (let e : n + 1 + 1 ≡ n + 2 = omega arith in e) two)))

  odd_only : (k : ℕ) → names frame k ≡ true → cells_below frame offsets id (suc k) ≡ cells_below frame offsets id k ++ cell frame offsets id (2 * k + 1) (slice_index frame (2 * k + 1)) ∷ []
  odd_only k p = ap (λ (l : List Cell). cells_below frame offsets id k ++ (l ++ odd_cells frame offsets id k)) (even_named k p)

  odd_runs : (k : ℕ) → k < 7 → names frame k ≡ true → HasRuns (cells_below frame offsets id k ++ cell frame offsets id (2 * k + 1) (slice_index frame (2 * k + 1)) ∷ [])
  odd_runs k h p = subst HasRuns (odd_only k p) (pair_runs k h)

  -- where the even byte names a source that is deferred, the odd one ends the run
  pub pair_late : (old now new : SourceCounts) (source next : Option ℕ) (k n : ℕ) → k < 7 → names frame k ≡ true → aux_bit frame k ≢ 0 → source ≡ id_at frame id (2 * k) → IsRun now new source (n + 1) →
      IsLazy old now (cells_below frame offsets id k) source (run_at frame (2 * k)) n → IsLazy old new (cells_below frame offsets id (k + 1)) next (run_at frame (2 * (k + 1))) 0
  pair_late old now new source next k n h p a i f l =
      let cs = cells_below frame offsets id k in
      let b = cell frame offsets id (2 * k + 1) (slice_index frame (2 * k + 1)) in
      let force : IsInForce frame id (2 * k) source (run_at frame (2 * k)) = record { id_is = i; run_is = refl } in
      let odd = defers frame id source k (run_at frame (2 * k)) (omega arith) a force in
      let behind = names_next frame id source k (run_at frame (2 * k)) (omega arith) p force in
      let one = lazy_push old now cs source (run_at frame (2 * k)) n b (odd_runs k h p) (sym odd.id_is) (sym odd.run_is) l in
      let two = lazy_flush old now new (cs ++ b ∷ []) source next (run_at frame (2 * k)) (n + 1) f one in
      rw add-one
      (subst (λ (r : ℕ). IsLazy old new (cells_below frame offsets id (suc k)) next r 0) (behind.run_is ∙ ap (λ (m : ℕ). run_at frame (2 * m)) (add-one k))
      (subst (λ (c : List Cell). IsLazy old new c next (run_at frame (2 * k) + 1) 0) (sym (odd_only k p)) two))

  -- and where it is not, the odd one begins the next run
  pub pair_now : (old now new : SourceCounts) (source next : Option ℕ) (k n : ℕ) → k < 7 → names frame k ≡ true → aux_bit frame k ≡ 0 → source ≡ id_at frame id (2 * k) →
      next ≡ source_id (slice_index frame (2 * k) / 2) → IsRun now new source n →
      IsLazy old now (cells_below frame offsets id k) source (run_at frame (2 * k)) n → IsLazy old new (cells_below frame offsets id (k + 1)) next (run_at frame (2 * (k + 1))) 1
  pair_now old now new source next k n h p a i j f l =
      let cs = cells_below frame offsets id k in
      let b = cell frame offsets id (2 * k + 1) (slice_index frame (2 * k + 1)) in
      let force : IsInForce frame id (2 * k) source (run_at frame (2 * k)) = record { id_is = i; run_is = refl } in
      let odd = names_now frame id source k (run_at frame (2 * k)) (omega arith) p a force in
      let behind = names_next frame id source k (run_at frame (2 * k)) (omega arith) p force in
      let one = lazy_flush old now new cs source next (run_at frame (2 * k)) n f l in
      let two = lazy_push old new cs next (run_at frame (2 * k) + 1) 0 b (odd_runs k h p) (sym odd.id_is ∙ sym j) (sym odd.run_is) one in
      rw add-one
      (subst (λ (r : ℕ). IsLazy old new (cells_below frame offsets id (suc k)) next r 1) (behind.run_is ∙ ap (λ (m : ℕ). run_at frame (2 * m)) (add-one k))
      (subst (λ (c : List Cell). IsLazy old new c next (run_at frame (2 * k) + 1) 1) (sym (odd_only k p)) two))

  -- the last even byte is data, or it names a source
  pub last_plain : (old now new : SourceCounts) (source : Option ℕ) (k n : ℕ) → k ≡ 7 → names frame 7 ≡ false → source ≡ id_at frame id (2 * k) → IsRun now new source (n + 1) →
      IsLazy old now (cells_below frame offsets id k) source (run_at frame (2 * k)) n → IsLazy old new (cells frame offsets id) None (run_at frame 14 + 1) 0
  last_plain old now new source k n e p i f l =
      let cs = cells_below frame offsets id 7 in
      let a = cell frame offsets id 14 (even_data frame 7) in
      let l7 = subst (λ (m : ℕ). IsLazy old now (cells_below frame offsets id m) source (run_at frame (2 * m)) n) e l in
      let i7 = subst (λ (m : ℕ). source ≡ id_at frame id (2 * m)) e i in
      let whole : cells frame offsets id ≡ cs ++ a ∷ [] = ap (λ (x : List Cell). cs ++ x) (even_plain 7 p) in
      let one = lazy_push old now cs source (run_at frame 14) n a (subst HasRuns whole (cells_have_runs frame offsets id)) (sym i7) refl l7 in
      subst (λ (c : List Cell). IsLazy old new c None (run_at frame 14 + 1) 0) (sym whole) (lazy_flush old now new (cs ++ a ∷ []) source None (run_at frame 14) (n + 1) f one)

  pub last_named : (old now new : SourceCounts) (source : Option ℕ) (k n : ℕ) → k ≡ 7 → names frame 7 ≡ true → IsRun now new source n →
      IsLazy old now (cells_below frame offsets id k) source (run_at frame (2 * k)) n → IsLazy old new (cells frame offsets id) None (run_at frame 14 + 1) 0
  last_named old now new source k n e p f l =
      let cs = cells_below frame offsets id 7 in
      let l7 = subst (λ (m : ℕ). IsLazy old now (cells_below frame offsets id m) source (run_at frame (2 * m)) n) e l in
      let whole : cells frame offsets id ≡ cs = ap (λ (x : List Cell). cs ++ x) (even_named 7 p) ∙ append-nil cs in
      subst (λ (c : List Cell). IsLazy old new c None (run_at frame 14 + 1) 0) (sym whole) (lazy_flush old now new cs source None (run_at frame 14) n f l7)

-- the cells of all frames
abbrev pub all_cells : List (List Cell) → List Cell
all_cells frames = flat_map (λ cells. cells) frames

-- with a whole frame
module _ (old new : SourceCounts) (frames : List (List Cell)) (cs : List Cell) (run : ℕ) (l : IsLazy old new cs None run 0) where
  all_push : all_cells (frames ++ cs ∷ []) ≡ all_cells frames ++ cs
  all_push = flat_map-append (λ (c : List Cell). c) frames (cs ∷ []) ∙ ap (λ (x : List Cell). all_cells frames ++ x) (append-nil cs)

  bytes_counted : HasBytes old frames → (id : ℕ) → id ≤ 126 → slice_index new.bytes id ≡ bytes_of id (frames ++ cs ∷ [])
  bytes_counted s id h =
      let a : bytes_of id (frames ++ cs ∷ []) ≡ bytes_of id frames + length (source_list id cs) =
      ap (λ (x : List Cell). length (source_list id x)) all_push ∙ ap length (filter-append (λ (x : Cell). is_source id x.id) (all_cells frames) cs) ∙ length-append (source_list id (all_cells frames)) (source_list id cs) in
      let b = l.bytes id in let c = s.bytes id h in let z = none_bytes id None in omega arith

  pub items_counted : HasItems old frames → HasItems new (frames ++ cs ∷ [])
  items_counted s id h =
      let a : items_of id (frames ++ cs ∷ []) ≡ items_of id frames + frame_items id cs = sum_by_push (frame_items id) frames cs in
      let b = l.items id in let c = s id h in let z = none_items id None in omega arith

  unattributed_counted : HasBytes old frames → new.unattributed ≡ unattributed_of (frames ++ cs ∷ [])
  unattributed_counted s =
      let a : unattributed_of (frames ++ cs ∷ []) ≡ unattributed_of frames + count_by (λ x. is_none x.id) cs =
      ap (count_by (λ x. is_none x.id)) all_push ∙ sum_by-append (λ x. cond (is_none x.id) 1 0) (all_cells frames) cs in
      let b = l.unattributed in let c = s.unattributed in omega arith

  frames_counted : HasBytes old frames → new.frames + 1 ≡ length (frames ++ cs ∷ [])
  frames_counted s = let a = length_push frames cs in let b = l.frames in let c = s.frames in omega arith

  pub has_bytes : (fewer : (id : ℕ) → slice_index new.items id ≤ slice_index new.bytes id) → HasBytes old frames →
      HasBytes (record new { frames = new.frames + 1; fewer = fewer }) (frames ++ cs ∷ [])
  has_bytes fewer s = record { bytes = bytes_counted s; unattributed = unattributed_counted s; frames = frames_counted s }

-- after this many pairs of a frame
pub record IsGoing (old now : SourceCounts) (frame : List ℕ) (before : Option ℕ) (k code pending : ℕ) : Type 0 where
  pub code_few : code ≤ 127
  pub pending_few : pending ≤ 2 * k
  pub total : total_of now + pending ≤ total_of old + 2 * k
  pub id : source_id code ≡ id_at frame before (2 * k)
  pub part : (at : List ℕ) → IsLazy old now (cells_below frame at before k) (source_id code) (run_at frame (2 * k)) pending

pub going_plain : (old now : SourceCounts) (frame : List ℕ) (before : Option ℕ) (k code pending : ℕ) → k < 7 → names frame k ≡ false → IsGoing old now frame before k code pending →
    IsGoing old now frame before (k + 1) code (pending + 2)
going_plain old now frame before k code pending h p g = record {
  code_few = g.code_few;
  pending_few = (let e = g.pending_few in omega arith);
  total = (let e = g.total in omega arith);
  id = (passes frame before (source_id code) k (run_at frame (2 * k)) (omega arith) p (record { id_is = g.id; run_is = refl })).id_is;
  part = λ at. pair_plain frame at before old now (source_id code) k pending h p g.id (g.part at);
}

two_ways : (late : ℕ) → late < 2 → (late ≡ 0) ⊎ (late ≡ 1)
two_ways late h = grind arith

pub going_named : (old now new : SourceCounts) (frame : List ℕ) (before : Option ℕ) (k code pending late : ℕ) → k < 7 → names frame k ≡ true → slice_index frame (2 * k) < 256 → late ≡ aux_bit frame k → late < 2 →
    IsRun now new (source_id code) (pending + late) → IsGoing old now frame before k code pending → IsGoing old new frame before (k + 1) (slice_index frame (2 * k) / 2) (1 - late)
going_named old now new frame before k code pending late h p b a m f g = record {
  code_few = omega arith;
  pending_few = omega arith;
  total = (let e = g.total in let t = f.total in omega arith);
  id = (names_next frame before (source_id code) k (run_at frame (2 * k)) (omega arith) p (record { id_is = g.id; run_is = refl })).id_is;
  part = λ at. part at (two_ways late m);
} where
  part : (at : List ℕ) → (late ≡ 0) ⊎ (late ≡ 1) → IsLazy old new (cells_below frame at before (k + 1)) (source_id (slice_index frame (2 * k) / 2)) (run_at frame (2 * (k + 1))) (1 - late)
  part at (inl e) =
      subst (λ (x : ℕ). IsLazy old new (cells_below frame at before (k + 1)) (source_id (slice_index frame (2 * k) / 2)) (run_at frame (2 * (k + 1))) x) (let d : 1 ≡ 1 - late = omega (arith, e) in d)
      (pair_now frame at before old now new (source_id code) (source_id (slice_index frame (2 * k) / 2)) k pending h p (sym a ∙ e) g.id refl
      (subst (IsRun now new (source_id code)) (let d : pending + late ≡ pending = omega (arith, e) in d) f) (g.part at))
  part at (inr e) =
      subst (λ (x : ℕ). IsLazy old new (cells_below frame at before (k + 1)) (source_id (slice_index frame (2 * k) / 2)) (run_at frame (2 * (k + 1))) x) (let d : 0 ≡ 1 - late = omega (arith, e) in d)
      (pair_late frame at before old now new (source_id code) (source_id (slice_index frame (2 * k) / 2)) k pending h p (λ z. (let d : ⊥ = omega (arith, z, a, e) in d)) g.id
      (subst (IsRun now new (source_id code)) (let d : pending + late ≡ pending + 1 = omega (arith, e) in d) f) (g.part at))
