-- Where no source is mapped, the events of a source are counted by the runs of its frames.
use Rattle.std.specs.Prelude.{◌==◌, ◌&&◌, ◌||◌}
use Rattle.std.proofs.Common.{◌≡◌, ◌≢◌, ℕ, zero, suc, ◌+◌, ◌<◌, ◌≤◌, List, [], ◌∷◌, length, map, take}
use Rattle.std.proofs.Common.{drop, refl, sym, ◌∙◌, ap, inl, inr, arith, None, Some}
use Rattle.std.proofs.Common.{Bool, true, false, cond}
use Rattle.std.specs.List.{All}
use Rattle.std.proofs.lemmas.List.{length-append}
use Rattle.std.proofs.lemmas.List.Sums.{sum_by-cons}
use Rattle.std.proofs.lemmas.Grind.{flat_map-append}
use Rattle.std.proofs.lemmas.Bool.{and_left, and_right, and_parts}
use Rattle.trace_values.specs.declared.cell.Cell.{Cell}
use Rattle.trace_values.specs.Placed.{Place, byte_at}
use Rattle.frame_grammar.specs.Reading.{is_source, source_list}
use Rattle.frame_grammar.specs.Runs.{HasRuns}
use Rattle.deformatter.specs.Runs.{HaveRuns}
use Rattle.source_counts.specs.Counts.{has_run, runs_of as run_count, frame_items, items_of}
use Rattle.source_counts.proofs.Counting.{count_same, count_more}
use Rattle.source_events.specs.declared.event.What.{What}
use Rattle.source_events.specs.declared.event.What.TheVariants.{Raw, Trigger}
use Rattle.source_events.specs.Runs.{joined, runs_of, all_runs, id_of, bytes_of, placed_run, last_at, list_of, more_of}
use Rattle.source_events.specs.Report.{triggers, raw_events, raws}
use Rattle.source_events.proofs.Merges.{test_same, test_other, same_or_not}
use Rattle.source_events.proofs.Running.{runs_split}
use Rattle.source_events.proofs.Raws.{raw_is}
use Rattle.source_events.proofs.RunNumbers.{Ordered, SameIds, ordered, same_ids, list_is}

map_length : {X Y : Type 0} (f : X → Y) (xs : List X) → length (map f xs) ≡ length xs
map_length f [] = refl
map_length f (x ∷ xs) = ap suc (map_length f xs)

-- a run of the null source, and one of the trigger source
null_is : (V : Type 0) (x : ℕ) (run : List Cell) → x ≡ 0 → raw_events {V = V} x run ≡ []
null_is V x run e =
    ap (λ (t : Bool). cond t [] (cond (x == 125) (triggers {V = V} run)
    ((Raw (bytes_of run), record { at = last_at run; half = 0 }) ∷ []))) (test_same x 0 e)

abbrev trigger_of : (V : Type 0) → Cell → What V × Place
trigger_of V c = (Trigger c.byte, record { at = c.at; half = 0 })

triggers_are : (V : Type 0) (x : ℕ) (run : List Cell) → x ≡ 125 → raw_events {V = V} x run ≡ triggers run
triggers_are V x run e =
    ap (λ (t : Bool). cond t [] (cond (x == 125) (triggers {V = V} run)
    ((Raw (bytes_of run), record { at = last_at run; half = 0 }) ∷ []))) (test_other x 0 (λ z. (let a = e in let b = z in omega arith)))
    ∙ ap (λ (t : Bool). cond t (triggers {V = V} run) ((Raw (bytes_of run), record { at = last_at run; half = 0 }) ∷ []))
    (test_same x 125 e)

-- the runs of a source
abbrev runs_with : ℕ → List (List Cell) → ℕ
runs_with x [] = 0
runs_with x (run ∷ runs) = cond (is_source x (id_of run)) 1 0 + runs_with x runs

or_other : (a b : Bool) → a ≡ false → (a || b) ≡ b
or_other true b e = cc
or_other false b e = refl

or_same : (a b : Bool) → (a ≡ true → b ≡ true) → (a || b) ≡ b
or_same true b h = sym (h refl)
or_same false b h = refl

abbrev Few : List Cell → Type 0
Few [] = Unit {0}
Few (c ∷ cells) = (c.run ≤ 8) × Few cells

module _ (x : ℕ) where
  -- no cell of a lesser number
  none_has : (n k : ℕ) (cells : List Cell) → k < n → Ordered n cells → has_run x cells k ≡ false
  none_has n k [] l o = refl
  none_has n k (c ∷ cells) l o =
      let a = o.0 in
      or_other (is_source x c.id && c.run == k) (has_run x cells k)
      (and_right (is_source x c.id) (c.run == k) (test_other c.run k (λ e. (let e2 = e in omega arith))))
      ∙ none_has c.run k cells (omega arith) o.1

  -- a cell of another source, one of the run that is there, and one of a new run
  count_other : (c : Cell) (cells : List Cell) → is_source x c.id ≡ false → run_count x (c ∷ cells) ≡ run_count x cells
  count_other c cells e =
      count_same (has_run x (c ∷ cells)) (has_run x cells) 0 9
      (λ k l. or_other (is_source x c.id && c.run == k) (has_run x cells k) (and_left (is_source x c.id) (c.run == k) e))

  count_old : (c d : Cell) (cells : List Cell) → is_source x d.id ≡ true → d.run ≡ c.run →
      run_count x (c ∷ (d ∷ cells)) ≡ run_count x (d ∷ cells)
  count_old c d cells e r =
      count_same (has_run x (c ∷ (d ∷ cells))) (has_run x (d ∷ cells)) 0 9
      (λ k l. or_same (is_source x c.id && c.run == k) (has_run x (d ∷ cells) k)
      (λ h. there k (and_parts (is_source x c.id) (c.run == k) h).1)) where
        there : (k : ℕ) → (c.run == k) ≡ true → has_run x (d ∷ cells) k ≡ true
        there k h =
            ap (λ (b : Bool). (b && d.run == k) || has_run x cells k) e
            ∙ ap (λ (b : Bool). b || has_run x cells k) (ap (λ (n : ℕ). n == k) r ∙ h)

  count_new : (c : Cell) (cells : List Cell) → is_source x c.id ≡ true → c.run ≤ 8 → has_run x cells c.run ≡ false →
      run_count x (c ∷ cells) ≡ run_count x cells + 1
  count_new c cells e l n =
      count_more (has_run x (c ∷ cells)) (has_run x cells) c.run 0 9 (omega arith) (omega arith)
      (λ k m. or_other (is_source x c.id && c.run == k) (has_run x cells k)
      (and_right (is_source x c.id) (c.run == k) (test_other c.run k (λ q. m (sym q)))))
      (ap (λ (b : Bool). (b && c.run == c.run) || has_run x cells c.run) e
      ∙ ap (λ (b : Bool). b || has_run x cells c.run) (test_same c.run c.run refl)) n

  joins : (c d : Cell) (r : List Cell) (rs : List (List Cell)) → runs_with x (joined c ((d ∷ r) ∷ rs)) ≡
      cond (d.run == c.run) (cond (is_source x c.id) 1 0 + runs_with x rs)
      (cond (is_source x c.id) 1 0 + (cond (is_source x d.id) 1 0 + runs_with x rs))
  joins c d r rs = by (d.run == c.run) where
    by : (t : Bool) → runs_with x (cond t ((c ∷ (d ∷ r)) ∷ rs) ((c ∷ []) ∷ ((d ∷ r) ∷ rs))) ≡
        cond t (cond (is_source x c.id) 1 0 + runs_with x rs)
        (cond (is_source x c.id) 1 0 + (cond (is_source x d.id) 1 0 + runs_with x rs))
    by true = refl
    by false = refl

  one_cell : (c : Cell) → c.run ≤ 8 → (b : Bool) → is_source x c.id ≡ b → cond b 1 0 + 0 ≡ run_count x (c ∷ [])
  one_cell c l true e = sym (count_new c [] e l refl ∙ (let z : run_count x [] ≡ 0 = refl in ap (λ (n : ℕ). n + 1) z))
  one_cell c l false e = sym (count_other c [] e)

  more_cells : (c d : Cell) (cells : List Cell) (rs : List (List Cell)) (b : Bool) → is_source x c.id ≡ b →
      c.run ≤ 8 → c.run ≤ d.run → Ordered d.run cells → (c.run ≡ d.run → c.id ≡ d.id) →
      cond (is_source x d.id) 1 0 + runs_with x rs ≡ run_count x (d ∷ cells) →
      cond (d.run == c.run) (cond b 1 0 + runs_with x rs) (cond b 1 0 + (cond (is_source x d.id) 1 0 + runs_with x rs))
      ≡ run_count x (c ∷ (d ∷ cells))
  more_cells c d cells rs b e few l o same n = elim (same_or_not d.run c.run) [
    | inl r ↦
        (let own : is_source x d.id ≡ b = ap (is_source x) (sym (same (sym r))) ∙ e in
        ap (λ (t : Bool). cond t (cond b 1 0 + runs_with x rs) (cond b 1 0 + (cond (is_source x d.id) 1 0 + runs_with x rs)))
        (test_same d.run c.run r)
        ∙ ap (λ (t : Bool). cond t 1 0 + runs_with x rs) (sym own) ∙ n ∙ sym (joined_count b e own r))
    | inr m ↦
        ap (λ (t : Bool). cond t (cond b 1 0 + runs_with x rs) (cond b 1 0 + (cond (is_source x d.id) 1 0 + runs_with x rs)))
        (test_other d.run c.run m)
        ∙ ap (λ (k : ℕ). cond b 1 0 + k) n ∙ sym (new_count b e m)
  ] where
    joined_count : (b : Bool) → is_source x c.id ≡ b → is_source x d.id ≡ b → d.run ≡ c.run →
        run_count x (c ∷ (d ∷ cells)) ≡ run_count x (d ∷ cells)
    joined_count true p q r = count_old c d cells q r
    joined_count false p q r = count_other c (d ∷ cells) p

    new_count : (b : Bool) → is_source x c.id ≡ b → d.run ≢ c.run →
        run_count x (c ∷ (d ∷ cells)) ≡ cond b 1 0 + run_count x (d ∷ cells)
    new_count true p m =
        let k = count_new c (d ∷ cells) p few
        (none_has (c.run + 1) c.run (d ∷ cells) (let z : c.run < c.run + 1 = omega arith in z)
        ((let q = m in omega arith), o)) in omega arith
    new_count false p m = let k = count_other c (d ∷ cells) p in omega arith

  -- as many runs as numbers
  pub runs_counted : (n : ℕ) (cells : List Cell) → Ordered n cells → SameIds cells → Few cells →
      runs_with x (runs_of cells) ≡ run_count x cells
  runs_counted n [] o s f = refl
  runs_counted n (c ∷ []) o s f = one_cell c f.0 (is_source x c.id) refl
  runs_counted n (c ∷ (d ∷ cells)) o s f =
      let split = runs_split d cells in
      let r = take (more_of d cells) cells in
      let rs = runs_of (drop (more_of d cells) cells) in
      ap (λ (l : List (List Cell)). runs_with x (joined c l)) split ∙ joins c d r rs
      ∙ more_cells c d cells rs (is_source x c.id) refl f.0 o.1.0 o.1.1 s.0
      (ap (λ (l : List (List Cell)). runs_with x l) (sym split) ∙ runs_counted c.run (d ∷ cells) o.1 s.1 f.1)

-- What is given of a source that is not mapped, by its number.
abbrev one_or_none : Bool → ℕ → ℕ
one_or_none b n = cond b n 0

module _ (V : Type 0) (x : ℕ) where
  given_length : (run : List Cell) (runs : List (List Cell)) (n : ℕ) → length (raw_events {V = V} x run) ≡ n →
      length (raws {V = V} x (run ∷ runs)) ≡ one_or_none (is_source x (id_of run)) n + length (raws {V = V} x runs)
  given_length run runs n e =
      length-append (cond (is_source x (id_of run)) (raw_events {V = V} x run) []) (raws {V = V} x runs)
      ∙ ap (λ (k : ℕ). k + length (raws {V = V} x runs)) (by (is_source x (id_of run))) where
        by : (t : Bool) → length (cond t (raw_events {V = V} x run) []) ≡ one_or_none t n
        by true = e
        by false = refl

  -- the null source: nothing
  none_given : (runs : List (List Cell)) → x ≡ 0 → length (raws {V = V} x runs) ≡ 0
  none_given [] e = refl
  none_given (run ∷ runs) e =
      let k = given_length run runs 0 (ap length (null_is V x run e)) in
      let r = none_given runs e in
      k ∙ (by (is_source x (id_of run)) (length (raws {V = V} x runs)) r) where
        by : (t : Bool) (n : ℕ) → n ≡ 0 → one_or_none t 0 + n ≡ 0
        by true n h = omega arith
        by false n h = omega arith

  -- the trigger source: each byte
  all_given : (runs : List (List Cell)) → x ≡ 125 → length (raws {V = V} x runs) ≡ length (list_of x runs)
  all_given [] e = refl
  all_given (run ∷ runs) e =
      given_length run runs (length run) (ap length (triggers_are V x run e) ∙ map_length (trigger_of V) run)
      ∙ ap (λ (k : ℕ). one_or_none (is_source x (id_of run)) (length run) + k) (all_given runs e)
      ∙ sym (length-append (cond (is_source x (id_of run)) (placed_run run) []) (list_of x runs)
      ∙ ap (λ (k : ℕ). k + length (list_of x runs)) (by (is_source x (id_of run)))) where
        by : (t : Bool) → length (cond t (placed_run run) []) ≡ one_or_none t (length run)
        by true = map_length (λ (c : Cell). byte_at c.at c.byte) run
        by false = refl

  -- any other: each run
  runs_given : (runs : List (List Cell)) → x ≢ 0 → x ≢ 125 → length (raws {V = V} x runs) ≡ runs_with x runs
  runs_given [] n m = refl
  runs_given (run ∷ runs) n m =
      given_length run runs 1 (ap length (raw_is V x run n m))
      ∙ ap (λ (k : ℕ). one_or_none (is_source x (id_of run)) 1 + k) (runs_given runs n m)

-- the items of a source in a frame, and in all
few_runs : (cells : List Cell) → All (λ (c : Cell). c.run ≤ 8) cells → Few cells
few_runs [] h = tt
few_runs (c ∷ cells) h = (h zero c (let k : zero < length (c ∷ cells) = omega arith in k), few_runs cells (λ k d l. h (suc k) d (let m = l in omega arith)))

frame_given : (V : Type 0) (x : ℕ) (cells : List Cell) → HasRuns cells →
    length (raws {V = V} x (runs_of cells)) ≡ frame_items x cells
frame_given V x cells h = elim (same_or_not x 0) [
  | inl e ↦
      none_given V x (runs_of cells) e
      ∙ sym (ap (λ (t : Bool). cond t 0 (cond (x == 125) (length (source_list x cells)) (run_count x cells))) (test_same x 0 e))
  | inr n ↦ elim (same_or_not x 125) [
    | inl e ↦
        all_given V x (runs_of cells) e
        ∙ ap length (list_is x cells (same_ids cells h.one_id))
        ∙ map_length (λ (c : Cell). byte_at c.at c.byte) (source_list x cells)
        ∙ sym (ap (λ (t : Bool). cond t 0 (cond (x == 125) (length (source_list x cells)) (run_count x cells))) (test_other x 0 n)
        ∙ ap (λ (t : Bool). cond t (length (source_list x cells)) (run_count x cells)) (test_same x 125 e))
    | inr m ↦
        runs_given V x (runs_of cells) n m
        ∙ runs_counted x 0 cells (ordered cells h) (same_ids cells h.one_id) (few_runs cells h.few)
        ∙ sym (ap (λ (t : Bool). cond t 0 (cond (x == 125) (length (source_list x cells)) (run_count x cells))) (test_other x 0 n)
        ∙ ap (λ (t : Bool). cond t (length (source_list x cells)) (run_count x cells)) (test_other x 125 m))
  ]
]

pub frames_given : (V : Type 0) (x : ℕ) (frames : List (List Cell)) → HaveRuns frames →
    length (raws {V = V} x (all_runs frames)) ≡ items_of x frames
frames_given V x [] h = refl
frames_given V x (f ∷ frames) h =
    ap length (flat_map-append (λ (run : List Cell). cond (is_source x (id_of run)) (raw_events {V = V} x run) []) (runs_of f) (all_runs frames))
    ∙ length-append (raws {V = V} x (runs_of f)) (raws {V = V} x (all_runs frames))
    ∙ ap (λ (n : ℕ). n + length (raws {V = V} x (all_runs frames))) (frame_given V x f h.0)
    ∙ ap (λ (n : ℕ). frame_items x f + n) (frames_given V x frames h.1)
    ∙ sym (sum_by-cons (frame_items x) f frames)
