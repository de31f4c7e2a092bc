-- How the counts of a frame grow by a cell.
use Rattle.std.proofs.Common.{◌≡◌, ◌≢◌, ℕ, zero, suc, ◌+◌, ◌<◌, ◌≤◌, ◌⊎◌, inl, inr, List, [], ◌∷◌, ◌++◌, length, arith, Bool, true, false, cond, get_or, refl, sym, ◌∙◌, ap, subst, Option, None, Some}
use Rattle.std.specs.Prelude.{◌==◌, ◌&&◌, ◌||◌, not, is_none}
use Rattle.std.specs.List.{All, Contains, count_by, range_with_len}
use Rattle.std.proofs.lemmas.Bool.Decides.{nat_tests}
use Rattle.std.proofs.lemmas.List.{length-append, get_or_at}
use Rattle.std.proofs.lemmas.List.Elements.{All-nil, All-same, All-weaker, All-contains, Contains-push, Contains-append_left, filter-append}
use Rattle.std.proofs.lemmas.List.Sums.{sum_by-cons, sum_by_push}
use Rattle.std.proofs.lemmas.List.Folds.{list_any-append, list_any_none, list_any_at}
use Rattle.std.proofs.lemmas.Bool.{or_right, and_left, and_from, and_right, and_parts, ne_eqb}
use Rattle.trace_values.specs.declared.cell.Cell.{Cell}
use Rattle.frame_grammar.specs.Reading.{is_source, source_list}
use Rattle.frame_grammar.specs.Runs.{HasRuns}
use Rattle.source_counts.specs.Counts.{has_run, runs_of, frame_items, null_source, trigger_source}
use Rattle.source_counts.specs.Adding.{byte_by, item_by}

count_step : (p : ℕ → Bool) (a n : ℕ) → count_by p (range_with_len a (suc n)) ≡ cond (p a) 1 0 + count_by p (range_with_len (a + 1) n)
count_step p a n = sum_by-cons (λ (r : ℕ). cond (p r) 1 0) a (range_with_len (a + 1) n)

-- two tests that agree count the same
pub count_same : (p q : ℕ → Bool) (a n : ℕ) → ((r : ℕ) → a ≤ r → p r ≡ q r) → count_by p (range_with_len a n) ≡ count_by q (range_with_len a n)
count_same p q a zero h = refl
count_same p q a (suc n) h =
    count_step p a n
    ∙ ap (λ (b : Bool). cond b 1 0 + count_by p (range_with_len (a + 1) n)) (h a (omega arith))
    ∙ ap (λ (m : ℕ). cond (q a) 1 0 + m) (count_same p q (a + 1) n (λ r l. h r (omega arith)))
    ∙ sym (count_step q a n)

one_choice : (a b : Bool) (x y : ℕ) → a ≡ b → cond a x y ≡ cond b x y
one_choice a b x y e = ap (λ (s : Bool). cond s x y) e

here_or_on : (a k : ℕ) → a ≤ k → (k ≡ a) ⊎ (a + 1 ≤ k)
here_or_on a k h = grind arith

-- one that agrees but for one number more counts one more
pub count_more : (p q : ℕ → Bool) (k a n : ℕ) → a ≤ k → k < a + n → ((r : ℕ) → r ≢ k → p r ≡ q r) → p k ≡ true → q k ≡ false →
    count_by p (range_with_len a n) ≡ count_by q (range_with_len a n) + 1
count_more p q k a zero l m h t f = absurd (omega arith)
count_more p q k a (suc n) l m h t f = elim (here_or_on a k l) [
  | inl e ↦ (
      let s : count_by p (range_with_len (a + 1) n) ≡ count_by q (range_with_len (a + 1) n) = count_same p q (a + 1) n (λ r g. h r (λ x. (let y : r ≡ k = x in omega arith))) in
      let x : count_by p (range_with_len a (suc n)) ≡ 1 + count_by p (range_with_len (a + 1) n) = count_step p a n ∙ ap (λ (b : Bool). cond b 1 0 + count_by p (range_with_len (a + 1) n)) (ap p (sym e) ∙ t) in
      let y : count_by q (range_with_len a (suc n)) ≡ 0 + count_by q (range_with_len (a + 1) n) = count_step q a n ∙ ap (λ (b : Bool). cond b 1 0 + count_by q (range_with_len (a + 1) n)) (ap q (sym e) ∙ f) in
      omega arith
      )
  | inr g ↦ (
      let s : count_by p (range_with_len (a + 1) n) ≡ count_by q (range_with_len (a + 1) n) + 1 = count_more p q k (a + 1) n g (omega arith) h t f in
      let x : count_by p (range_with_len a (suc n)) ≡ cond (p a) 1 0 + count_by p (range_with_len (a + 1) n) = count_step p a n in
      let y : count_by q (range_with_len a (suc n)) ≡ cond (q a) 1 0 + count_by q (range_with_len (a + 1) n) = count_step q a n in
      let z = one_choice (p a) (q a) 1 0 (h a (λ e. (let d : a ≡ k = e in omega arith))) in
      omega arith
      )
]

or_false : (b : Bool) → (b || false) ≡ b
or_false true = refl
or_false false = refl

or_other : (a b : Bool) → b ≡ false → (a || b) ≡ a
or_other a b h = ap (λ (x : Bool). a || x) h ∙ or_false a

or_there : (a b : Bool) → (b ≡ true → a ≡ true) → (a || b) ≡ a
or_there true b h = refl
or_there false true h = sym (h refl)
or_there false false h = refl

itself : (a : ℕ) → (a == a) ≡ true
itself a = grind (arith, nat_tests)

is_not : (a b : ℕ) → not (a == b) ≡ true → a ≢ b
is_not a b h e = grind (arith, nat_tests)

is_number : (a b : ℕ) → not (a == b) ≡ false → a ≡ b
is_number a b h = grind (arith, nat_tests)

module _ (id : ℕ) (cs : List Cell) (c : Cell) where
  is_run : ℕ → Cell → Bool
  is_run r x = is_source id x.id && x.run == r

  run_push : (r : ℕ) → has_run id (cs ++ c ∷ []) r ≡ (has_run id cs r || is_run r c)
  unfolding is_run
  run_push r = list_any-append (is_run r) cs (c ∷ []) ∙ ap (λ (b : Bool). has_run id cs r || b) (or_false (is_run r c))

  same_runs : ((r : ℕ) → is_run r c ≡ true → has_run id cs r ≡ true) → runs_of id (cs ++ c ∷ []) ≡ runs_of id cs
  same_runs h = count_same (has_run id (cs ++ c ∷ [])) (has_run id cs) 0 9 (λ r l. run_push r ∙ or_there (has_run id cs r) (is_run r c) (h r))

  -- a cell of another source
  no_run : is_source id c.id ≡ false → runs_of id (cs ++ c ∷ []) ≡ runs_of id cs
  unfolding is_run
  no_run h = same_runs (λ r e. (let f = and_left (is_source id c.id) (c.run == r) h in cc))

  -- a cell after one of its run
  old_run : is_source id c.id ≡ true → (d : Cell) → Contains cs d → d.id ≡ c.id → d.run ≡ c.run → runs_of id (cs ++ c ∷ []) ≡ runs_of id cs
  unfolding is_run
  old_run s d w i e = same_runs (λ r h.
      list_any_at (is_run r) cs w.0 d w.1
      (subst (λ (x : Cell). is_run r x ≡ true) (sym w.2)
      (and_from (is_source id d.id) (d.run == r) (ap (is_source id) i ∙ s) (ap (λ (n : ℕ). n == r) e ∙ (and_parts (is_source id c.id) (c.run == r) h).1))))

  -- a cell after those of lower runs
  new_run : is_source id c.id ≡ true → c.run ≤ 8 → All (λ x. x.run < c.run) cs → runs_of id (cs ++ c ∷ []) ≡ runs_of id cs + 1
  unfolding is_run
  new_run s l h =
      count_more (has_run id (cs ++ c ∷ [])) (has_run id cs) c.run 0 9 (omega arith) (omega arith)
      (λ r n. run_push r ∙ or_other (has_run id cs r) (is_run r c) (and_right (is_source id c.id) (c.run == r) (ne_eqb c.run r (λ e. n (sym e)))))
      (run_push c.run ∙ or_right (has_run id cs c.run) (is_run c.run c) (and_from (is_source id c.id) (c.run == c.run) s (itself c.run)))
      (list_any_none (is_run c.run) cs (All-weaker (λ x. x.run < c.run) (λ x. is_run c.run x ≡ false)
      (λ x k. and_right (is_source id x.id) (x.run == c.run) (ne_eqb x.run c.run (λ e. (let g : x.run ≡ c.run = e in omega arith)))) cs h))

-- a cell of this run begins a run after a cell of that run, or after none
abbrev pub begins : Option ℕ → ℕ → Bool
begins None run = true
begins (Some before) run = not (before == run)

-- the cell before the next: its run is the greatest
pub record IsLast (run : ℕ) (cs : List Cell) : Type 0 where
  pub cell : Cell
  pub within : Contains cs cell
  pub run_is : cell.run ≡ run
  pub most : All (λ c. c.run ≤ run) cs

-- the run of the cell before the next, if there is one
abbrev pub IsBehind : Option ℕ → List Cell → Type 0
IsBehind None cs = cs ≡ []
IsBehind (Some run) cs = IsLast run cs

runs_up : (cs : List Cell) (c : Cell) → HasRuns (cs ++ c ∷ []) → All (λ x. x.run ≤ c.run) (cs ++ c ∷ [])
runs_up cs c h = λ k d l.
    (let e : (get_or (cs ++ c ∷ []) k d).run ≤ (get_or (cs ++ c ∷ []) (length cs) d).run = h.in_order k (length cs) d (omega (arith, length-append cs (c ∷ []))) (omega (arith, length-append cs (c ∷ []))) in
    subst (λ (x : Cell). (get_or (cs ++ c ∷ []) k d).run ≤ x.run) (get_or_at cs c [] d (length cs) refl) e)

-- after one more cell
pub behind_cell : (cs : List Cell) (c : Cell) → HasRuns (cs ++ c ∷ []) → IsBehind (Some c.run) (cs ++ c ∷ [])
behind_cell cs c h = record { cell = c; within = Contains-push cs c; run_is = refl; most = runs_up cs c h }

low : (cs : List Cell) (c : Cell) → HasRuns (cs ++ c ∷ []) → c.run ≤ 8
low cs c h = All-contains (λ x. x.run ≤ 8) (cs ++ c ∷ []) c h.few (Contains-push cs c)

runs_by : (id : ℕ) (cs : List Cell) (c : Cell) (before : Option ℕ) (s w : Bool) → is_source id c.id ≡ s → begins before c.run ≡ w → HasRuns (cs ++ c ∷ []) → IsBehind before cs →
    runs_of id (cs ++ c ∷ []) ≡ runs_of id cs + cond (s && w) 1 0
runs_by id cs c before false w i b h k = let e = no_run id cs c i in omega arith
runs_by id cs c None true true i b h k = new_run id cs c i (low cs c h) (All-same (λ x. x.run < c.run) cs [] k (All-nil (λ x. x.run < c.run)))
runs_by id cs c None true false i b h k = absurd (cc)
runs_by id cs c (Some run) true true i b h k =
    let u : k.cell.run ≤ c.run = All-contains (λ x. x.run ≤ c.run) (cs ++ c ∷ []) k.cell (runs_up cs c h) (Contains-append_left cs (c ∷ []) k.cell k.within) in
    let n : run ≢ c.run = is_not run c.run b in
    let r : k.cell.run ≡ run = k.run_is in
    new_run id cs c i (low cs c h) (All-weaker (λ x. x.run ≤ run) (λ x. x.run < c.run) (λ x l. omega arith) cs k.most)
runs_by id cs c (Some run) true false i b h k =
    let e : run ≡ c.run = is_number run c.run b in
    let same = k.run_is ∙ e in
    let r = old_run id cs c i k.cell k.within (h.one_id k.cell c (Contains-append_left cs (c ∷ []) k.cell k.within) (Contains-push cs c) same) same in
    omega arith

items_by : (n t s w : Bool) (a b l m : ℕ) → b ≡ a + cond s 1 0 → m ≡ l + cond (s && w) 1 0 →
    cond n 0 (cond t b m) ≡ cond n 0 (cond t a l) + cond (s && (not n && cond t true w)) 1 0
items_by true t true w a b l m e f = refl
items_by true t false w a b l m e f = refl
items_by false true true w a b l m e f = e
items_by false true false w a b l m e f = e
items_by false false s w a b l m e f = f

one_byte : (b : Bool) (c : Cell) → length (cond b (c ∷ []) []) ≡ cond b 1 0
one_byte true c = refl
one_byte false c = refl

-- what a cell adds to the bytes of a source in its frame
pub bytes_push : (id : ℕ) (cs : List Cell) (c : Cell) → length (source_list id (cs ++ c ∷ [])) ≡ length (source_list id cs) + byte_by id c.id
bytes_push id cs c = ap length (filter-append (λ x. is_source id x.id) cs (c ∷ [])) ∙ length-append (source_list id cs) (source_list id (c ∷ [])) ∙ ap (λ (n : ℕ). length (source_list id cs) + n) (one_byte (is_source id c.id) c)

-- and to its items
pub items_push : (id : ℕ) (cs : List Cell) (c : Cell) (before : Option ℕ) → HasRuns (cs ++ c ∷ []) → IsBehind before cs →
    frame_items id (cs ++ c ∷ []) ≡ frame_items id cs + item_by id c.id (begins before c.run)
items_push id cs c before h k =
    items_by (id == null_source) (id == trigger_source) (is_source id c.id) (begins before c.run) (length (source_list id cs)) (length (source_list id (cs ++ c ∷ []))) (runs_of id cs) (runs_of id (cs ++ c ∷ []))
    (bytes_push id cs c) (runs_by id cs c before (is_source id c.id) (begins before c.run) refl refl h k)

-- and to the unattributed cells
pub unattributed_push : (cs : List Cell) (c : Cell) → count_by (λ x. is_none x.id) (cs ++ c ∷ []) ≡ count_by (λ x. is_none x.id) cs + cond (is_none c.id) 1 0
unattributed_push cs c = sum_by_push (λ x. cond (is_none x.id) 1 0) cs c
