-- Laws of a frame's cells.
use Rattle.std.proofs.Common.{◌≡◌, ℕ, zero, suc, ◌+◌, ◌-◌, ◌*◌, ◌/◌, ◌%◌, ◌<◌, ◌≤◌, List, [], ◌∷◌, ◌++◌, refl, sym, ◌∙◌, ap, arith, Bool, true, false, cond, Option, length, map, get_or, ◌⊎◌, inl, inr, subst, append_assoc, append-nil}
use Rattle.std.specs.Prelude.{nat_lt, ◌==◌, ◌&&◌, ◌||◌, not, slice_index}
use Rattle.std.specs.List.{All, Contains, filter, count_by, range_with_len}
use Rattle.std.specs.List.Sorted.{IsNonDecreasingBy}
use Rattle.std.proofs.lemmas.Bool.Decides.{nat_tests}
use Rattle.std.proofs.lemmas.List.{map-append, length-append}
use Rattle.std.proofs.lemmas.List.Elements.{All-nil, All-cons, All-append, All-contains, All-get_or, All-weaker, filter-append}
use Rattle.std.proofs.lemmas.List.Sums.{sum_by_push}
use Rattle.std.proofs.lemmas.List.Sorted.{IsNonDecreasingBy-push, IsNonDecreasingBy-short}
use Rattle.frame_grammar.specs.Names.{Cell, source_id}
use Rattle.frame_grammar.specs.Frame.{names, aux_bit, in_effect, id_below, id_at, run_below, run_at, even_data, cell, even_cells, cells_below, cells, data_indexes, data_at}
use Rattle.frame_grammar.proofs.Cells.{odd_cells}

-- what is in effect at an index is in effect after it
lasts_by : (name : Bool) (j i k a : ℕ) → i ≤ k → (name && nat_lt j i && (a == 0 || nat_lt (j + 1) i)) ≡ true → (name && nat_lt j k && (a == 0 || nat_lt (j + 1) k)) ≡ true
lasts_by true j i k a h e = grind (arith, nat_tests)
lasts_by false j i k a h e = e

one_more : (b : Bool) (x n : ℕ) → x ≤ n → cond b (x + 1) x ≤ suc n
one_more true x n h = omega arith
one_more false x n h = omega arith

more_runs : (s t : Bool) (x y : ℕ) → (s ≡ true → t ≡ true) → x ≤ y → cond s (x + 1) x ≤ cond t (y + 1) y
more_runs true true x y h l = omega arith
more_runs true false x y h l = absurd (let k = h refl in cc)
more_runs false true x y h l = omega arith
more_runs false false x y h l = l

same_ids : (s t : Bool) (x y : ℕ) (a b c : Option ℕ) → (s ≡ true → t ≡ true) → x ≤ y → (x ≡ y → a ≡ b) → cond s (x + 1) x ≡ cond t (y + 1) y → cond s c a ≡ cond t c b
same_ids true true x y a b c h l f e = refl
same_ids true false x y a b c h l f e = absurd (let k = h refl in cc)
same_ids false true x y a b c h l f e = absurd (let k : x ≡ y + 1 = e in omega arith)
same_ids false false x y a b c h l f e = f e

none_named : (s : Bool) (x : ℕ) (a b c : Option ℕ) → (x ≡ 0 → a ≡ b) → cond s (x + 1) x ≡ 0 → cond s c a ≡ b
none_named true x a b c f e = absurd (let k : x + 1 ≡ 0 = e in omega arith)
none_named false x a b c f e = f e

-- a list of cells whose runs rise, up to m
record Rises (xs : List Cell) (m : ℕ) : Type 0 where
  in_order : IsNonDecreasingBy (λ c. c.run) xs
  below : All (λ c. c.run ≤ m) xs

all_up : (xs : List Cell) (m n : ℕ) → m ≤ n → All (λ c. c.run ≤ m) xs → All (λ c. c.run ≤ n) xs
all_up xs m n h a k d l = let e = a k d l in omega arith

one : (P : Cell → Type 0) (c : Cell) → P c → All P (c ∷ [])
one P c p = All-cons P c [] p (All-nil P)

rises_up : (xs : List Cell) (m n : ℕ) → m ≤ n → Rises xs m → Rises xs n
rises_up xs m n h r = record { in_order = r.in_order; below = all_up xs m n h r.below }

rises_push : (xs : List Cell) (m : ℕ) (c : Cell) → m ≤ c.run → Rises xs m → Rises (xs ++ c ∷ []) c.run
rises_push xs m c h r = record {
  in_order = IsNonDecreasingBy-push (λ c. c.run) xs c r.in_order
      (λ d k. (let e : (get_or xs (length xs - 1) d).run ≤ m = All-get_or (λ c. c.run ≤ m) xs (length xs - 1) d (omega arith) r.below in omega arith));
  below = All-append (λ x. x.run ≤ c.run) xs (c ∷ []) (all_up xs m c.run h r.below) (one (λ x. x.run ≤ c.run) c (omega arith));
}

-- one number more
pub range_push : (a n : ℕ) → range_with_len a (suc n) ≡ range_with_len a n ++ (a + n) ∷ []
range_push a zero = ap (λ (x : ℕ). x ∷ []) (let e : a ≡ a + 0 = omega arith in e)
range_push a (suc n) = ap (λ (l : List ℕ). a ∷ l) (range_push (a + 1) n ∙ ap (λ (x : ℕ). range_with_len (a + 1) n ++ x ∷ []) (let e : a + 1 + n ≡ a + suc n = omega arith in e))

range_pair : (n : ℕ) → range_with_len 0 (2 * suc n) ≡ range_with_len 0 (2 * n) ++ ((2 * n) ∷ ((2 * n + 1) ∷ []))
range_pair n =
    ap (range_with_len 0) (let e : 2 * suc n ≡ suc (suc (2 * n)) = omega arith in e)
    ∙ range_push 0 (suc (2 * n)) ∙ ap (λ (l : List ℕ). l ++ (0 + suc (2 * n)) ∷ []) (range_push 0 (2 * n))
    ∙ append_assoc (range_with_len 0 (2 * n)) _ _
    ∙ ap (λ (x : ℕ). range_with_len 0 (2 * n) ++ (x ∷ ((0 + suc (2 * n)) ∷ []))) (let e : 0 + 2 * n ≡ 2 * n = omega arith in e)
    ∙ ap (λ (x : ℕ). range_with_len 0 (2 * n) ++ ((2 * n) ∷ (x ∷ []))) (let e : 0 + suc (2 * n) ≡ 2 * n + 1 = omega arith in e)

pub at_end : (k n : ℕ) → k < suc n → (k ≡ n) ⊎ (k < n)
at_end k n h = grind arith

module _ (frame : List ℕ) where
  -- the last that is in effect names the ID
  named_below : (id : Option ℕ) (i k n : ℕ) → k < n → in_effect frame i k ≡ true → ((m : ℕ) → k < m → m < n → in_effect frame i m ≡ false) →
      id_below frame id i n ≡ source_id (slice_index frame (2 * k) / 2)
  named_below id i k zero l e h = absurd (omega arith)
  named_below id i k (suc n) l e h = elim (at_end k n l) [
    | inl m ↦ (
        let t : in_effect frame i n ≡ true = subst (λ (j : ℕ). in_effect frame i j ≡ true) m e in
        ap (λ (b : Bool). cond b (source_id (slice_index frame (2 * n) / 2)) (id_below frame id i n)) t ∙ ap (λ (j : ℕ). source_id (slice_index frame (2 * j) / 2)) (sym m)
        )
    | inr m ↦ (
        ap (λ (b : Bool). cond b (source_id (slice_index frame (2 * n) / 2)) (id_below frame id i n)) (h n m (omega arith))
        ∙ named_below id i k n m e (λ j p q. h j p (omega arith))
        )
  ]

  unnamed_below : (id : Option ℕ) (i n : ℕ) → ((m : ℕ) → m < n → in_effect frame i m ≡ false) → id_below frame id i n ≡ id
  unnamed_below id i zero h = refl
  unnamed_below id i (suc n) h =
      ap (λ (b : Bool). cond b (source_id (slice_index frame (2 * n) / 2)) (id_below frame id i n)) (h n (omega arith))
      ∙ unnamed_below id i n (λ j p. h j (omega arith))

  counted_one : (b : Bool) (n : ℕ) → cond b (n + 1) n ≡ n + cond b 1 0
  counted_one true n = omega arith
  counted_one false n = omega arith

  counted_below : (i n : ℕ) → run_below frame i n ≡ count_by (λ k. in_effect frame i k) (range_with_len 0 n)
  counted_below i zero = refl
  counted_below i (suc n) =
      counted_one (in_effect frame i n) (run_below frame i n)
      ∙ ap (λ (m : ℕ). m + cond (in_effect frame i n) 1 0) (counted_below i n)
      ∙ ap (λ (k : ℕ). count_by (λ k. in_effect frame i k) (range_with_len 0 n) + cond (in_effect frame i k) 1 0) (let e : n ≡ 0 + n = omega arith in e)
      ∙ sym (sum_by_push (λ (k : ℕ). cond (in_effect frame i k) 1 0) (range_with_len 0 n) (0 + n))
      ∙ ap (count_by (λ k. in_effect frame i k)) (sym (range_push 0 n))

  pub named_by_last : (id : Option ℕ) (i k : ℕ) → k < 8 → in_effect frame i k ≡ true → ((m : ℕ) → k < m → m < 8 → in_effect frame i m ≡ false) →
      id_at frame id i ≡ source_id (slice_index frame (2 * k) / 2)
  named_by_last id i k l e h = named_below id i k 8 l e h

  pub named_by_none : (id : Option ℕ) (i : ℕ) → ((m : ℕ) → m < 8 → in_effect frame i m ≡ false) → id_at frame id i ≡ id
  named_by_none id i h = unnamed_below id i 8 h

  pub run_counts : (i : ℕ) → run_at frame i ≡ count_by (λ k. in_effect frame i k) (range_with_len 0 8)
  run_counts i = counted_below i 8

  lasts : (i j k : ℕ) → i ≤ j → in_effect frame i k ≡ true → in_effect frame j k ≡ true
  lasts i j k h e = lasts_by (names frame k) (2 * k) i j (aux_bit frame k) h e

  run_rises : (i j n : ℕ) → i ≤ j → run_below frame i n ≤ run_below frame j n
  run_rises i j zero h = omega arith
  run_rises i j (suc n) h = more_runs (in_effect frame i n) (in_effect frame j n) (run_below frame i n) (run_below frame j n) (lasts i j n h) (run_rises i j n h)

  run_few : (i n : ℕ) → run_below frame i n ≤ n
  run_few i zero = omega arith
  run_few i (suc n) = one_more (in_effect frame i n) (run_below frame i n) n (run_few i n)

  one_id_below : (id : Option ℕ) (i j n : ℕ) → i ≤ j → run_below frame i n ≡ run_below frame j n → id_below frame id i n ≡ id_below frame id j n
  one_id_below id i j zero h e = refl
  one_id_below id i j (suc n) h e =
      same_ids (in_effect frame i n) (in_effect frame j n) (run_below frame i n) (run_below frame j n) (id_below frame id i n) (id_below frame id j n)
      (source_id (slice_index frame (2 * n) / 2)) (lasts i j n h) (run_rises i j n h) (one_id_below id i j n h) e

  none_below : (id : Option ℕ) (i n : ℕ) → run_below frame i n ≡ 0 → id_below frame id i n ≡ id
  none_below id i zero e = refl
  none_below id i (suc n) e =
      none_named (in_effect frame i n) (run_below frame i n) (id_below frame id i n) id (source_id (slice_index frame (2 * n) / 2)) (none_below id i n) e

  module _ (offsets : List ℕ) (id : Option ℕ) where
    -- what is in force at an index, in a cell
    record IsAt (c : Cell) : Type 0 where
      index : ℕ
      id_is : c.id ≡ id_at frame id index
      run_is : c.run ≡ run_at frame index

    even_at : (k : ℕ) (b : Bool) → All IsAt (cond b [] (cell frame offsets id (2 * k) (even_data frame k) ∷ []))
    even_at k true = All-nil IsAt
    even_at k false = one IsAt (cell frame offsets id (2 * k) (even_data frame k)) (record { index = 2 * k; id_is = refl; run_is = refl })

    all_at_below : (n : ℕ) → All IsAt (cells_below frame offsets id n)
    all_at_below zero = All-nil IsAt
    all_at_below (suc k) =
        All-append IsAt (cells_below frame offsets id k) _ (all_at_below k)
        (All-append IsAt (even_cells frame offsets id k) (odd_cells frame offsets id k) (even_at k (names frame k))
        (one IsAt (cell frame offsets id (2 * k + 1) (slice_index frame (2 * k + 1))) (record { index = 2 * k + 1; id_is = refl; run_is = refl })))

    all_at : All IsAt (cells frame offsets id)
    all_at = All-append IsAt (cells_below frame offsets id 7) (even_cells frame offsets id 7) (all_at_below 7) (even_at 7 (names frame 7))

    one_id_at : (i j : ℕ) → run_at frame i ≡ run_at frame j → (i ≤ j) ⊎ (j ≤ i) → id_at frame id i ≡ id_at frame id j
    one_id_at i j e (inl h) = one_id_below id i j 8 h e
    one_id_at i j e (inr h) = sym (one_id_below id j i 8 h (sym e))

    in_order : (i j : ℕ) → (i ≤ j) ⊎ (j ≤ i)
    in_order i j = grind arith

    pub one_id : (c d : Cell) → Contains (cells frame offsets id) c → Contains (cells frame offsets id) d → c.run ≡ d.run → c.id ≡ d.id
    one_id c d p q e =
        let x = All-contains IsAt (cells frame offsets id) c all_at p in
        let y = All-contains IsAt (cells frame offsets id) d all_at q in
        x.id_is ∙ one_id_at x.index y.index (sym x.run_is ∙ e ∙ y.run_is) (in_order x.index y.index) ∙ sym y.id_is

    -- of eight ID bytes at most eight are in effect
    pub few_runs : All (λ c. c.run ≤ 8) (cells frame offsets id)
    few_runs = All-weaker IsAt (λ c. c.run ≤ 8) (λ c x. let e = x.run_is in let h = run_few x.index 8 in omega arith) (cells frame offsets id) all_at

    pub id_before : (c : Cell) → Contains (cells frame offsets id) c → c.run ≡ 0 → c.id ≡ id
    id_before c p e =
        let x = All-contains IsAt (cells frame offsets id) c all_at p in
        x.id_is ∙ none_below id x.index 8 (sym x.run_is ∙ e)

    -- the runs rise
    rises_even : (k : ℕ) (b : Bool) (xs : List Cell) (m : ℕ) → m ≤ run_at frame (2 * k) → Rises xs m →
        Rises (xs ++ cond b [] (cell frame offsets id (2 * k) (even_data frame k) ∷ [])) (run_at frame (2 * k))
    rises_even k true xs m h r = subst (λ (l : List Cell). Rises l (run_at frame (2 * k))) (sym (append-nil xs)) (rises_up xs m (run_at frame (2 * k)) h r)
    rises_even k false xs m h r = rises_push xs m (cell frame offsets id (2 * k) (even_data frame k)) h r

    rises_below : (n : ℕ) → Rises (cells_below frame offsets id n) (run_at frame (2 * n))
    rises_below zero = record { in_order = IsNonDecreasingBy-short (λ c. c.run) [] (omega arith); below = All-nil (λ c. c.run ≤ run_at frame (2 * 0)) }
    rises_below (suc k) =
        let even = rises_even k (names frame k) (cells_below frame offsets id k) (run_at frame (2 * k)) (omega arith) (rises_below k) in
        let odd = rises_push (cells_below frame offsets id k ++ even_cells frame offsets id k) (run_at frame (2 * k)) (cell frame offsets id (2 * k + 1) (slice_index frame (2 * k + 1)))
        (run_rises (2 * k) (2 * k + 1) 8 (omega arith)) even in
        rises_up _ (run_at frame (2 * k + 1)) (run_at frame (2 * suc k)) (run_rises (2 * k + 1) (2 * suc k) 8 (omega arith))
        (subst (λ (l : List Cell). Rises l (run_at frame (2 * k + 1))) (append_assoc (cells_below frame offsets id k) (even_cells frame offsets id k) (odd_cells frame offsets id k)) odd)

    pub rising : IsNonDecreasingBy (λ c. c.run) (cells frame offsets id)
    rising = (rises_even 7 (names frame 7) (cells_below frame offsets id 7) (run_at frame 14) (omega arith) (rises_below 7)).in_order

    -- the offsets
    is_data : ℕ → Bool
    is_data i = not (i % 2 == 0 && slice_index frame i % 2 == 1)

    even_is : (k : ℕ) → is_data (2 * k) ≡ not (names frame k)
    unfolding is_data
    even_is k = ap (λ (n : ℕ). not (n == 0 && names frame k)) (let e : (2 * k) % 2 ≡ 0 = omega arith in e)

    odd_is : (k : ℕ) → is_data (2 * k + 1) ≡ true
    unfolding is_data
    odd_is k = ap (λ (n : ℕ). not (n == 0 && slice_index frame (2 * k + 1) % 2 == 1)) (let e : (2 * k + 1) % 2 ≡ 1 = omega arith in e)

    even_data_is : (k : ℕ) → data_at frame (2 * k) ≡ even_data frame k
    even_data_is k =
        ap (λ (n : ℕ). cond (n == 0) (even_data frame ((2 * k) / 2)) (slice_index frame (2 * k))) (let e : (2 * k) % 2 ≡ 0 = omega arith in e)
        ∙ ap (even_data frame) (let e : (2 * k) / 2 ≡ k = omega arith in e)

    odd_data_is : (k : ℕ) → data_at frame (2 * k + 1) ≡ slice_index frame (2 * k + 1)
    odd_data_is k = ap (λ (n : ℕ). cond (n == 0) (even_data frame ((2 * k + 1) / 2)) (slice_index frame (2 * k + 1))) (let e : (2 * k + 1) % 2 ≡ 1 = omega arith in e)

    cell_at : ℕ → Cell
    cell_at i = cell frame offsets id i (data_at frame i)

    even_cell : (k : ℕ) → cell frame offsets id (2 * k) (even_data frame k) ≡ cell_at (2 * k)
    unfolding cell_at
    even_cell k = ap (cell frame offsets id (2 * k)) (sym (even_data_is k))

    odd_cell : (k : ℕ) → cell frame offsets id (2 * k + 1) (slice_index frame (2 * k + 1)) ≡ cell_at (2 * k + 1)
    unfolding cell_at
    odd_cell k = ap (cell frame offsets id (2 * k + 1)) (sym (odd_data_is k))

    cells_at : List ℕ → List Cell
    cells_at l = map cell_at (filter is_data l)

    at_append : (xs ys : List ℕ) → cells_at (xs ++ ys) ≡ cells_at xs ++ cells_at ys
    unfolding cells_at
    at_append xs ys = ap (map cell_at) (filter-append is_data xs ys) ∙ map-append cell_at (filter is_data xs) (filter is_data ys)

    even_kept : (i : ℕ) (b : Bool) → cond b [] (cell_at i ∷ []) ≡ map cell_at (cond (not b) (i ∷ []) [])
    even_kept i true = refl
    even_kept i false = refl

    even_cells_are : (k : ℕ) → even_cells frame offsets id k ≡ cells_at ((2 * k) ∷ [])
    unfolding cells_at
    even_cells_are k =
        ap (λ (c : Cell). cond (names frame k) [] (c ∷ [])) (even_cell k) ∙ even_kept (2 * k) (names frame k)
        ∙ ap (λ (b : Bool). map cell_at (cond b ((2 * k) ∷ []) [])) (sym (even_is k))

    odd_cells_are : (k : ℕ) → odd_cells frame offsets id k ≡ cells_at ((2 * k + 1) ∷ [])
    unfolding cells_at
    odd_cells_are k = ap (λ (c : Cell). c ∷ []) (odd_cell k) ∙ ap (λ (b : Bool). map cell_at (cond b ((2 * k + 1) ∷ []) [])) (sym (odd_is k))

    pair_are : (k : ℕ) → even_cells frame offsets id k ++ odd_cells frame offsets id k ≡ cells_at ((2 * k) ∷ ((2 * k + 1) ∷ []))
    pair_are k =
        ap (λ (l : List Cell). l ++ odd_cells frame offsets id k) (even_cells_are k) ∙ ap (λ (l : List Cell). cells_at ((2 * k) ∷ []) ++ l) (odd_cells_are k)
        ∙ sym (at_append ((2 * k) ∷ []) ((2 * k + 1) ∷ []))

    below_are : (n : ℕ) → cells_below frame offsets id n ≡ cells_at (range_with_len 0 (2 * n))
    unfolding cells_at
    below_are zero = refl
    below_are (suc k) =
        ap (λ (l : List Cell). l ++ (even_cells frame offsets id k ++ odd_cells frame offsets id k)) (below_are k)
        ∙ ap (λ (l : List Cell). cells_at (range_with_len 0 (2 * k)) ++ l) (pair_are k)
        ∙ sym (at_append (range_with_len 0 (2 * k)) ((2 * k) ∷ ((2 * k + 1) ∷ [])))
        ∙ ap cells_at (sym (range_pair k))

    all_are : cells frame offsets id ≡ cells_at (range_with_len 0 14 ++ 14 ∷ [])
    all_are =
        ap (λ (l : List Cell). l ++ even_cells frame offsets id 7) (below_are 7)
        ∙ ap (λ (l : List Cell). cells_at (range_with_len 0 14) ++ l) (even_cells_are 7)
        ∙ sym (at_append (range_with_len 0 14) (14 ∷ []))

    pub cells_are : cells frame offsets id ≡ map (λ i. cell frame offsets id i (data_at frame i)) (data_indexes frame)
    unfolding is_data cells_at cell_at
    cells_are = all_are

    offsets_of_map : (l : List ℕ) → map (λ c. c.at) (map (λ i. cell frame offsets id i (data_at frame i)) l) ≡ map (λ i. slice_index offsets i) l
    offsets_of_map [] = refl
    offsets_of_map (i ∷ l) = ap (λ (m : List ℕ). slice_index offsets i ∷ m) (offsets_of_map l)

    pub offsets_are : map (λ c. c.at) (cells frame offsets id) ≡ map (λ i. slice_index offsets i) (data_indexes frame)
    offsets_are = ap (map (λ (c : Cell). c.at)) cells_are ∙ offsets_of_map (data_indexes frame)

    few_even : (k : ℕ) (b : Bool) → length (cond b [] (cell frame offsets id (2 * k) (even_data frame k) ∷ [])) ≤ 1
    few_even k true = omega arith
    few_even k false = omega arith

    few_below : (n : ℕ) → length (cells_below frame offsets id n) ≤ 2 * n
    few_below zero = omega arith
    few_below (suc k) =
        let e = few_even k (names frame k) in
        let h = few_below k in
        let m = length-append (cells_below frame offsets id k) (even_cells frame offsets id k ++ odd_cells frame offsets id k) in
        let n = length-append (even_cells frame offsets id k) (odd_cells frame offsets id k) in
        few (length (even_cells frame offsets id k)) (length (cells_below frame offsets id k)) _ _ k e h n m where
          few : (a b c d n : ℕ) → a ≤ 1 → b ≤ 2 * n → c ≡ a + 1 → d ≡ b + c → d ≤ 2 * suc n
          few a b c d n e h f g = omega arith

    pub few_cells : length (cells frame offsets id) ≤ 15
    few_cells =
        let e = few_even 7 (names frame 7) in
        let h = few_below 7 in
        let m = length-append (cells_below frame offsets id 7) (even_cells frame offsets id 7) in
        few (length (even_cells frame offsets id 7)) (length (cells_below frame offsets id 7)) _ e h m where
          few : (a b d : ℕ) → a ≤ 1 → b ≤ 14 → d ≡ b + a → d ≤ 15
          few a b d e h g = omega arith
