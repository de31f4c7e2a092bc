-- The runs of a frame, one after the other, are its cells, and each is all the cells of its number.
use Rattle.std.specs.Prelude.{◌==◌}
use Rattle.std.proofs.Common.{◌≡◌, ◌≢◌, ℕ, zero, suc, ◌+◌, ◌<◌, ◌≤◌, List, [], ◌∷◌, ◌++◌, length, map, flat_map, refl}
use Rattle.std.proofs.Common.{sym, ◌∙◌, ap, subst, append_assoc, inl, inr, arith, Option, Some, Bool, true, false, cond}
use Rattle.std.specs.List.{filter, Contains}
use Rattle.std.specs.List.Sorted.{IsNonDecreasingBy}
use Rattle.std.proofs.lemmas.List.{map-append}
use Rattle.std.proofs.lemmas.List.Elements.{filter-append}
use Rattle.std.proofs.lemmas.Grind.{flat_map-append}
use Rattle.trace_values.specs.declared.cell.Cell.{Cell}
use Rattle.trace_values.specs.Placed.{Placed, byte_at}
use Rattle.frame_grammar.specs.Reading.{is_source, source_list}
use Rattle.frame_grammar.specs.Runs.{HasRuns}
use Rattle.frame_grammar.specs.SourceBytes.{source_units}
use Rattle.deformatter.specs.Runs.{HaveRuns}
use Rattle.source_events.specs.Runs.{joined, runs_of, all_runs, id_of, placed_run, list_of, AreWhole}
use Rattle.source_events.proofs.Merges.{test_same, test_other, same_or_not}

-- run numbers from one on, that never fall; and neighbours of one run have one ID
abbrev pub Ordered : ℕ → List Cell → Type 0
Ordered n [] = Unit {0}
Ordered n (c ∷ cells) = (n ≤ c.run) × Ordered c.run cells

abbrev pub SameIds : List Cell → Type 0
SameIds [] = Unit {0}
SameIds (c ∷ []) = Unit {0}
SameIds (c ∷ (d ∷ cells)) = (c.run ≡ d.run → c.id ≡ d.id) × SameIds (d ∷ cells)

first_of_two : (c d : Cell) (cells : List Cell) → IsNonDecreasingBy (λ (x : Cell). x.run) (c ∷ (d ∷ cells)) → c.run ≤ d.run
first_of_two c d cells h = h zero (suc zero) c (omega arith) (omega arith)

rest_of : (c : Cell) (cells : List Cell) → IsNonDecreasingBy (λ (x : Cell). x.run) (c ∷ cells) →
    IsNonDecreasingBy (λ (x : Cell). x.run) cells
rest_of c cells h = λ i j d l m. h (suc i) (suc j) d (omega arith) (omega arith)

ordered_rest : (c : Cell) (cells : List Cell) → IsNonDecreasingBy (λ (x : Cell). x.run) (c ∷ cells) → Ordered c.run cells
ordered_rest c [] h = tt
ordered_rest c (d ∷ cells) h = (first_of_two c d cells h, ordered_rest d cells (rest_of c (d ∷ cells) h))

pub ordered : (cells : List Cell) → HasRuns cells → Ordered 0 cells
ordered [] h = tt
ordered (c ∷ cells) h = ((let k : 0 ≤ c.run = omega arith in k), ordered_rest c cells h.in_order)

pub same_ids : (cells : List Cell) → ((c d : Cell) → Contains cells c → Contains cells d → c.run ≡ d.run → c.id ≡ d.id) →
    SameIds cells
same_ids [] h = tt
same_ids (c ∷ []) h = tt
same_ids (c ∷ (d ∷ cells)) h = (
  h c d (zero, (let k : zero < length (c ∷ (d ∷ cells)) = omega arith in k), refl)
      (suc zero, (let k : suc zero < length (c ∷ (d ∷ cells)) = omega arith in k), refl),
  same_ids (d ∷ cells) (λ x y i j. h x y (suc i.0, (let l = i.1 in omega arith), i.2) (suc j.0, (let l = j.1 in omega arith), j.2)),
)

-- one after the other they are the cells
joined_all : (c : Cell) (runs : List (List Cell)) →
    flat_map (λ (run : List Cell). run) (joined c runs) ≡ c ∷ flat_map (λ (run : List Cell). run) runs
joined_all c [] = refl
joined_all c ([] ∷ runs) = refl
joined_all c ((d ∷ run) ∷ runs) = by (d.run == c.run) where
  by : (t : Bool) →
      flat_map (λ (run : List Cell). run) (cond t ((c ∷ (d ∷ run)) ∷ runs) ((c ∷ []) ∷ ((d ∷ run) ∷ runs)))
      ≡ c ∷ flat_map (λ (run : List Cell). run) ((d ∷ run) ∷ runs)
  by true = refl
  by false = refl

pub all_cells : (cells : List Cell) → flat_map (λ (run : List Cell). run) (runs_of cells) ≡ cells
all_cells [] = refl
all_cells (c ∷ cells) = joined_all c (runs_of cells) ∙ ap (λ (l : List Cell). c ∷ l) (all_cells cells)

-- cells above a number have none of it
abbrev numbered : ℕ → List Cell → List Cell
numbered n cells = filter (λ (c : Cell). c.run == n) cells

none_numbered : (n k : ℕ) (cells : List Cell) → n < k → Ordered k cells → numbered n cells ≡ []
none_numbered n k [] l o = refl
none_numbered n k (c ∷ cells) l o =
    let a = o.0 in
    ap (λ (t : Bool). cond t (c ∷ numbered n cells) (numbered n cells)) (test_other c.run n (λ e. (let e2 = e in omega arith)))
    ∙ none_numbered n c.run cells (omega arith) o.1

numbered_other : (n : ℕ) (c : Cell) (cells : List Cell) → c.run ≢ n → numbered n (c ∷ cells) ≡ numbered n cells
numbered_other n c cells m = ap (λ (t : Bool). cond t (c ∷ numbered n cells) (numbered n cells)) (test_other c.run n m)

numbered_own : (n : ℕ) (c : Cell) (cells : List Cell) → c.run ≡ n → numbered n (c ∷ cells) ≡ c ∷ numbered n cells
numbered_own n c cells e = ap (λ (t : Bool). cond t (c ∷ numbered n cells) (numbered n cells)) (test_same c.run n e)

-- runs after a cell of a lesser number
whole_after : (c : Cell) (cells : List Cell) (runs : List (List Cell)) (n : ℕ) → c.run < n → AreWhole n cells runs →
    AreWhole n (c ∷ cells) runs
whole_after c cells [] n l w = tt
whole_after c cells ([] ∷ runs) n l w = w
whole_after c cells ((d ∷ run) ∷ runs) n l w =
    let a = w.0 in (
      w.0,
      w.1 ∙ sym (numbered_other d.run c cells (λ e. (let e2 = e in omega arith))),
      whole_after c cells runs (d.run + 1) (omega arith) w.2,
    )

-- the first cell of the first run is the first of all
ordered_above : (c d : Cell) (cells run rest : List Cell) → (d ∷ run) ++ rest ≡ cells → c.run < d.run → Ordered c.run cells →
    Ordered (c.run + 1) cells
ordered_above c d [] run rest e l o = tt
ordered_above c d (f ∷ cells) run rest e l o =
    let k : d.run ≡ f.run = (let q : d ≡ f = cc in ap (λ (x : Cell). x.run) q) in ((let z = k in omega arith), o.1)

whole_joined : (c : Cell) (n : ℕ) (cells : List Cell) (runs : List (List Cell)) → n ≤ c.run → Ordered c.run cells →
    flat_map (λ (run : List Cell). run) runs ≡ cells → AreWhole c.run cells runs → AreWhole n (c ∷ cells) (joined c runs)
whole_joined c n cells [] l o e w = (
  l,
  ap (λ (x : List Cell). c ∷ numbered c.run x) e ∙ sym (numbered_own c.run c cells refl),
  tt,
)
whole_joined c n cells ([] ∷ runs) l o e w = absurd w
whole_joined c n cells ((d ∷ run) ∷ runs) l o e w = elim (same_or_not d.run c.run) [
  | inl s ↦
      subst (λ (t : Bool). AreWhole n (c ∷ cells) (cond t ((c ∷ (d ∷ run)) ∷ runs) ((c ∷ []) ∷ ((d ∷ run) ∷ runs))))
      (sym (test_same d.run c.run s)) (
        l,
        ap (λ (x : List Cell). c ∷ x) (w.1 ∙ ap (λ (k : ℕ). numbered k cells) s) ∙ sym (numbered_own c.run c cells refl),
        whole_after c cells runs (c.run + 1) (let z : c.run < c.run + 1 = omega arith in z)
            (subst (λ (k : ℕ). AreWhole (k + 1) cells runs) s w.2),
      )
  | inr m ↦
      (let a = w.0 in
      let above : c.run < d.run = (let q = m in omega arith) in
      subst (λ (t : Bool). AreWhole n (c ∷ cells) (cond t ((c ∷ (d ∷ run)) ∷ runs) ((c ∷ []) ∷ ((d ∷ run) ∷ runs))))
      (sym (test_other d.run c.run m)) (
        l,
        sym (numbered_own c.run c cells refl
            ∙ ap (λ (x : List Cell). c ∷ x) (none_numbered c.run (c.run + 1) cells (let z : c.run < c.run + 1 = omega arith in z)
            (ordered_above c d cells run (flat_map (λ (r : List Cell). r) runs) e above o))),
        (
          (let z : c.run + 1 ≤ d.run = omega arith in z),
          w.1 ∙ sym (numbered_other d.run c cells (λ q. m (sym q))),
          whole_after c cells runs (d.run + 1) (let z : c.run < d.run + 1 = omega arith in z) w.2,
        ),
      ))
]

pub are_whole : (n : ℕ) (cells : List Cell) → Ordered n cells → AreWhole n cells (runs_of cells)
are_whole n [] o = tt
are_whole n (c ∷ cells) o =
    whole_joined c n cells (runs_of cells) o.0 o.1 (all_cells cells) (are_whole c.run cells o.1)

-- the bytes of a source in the runs are those of its cells
module _ (x : ℕ) where
  abbrev listed : List Cell → List Placed
  listed run = cond (is_source x (id_of run)) (placed_run run) []

  units_cons : (c : Cell) (cells : List Cell) →
      source_units x (c ∷ cells) ≡ cond (is_source x c.id) (byte_at c.at c.byte ∷ []) [] ++ source_units x cells
  units_cons c cells = by (is_source x c.id) where
    by : (t : Bool) →
        map (λ (d : Cell). byte_at d.at d.byte) (cond t (c ∷ source_list x cells) (source_list x cells))
        ≡ cond t (byte_at c.at c.byte ∷ []) [] ++ source_units x cells
    by true = refl
    by false = refl

  -- a run grows by a cell of its ID
  listed_cons : (c d : Cell) (run : List Cell) → c.id ≡ d.id →
      listed (c ∷ (d ∷ run)) ≡ cond (is_source x c.id) (byte_at c.at c.byte ∷ []) [] ++ listed (d ∷ run)
  listed_cons c d run e =
      by (is_source x c.id)
      ∙ ap (λ (o : Option ℕ). cond (is_source x c.id) (byte_at c.at c.byte ∷ []) [] ++ cond (is_source x o) (placed_run (d ∷ run)) []) e where
        by : (t : Bool) →
            cond t (placed_run (c ∷ (d ∷ run))) [] ≡ cond t (byte_at c.at c.byte ∷ []) [] ++ cond t (placed_run (d ∷ run)) []
        by true = refl
        by false = refl

  joined_listed : (c : Cell) (cells : List Cell) (runs : List (List Cell)) →
      flat_map (λ (run : List Cell). run) runs ≡ cells → SameIds (c ∷ cells) →
      list_of x (joined c runs) ≡ cond (is_source x c.id) (byte_at c.at c.byte ∷ []) [] ++ list_of x runs
  joined_listed c cells [] e s = refl
  joined_listed c cells ([] ∷ runs) e s = refl
  joined_listed c [] ((d ∷ run) ∷ runs) e s = cc
  joined_listed c (f ∷ cells) ((d ∷ run) ∷ runs) e s = elim (same_or_not d.run c.run) [
    | inl k ↦
        (let q : d ≡ f = cc in
        let own : c.id ≡ d.id = s.0 (sym k ∙ ap (λ (z : Cell). z.run) q) ∙ ap (λ (z : Cell). z.id) (sym q) in
        ap (λ (t : Bool). list_of x (cond t ((c ∷ (d ∷ run)) ∷ runs) ((c ∷ []) ∷ ((d ∷ run) ∷ runs)))) (test_same d.run c.run k)
        ∙ ap (λ (l : List Placed). l ++ list_of x runs) (listed_cons c d run own)
        ∙ append_assoc (cond (is_source x c.id) (byte_at c.at c.byte ∷ []) []) (listed (d ∷ run)) (list_of x runs))
    | inr m ↦
        ap (λ (t : Bool). list_of x (cond t ((c ∷ (d ∷ run)) ∷ runs) ((c ∷ []) ∷ ((d ∷ run) ∷ runs)))) (test_other d.run c.run m)
  ]

  pub list_is : (cells : List Cell) → SameIds cells → list_of x (runs_of cells) ≡ source_units x cells
  list_is [] s = refl
  list_is (c ∷ cells) s =
      joined_listed c cells (runs_of cells) (all_cells cells) s
      ∙ ap (λ (l : List Placed). cond (is_source x c.id) (byte_at c.at c.byte ∷ []) [] ++ l) (list_is cells (later c cells s))
      ∙ sym (units_cons c cells) where
        later : (c : Cell) (cells : List Cell) → SameIds (c ∷ cells) → SameIds cells
        later c [] s = tt
        later c (d ∷ cells) s = s.1

  list_append : (a b : List (List Cell)) → list_of x (a ++ b) ≡ list_of x a ++ list_of x b
  list_append a b = flat_map-append listed a b

  -- in all frames
  pub lists_are : (frames : List (List Cell)) → HaveRuns frames →
      list_of x (all_runs frames) ≡ source_units x (flat_map (λ (frame : List Cell). frame) frames)
  lists_are [] h = refl
  lists_are (f ∷ frames) h =
      let rest = flat_map (λ (frame : List Cell). frame) frames in
      list_append (runs_of f) (all_runs frames)
      ∙ ap (λ (l : List Placed). l ++ list_of x (all_runs frames)) (list_is f (same_ids f h.0.one_id))
      ∙ ap (λ (l : List Placed). source_units x f ++ l) (lists_are frames h.1)
      ∙ sym (ap (map (λ (c : Cell). byte_at c.at c.byte)) (filter-append (λ (c : Cell). is_source x c.id) f rest)
      ∙ map-append (λ (c : Cell). byte_at c.at c.byte) (source_list x f) (source_list x rest))
