-- The first run of a frame's cells.
use Rattle.std.proofs.Common.{◌≡◌, ◌≢◌, ℕ, suc, zero, ◌+◌, ◌<◌, ◌≤◌, List, [], ◌∷◌, length, take, drop, get_or, refl, sym, ◌∙◌, ap, subst, arith, Bool, true, false, cond}
use Rattle.std.specs.Prelude.{◌==◌}
use Rattle.std.proofs.lemmas.List.{drop_more, drop_all}
use Rattle.trace_values.specs.declared.cell.Cell.{Cell}
use Rattle.source_events.specs.Runs.{joined, runs_of, RisesFrom, IsRunFrom, end_of, more_of, run_length}
use Rattle.source_events.specs.Merge.{InOrder}
use Rattle.source_events.proofs.Merges.{test_other}

-- no more of the run
pub none_more : (cells : List Cell) (n : ℕ) (c : Cell) → length cells ≤ n → more_of c (drop n cells) ≡ 0
none_more cells n c l = ap (more_of c) (drop_all n cells l)

pub other_next : (cells : List Cell) (n : ℕ) (c d : Cell) → n < length cells → (get_or cells n d).run ≢ c.run → more_of c (drop n cells) ≡ 0
other_next cells n c d l e = ap (more_of c) (drop_more cells n d l) ∙ ap (λ (t : Bool). cond t (suc (more_of (get_or cells n d) (drop (n + 1) cells))) 0) (test_other (get_or cells n d).run c.run e)

-- the runs of a frame are its first run, and the runs of the rest
pub runs_split : (c : Cell) (cells : List Cell) → runs_of (c ∷ cells) ≡ (c ∷ take (more_of c cells) cells) ∷ runs_of (drop (more_of c cells) cells)
runs_split c [] = refl
runs_split c (d ∷ cells) = ap (joined c) (runs_split d cells) ∙ by_test (d.run == c.run) (runs_split d cells) where
  by_test : (t : Bool) → runs_of (d ∷ cells) ≡ (d ∷ take (more_of d cells) cells) ∷ runs_of (drop (more_of d cells) cells) → cond t ((c ∷ (d ∷ take (more_of d cells) cells)) ∷ runs_of (drop (more_of d cells) cells)) ((c ∷ []) ∷ ((d ∷ take (more_of d cells) cells) ∷ runs_of (drop (more_of d cells) cells)))
      ≡ (c ∷ take (cond t (suc (more_of d cells)) 0) (d ∷ cells)) ∷ runs_of (drop (cond t (suc (more_of d cells)) 0) (d ∷ cells))
  by_test true e = refl
  by_test false e = ap (λ (l : List (List Cell)). (c ∷ []) ∷ l) (sym e)

pub runs_cut : (cells : List Cell) → 0 < length cells → runs_of cells ≡ take (run_length cells) cells ∷ runs_of (drop (run_length cells) cells)
runs_cut [] h = absurd (omega arith)
runs_cut (c ∷ cells) h = runs_split c cells

-- rising offsets
pub rises_take : (k : ℕ) (n : ℕ) (cells : List Cell) → RisesFrom n cells → RisesFrom n (take k cells)
rises_take zero n cells r = tt
rises_take (suc k) n [] r = tt
rises_take (suc k) n (c ∷ cells) r = (r.0, rises_take k (c.at + 1) cells r.1)

pub rises_weaker : (n k : ℕ) (cells : List Cell) → k ≤ n → RisesFrom n cells → RisesFrom k cells
rises_weaker n k [] l r = tt
rises_weaker n k (c ∷ cells) l r = ((let a = r.0 in omega arith), r.1)

-- behind a run
pub rises_behind : (k : ℕ) (n : ℕ) (c : Cell) (cells : List Cell) → RisesFrom n (c ∷ cells) → RisesFrom (end_of (c ∷ take k cells)) (drop k cells)
rises_behind zero n c cells r = r.1
rises_behind (suc k) n c [] r = tt
rises_behind (suc k) n c (d ∷ cells) r = rises_behind k (c.at + 1) d cells r.1

pub end_within : (n : ℕ) (run : List Cell) → IsRunFrom n run → n ≤ end_of run
end_within n [] r = absurd r
end_within n (c ∷ []) r = (let a = r.0 in omega arith)
end_within n (c ∷ (d ∷ run)) r = let a = r.0 in let b = end_within (c.at + 1) (d ∷ run) r.1 in omega arith

pub shorter : (k : ℕ) (xs : List Cell) → length (drop k xs) ≤ length xs
shorter zero xs = omega arith
shorter (suc k) [] = omega arith
shorter (suc k) (x ∷ xs) = (let a = shorter k xs in omega arith)

-- the runs of a frame are in order
pub runs_in_order : (size : ℕ) (n : ℕ) (cells : List Cell) → length cells ≤ size → RisesFrom n cells → InOrder IsRunFrom end_of n (runs_of cells)
runs_in_order size n [] l r = tt
runs_in_order zero n (c ∷ cells) l r = absurd (omega arith)
runs_in_order (suc size) n (c ∷ cells) l r =
    subst (λ (x : List (List Cell)). InOrder IsRunFrom end_of n x) (sym (runs_split c cells))
    ((r.0, rises_take (more_of c cells) (c.at + 1) cells r.1), runs_in_order size (end_of (c ∷ take (more_of c cells) cells)) (drop (more_of c cells) cells) (omega (arith, shorter (more_of c cells) cells)) (rises_behind (more_of c cells) n c cells r))
