-- The first run of some cells.
use Rattle.std.proofs.Common.{◌≡◌, ℕ, ◌+◌, ◌<◌, ◌≤◌, List, [], ◌∷◌, length, take, drop, sym, ◌∙◌, ap, subst, arith}
use Rattle.std.proofs.lemmas.List.{length-drop, length-take-le}
use Rattle.source_events.specs.Runs.{runs_of, run_length, RisesFrom, IsRunFrom, end_of, more_of}
use Rattle.trace_values.specs.declared.cell.Cell.{Cell}
use Rattle.source_events.proofs.Running.{runs_cut, rises_take, rises_behind}

-- the first run, and what is behind it
pub run_first : (cells : List Cell) (n : ℕ) → 0 < length cells → RisesFrom n cells → IsRunFrom n (take (run_length cells) cells) × RisesFrom (end_of (take (run_length cells) cells)) (drop (run_length cells) cells)
run_first [] n h r = absurd (omega arith)
run_first (c ∷ cells) n h r = ((r.0, rises_take (more_of c cells) (c.at + 1) cells r.1), rises_behind (more_of c cells) n c cells r)

-- the same, where the length of the first run is this number
pub cut_at : (cells : List Cell) (k : ℕ) → k ≡ run_length cells → 0 < length cells → runs_of cells ≡ take k cells ∷ runs_of (drop k cells)
cut_at cells k e h = runs_cut cells h ∙ ap (λ (n : ℕ). take n cells ∷ runs_of (drop n cells)) (sym e)

pub first_at : (cells : List Cell) (k n : ℕ) → k ≡ run_length cells → 0 < length cells → RisesFrom n cells → IsRunFrom n (take k cells) × RisesFrom (end_of (take k cells)) (drop k cells)
first_at cells k n e h r = subst (λ (j : ℕ). IsRunFrom n (take j cells) × RisesFrom (end_of (take j cells)) (drop j cells)) (sym e) (run_first cells n h r)

-- the first run of some cells, and those after it
pub record FirstRun (rest run more : List Cell) : Type 0 where
  pub cut : runs_of rest ≡ run ∷ runs_of more
  pub total : length rest ≡ length run + length more
  pub rises : (n : ℕ) → RisesFrom n rest → IsRunFrom n run × RisesFrom (end_of run) more

-- the first run, of so many cells
pub cut_first : (rest run : List Cell) (k : ℕ) → run ≡ take k rest → k ≡ run_length rest → 0 < k → k ≤ length rest → FirstRun rest run (drop k rest)
cut_first rest run k e is some within =
    let taken = length-take-le k rest within in
    let left = length-drop k rest in
    subst (λ (l : List Cell). FirstRun rest l (drop k rest)) (sym e) (record {
      cut = cut_at rest k is (omega arith);
      total = omega arith;
      rises = λ n r. first_at rest k n is (omega arith) r;
    })
