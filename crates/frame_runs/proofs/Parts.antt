-- The parts of a frame, each one run.
use Rattle.std.proofs.Common.{◌≡◌, ℕ, suc, ◌+◌, ◌-◌, ◌<◌, ◌≤◌, List, [], ◌∷◌, ◌++◌, length, take, drop, refl, sym, ◌∙◌, ap, subst, arith, Bool, cond, Option}
use Rattle.std.proofs.Math.Seq.{drop-append_seam}
use Rattle.std.proofs.lemmas.List.{length-drop, length-take-le, length-append}
use Rattle.frame_runs.specs.Data.{run_cells}
use Rattle.source_events.specs.Runs.{runs_of, run_length, more_of, RisesFrom, IsRunFrom, end_of}
use Rattle.trace_values.specs.declared.cell.Cell.{Cell}
use Rattle.frame_grammar.proofs.Pairs.{made}
use Rattle.source_events.proofs.Merges.{test_same, test_other}
use Rattle.frame_runs.proofs.DataCells.{cells_length}
use Rattle.frame_runs.proofs.FirstRuns.{FirstRun, cut_at, first_at}
use Rattle.frame_runs.specs.Split.{IsFirstRun}
use Rattle.frame_runs.proofs.Splitting.{Part, AreParts, cells_of_parts, part_cells}

-- the first of these cells, if there is one, has a later run
Later : ℕ → List Cell → Type 0
Later run [] = Unit {0}
Later run (c ∷ cells) = run < c.run

none_more : (c : Cell) (rest : List Cell) → Later c.run rest → more_of c rest ≡ 0
unfolding Later
none_more c [] l = refl
none_more c (d ∷ rest) l = ap (λ (t : Bool). cond t (suc (more_of d rest)) 0) (test_other d.run c.run (λ e. omega (arith, l, e)))

more_is : (c : Cell) (os : List ℕ) (id : Option ℕ) (run : ℕ) (bs : List ℕ) (rest : List Cell) → c.run ≡ run → length os ≡ length bs → Later run rest →
    more_of c (run_cells os id run bs ++ rest) ≡ length (run_cells os id run bs)
more_is c [] id run [] rest e h l = none_more c rest (subst (λ (n : ℕ). Later n rest) (sym e) l)
more_is c [] id run (b ∷ bs) rest e h l = absurd (omega arith)
more_is c (o ∷ os) id run [] rest e h l = absurd (omega arith)
more_is c (o ∷ os) id run (b ∷ bs) rest e h l =
    ap (λ (t : Bool). cond t (suc (more_of (made o id run b) (run_cells os id run bs ++ rest))) 0) (test_same run c.run (sym e))
    ∙ ap suc (more_is (made o id run b) os id run bs rest refl (omega arith) l)

one_run : (os : List ℕ) (id : Option ℕ) (run : ℕ) (bs : List ℕ) (rest : List Cell) → 0 < length bs → length os ≡ length bs → Later run rest →
    length (run_cells os id run bs) ≡ run_length (run_cells os id run bs ++ rest)
one_run os id run [] rest s h l = absurd (omega arith)
one_run [] id run (b ∷ bs) rest s h l = absurd (omega arith)
one_run (o ∷ os) id run (b ∷ bs) rest s h l = ap suc (sym (more_is (made o id run b) os id run bs rest refl (omega arith) l))

first_later : (n : ℕ) (os : List ℕ) (id : Option ℕ) (run : ℕ) (bs : List ℕ) (rest : List Cell) → 0 < length bs → length os ≡ length bs → n < run →
    Later n (run_cells os id run bs ++ rest)
unfolding Later
first_later n os id run [] rest s h l = absurd (omega arith)
first_later n [] id run (b ∷ bs) rest s h l = absurd (omega arith)
first_later n (o ∷ os) id run (b ∷ bs) rest s h l = l

take_front : (xs ys : List Cell) → take (length xs) (xs ++ ys) ≡ xs
take_front [] ys = refl
take_front (x ∷ xs) ys = ap (λ (l : List Cell). x ∷ l) (take_front xs ys)

-- a first run, and what comes after it
module _ (xs ys : List Cell) (e : length xs ≡ run_length (xs ++ ys)) (some : 0 < length (xs ++ ys)) where
  pub run_then : runs_of (xs ++ ys) ≡ xs ∷ runs_of ys
  run_then =
      cut_at (xs ++ ys) (length xs) e some ∙ ap (λ (l : List Cell). l ∷ runs_of (drop (length xs) (xs ++ ys))) (take_front xs ys)
      ∙ ap (λ (l : List Cell). xs ∷ runs_of l) (drop-append_seam xs ys)

  pub run_at : (n : ℕ) → RisesFrom n (xs ++ ys) → IsRunFrom n xs × RisesFrom (end_of xs) ys
  run_at n r =
      subst (λ (l : List Cell). IsRunFrom n xs × RisesFrom (end_of xs) l) (drop-append_seam xs ys)
      (subst (λ (l : List Cell). IsRunFrom n l × RisesFrom (end_of l) (drop (length xs) (xs ++ ys))) (take_front xs ys)
      (first_at (xs ++ ys) (length xs) n e some r))

module _ (offsets bytes : List ℕ) (places : length offsets ≡ 16) (sized : length bytes ≡ 40) where
  pub part_places : (p : Part) → p.end ≤ 15 → length (drop p.from (take p.end offsets)) ≡ p.end - p.from
  part_places p h =
      let s = length-take-le p.end offsets (omega arith) in
      length-drop p.from (take p.end offsets) ∙ ap (λ (n : ℕ). n - p.from) s

  pub part_sized : (p : Part) → p.end ≤ 15 → length (drop p.from (take p.end bytes)) ≡ p.end - p.from
  part_sized p h =
      let s = length-take-le p.end bytes (omega arith) in
      length-drop p.from (take p.end bytes) ∙ ap (λ (n : ℕ). n - p.from) s

  pub part_length : (p : Part) → p.end ≤ 15 → length (part_cells offsets bytes p) ≡ p.end - p.from
  part_length p h =
      let a = part_places p h in
      let b = part_sized p h in
      cells_length (drop p.from (take p.end offsets)) p.source p.run (drop p.from (take p.end bytes)) (omega arith) ∙ b

  later_parts : (n next end : ℕ) (parts : List Part) → end ≤ 15 → AreParts (n + 1) next end parts → Later n (cells_of_parts offsets bytes parts)
  unfolding Later
  later_parts n next end [] h a = tt
  later_parts n next end (p ∷ parts) h a =
      let e = a.2 in
      let i = a.1 in
      let j = a.0 in
      let x = part_places p (omega arith) in
      let y = part_sized p (omega arith) in
      first_later n (drop p.from (take p.end offsets)) p.source p.run (drop p.from (take p.end bytes)) (cells_of_parts offsets bytes parts)
      (omega arith) (omega arith) (omega arith)

  pub part_run : (low next end : ℕ) (p : Part) (parts : List Part) → end ≤ 15 → AreParts low next end (p ∷ parts) →
      length (part_cells offsets bytes p) ≡ run_length (part_cells offsets bytes p ++ cells_of_parts offsets bytes parts)
  part_run low next end p parts h a =
      let e = a.2 in
      let i = a.1 in
      let x = part_places p (omega arith) in
      let y = part_sized p (omega arith) in
      one_run (drop p.from (take p.end offsets)) p.source p.run (drop p.from (take p.end bytes)) (cells_of_parts offsets bytes parts)
      (omega arith) (omega arith) (later_parts p.run next end parts h a.3)

-- a first run is first in what its source and the report see
pub first_run : (cells run rest : List Cell) → IsFirstRun cells run rest → 0 < length run → FirstRun cells run rest
first_run cells run rest i some =
    let sum : length (run ++ rest) ≡ length run + length rest = length-append run rest in
    let one : length run ≡ run_length (run ++ rest) = i.size ∙ ap run_length i.parts in
    let all : 0 < length (run ++ rest) = omega (arith, sum, some) in
    record {
      cut = ap runs_of i.parts ∙ run_then run rest one all;
      total = ap length i.parts ∙ sum;
      rises = λ n r. run_at run rest one all n (subst (λ (l : List Cell). RisesFrom n l) i.parts r);
    }
