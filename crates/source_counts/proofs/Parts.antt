-- The counts within a frame, cell by cell.
use Rattle.std.proofs.Common.{◌≡◌, ℕ, ◌+◌, ◌<◌, List, [], ◌∷◌, ◌++◌, length, arith, Bool, true, false, cond, get_or, refl, sym, ◌∙◌, ap, Option, None, Some, take, subst, eqb}
use Rattle.std.specs.Prelude.{◌==◌, not, is_none}
use Rattle.std.specs.Option.{option_eq}
use Rattle.std.specs.List.{count_by}
use Rattle.std.proofs.lemmas.List.{length-append, take_more}
use Rattle.trace_values.specs.declared.cell.Cell.{Cell}
use Rattle.frame_grammar.specs.Reading.{source_list}
use Rattle.frame_grammar.specs.Runs.{HasRuns}
use Rattle.frame_grammar.proofs.Runs.{take_has_runs}
use Rattle.source_counts.specs.declared.source_counts.SourceCounts.{SourceCounts}
use Rattle.source_counts.specs.Counts.{frame_items, runs_of, null_source, trigger_source}
use Rattle.source_counts.specs.Adding.{byte_by, item_by}
use Rattle.source_counts.specs.Kept.{total_of}
use Rattle.source_counts.proofs.Counting.{begins, IsBehind, behind_cell, bytes_push, items_push, unattributed_push}

-- the bytes grew by those of these cells of a frame
pub record IsPart (old new : SourceCounts) (cs : List Cell) : Type 0 where
  pub bytes : (id : ℕ) → get_or new.bytes id 0 ≡ get_or old.bytes id 0 + length (source_list id cs)
  pub unattributed : new.unattributed ≡ old.unattributed + count_by (λ c. is_none c.id) cs
  pub frames : new.frames ≡ old.frames
  pub total : total_of new ≡ total_of old + length cs

-- and the items by theirs, the last of which has this run
pub record IsItemsPart (old new : SourceCounts) (cs : List Cell) (before : Option ℕ) : Type 0 where
  pub items : (id : ℕ) → get_or new.items id 0 ≡ get_or old.items id 0 + frame_items id cs
  pub behind : IsBehind before cs

-- the counts grow by a cell that begins a run or not
pub record IsMore (old new : SourceCounts) (c : Cell) (new_run : Bool) : Type 0 where
  pub bytes : (id : ℕ) → get_or new.bytes id 0 ≡ get_or old.bytes id 0 + byte_by id c.id
  pub items : (id : ℕ) → get_or new.items id 0 ≡ get_or old.items id 0 + item_by id c.id new_run
  pub unattributed : new.unattributed ≡ old.unattributed + cond (is_none c.id) 1 0
  pub frames : new.frames ≡ old.frames
  pub total : total_of new ≡ total_of old + 1

no_items : (a b : Bool) (n : ℕ) → n ≡ 0 → cond a 0 (cond b 0 n) ≡ 0
no_items true b n e = refl
no_items false true n e = refl
no_items false false n e = e

-- before its first cell
pub part_none : (old : SourceCounts) → IsPart old old []
part_none old = record { bytes = λ id. omega arith; unattributed = omega arith; frames = refl; total = omega arith }

pub items_none : (old : SourceCounts) → IsItemsPart old old [] None
items_none old = record { items = λ id. (let e = no_items (id == null_source) (id == trigger_source) (runs_of id []) refl in omega arith); behind = refl }

-- and with one more
part_push : (old now new : SourceCounts) (cs : List Cell) (c : Cell) (w : Bool) → IsPart old now cs → IsMore now new c w → IsPart old new (cs ++ c ∷ [])
part_push old now new cs c w p m = record {
  bytes = λ id. (let e = m.bytes id in let f = p.bytes id in let g = bytes_push id cs c in omega arith);
  unattributed = let e = m.unattributed in let f = p.unattributed in let g = unattributed_push cs c in omega arith;
  frames = m.frames ∙ p.frames;
  total = let e = m.total in let f = p.total in omega (arith, length-append cs (c ∷ []));
}

items_more : (old now new : SourceCounts) (cs : List Cell) (c : Cell) (before : Option ℕ) → HasRuns (cs ++ c ∷ []) → IsItemsPart old now cs before → IsMore now new c (begins before c.run) →
    IsItemsPart old new (cs ++ c ∷ []) (Some c.run)
items_more old now new cs c before h p m = record {
  items = λ id. (let e = m.items id in let f = p.items id in let g = items_push id cs c before h p.behind in omega arith);
  behind = behind_cell cs c h;
}

begins_is : (before : Option ℕ) (run : ℕ) → not (option_eq eqb before (Some run)) ≡ begins before run
begins_is None run = refl
begins_is (Some last) run = refl

-- with the next of these cells
next_cell : (xs : List Cell) (i : ℕ) (c : Cell) → i < length xs → c ≡ get_or xs i c → take (i + 1) xs ≡ take i xs ++ c ∷ []
next_cell xs i c l is = take_more xs i c l ∙ ap (λ (x : Cell). take i xs ++ x ∷ []) (sym is)

module _ (old now new : SourceCounts) (xs : List Cell) (i : ℕ) (c : Cell) (w : Bool) (l : i < length xs) (is : c ≡ get_or xs i c) (m : IsMore now new c w) where
  pub part_next : IsPart old now (take i xs) → IsPart old new (take (i + 1) xs)
  part_next p = subst (λ (cs : List Cell). IsPart old new cs) (sym (next_cell xs i c l is)) (part_push old now new (take i xs) c w p m)

  pub items_next : (before : Option ℕ) → HasRuns xs → w ≡ not (option_eq eqb before (Some c.run)) → IsItemsPart old now (take i xs) before → IsItemsPart old new (take (i + 1) xs) (Some c.run)
  items_next before h b p =
      let e = next_cell xs i c l is in
      subst (λ (cs : List Cell). IsItemsPart old new cs (Some c.run)) (sym e)
      (items_more old now new (take i xs) c before (subst HasRuns e (take_has_runs (i + 1) xs h)) p (subst (IsMore now new c) (b ∙ begins_is before c.run) m))
