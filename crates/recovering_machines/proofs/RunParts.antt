-- Cells of a run from one index on, and the bytes that are looked at there.
use Rattle.std.proofs.Common.{◌≡◌, ℕ, zero, suc, ◌+◌, ◌-◌, ◌<◌, ◌≤◌, List, [], ◌∷◌, ◌++◌, length, take, drop, get_or}
use Rattle.std.proofs.Common.{refl, sym, ◌∙◌, ap, arith, Option, None, Some, true}
use Rattle.std.specs.Prelude.{is_none}
use Rattle.std.proofs.lemmas.List.{take_more, take-map, drop-map, drop-take, take-take, take_rest}
use Rattle.std.proofs.lemmas.List.{get_or-drop, length-drop, map-append}
use Rattle.trace_values.specs.declared.cell.Cell.{Cell}
use Rattle.trace_values.specs.Placed.{byte_at, units_of}
use Rattle.source_events.specs.Runs.{bytes_of, placed_run}

pub none_of : {A : Type 0} → (x : Option A) → true ≡ is_none x → x ≡ None
none_of None k = refl
none_of (Some y) k = cc

pub placed_more : (run more : List Cell) → placed_run (run ++ more) ≡ placed_run run ++ placed_run more
placed_more run more = map-append (λ (c : Cell). byte_at c.at c.byte) run more

-- an element within a list, whatever there is for those after it
same_element : (l : List Cell) (i : ℕ) (d e : Cell) → i < length l → get_or l i d ≡ get_or l i e
same_element [] i d e h = absurd (omega arith)
same_element (x ∷ l) zero d e h = refl
same_element (x ∷ l) (suc i) d e h = same_element l i d e (omega arith)

-- the last of this many cells after those that are done
abbrev pub some_cell : Cell
some_cell = record { at = 0; id = None; run = 0; byte = 0 }

abbrev pub last_of : List Cell → ℕ → ℕ → Cell
last_of run done count = get_or run (done + count - 1) some_cell

pub last_is : (run : List Cell) (done count : ℕ) → 0 < count → done + count ≤ length run →
    last_of run done count ≡ get_or run (done + count - 1) (last_of run done count)
last_is run done count some within = same_element run (done + count - 1) some_cell (last_of run done count) (omega arith)

-- this many cells after those that are done
module _ (run : List Cell) (done count : ℕ) (last : Cell) (some : 0 < count) (within : done + count ≤ length run) (is : last ≡ get_or run (done + count - 1) last) where
  abbrev pub front : List Cell
  front = take (count - 1) (drop done run)

  pub last_parts : take count (drop done run) ≡ front ++ last ∷ []
  last_parts =
      ap (λ n. take n (drop done run)) (let e : count ≡ count - 1 + 1 = omega arith in e)
      ∙ take_more (drop done run) (count - 1) last (let k = length-drop done run in omega arith)
      ∙ ap (λ (c : Cell). front ++ c ∷ []) (get_or-drop done run (count - 1) last ∙ ap (λ n. get_or run n last) (let e : done + (count - 1) ≡ done + count - 1 = omega arith in e) ∙ sym is)

  -- the bytes that are looked at from there on, with others behind them
  pub packet_units : (ahead : List ℕ) → take (length run) ahead ≡ bytes_of run → length run ≤ length ahead →
      units_of (placed_run front ++ byte_at last.at last.byte ∷ []) ≡ take count (take (length ahead - done) (drop done ahead))
  packet_units ahead e long =
      let rest : ℕ = length run - (done + count) in
      let all : length run ≡ (done + count) + rest = omega arith in
      ap units_of (sym (placed_more front (last ∷ []))) ∙ units_run (front ++ last ∷ []) ∙ ap bytes_of (sym last_parts)
      ∙ sym (ap (take count) (ap (drop done) e ∙ drop-map (λ (c : Cell). c.byte) done run) ∙ take-map (λ (c : Cell). c.byte) count (drop done run))
      ∙ ap (λ (n : ℕ). take count (drop done (take n ahead))) (let z : length run ≡ done + (count + rest) = omega arith in z)
      ∙ ap (take count) (drop-take done (count + rest) ahead)
      ∙ take-take count (count + rest) (drop done ahead) (omega arith)
      ∙ ap (take count) (sym (take_rest ahead done)) where
        units_run : (l : List Cell) → units_of (placed_run l) ≡ bytes_of l
        units_run [] = refl
        units_run (c ∷ l) = ap (λ b. c.byte ∷ b) (units_run l)

  -- the bytes from there on, up to the end of the run
  pub packet_bytes : (ahead : List ℕ) → take (length run) ahead ≡ bytes_of run → length run ≤ length ahead →
      units_of (placed_run front ++ byte_at last.at last.byte ∷ []) ≡ take count (take (length run - done) (drop done ahead))
  packet_bytes ahead e long =
      packet_units ahead e long
      ∙ take-take count (length ahead - done) (drop done ahead) (omega arith)
      ∙ sym (take-take count (length run - done) (drop done ahead) (omega arith))
