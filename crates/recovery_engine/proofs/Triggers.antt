-- What the bytes of the trigger source tell, byte by byte.
use Rattle.std.proofs.Common.{◌≡◌, ℕ, ◌+◌, ◌<◌, List, [], ◌∷◌, ◌++◌, length, get_or, take, refl, sym, ◌∙◌, ap, Some}
use Rattle.std.proofs.lemmas.List.{take_more}
use Rattle.source_events.specs.Merge.{told}
use Rattle.source_events.specs.Report.{triggers}
use Rattle.source_events.specs.declared.event.Event.{Event}
use Rattle.source_events.specs.declared.event.What.TheVariants.{Trigger}
use Rattle.trace_values.specs.declared.cell.Cell.{Cell}

module _ {V : Type 0} where
  -- what the bytes of a source tell
  abbrev pub told_by : ℕ → List Cell → List (Event V)
  told_by x run = told (Some x) (triggers run)

  abbrev pub trigger : ℕ → Cell → Event V
  trigger x c = record { at = c.at; half = 0; source = Some x; what = Trigger c.byte }

  parts : (x : ℕ) (a b : List Cell) → told_by x (a ++ b) ≡ told_by x a ++ told_by x b
  parts x [] b = refl
  parts x (c ∷ a) b = ap (λ (l : List (Event V)). trigger x c ∷ l) (parts x a b)

  -- one more of them
  pub one_more : (x : ℕ) (run : List Cell) (k : ℕ) (c : Cell) → k < length run → c ≡ get_or run k c →
      told_by x (take k run) ++ trigger x c ∷ [] ≡ told_by x (take (k + 1) run)
  one_more x run k c h is =
      ap (λ (y : Cell). told_by x (take k run) ++ trigger x y ∷ []) is
      ∙ sym (parts x (take k run) (get_or run k c ∷ []))
      ∙ ap (λ (l : List Cell). told_by x l) (sym (take_more run k c h))
