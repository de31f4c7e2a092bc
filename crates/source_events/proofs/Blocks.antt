-- The runs of a capture with no formatter.
use Rattle.std.proofs.Common.{◌≡◌, List, [], ◌∷◌, map, refl, ap}
use Rattle.trace_values.specs.declared.cell.Cell.{Cell}
use Rattle.trace_values.specs.Placed.{Placed}
use Rattle.deformatter.specs.PortReading.{bare_cell}
use Rattle.source_events.specs.Runs.{all_runs}

-- each byte is one
pub bare_runs : (u : List Placed) → all_runs (map (λ b. bare_cell b ∷ []) u) ≡ map (λ b. bare_cell b ∷ []) u
bare_runs [] = refl
bare_runs (b ∷ u) = ap (λ (l : List (List Cell)). (bare_cell b ∷ []) ∷ l) (bare_runs u)
