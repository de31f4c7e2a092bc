-- A run of a source that is not mapped.
use Rattle.std.specs.Prelude.{◌==◌}
use Rattle.std.proofs.Common.{◌≡◌, ◌≢◌, ℕ, suc, ◌-◌, ◌<◌, List, [], ◌∷◌, length, get_or, refl, ◌∙◌, ap, arith, Bool, cond}
use Rattle.trace_values.specs.declared.cell.Cell.{Cell}
use Rattle.source_events.specs.declared.event.What.TheVariants.{Raw}
use Rattle.source_events.specs.Runs.{bytes_of, last_at}
use Rattle.source_events.specs.Report.{raw_events, triggers}
use Rattle.source_events.proofs.Merges.{test_other}

pub last_is : (run : List Cell) (d : Cell) → 0 < length run → (get_or run (length run - 1) d).at ≡ last_at run
last_is [] d h = absurd (omega arith)
last_is (c ∷ []) d h = refl
last_is (c ∷ (e ∷ run)) d h = let k : length (c ∷ (e ∷ run)) - 1 ≡ suc (length (e ∷ run) - 1) = omega arith in ap (λ (n : ℕ). (get_or (c ∷ (e ∷ run)) n d).at) k ∙ last_is (e ∷ run) d (omega arith)

pub raw_is : (V : Type 0) (x : ℕ) (run : List Cell) → x ≢ 0 → x ≢ 125 → raw_events {V = V} x run ≡ (Raw (bytes_of run), record { at = last_at run; half = 0 }) ∷ []
raw_is V x run n m =
    ap (λ (t : Bool). cond t [] (cond (x == 125) (triggers {V = V} run) ((Raw (bytes_of run), record { at = last_at run; half = 0 }) ∷ []))) (test_other x 0 n)
    ∙ ap (λ (t : Bool). cond t (triggers {V = V} run) ((Raw (bytes_of run), record { at = last_at run; half = 0 }) ∷ [])) (test_other x 125 m)
