-- Bytes of a hunt in which its pattern does not end.
use Rattle.std.specs.Prelude.{◌≡◌, ◌==◌, ◌&&◌, ℕ, List, [], ◌∷◌, false}
use Rattle.trace_values.specs.Hunted.{run_after}
use Rattle.trace_values.specs.declared.pattern.Pattern.{Pattern}

-- After a run of this length the pattern ends with none of these units, and this is the length of the run after them.
abbrev pub Skips : Pattern → ℕ → List ℕ → ℕ → Type 0
Skips p run [] after = run ≡ after
Skips p run (b ∷ units) after =
    ((b == p.last && run == p.most) ≡ false) × Skips p (run_after p run b) units after
