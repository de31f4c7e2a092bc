-- Nibbles of a hunt in which its pattern does not end.
use Rattle.std.specs.Prelude.{◌≡◌, ◌==◌, ◌&&◌, ℕ, List, [], ◌∷◌, false}
use Rattle.stp_codec.specs.Names.{run_after}
use Rattle.stp_codec.specs.Reading.{pattern}

-- After a run of this length the pattern ends with none of these nibbles, and this is the length of the run after them.
abbrev pub Skips : ℕ → List ℕ → ℕ → Type 0
Skips run [] after = run ≡ after
Skips run (b ∷ nibbles) after =
    ((b == 0 && run == 21) ≡ false) × Skips (run_after pattern run b) nibbles after
