-- The bytes of one whole frame, with half synchronisations between its halfwords or without (CoreSight Architecture
-- Specification, Arm IHI 0029E (version 3.0), chapter 'Trace Formatter', its section on frames).
use Rattle.std.specs.Prelude.{◌≡◌, ℕ, List, [], ◌∷◌, ◌==◌, ◌&&◌, if◌then◌else◌}
use Rattle.frame_grammar.specs.Names.{Placed, units_of, placed_from}
use Rattle.frame_grammar.specs.Port.{Frame, Spells}

-- the halfwords that are no half synchronisations, from the first byte on
abbrev pub without_halves : List Placed → List Placed
without_halves [] = []
without_halves (x ∷ []) = x ∷ []
without_halves (x ∷ (y ∷ r)) =
    if x.unit == 0xFF && y.unit == 0x7F then without_halves r else (x ∷ (y ∷ without_halves r))

-- These bytes are one whole frame at any offset: without the half synchronisations between its halfwords, `halves` in
-- all, they are the 16 bytes of `frame`.
pub record IsWhole (bytes frame : List ℕ) (halves : ℕ) : Type 0 where
  pub spelled : (at : ℕ) → Spells (Frame (without_halves (placed_from at bytes)) halves) (placed_from at bytes)
  pub frame_is : (at : ℕ) → units_of (without_halves (placed_from at bytes)) ≡ frame
