-- The same in words: where segments are, and that there is no other way to cut.
use Rattle.std.specs.Prelude.{◌≡◌, List, [], ◌∷◌, ◌++◌, Bool, false}
use Rattle.std.specs.List.{AllByRecursion}
use Rattle.port_slip.specs.Bits.{ones}
use Rattle.port_slip.specs.Segments.{Cut}

-- 31 ones and a zero
abbrev pub sync : List Bool
sync = ones 31 ++ false ∷ []

-- they are at the beginning of these bits
abbrev pub BeginsWithSync : List Bool → Type 0
BeginsWithSync s = (more : List Bool) × (s ≡ sync ++ more)

-- lists of bits, one after the other
abbrev pub in_order : List (List Bool) → List Bool
in_order [] = []
in_order (g ∷ gs) = g ++ in_order gs

-- a segment begins after these bits
pub record SegmentAfter (c : Cut) (front : List Bool) : Type 0 where
  pub early : List (List Bool)
  pub segment : List Bool
  pub later : List (List Bool)
  pub parts : c.segments ≡ early ++ segment ∷ later
  pub before : front ≡ c.before ++ in_order early

-- The bits before the first segment and the segments are all of these bits, each segment begins with 31 ones and a
-- zero, and wherever these begin, a segment begins.
pub record IsCut (s : List Bool) (c : Cut) : Type 0 where
  pub parts : s ≡ c.before ++ in_order c.segments
  pub begun : AllByRecursion BeginsWithSync c.segments
  pub all : (front rest : List Bool) → s ≡ front ++ rest → BeginsWithSync rest → SegmentAfter c front
