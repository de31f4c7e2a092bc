-- Lines that can be put: each can be said, of its source, and its STP items can be written in this order.
use Rattle.std.specs.Prelude.{◌≡◌, List, [], ◌∷◌, ◌++◌, Ok}
use Rattle.script_laws.specs.Names.{Plan, Line2, IsSaid2, fitting}

-- a line that can be put after others
pub record CanBePut (plan : Plan) (before : List Line2) (line : Line2) : Type 0 where
  pub said : IsSaid2 plan line
  pub fits : fitting before line ≡ Ok line

-- each of these lines can, after those before it
abbrev pub CanAllBePut : Plan → List Line2 → List Line2 → Type 0
CanAllBePut plan before [] = Unit {0}
CanAllBePut plan before (line ∷ lines) = CanBePut plan before line × CanAllBePut plan (before ++ line ∷ []) lines
