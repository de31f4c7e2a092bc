-- How the reading of a capture's port grows with the bytes.
use Rattle.std.specs.Prelude.{◌≡◌, ℕ, List, [], ◌++◌, length, Option, is_none}
use Rattle.std.proofs.Common.{ap, subst, sym, ◌∙◌}
use Rattle.capture_actions.specs.Names.{Cell, Reason, Place, Placed, placed, placed_from, FramesMode, port_reading}
use Rattle.capture_actions.specs.Names.{cells_of}
use Rattle.trace_values.proofs.Placing.{placed_append}
use Rattle.deformatter.specs.ReadingGrowth.{Settled}
use Rattle.deformatter.proofs.PortReadingLaws.{none_read, settles, cells_grow}
use Rattle.capture_actions.specs.Port.{port_of, IsPortFaulty}

pub none_at_first : (mode : FramesMode) → IsPortFaulty mode [] → ⊥
none_at_first mode h = (let k = ap (λ (f : Option (Place × Reason)). is_none f)
    (none_read mode).fault in let g = h in cc)

pub port_settled : (mode : FramesMode) (xs ys : List ℕ) → IsPortFaulty mode xs →
    Settled (port_of mode xs) (port_of mode (xs ++ ys))
port_settled mode xs ys h =
    subst (λ (u : List Placed). Settled (port_of mode xs) (port_reading mode u)) (sym (placed_append xs ys))
    (settles mode (placed xs) (placed_from (length xs) ys) h)

pub faulty_stays : (mode : FramesMode) (xs ys : List ℕ) → IsPortFaulty mode xs → IsPortFaulty mode (xs ++ ys)
faulty_stays mode xs ys h = ap (λ (f : Option (Place × Reason)). is_none f) (port_settled mode xs ys h).fault ∙ h

pub port_cells_grow : (mode : FramesMode) (xs ys : List ℕ) →
    (more : List Cell) × (cells_of (port_of mode (xs ++ ys)) ≡ cells_of (port_of mode xs) ++ more)
port_cells_grow mode xs ys =
    let more = cells_grow mode (placed xs) (length xs) ys in
    (more.0, ap (λ (u : List Placed). cells_of (port_reading mode u)) (placed_append xs ys) ∙ more.1)
