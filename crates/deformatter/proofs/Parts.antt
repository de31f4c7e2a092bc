-- The parts of a state that a deformatter keeps.
use Rattle.std.proofs.Common.{◌≡◌, ℕ, ◌+◌, refl, sym, ap, arith, Bool, cond}
use Rattle.std.proofs.lemmas.Bool.{eq-eqb, ne_eqb}
use Rattle.deformatter.specs.Names.{Go, State, size_of, placed_part}
use Rattle.port_sync.specs.declared.aligner.Part.{Part}
use Rattle.port_sync.specs.declared.aligner.Part.TheVariants.{Between}
use Rattle.deformatter.specs.Rule.{part_size, step_by}
use Rattle.deformatter.specs.declared.step.PortStep.TheVariants.{Quiet, Half as HalfEnds}

-- in a frame that goes on nothing has ended, or a half synchronisation
pub quiet_step : (at : ℕ) (s t : State) → t.halves ≡ s.halves → Quiet ≡ step_by at s (Go t)
quiet_step at s t e = sym (ap (λ (b : Bool). cond b Quiet HalfEnds) (eq-eqb t.halves s.halves e))

pub half_step : (at : ℕ) (s t : State) → t.halves ≡ s.halves + 1 → HalfEnds ≡ step_by at s (Go t)
half_step at s t e = sym (ap (λ (b : Bool). cond b Quiet HalfEnds) (ne_eqb t.halves s.halves (λ k. (let z : ⊥ = omega (arith, k, e) in z))))

pub size_is : (part : Part) (at : ℕ) → part_size (placed_part part at) ≡ size_of part
size_is Between at = refl
size_is x at = refl
