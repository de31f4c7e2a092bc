-- What one more unit of a list says: of the grammar, of a machine's answer, and of what is more.
use Rattle.std.proofs.Common.{◌≡◌, List, [], ◌∷◌, ◌++◌, Option, None, Some}
use Rattle.trace_values.specs.declared.fault.Reason.{Reason}
use Rattle.trace_values.specs.declared.next.Next.{Next}
use Rattle.trace_values.specs.declared.next.Next.TheVariants.{Go, End, Fail}
use Rattle.trace_values.specs.declared.step.Step.{Step}
use Rattle.trace_values.specs.declared.step.Step.TheVariants.{Quiet, Item, Fault as Faulty}
use Rattle.trace_values.specs.Placed.{Place}
use Rattle.trace_values.specs.Grammar.{IsFront}
use Rattle.trace_values.specs.Stream.{Said, Stream}

-- What is said of units up to one more: they go on and spell nothing yet, they spell a value, or they are no front.
-- The cases exclude each other, so each comes exactly where the grammar has it.
abbrev pub Says : {U S V : Type 0} → (V → List U → Type 0) → (List U → Reason) → Next S V → List U → Type 0
Says {V = V} Spells why (Go s) r = IsFront Spells r × ((v : V) → Spells v r → ⊥)
Says Spells why (End v) r = Spells v r
Says Spells why (Fail e) r = (IsFront Spells r → ⊥) × (e ≡ why r)

-- a machine's answer to a unit at this place of which the rule says this
abbrev pub step_on : {S V : Type 0} → Place → Next S V → Step V
step_on place (Go s) = Quiet
step_on place (End v) = Item place.half v
step_on place (Fail e) = Faulty (record { at = place.at; half = place.half; reason = e })

-- all of these are at this place
abbrev pub AllOn : {W : Type 0} → Place → List (W × Place) → Type 0
AllOn p [] = Unit {0}
AllOn p (x ∷ xs) = (x.1 ≡ p) × AllOn p xs

-- a new fault is at this place, and an old one stays
abbrev pub FaultOn : Place → Option (Place × Reason) → Option (Place × Reason) → Type 0
FaultOn p None (Some f) = f.0 ≡ p
FaultOn p None None = Unit {0}
FaultOn p (Some f) new = new ≡ Some f

-- With one more unit at this place a reading has more, and what is more is there.
pub record RisesOn {V : Type 0} (old new : Stream V) (p : Place) : Type 0 where
  pub more : List (Said V × Place)
  pub given : new.given ≡ old.given ++ more
  pub all : AllOn p more
  pub fault : FaultOn p old.fault new.fault
