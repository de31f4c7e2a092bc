-- The reading of a list of units by a grammar: as a relation, and as what a rule computes unit by unit.
use Rattle.std.specs.Prelude.{◌≡◌, ◌≤◌, List, [], ◌∷◌, ◌++◌, Option, None, Some, length}
use Rattle.trace_values.specs.declared.fault.Reason.{Reason}
use Rattle.trace_values.specs.declared.next.Next.{Next}
use Rattle.trace_values.specs.declared.next.Next.TheVariants.{Go, End, Fail}
use Rattle.trace_values.specs.Placed.{Place, Placed}
use Rattle.trace_values.specs.Grammar.{IsFront}

-- What a list of units reads as: each value with the place of its last unit, what follows the last value, and the
-- fault.
pub record Reading (V : Type 0) : Type 0 where
  pub items : List (V × Place)
  pub rest : List Placed
  pub fault : Option (Place × Reason)

-- u is the spellings of the values, one after the other, and then the rest; a spelling is its units before the last,
-- and the last
abbrev pub Splits : {V : Type 0} → (V → List Placed → Type 0) → List (V × Place) → List Placed → List Placed → Type 0
Splits Spells [] rest u = u ≡ rest
Splits Spells (item ∷ items) rest u =
    (a : List Placed) × (l : Placed) × (w : List Placed) × Spells item.0 (a ++ l ∷ []) × (u ≡ a ++ (l ∷ w))
    × (item.1 ≡ l.place) × Splits Spells items rest w

-- The fault is at the first unit of the rest with which it is no front of a spelling.
pub record IsFirstFault {V : Type 0} (Spells : V → List Placed → Type 0) (why : List Placed → Reason)
    (rest : List Placed) (fault : Place × Reason) : Type 0 where
  pub before : List Placed
  pub unit : Placed
  pub after : List Placed
  pub parts : rest ≡ before ++ (unit ∷ after)
  pub front : IsFront Spells before
  pub broken : IsFront Spells (before ++ unit ∷ []) → ⊥
  pub place : fault.0 ≡ unit.place
  pub reason : fault.1 ≡ why (before ++ unit ∷ [])

-- a tail that goes on, or a fault
abbrev pub Ends : {V : Type 0} → (V → List Placed → Type 0) → (List Placed → Reason) → List Placed →
    Option (Place × Reason) → Type 0
Ends Spells why rest None = IsFront Spells rest
Ends Spells why rest (Some fault) = IsFirstFault Spells why rest fault

-- The reading of u: the longest list of values whose spellings, one after the other, are a front of u; and how it ends.
pub record IsReading {V : Type 0} (Spells : V → List Placed → Type 0) (why : List Placed → Reason) (u : List Placed)
    (r : Reading V) : Type 0 where
  pub splits : Splits Spells r.items r.rest u
  pub longest : (others : List (V × Place)) (rest : List Placed) → Splits Spells others rest u →
      length others ≤ length r.items
  pub ends : Ends Spells why r.rest r.fault

-- The same unit by unit: beside the reading so far, the state in which its rest leaves the rule.
pub record Progress (S V : Type 0) : Type 0 where
  pub items : List (V × Place)
  pub rest : List Placed
  pub fault : Option (Place × Reason)
  pub state : S

-- with one more unit, of which the rule says this
abbrev pub with_unit : {S V : Type 0} → S → Progress S V → Placed → Next S V → Option (Place × Reason) → Progress S V
with_unit start p b (Go s) None = record { items = p.items; rest = p.rest ++ b ∷ []; fault = None; state = s }
with_unit start p b (End v) None =
    record { items = p.items ++ (v, b.place) ∷ []; rest = []; fault = None; state = start }
with_unit start p b (Fail e) None =
    record { items = p.items; rest = p.rest ++ b ∷ []; fault = Some (b.place, e); state = p.state }
with_unit start p b n (Some f) = record { items = p.items; rest = p.rest ++ b ∷ []; fault = Some f; state = p.state }

-- with one more unit, as the rule has it
abbrev pub advance : {S V : Type 0} → (S → Placed → Next S V) → S → Progress S V → Placed → Progress S V
advance rule start p b = with_unit start p b (rule p.state b) p.fault

-- with more units, one by one
abbrev pub progress_from : {S V : Type 0} → (S → Placed → Next S V) → S → Progress S V → List Placed → Progress S V
progress_from rule start p [] = p
progress_from rule start p (b ∷ u) = progress_from rule start (advance rule start p b) u

-- nothing is read
abbrev pub unread : {S V : Type 0} → S → Progress S V
unread start = record { items = []; rest = []; fault = None; state = start }

-- the reading of a list of units with the state of its rest
abbrev pub progress : {S V : Type 0} → (S → Placed → Next S V) → S → List Placed → Progress S V
progress rule start u = progress_from rule start (unread start) u

-- without the state
abbrev pub reading_of : {S V : Type 0} → Progress S V → Reading V
reading_of p = record { items = p.items; rest = p.rest; fault = p.fault }

-- the reading of a list of units, as the rule computes it
abbrev pub reading : {S V : Type 0} → (S → Placed → Next S V) → S → List Placed → Reading V
reading rule start u = reading_of (progress rule start u)
