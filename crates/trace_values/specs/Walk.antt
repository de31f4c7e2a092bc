-- A list of units by a rule that keeps a state, and what it takes for the rule to decide a grammar.
use Rattle.std.specs.Prelude.{◌≡◌, ℕ, List, [], ◌∷◌, ◌++◌}
use Rattle.trace_values.specs.declared.fault.Reason.{Reason}
use Rattle.trace_values.specs.declared.next.Next.{Next}
use Rattle.trace_values.specs.declared.next.Next.TheVariants.{Go, End, Fail}
use Rattle.trace_values.specs.Placed.{Placed}
use Rattle.trace_values.specs.Grammar.{IsFront}

-- A list of units from a value's place on: the front of a spelling, which leaves the rule in a state;
-- a whole spelling; units after a whole spelling; or, from the unit of the fault on, no front at all.
pub data Walked (S V : Type 0) : Type 0 where
  Within : S → Walked S V
  Whole : V → Walked S V
  Beyond : Walked S V
  Broken : Reason → Walked S V

-- what the list is, by what the rule says of its first unit and how it walks on
abbrev pub after : {U S V : Type 0} → Next S V → (S → Walked S V) → List U → Walked S V
after (Go s) more u = more s
after (End v) more [] = Whole v
after (End v) more (b ∷ u) = Beyond
after (Fail e) more u = Broken e

-- the walk of a rule over a list of units, from a state on
abbrev pub walk : {U S V : Type 0} → (S → U → Next S V) → S → List U → Walked S V
walk rule s [] = Within s
walk rule s (b ∷ u) = after (rule s b) (λ t. walk rule t u) u

-- The rule decides the grammar: whole are exactly the spellings, each state that is reached can be
-- finished, and the reason of a fault is the one that stands for these units.
pub record Decides {U S V : Type 0} (Spells : V → List U → Type 0) (why : List U → Reason) (rule : S → U → Next S V)
    (start : S) : Type 0 where
  pub sound : (v : V) (r : List U) → walk rule start r ≡ Whole v → Spells v r
  pub complete : (v : V) (r : List U) → Spells v r → walk rule start r ≡ Whole v
  pub goes_on : (s : S) (r : List U) → walk rule start r ≡ Within s → IsFront Spells r
  pub reason : (s : S) (r : List U) (b : U) (e : Reason) → walk rule start r ≡ Within s → rule s b ≡ Fail e →
      e ≡ why (r ++ b ∷ [])

-- a rule that looks at the units alone
abbrev pub by_unit : {S V : Type 0} → (S → ℕ → Next S V) → S → Placed → Next S V
by_unit rule s b = rule s b.unit
