-- What a grammar owes so that a reading can begin at a pattern.
use Rattle.std.specs.Prelude.{◌≡◌, ◌≢◌, List, [], ◌∷◌, length, Bool, true}
use Rattle.resync_rules.specs.Names.{Reason, Next, Go, End, Fail, Placed, units_of, Within, Whole, walk, Decides}
use Rattle.resync_rules.specs.Names.{EndsWith, Pattern, pattern_of, stream_in}
use Rattle.resync_rules.specs.Fronts.{Hunting}

-- What a rule says of the last of some units, where it goes on after each value, and no further than a fault.
abbrev pub said_last : {U S V : Type 0} → (S → U → Next S V) → S → Next S V → List U → Next S V
said_last rule start n [] = n
said_last rule start (Go s) (b ∷ w) = said_last rule start (rule s b) w
said_last rule start (End v) (b ∷ w) = said_last rule start (rule start b) w
said_last rule start (Fail e) (b ∷ w) = Fail e

-- it ends v, or no value goes on so
abbrev pub EndsOrFails : {S V : Type 0} → V → Next S V → Type 0
EndsOrFails v (Go s) = ⊥
EndsOrFails v (End x) = x ≡ v
EndsOrFails v (Fail e) = Unit {0}

-- the grammar of a rule: what it walks to a whole value spells that value
abbrev pub SpelledBy : {S V : Type 0} → (S → Placed → Next S V) → S → V → List Placed → Type 0
SpelledBy rule start v r = walk rule start r ≡ Whole v

-- a list read whole in a mode, and its rest read after a hunt, for the value that the pattern spells
abbrev pub hunting_for : {S V : Type 0} → Pattern → V → (S → Placed → Next S V) → S → Bool → Hunting V
hunting_for p v rule start hunts = record {
  whole = stream_in p v rule start hunts;
  rest = stream_in p v rule start true;
  sync = v;
  size = length (pattern_of p);
}

-- The pattern is a synchronising word of the grammar for v: it spells v, each spelling of v ends with it, and after the
-- front of any spelling it ends v, or is a fault.
pub record Syncs {S V : Type 0} (Spells : V → List Placed → Type 0) (why : List Placed → Reason)
    (rule : S → Placed → Next S V) (start : S) (p : Pattern) (v : V) : Type 0 where
  pub decides : Decides Spells why rule start
  pub apart : p.unit ≢ p.last
  pub spelled : (w : List Placed) → units_of w ≡ pattern_of p → Spells v w
  pub closes : (w : List Placed) → Spells v w → EndsWith (pattern_of p) (units_of w)
  pub syncs : (s : S) (r m : List Placed) → walk rule start r ≡ Within s → units_of m ≡ pattern_of p →
      EndsOrFails v (said_last rule start (Go s) m)
