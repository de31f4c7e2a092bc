-- Lost fronts: where a pattern tells a value, and what a hunt in the rest of a list of units reads, against the whole.
use Rattle.std.specs.Prelude.{◌≡◌, ◌↔◌, ◌⊎◌, ℕ, ◌-◌, ◌≤◌, List, [], ◌∷◌, ◌++◌, length, true, false, None}
use Rattle.resync_rules.specs.Names.{Reason, Place, Placed, units_of, EndsWith, IsNowhere, IsFirst, Reading, Splits}
use Rattle.resync_rules.specs.Names.{IsReading, Stream, Said, Notice, Kept, kept}

-- it is at the beginning of u
abbrev pub BeginsWith : List ℕ → List ℕ → Type 0
BeginsWith pattern u = (v : List ℕ) × (u ≡ pattern ++ v)

-- One of these values is v, and this is so of the values before it and its place.
pub record StandsAt {V : Type 0} (v : V) (items : List (V × Place)) (Is : List (V × Place) → Place → Type 0)
    : Type 0 where
  pub early : List (V × Place)
  pub place : Place
  pub later : List (V × Place)
  pub parts : items ≡ early ++ ((v, place) ∷ later)
  pub spelled : Is early place

-- It ends where this front ends: the values up to it, spelled one after the other, are the front.
abbrev pub EndsAt : {V : Type 0} → (V → List Placed → Type 0) → V → List (V × Place) → List Placed → Type 0
EndsAt Spells v items front = StandsAt v items (λ early place. Splits Spells (early ++ (v, place) ∷ []) [] front)

-- It begins where this front ends: the values before it are spelled by the front.
abbrev pub BeginsAt : {V : Type 0} → (V → List Placed → Type 0) → V → List (V × Place) → List Placed → Type 0
BeginsAt Spells v items front = StandsAt v items (λ early place. Splits Spells early [] front)

-- In each list that is spellings and then a tail, the pattern ends exactly where a v ends.
abbrev pub EndsOnly : {V : Type 0} → (V → List Placed → Type 0) → (List Placed → Reason) → List ℕ → V → Type 0
EndsOnly {V} Spells why pattern v =
    (u : List Placed) (r : Reading V) → IsReading Spells why u r → r.fault ≡ None →
    (front rest : List Placed) → u ≡ front ++ rest →
    EndsWith pattern (units_of front) ↔ EndsAt Spells v r.items front

-- In each such list the pattern begins exactly where a v begins.
abbrev pub BeginsOnly : {V : Type 0} → (V → List Placed → Type 0) → (List Placed → Reason) → List ℕ → V → Type 0
BeginsOnly {V} Spells why pattern v =
    (u : List Placed) (r : Reading V) → IsReading Spells why u r → r.fault ≡ None →
    (front rest : List Placed) → u ≡ front ++ rest →
    BeginsWith pattern (units_of rest) ↔ BeginsAt Spells v r.items front

-- How a whole list is read, and how a hunt reads what is left of it: for the value `sync`, which the pattern of the
-- hunt spells, of this many units.
pub record Hunting (V : Type 0) : Type 0 where
  pub whole : List Placed → Stream V
  pub rest : List Placed → Stream V
  pub sync : V
  pub size : ℕ

-- v has just ended: it is the last value that was given, and no units follow it
pub record HasEnded {V : Type 0} (v : V) (s : Stream V) : Type 0 where
  pub before : List (Said V × Place)
  pub place : Place
  pub given : s.given ≡ before ++ (Kept v, place) ∷ []
  pub held : s.held ≡ 0

-- With this front of the rest a sync of the whole list ends, as `Ended` says of the units up to there, and its last
-- units, so many, are all in the rest.
pub record EndsIn (Ended : List Placed → Type 0) (size : ℕ) (lost rest front : List Placed) : Type 0 where
  pub more : List Placed
  pub parts : rest ≡ front ++ more
  pub long : size ≤ length front
  pub ended : Ended (lost ++ front)

-- It is the first one.
pub record EndsFirst (Ended : List Placed → Type 0) (size : ℕ) (lost rest front : List Placed) : Type 0 where
  pub is_sync : EndsIn Ended size lost rest front
  pub least : (other : List Placed) → EndsIn Ended size lost rest other → length front ≤ length other

-- with these units a sync of the whole list ends
abbrev pub SyncEnds : {V : Type 0} → Hunting V → List Placed → Type 0
SyncEnds h units = HasEnded h.sync (h.whole units)

abbrev pub IsSync : {V : Type 0} → Hunting V → List Placed → List Placed → List Placed → Type 0
IsSync h lost rest front = EndsIn (SyncEnds h) h.size lost rest front

abbrev pub IsFirstSync : {V : Type 0} → Hunting V → List Placed → List Placed → List Placed → Type 0
IsFirstSync h lost rest front = EndsFirst (SyncEnds h) h.size lost rest front

-- all units are skipped
abbrev pub all_skipped : {V : Type 0} → ℕ → Stream V
all_skipped units = record { given = []; fault = None; held = 0; skipped = units; locked = false }

-- The hunt in the rest locks at the first sync, at its last unit, and skips the units before the pattern. From that
-- sync on it gives what the whole gives, at the same places, with the same fault and as many units held. So it does
-- with any units after the lock, and not only with those of this rest.
pub record Locks {V : Type 0} (h : Hunting V) (lost rest front : List Placed) : Type 0 where
  pub first : IsFirstSync h lost rest front
  pub start : List Placed
  pub last : Placed
  pub ends : front ≡ start ++ last ∷ []
  -- what the whole gives before that sync, and what it gives after it
  pub early : List (Said V × Place)
  pub later : List Placed → List (V × Place)
  pub whole_then : (h.whole (lost ++ front)).given ≡ early ++ (Kept h.sync, last.place) ∷ []
  pub whole_on : (more : List Placed) →
      (h.whole (lost ++ (front ++ more))).given ≡ early ++ ((Kept h.sync, last.place) ∷ kept (later more))
  pub rest_on : (more : List Placed) → h.rest (front ++ more) ≡ record {
    given = (Notice (length front - h.size), last.place) ∷ ((Kept h.sync, last.place) ∷ kept (later more));
    fault = (h.whole (lost ++ (front ++ more))).fault;
    held = (h.whole (lost ++ (front ++ more))).held;
    skipped = length front - h.size;
    locked = true;
  }

-- What a hunt in the rest reads, where these units before it are lost: without a sync in the rest, as above, it skips
-- all of it; else it locks at the first.
abbrev pub IsRest : {V : Type 0} → Hunting V → List Placed → List Placed → Type 0
IsRest h lost rest =
    (((front : List Placed) → IsSync h lost rest front → ⊥) × (h.rest rest ≡ all_skipped (length rest)))
    ⊎ ((front : List Placed) × Locks h lost rest front)

-- The same in the words of the grammar alone, where `whole` is what all units read as. The pattern is in the rest. Its
-- least place is after these units, and it ends a v of the whole. The units from there on read as that v, all that
-- follows it in the whole, and the whole's tail.
pub record ReadsOn {V : Type 0} (Spells : V → List Placed → Type 0) (why : List Placed → Reason) (pattern : List ℕ)
    (v : V) (lost rest : List Placed) (whole : Reading V) : Type 0 where
  pub before : List Placed
  pub sync : List Placed
  pub more : List Placed
  pub parts : rest ≡ before ++ (sync ++ more)
  pub sync_is : units_of sync ≡ pattern
  pub first : IsFirst pattern (units_of rest) (units_of before)
  pub early : List (V × Place)
  pub place : Place
  pub later : List (V × Place)
  pub whole_items : whole.items ≡ early ++ ((v, place) ∷ later)
  pub spelled : Splits Spells (early ++ (v, place) ∷ []) [] (lost ++ (before ++ sync))
  pub rest_reads : IsReading Spells why (sync ++ more)
      (record { items = (v, place) ∷ later; rest = whole.rest; fault = None })

-- The pattern is nowhere in the rest, and no v of the whole has its last units, as many as the pattern has, in the
-- rest; or the rest reads on.
abbrev pub IsRestInWords : {V : Type 0} → (V → List Placed → Type 0) → (List Placed → Reason) → List ℕ → V → Type 0
IsRestInWords {V} Spells why pattern v =
    (lost rest : List Placed) (whole : Reading V) → IsReading Spells why (lost ++ rest) whole → whole.fault ≡ None →
    (IsNowhere pattern (units_of rest)
    × ((front more : List Placed) → rest ≡ front ++ more → length pattern ≤ length front →
    EndsAt Spells v whole.items (lost ++ front) → ⊥))
    ⊎ ReadsOn Spells why pattern v lost rest whole
