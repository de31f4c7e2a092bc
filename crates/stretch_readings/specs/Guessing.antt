-- What a source may have said while it hunted after a fault. A hunt passes over units until it locks, and there may be
-- whole packets among them; so they are read besides as if a packet began at the unit after the fault, and again at the
-- unit after each further fault of that reading. What is read so is a guess: nothing says that a packet begins there.
use Rattle.std.specs.Prelude.{◌≡◌, ◌<◌, ℕ, List, [], ◌∷◌, ◌++◌, drop, filter, flat_map, map, Bool, true}
use Rattle.std.specs.Prelude.{false, if◌then◌else◌, is_none, nat_lt, not}
use Rattle.trace_values.specs.Placed.{Place, Placed}
use Rattle.trace_values.specs.Stream.{Said, Kept, Stream}
use Rattle.stretch_readings.specs.declared.heard.Heard.{Heard}
use Rattle.stretch_readings.specs.declared.heard.Heard.TheVariants.{Read, Broken, Guessed, Misread}
use Rattle.stretch_readings.specs.Stretches.{One, Resumption, Stretch, Stretches, heard_of, read, recovering, told}

-- the reading goes on at the unit after a fault
abbrev pub at_next : Resumption
at_next = record { hunts = false; again = λ hunts units. 0 }

-- what such a reading says, as guesses: its items and its faults
abbrev pub as_guess : {V : Type 0} → Said (Heard V) × Place → List (Said (Heard V) × Place)
as_guess (Kept (Read v), place) = (Kept (Guessed v), place) ∷ []
as_guess (Kept (Broken reason), place) = (Kept (Misread reason), place) ∷ []
as_guess said = []

-- it is no guess
abbrev pub is_sure : {V : Type 0} → Said (Heard V) → Bool
is_sure (Kept (Guessed v)) = false
is_sure (Kept (Misread reason)) = false
is_sure said = true

-- those of what is said that are no guesses
abbrev pub sure_of : {V : Type 0} → List (Said (Heard V) × Place) → List (Said (Heard V) × Place)
sure_of said = filter (λ x. is_sure x.0) said

-- the units before the byte in which the first of these is said; all of them, where nothing is
abbrev pub before_first : {W : Type 0} → List (W × Place) → List Placed → List Placed
before_first [] units = units
before_first (first ∷ said) units = filter (λ u. nat_lt u.place.at first.1.at) units

-- all of these units are before this offset; all are at it
abbrev pub AllBefore : ℕ → List Placed → Type 0
AllBefore at [] = Unit {0}
AllBefore at (u ∷ units) = (u.place.at < at) × AllBefore at units

abbrev pub AllWithin : ℕ → List Placed → Type 0
AllWithin at [] = Unit {0}
AllWithin at (u ∷ units) = (u.place.at ≡ at) × AllWithin at units

-- What a list reads as is given, from its first unit on and in a hunt; and how it goes on after a fault.
module _ {V : Type 0} (reads : Bool → List Placed → Stream V) (way : Resumption) where
  -- what these units say where a packet begins at the first of them
  abbrev pub guess_of : List Placed → List (Said (Heard V) × Place)
  guess_of units = flat_map as_guess (recovering reads at_next false (map One units)).given

  -- The units over which a stretch after a fault hunts, without the fault's, which is its first: those before the byte
  -- in which the hunt locks.
  abbrev pub hunted_in : Stretch → List Placed
  hunted_in s = drop 1 (before_first (read reads way s).given s.units)

  -- what is guessed in a stretch, where it comes after a fault
  abbrev pub guessed_in : Bool → Stretch → List (Said (Heard V) × Place)
  guessed_in after_fault s = if after_fault then guess_of (hunted_in s) else []

  -- there is a fault in a stretch: then the next one comes after a fault, and not after a cut
  abbrev pub has_fault : Stretch → Bool
  has_fault s = not (is_none (read reads way s).fault)

  -- the last of these stretches has a fault; where there are none, this is so
  abbrev pub ends_in_fault : Bool → List Stretch → Bool
  ends_in_fault after_fault [] = after_fault
  ends_in_fault after_fault (s ∷ more) = ends_in_fault (has_fault s) more

  -- What stretches say with their guesses, of which the first comes after a fault or not. A stretch that hunts says
  -- nothing before it locks; so its guesses come first.
  abbrev pub told_near : Bool → List Stretch → List (Said (Heard V) × Place)
  told_near after_fault [] = []
  told_near after_fault (s ∷ more) =
      (guessed_in after_fault s ++ told reads way s) ++ told_near (has_fault s) more

  abbrev pub near_of : Stretches → List (Said (Heard V) × Place)
  near_of r = told_near false (r.past ++ r.now ∷ [])

  -- what stretches say, with guesses or without
  abbrev pub said_of : Bool → Stretches → List (Said (Heard V) × Place)
  said_of guesses r = if guesses then near_of r else (heard_of reads way r).given
