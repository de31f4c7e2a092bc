-- The recovering reading in words, over a list without marks.
use Rattle.std.specs.Prelude.{◌≡◌, ℕ, ◌-◌, List, [], ◌∷◌, ◌++◌, length, drop, Bool, false, None, is_none}
use Rattle.trace_values.specs.Placed.{Placed}
use Rattle.trace_values.specs.Stream.{Stream, Settled}
use Rattle.stretch_readings.specs.Stretches.{Resumption, Stretch, Stretches, renewed}

module _ {V : Type 0} (reads : Bool → List Placed → Stream V) (way : Resumption) where
  -- The units u from the beginning of a stretch on, which hunts or not and counts from n. Their reading has no fault,
  -- and the stretch is the last one. Or its first fault is at the unit f; then the next stretch begins at the first
  -- unit that is taken again, and counts the units of the unfinished item before that one.
  abbrev pub Goes : Bool → ℕ → List Placed → List Stretch → Stretch → Type 0
  Goes hunts n u [] last = (last ≡ record { hunts = hunts; count = n; units = u }) × ((reads hunts u).fault ≡ None)
  Goes hunts n u (s ∷ more) last =
      (before : List Placed) × (f : Placed) × (after : List Placed) × (u ≡ before ++ (f ∷ after))
      × (s ≡ record { hunts = hunts; count = n; units = before ++ f ∷ [] })
      × ((reads hunts before).fault ≡ None) × (is_none (reads hunts (before ++ f ∷ [])).fault ≡ false)
      × Goes way.hunts (renewed reads way s).count ((renewed reads way s).units ++ after) more last

  -- what a new stretch takes again is without a fault
  abbrev pub IsSound : Type 0
  IsSound = (h : Bool) (u : List Placed) (b : Placed) → (reads h u).fault ≡ None →
      is_none (reads h (u ++ b ∷ [])).fault ≡ false →
      (reads way.hunts (drop (length (u ++ b ∷ []) - way.again h (u ++ b ∷ [])) (u ++ b ∷ []))).fault ≡ None

-- stretches, with these before them
abbrev pub after_past : List Stretch → Stretches → Stretches
after_past past r = record { past = past ++ r.past; now = r.now }

-- a fault ends a reading
abbrev pub IsSettling : {V : Type 0} → (Bool → List Placed → Stream V) → Type 0
IsSettling reads =
    (h : Bool) (u w : List Placed) → is_none (reads h u).fault ≡ false → Settled (reads h u) (reads h (u ++ w))
