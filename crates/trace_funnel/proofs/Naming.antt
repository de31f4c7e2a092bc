-- Where all places are of sources other than 0, what they give is.
use Rattle.std.proofs.Common.{◌≡◌, ℕ, zero, suc, ◌<◌, List, [], ◌∷◌, ◌++◌, length, map, take}
use Rattle.std.proofs.Common.{Bool, true, false, cond, sym, subst, arith, Option, None, Some}
use Rattle.std.specs.Prelude.{◌==◌, ◌&&◌, not, nat_le}
use Rattle.std.specs.List.{All, AllByRecursion, list_any}
use Rattle.std.proofs.lemmas.Bool.{and_parts}
use Rattle.std.proofs.lemmas.Bool.Decides.{nat_tests}
use Rattle.std.proofs.lemmas.List.Elements.{All-from_recursion, recursion_from_All}
use Rattle.trace_funnel.specs.declared.tagged.Tagged.{Tagged}
use Rattle.trace_funnel.specs.Turns.{Place, Found, first_busy, waits, served, longer, tagged, Turned, turn_of}
use Rattle.trace_funnel.specs.Turns.{turn, turns_while, put, is_full, offer, empty}
use Rattle.trace_funnel.specs.Order.{are_apart}
use Rattle.trace_funnel.proofs.Places.{waits_at, IsFound, found}
use Rattle.trace_funnel.proofs.Turning.{turn_and, stay}
use Rattle.trace_funnel.proofs.Shortness.{joined, parted}

abbrev pub IsNamed : Place → Type 0
IsNamed p = 0 < p.id

abbrev pub IsOfSource : Tagged → Type 0
IsOfSource x = 0 < x.id

abbrev AreNamed : List Place → Type 0
AreNamed ps = AllByRecursion IsNamed ps

abbrev AreOfSources : List Tagged → Type 0
AreOfSources t = AllByRecursion IsOfSource t

-- what a turn or several give, and their places
abbrev Keeps : Turned → Type 0
Keeps t = AreOfSources t.out × AreNamed t.places

waiting : (n : ℕ) (ps : List Place) → AreNamed ps → AreNamed (map (waits n) ps)
waiting n [] h = tt
waiting n (p ∷ ps) h = (subst (λ id. 0 < id) (sym (waits_at n p).0) h.0, waiting n ps h.1)

all_tagged : (id : ℕ) (l : List ℕ) → 0 < id → AreOfSources (tagged id l)
all_tagged id [] h = tt
all_tagged id (b ∷ l) h = (h, all_tagged id l h)

turn_keeps : (hold : ℕ) (ps : List Place) → AreNamed ps → Keeps (turn hold ps)
turn_keeps hold ps h = by (first_busy ps) (found ps) where
  by : (o : Option Found) → IsFound ps o → Keeps (turn_of hold ps o)
  by None f = (tt, h)
  by (Some v) f =
      let n = length (take hold v.place.queue) in
      let parts = parted IsNamed v.before (v.place ∷ v.behind) (subst AreNamed f.0 h) in (
        all_tagged v.place.id (take hold v.place.queue) parts.1.0,
        joined IsNamed (map (waits n) v.behind) (map (waits n) v.before ++ served hold v.place ∷ [])
            (waiting n v.behind parts.1.1)
            (joined IsNamed (map (waits n) v.before) (served hold v.place ∷ []) (waiting n v.before parts.0)
            (parts.1.0, tt)),
      )

turns_keep : (test : List Place → Bool) (hold most : ℕ) (ps : List Place) → AreNamed ps →
    Keeps (turns_while test hold most ps)
turns_keep test hold zero ps h = (tt, h)
turns_keep test hold (suc most) ps h =
    by (test ps) (turn_keeps hold ps h) (turns_keep test hold most (turn hold ps).places (turn_keeps hold ps h).1) where
      rest : Turned
      rest = turns_while test hold most (turn hold ps).places

      by : (t : Bool) → Keeps (turn hold ps) → Keeps rest → Keeps (cond t (turn_and hold ps rest) (stay ps))
      by true one more = (joined IsOfSource (turn hold ps).out rest.out one.0 more.0, more.1)
      by false one more = (tt, h)

put_keeps : (id byte : ℕ) (ps : List Place) → AreNamed ps → AreNamed (put id byte ps)
put_keeps id byte [] h = tt
put_keeps id byte (p ∷ ps) h = (by (p.id == id), put_keeps id byte ps h.1) where
  by : (t : Bool) → IsNamed (cond t (longer byte p) p)
  by true = h.0
  by false = h.0

-- of any turned
abbrev pub GivesOfSources : Turned → Type 0
GivesOfSources t = All IsOfSource t.out × All IsNamed t.places

all : (t : Turned) → Keeps t → GivesOfSources t
all t k = (All-from_recursion IsOfSource t.out k.0, All-from_recursion IsNamed t.places k.1)

pub turn_named : (hold : ℕ) (ps : List Place) → All IsNamed ps → GivesOfSources (turn hold ps)
turn_named hold ps h = all (turn hold ps) (turn_keeps hold ps (recursion_from_All IsNamed ps h))

pub offer_named : (hold depth : ℕ) (ps : List Place) (id byte : ℕ) → All IsNamed ps →
    GivesOfSources (offer hold depth ps id byte)
offer_named hold depth ps id byte h =
    let t = turns_keep (is_full depth id) hold (length ps) ps (recursion_from_All IsNamed ps h) in
    all (offer hold depth ps id byte)
    (t.0, put_keeps id byte (turns_while (is_full depth id) hold (length ps) ps).places t.1)

pub empty_named : (ids : List ℕ) → are_apart ids ≡ true → All IsNamed (empty ids)
empty_named ids h = All-from_recursion IsNamed (empty ids) (each ids h) where
  above : (n : ℕ) → nat_le 1 n ≡ true → 0 < n
  above n e = grind (arith, nat_tests)

  each : (ids : List ℕ) → are_apart ids ≡ true → AreNamed (empty ids)
  each [] h = tt
  each (x ∷ ids) h =
      let parts = and_parts (nat_le 1 x && nat_le x 126 && not (list_any (λ z. z == x) ids)) (are_apart ids) h in
      let named = and_parts (nat_le 1 x && nat_le x 126) (not (list_any (λ z. z == x) ids)) parts.0 in
      (above x (and_parts (nat_le 1 x) (nat_le x 126) named.0).0, each ids parts.1)
