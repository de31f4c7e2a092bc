-- No queue has more bytes than it may have.
use Rattle.std.proofs.Common.{◌≡◌, ℕ, ◌+◌, ◌<◌, ◌≤◌, List, [], ◌∷◌, ◌++◌, length, length-append, length-drop}
use Rattle.std.proofs.Common.{map, take, sym, subst, arith, Option, None, Some, Bool, true, false, cond}
use Rattle.std.specs.Prelude.{◌==◌}
use Rattle.std.specs.List.{AllByRecursion}
use Rattle.trace_funnel.specs.Turns.{Place, Found, first_busy, waits, served, longer, empty, turn_of, turn, queue_of, put}
use Rattle.trace_funnel.specs.Kept.{count}
use Rattle.trace_funnel.proofs.Places.{waits_at, IsFound, found}

-- what holds of two lists holds of both, one after the other
module _ {X : Type 0} (P : X → Type 0) where
  pub joined : (a b : List X) → AllByRecursion P a → AllByRecursion P b → AllByRecursion P (a ++ b)
  joined [] b h k = k
  joined (p ∷ a) b h k = (h.0, joined a b h.1 k)

  pub parted : (a b : List X) → AllByRecursion P (a ++ b) → AllByRecursion P a × AllByRecursion P b
  parted [] b h = (tt, h)
  parted (p ∷ a) b h = let r = parted a b h.1 in ((h.0, r.0), r.1)

module _ (depth : ℕ) where
  abbrev pub IsShort : Place → Type 0
  IsShort p = length p.queue ≤ depth

  abbrev pub AreShort : List Place → Type 0
  AreShort ps = AllByRecursion IsShort ps

  pub empty_short : (ids : List ℕ) → AreShort (empty ids)
  empty_short [] = tt
  empty_short (x ∷ ids) = (omega arith, empty_short ids)

  waits_short : (n : ℕ) (ps : List Place) → AreShort ps → AreShort (map (waits n) ps)
  waits_short n [] h = tt
  waits_short n (p ∷ ps) h =
      (subst (λ (l : List ℕ). length l ≤ depth) (sym (waits_at n p).1) h.0, waits_short n ps h.1)

  pub turn_short : (hold : ℕ) (ps : List Place) → AreShort ps → AreShort (turn hold ps).places
  turn_short hold ps h = by (first_busy ps) (found ps) where
    by : (o : Option Found) → IsFound ps o → AreShort (turn_of hold ps o).places
    by None f = h
    by (Some f) g =
        let n = length (take hold f.place.queue) in
        let parts = parted IsShort f.before (f.place ∷ f.behind) (subst AreShort g.0 h) in
        let less = length-drop hold f.place.queue in
        let one = parts.1.0 in
        joined IsShort (map (waits n) f.behind) (map (waits n) f.before ++ served hold f.place ∷ [])
        (waits_short n f.behind parts.1.1)
        (joined IsShort (map (waits n) f.before) (served hold f.place ∷ []) (waits_short n f.before parts.0)
        (omega (arith, less, one), tt))

  put_other_short : (x b : ℕ) (ps : List Place) → count x ps ≡ 0 → AreShort ps → AreShort (put x b ps)
  put_other_short x b [] n h = tt
  put_other_short x b (p ∷ ps) n h = by (p.id == x) n (put_other_short x b ps) where
    by : (t : Bool) → cond t (count x ps + 1) (count x ps) ≡ 0 → (count x ps ≡ 0 → AreShort ps → AreShort (put x b ps)) →
        (length (cond t (longer b p) p).queue ≤ depth) × AreShort (put x b ps)
    by true n f = absurd (omega arith)
    by false n f = (h.0, f n h.1)

  pub put_short : (x b : ℕ) (ps : List Place) → count x ps ≤ 1 → length (queue_of x ps) < depth → AreShort ps →
      AreShort (put x b ps)
  put_short x b [] n l h = tt
  put_short x b (p ∷ ps) n l h = by (p.id == x) n l (put_short x b ps) where
    by : (t : Bool) → cond t (count x ps + 1) (count x ps) ≤ 1 → length (cond t p.queue (queue_of x ps)) < depth →
        (count x ps ≤ 1 → length (queue_of x ps) < depth → AreShort ps → AreShort (put x b ps)) →
        (length (cond t (longer b p) p).queue ≤ depth) × AreShort (put x b ps)
    by true n l f =
        let a = length-append p.queue (b ∷ []) in
        (omega (arith, a, l), put_other_short x b ps (omega (arith, n)) h.1)
    by false n l f = (h.0, f n l h.1)

  -- nor has that of an ID
  pub queue_short : (x : ℕ) (ps : List Place) → AreShort ps → length (queue_of x ps) ≤ depth
  queue_short x [] h = omega arith
  queue_short x (p ∷ ps) h = by (p.id == x) (queue_short x ps h.1) where
    by : (t : Bool) → length (queue_of x ps) ≤ depth → length (cond t p.queue (queue_of x ps)) ≤ depth
    by true i = h.0
    by false i = i
