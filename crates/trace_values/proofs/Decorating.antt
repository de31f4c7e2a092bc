-- A stream whose items are made of those of another grows as that one does.
use Rattle.std.proofs.Common.{◌≡◌, ℕ, List, [], ◌∷◌, ◌++◌, refl, ◌∙◌, ap, Option, None, Some}
use Rattle.trace_values.specs.Placed.{Place}
use Rattle.trace_values.specs.declared.step.Step.{Step}
use Rattle.trace_values.specs.declared.step.Step.TheVariants.{Quiet, Skipping, Item, Locked, Fault as Faulty}
use Rattle.trace_values.specs.Stream.{Said, Notice, Kept, Stream, Settled, Holds, Grows, given_by}
use Rattle.trace_values.specs.Decorated.{kept_if, decorate, carried, decorated}
use Rattle.trace_values.proofs.OneUnit.{AllOn, RisesOn}

-- what is made of a step whose item gives this
abbrev pub item_step : {W : Type 0} → ℕ → Option W → Step W
item_step half None = Quiet
item_step half (Some w) = Item half w

abbrev pub lock_step : {W : Type 0} → ℕ → ℕ → Option W → Step W
lock_step skipped half None = Skipping
lock_step skipped half (Some w) = Locked skipped half w

-- what is made of a step, by the state before it
abbrev pub step_with : {V W T : Type 0} → (T → V → Option W × T) → T → Step V → Step W
step_with make t Quiet = Quiet
step_with make t Skipping = Skipping
step_with make t (Item half v) = item_step half (make t v).0
step_with make t (Locked skipped half v) = lock_step skipped half (make t v).0
step_with make t (Faulty f) = Faulty f

-- the item of a lock gives a new one
abbrev pub GivesAtLock : {V W T : Type 0} → (T → V → Option W × T) → T → Step V → Type 0
GivesAtLock {W = W} make t (Locked skipped half v) = (w : W) × ((make t v).0 ≡ Some w)
GivesAtLock make t s = Unit {0}

module _ {V W T : Type 0} (make : T → V → Option W × T) where
  kept_append : (o : Option W) (p : Place) (xs ys : List (Said W × Place)) → kept_if o p (xs ++ ys) ≡ kept_if o p xs ++ ys
  kept_append None p xs ys = refl
  kept_append (Some w) p xs ys = refl

  pub decorate_append : (xs ys : List (Said V × Place)) (t : T) → decorate make t (xs ++ ys) ≡ decorate make t xs ++ decorate make (carried make t xs) ys
  decorate_append [] ys t = refl
  decorate_append ((Notice n, p) ∷ xs) ys t = ap (λ l. (Notice n, p) ∷ l) (decorate_append xs ys t)
  decorate_append ((Kept v, p) ∷ xs) ys t =
      ap (λ l. kept_if (make t v).0 p l) (decorate_append xs ys (make t v).1) ∙ kept_append (make t v).0 p (decorate make (make t v).1 xs) (decorate make (carried make (make t v).1 xs) ys)

  pub carried_append : (xs ys : List (Said V × Place)) (t : T) → carried make t (xs ++ ys) ≡ carried make (carried make t xs) ys
  carried_append [] ys t = refl
  carried_append ((Notice n, p) ∷ xs) ys t = carried_append xs ys t
  carried_append ((Kept v, p) ∷ xs) ys t = carried_append xs ys (make t v).1

  pub holds : (t : T) (units : ℕ) (old new : Stream V) → Holds units old new → Holds units (decorated make t old) (decorated make t new)
  holds t units old new h = record { given = ap (λ l. decorate make t l) h.given; held = h.held; skipped = h.skipped; locked = h.locked }

  pub settles : (t : T) (old new : Stream V) → Settled old new → Settled (decorated make t old) (decorated make t new)
  settles t old new s = record { given = ap (λ l. decorate make t l) s.given; fault = s.fault }

  -- one more unit, where the values' stream grows by a step
  more_given : (t : T) (old new : Stream V) (at : ℕ) (s : Step V) → Grows old new at s →
      decorate make t new.given ≡ decorate make t old.given ++ decorate make (carried make t old.given) (given_by at s)
  more_given t old new at s g = ap (λ l. decorate make t l) g.given ∙ decorate_append old.given (given_by at s) t

  pub grows : (t : T) (old new : Stream V) (at : ℕ) (s : Step V) → GivesAtLock make (carried make t old.given) s → Grows old new at s →
      Grows (decorated make t old) (decorated make t new) at (step_with make (carried make t old.given) s)
  grows t old new at Quiet k g = record { given = more_given t old new at Quiet g; fault = g.fault; hunt = g.hunt }
  grows t old new at Skipping k g = record { given = more_given t old new at Skipping g; fault = g.fault; hunt = g.hunt }
  grows t old new at (Item half v) k g = by (make (carried make t old.given) v).0 (more_given t old new at (Item half v) g) where
    by : (o : Option W) → decorate make t new.given ≡ decorate make t old.given ++ kept_if o (record { at = at; half = half }) [] → Grows (decorated make t old) (decorated make t new) at (item_step half o)
    by None e = record { given = e; fault = g.fault; hunt = g.hunt }
    by (Some w) e = record { given = e; fault = g.fault; hunt = g.hunt }
  grows t old new at (Locked skipped half v) k g = by (make (carried make t old.given) v).0 k.0 k.1 (more_given t old new at (Locked skipped half v) g) where
    by : (o : Option W) (w : W) → o ≡ Some w → decorate make t new.given ≡ decorate make t old.given ++ ((Notice skipped, record { at = at; half = half }) ∷ kept_if o (record { at = at; half = half }) []) →
        Grows (decorated make t old) (decorated make t new) at (lock_step skipped half o)
    by None w q e = cc
    by (Some x) w q e = record { given = e; fault = g.fault; hunt = g.hunt }
  grows t old new at (Faulty f) k g = record { given = more_given t old new at (Faulty f) g; fault = g.fault; hunt = g.hunt }

  -- and what is more is at its place
  on_kept : (o : Option W) (p : Place) (xs : List (Said W × Place)) (q : Place) → q ≡ p → AllOn p xs → AllOn p (kept_if o q xs)
  on_kept None p xs q e a = a
  on_kept (Some w) p xs q e a = (e, a)

  all_on : (xs : List (Said V × Place)) (p : Place) (t : T) → AllOn p xs → AllOn p (decorate make t xs)
  all_on [] p t a = tt
  all_on ((Notice n, q) ∷ xs) p t a = (a.0, all_on xs p t a.1)
  all_on ((Kept v, q) ∷ xs) p t a = on_kept (make t v).0 p (decorate make (make t v).1 xs) q a.0 (all_on xs p (make t v).1 a.1)

  pub rises_on : (t : T) (old new : Stream V) (p : Place) → RisesOn old new p → RisesOn (decorated make t old) (decorated make t new) p
  rises_on t old new p r = record {
    more = decorate make (carried make t old.given) r.more;
    given = ap (λ l. decorate make t l) r.given ∙ decorate_append old.given r.more t;
    all = all_on r.more p (carried make t old.given) r.all;
    fault = r.fault;
  }

  -- the state with one more unit
  abbrev pub carried_with : T → ℕ → Step V → T
  carried_with t at s = carried make t (given_by at s)

  pub carried_is : (t : T) (old new : Stream V) (at : ℕ) (s : Step V) → Grows old new at s → carried make t new.given ≡ carried_with (carried make t old.given) at s
  carried_is t old new at s g = ap (λ l. carried make t l) g.given ∙ carried_append old.given (given_by at s) t
