-- Places and their IDs: how many there are of one, and where its queue is.
use Rattle.std.proofs.Common.{◌≡◌, ℕ, ◌+◌, ◌≤◌, List, [], ◌∷◌, ◌++◌, map, Bool, true, false, cond, refl, sym, ◌∙◌, ap}
use Rattle.std.proofs.Common.{arith, inl, inr, append-nil, Option, None, Some}
use Rattle.std.specs.Prelude.{◌==◌}
use Rattle.std.proofs.lemmas.Bool.{cases_lt}
use Rattle.trace_funnel.specs.declared.tagged.Tagged.{Tagged}
use Rattle.trace_funnel.specs.Turns.{Place, is_busy, Found, found_on, first_busy, waits, queue_of, waited_of}
use Rattle.trace_funnel.specs.Kept.{bytes_for, count}

pub count_append : (x : ℕ) (a b : List Place) → count x (a ++ b) ≡ count x a + count x b
count_append x [] b = omega arith
count_append x (p ∷ a) b = by (p.id == x) (count_append x a b) where
  by : (t : Bool) → count x (a ++ b) ≡ count x a + count x b →
      cond t (count x (a ++ b) + 1) (count x (a ++ b)) ≡ cond t (count x a + 1) (count x a) + count x b
  by true e = omega (arith, e)
  by false e = e

pub count_swap : (x : ℕ) (a b : List Place) → count x (b ++ a) ≡ count x (a ++ b)
count_swap x a b = let e = count_append x a b in let f = count_append x b a in omega (arith, e, f)

pub bytes_append : (x : ℕ) (a b : List Tagged) → bytes_for x (a ++ b) ≡ bytes_for x a ++ bytes_for x b
bytes_append x [] b = refl
bytes_append x (y ∷ a) b = by (y.id == x) (bytes_append x a b) where
  by : (t : Bool) → bytes_for x (a ++ b) ≡ bytes_for x a ++ bytes_for x b →
      cond t (y.byte ∷ bytes_for x (a ++ b)) (bytes_for x (a ++ b))
      ≡ cond t (y.byte ∷ bytes_for x a) (bytes_for x a) ++ bytes_for x b
  by true e = ap (λ l. y.byte ∷ l) e
  by false e = e

-- what is seen of the place of an ID: its queue, or its waited number
module _ {A : Type 0} (get : Place → A) (none : A) where
  abbrev pub seen : ℕ → List Place → A
  seen x [] = none
  seen x (p ∷ ps) = cond (p.id == x) (get p) (seen x ps)

  pub past : (x : ℕ) (a b : List Place) → count x a ≡ 0 → seen x (a ++ b) ≡ seen x b
  past x [] b h = refl
  past x (p ∷ a) b h = by (p.id == x) h (past x a b) where
    by : (t : Bool) → cond t (count x a + 1) (count x a) ≡ 0 → (count x a ≡ 0 → seen x (a ++ b) ≡ seen x b) →
        cond t (get p) (seen x (a ++ b)) ≡ seen x b
    by true h f = absurd (omega arith)
    by false h f = f h

  here : (x : ℕ) (a b : List Place) → 1 ≤ count x a → seen x (a ++ b) ≡ seen x a
  here x [] b h = absurd (omega arith)
  here x (p ∷ a) b h = by (p.id == x) h (here x a b) where
    by : (t : Bool) → 1 ≤ cond t (count x a + 1) (count x a) → (1 ≤ count x a → seen x (a ++ b) ≡ seen x a) →
        cond t (get p) (seen x (a ++ b)) ≡ cond t (get p) (seen x a)
    by true h f = refl
    by false h f = f h

  missing : (x : ℕ) (a : List Place) → count x a ≡ 0 → seen x a ≡ none
  missing x a h = ap (seen x) (sym (append-nil a)) ∙ past x a [] h

  -- where an ID has one place at most, it is seen whichever part of a list comes first
  pub swap : (x : ℕ) (a b : List Place) → count x (a ++ b) ≤ 1 → seen x (b ++ a) ≡ seen x (a ++ b)
  swap x a b h = elim (cases_lt 0 (count x a)) [
    | inl one ↦ (
        let all = count_append x a b in
        let no_other : count x b ≡ 0 = omega (arith, h, one, all) in
        past x b a no_other ∙ sym (here x a b one))
    | inr few ↦ (
        let no_first : count x a ≡ 0 = omega (arith, few) in
        elim (cases_lt 0 (count x b)) [
          | inl one ↦ here x b a one ∙ sym (past x a b no_first)
          | inr fewer ↦ (
              let no_other : count x b ≡ 0 = omega (arith, fewer) in
              past x b a no_other ∙ missing x a no_first ∙ sym (past x a b no_first ∙ missing x b no_other))
        ])
  ]

queue_seen : (x : ℕ) (ps : List Place) → queue_of x ps ≡ seen (λ p. p.queue) [] x ps
queue_seen x [] = refl
queue_seen x (p ∷ ps) = ap (λ q. cond (p.id == x) p.queue q) (queue_seen x ps)

waited_seen : (x : ℕ) (ps : List Place) → waited_of x ps ≡ seen (λ p. p.waited) 0 x ps
waited_seen x [] = refl
waited_seen x (p ∷ ps) = ap (λ m. cond (p.id == x) p.waited m) (waited_seen x ps)

pub queue_swap : (x : ℕ) (a b : List Place) → count x (a ++ b) ≤ 1 → queue_of x (b ++ a) ≡ queue_of x (a ++ b)
queue_swap x a b h = queue_seen x (b ++ a) ∙ swap (λ p. p.queue) [] x a b h ∙ sym (queue_seen x (a ++ b))

pub waited_swap : (x : ℕ) (a b : List Place) → count x (a ++ b) ≤ 1 → waited_of x (b ++ a) ≡ waited_of x (a ++ b)
waited_swap x a b h = waited_seen x (b ++ a) ∙ swap (λ p. p.waited) 0 x a b h ∙ sym (waited_seen x (a ++ b))

-- waiting changes no ID and no queue
pub waits_at : (n : ℕ) (p : Place) → ((waits n p).id ≡ p.id) × ((waits n p).queue ≡ p.queue)
waits_at n p = by (is_busy p) where
  by : (t : Bool) → (let q : Place = cond t (record { id = p.id; queue = p.queue; waited = p.waited + n }) p in
      (q.id ≡ p.id) × (q.queue ≡ p.queue))
  by true = (refl, refl)
  by false = (refl, refl)

pub count_waits : (x n : ℕ) (a : List Place) → count x (map (waits n) a) ≡ count x a
count_waits x n [] = refl
count_waits x n (p ∷ a) =
    let m = count x (map (waits n) a) in
    ap (λ i. cond (i == x) (m + 1) m) (waits_at n p).0 ∙ ap (λ m. cond (p.id == x) (m + 1) m) (count_waits x n a)

pub queue_waits : (x n : ℕ) (a : List Place) → queue_of x (map (waits n) a) ≡ queue_of x a
queue_waits x n [] = refl
queue_waits x n (p ∷ a) =
    let q = queue_of x (map (waits n) a) in
    ap (λ i. cond (i == x) (waits n p).queue q) (waits_at n p).0 ∙ ap (λ l. cond (p.id == x) l q) (waits_at n p).1
    ∙ ap (λ l. cond (p.id == x) p.queue l) (queue_waits x n a)

-- what is found is where it was, and no place before it is busy
abbrev pub AreIdle : List Place → Type 0
AreIdle [] = Unit {0}
AreIdle (p ∷ ps) = (is_busy p ≡ false) × AreIdle ps

abbrev pub IsFound : List Place → Option Found → Type 0
IsFound ps None = AreIdle ps
IsFound ps (Some f) = (ps ≡ f.before ++ (f.place ∷ f.behind)) × AreIdle f.before × (is_busy f.place ≡ true)

pub found : (ps : List Place) → IsFound ps (first_busy ps)
found [] = tt
found (p ∷ ps) = by (is_busy p) refl (first_busy ps) (found ps) where
  by : (t : Bool) → is_busy p ≡ t → (o : Option Found) → IsFound ps o → IsFound (p ∷ ps) (found_on t p ps o)
  by true e o f = (refl, tt, e)
  by false e None f = (e, f)
  by false e (Some g) f = (ap (λ l. p ∷ l) f.0, (e, f.1), f.2)
