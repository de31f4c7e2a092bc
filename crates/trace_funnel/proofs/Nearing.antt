-- The place of an ID comes nearer with each turn, and then gives.
use Rattle.std.proofs.Common.{◌≡◌, ℕ, zero, suc, ◌+◌, ◌<◌, ◌≤◌, List, [], ◌∷◌, ◌++◌, length, length-drop}
use Rattle.std.proofs.Common.{map, take, drop, Bool, true, false, cond, refl, sym, ◌∙◌, ap, subst, ◌⊎◌, inl, inr, arith}
use Rattle.std.proofs.Common.{append-nil, Option, None, Some}
use Rattle.std.specs.Prelude.{◌==◌, not, if◌then◌else◌}
use Rattle.std.proofs.lemmas.Bool.{cases_lt, cases_eq, eq-eqb, ne_eqb, lt-ltb, le-ltb}
use Rattle.trace_funnel.specs.Turns.{Place, Found, first_busy, waits, served}
use Rattle.trace_funnel.specs.Turns.{turn_of, turn, queue_of, turns_while, is_full}
use Rattle.trace_funnel.specs.Kept.{count}
use Rattle.trace_funnel.proofs.Places.{count_append, waits_at, count_waits, AreIdle, IsFound, found}
use Rattle.trace_funnel.proofs.Turning.{same_count, queue_before, queue_after, others, turn_and, stay}

-- how many places are before that of an ID
abbrev pub ahead : ℕ → List Place → ℕ
ahead x [] = 0
ahead x (p ∷ ps) = if p.id == x then 0 else ahead x ps + 1

ahead_append : (x : ℕ) (a b : List Place) → count x a ≡ 0 → ahead x (a ++ b) ≡ length a + ahead x b
ahead_append x [] b h = omega arith
ahead_append x (p ∷ a) b h = by (p.id == x) h (ahead_append x a b) where
  by : (t : Bool) → cond t (count x a + 1) (count x a) ≡ 0 →
      (count x a ≡ 0 → ahead x (a ++ b) ≡ length a + ahead x b) →
      cond t 0 (ahead x (a ++ b) + 1) ≡ suc (length a) + ahead x b
  by true h f = absurd (omega arith)
  by false h f = (let e = f h in omega (arith, e))

ahead_here : (x : ℕ) (a b : List Place) → 1 ≤ count x a → ahead x (a ++ b) ≡ ahead x a
ahead_here x [] b h = absurd (omega arith)
ahead_here x (p ∷ a) b h = by (p.id == x) h (ahead_here x a b) where
  by : (t : Bool) → 1 ≤ cond t (count x a + 1) (count x a) → (1 ≤ count x a → ahead x (a ++ b) ≡ ahead x a) →
      cond t 0 (ahead x (a ++ b) + 1) ≡ cond t 0 (ahead x a + 1)
  by true h f = refl
  by false h f = ap (λ m. m + 1) (f h)

ahead_waits : (x n : ℕ) (a : List Place) → ahead x (map (waits n) a) ≡ ahead x a
ahead_waits x n [] = refl
ahead_waits x n (p ∷ a) =
    ap (λ i. cond (i == x) 0 (ahead x (map (waits n) a) + 1)) (waits_at n p).0
    ∙ ap (λ m. cond (p.id == x) 0 (m + 1)) (ahead_waits x n a)

pub ahead_few : (x : ℕ) (ps : List Place) → 1 ≤ count x ps → ahead x ps < length ps
ahead_few x [] h = absurd (omega arith)
ahead_few x (p ∷ ps) h = by (p.id == x) h (ahead_few x ps) where
  by : (t : Bool) → 1 ≤ cond t (count x ps + 1) (count x ps) → (1 ≤ count x ps → ahead x ps < length ps) →
      cond t 0 (ahead x ps + 1) < suc (length ps)
  by true h f = omega arith
  by false h f = (let e = f h in omega (arith, e))

-- an ID that has bytes has no place among idle ones
idle_none : (x : ℕ) (a b : List Place) → AreIdle a → 1 ≤ length (queue_of x (a ++ b)) → count x a ≡ 0
idle_none x [] b i h = refl
idle_none x (p ∷ a) b i h = by (p.id == x) h (idle_none x a b i.1) where
  empty : 1 ≤ length p.queue → ⊥
  empty l = let k = lt-ltb 0 (length p.queue) l in let r = sym k ∙ i.0 in cc

  by : (t : Bool) → 1 ≤ length (cond t p.queue (queue_of x (a ++ b))) →
      (1 ≤ length (queue_of x (a ++ b)) → count x a ≡ 0) → cond t (count x a + 1) (count x a) ≡ 0
  by true h f = absurd (empty h)
  by false h f = f h

-- whether a queue is full, as a bound
pub full_long : (depth id : ℕ) (ps : List Place) → is_full depth id ps ≡ true → depth ≤ length (queue_of id ps)
full_long depth id ps e = elim (cases_lt (length (queue_of id ps)) depth) [
  | inl l ↦ absurd (let k = ap not (lt-ltb (length (queue_of id ps)) depth l) in let r = sym k ∙ e in cc)
  | inr l ↦ l
]

pub full_short : (depth id : ℕ) (ps : List Place) → is_full depth id ps ≡ false → length (queue_of id ps) < depth
full_short depth id ps e = elim (cases_lt (length (queue_of id ps)) depth) [
  | inl l ↦ l
  | inr l ↦ absurd (let k = ap not (le-ltb (length (queue_of id ps)) depth l) in let r = sym k ∙ e in cc)
]

module _ (hold depth id : ℕ) (h1 : 1 ≤ hold) (d1 : 1 ≤ depth) where
  abbrev Has : List Place → Type 0
  Has ps = (count id ps ≡ 1) × (length (queue_of id ps) ≤ depth)

  abbrev Nearer : List Place → List Place → Type 0
  Nearer ps qs = (length (queue_of id qs) < depth) ⊎ (ahead id qs < ahead id ps) × Has qs

  module _ (ps : List Place) (f : Found) (parts : ps ≡ f.before ++ (f.place ∷ f.behind))
      (none : count id f.before ≡ 0) (has : Has ps) where
    abbrev qs : List Place
    qs = (turn_of hold ps (Some f)).places

    few : count id ps ≤ 1
    few = let one = has.0 in omega (arith, one)

    gives : f.place.id ≡ id → length (queue_of id qs) < depth
    gives e =
        let t = eq-eqb f.place.id id e in
        let old = ap length (queue_before hold ps f parts id few
        ∙ ap (λ b. cond b f.place.queue (queue_of id (others hold ps f parts))) t) in
        let new = ap length (queue_after hold ps f parts id few
        ∙ ap (λ b. cond b (drop hold f.place.queue) (queue_of id (others hold ps f parts))) t) in
        let d = length-drop hold f.place.queue in
        let short = has.1 in
        omega (arith, old, new, d, short)

    comes : (f.place.id ≡ id → ⊥) → Nearer ps qs
    comes o =
        let n = length (take hold f.place.queue) in
        let t = ne_eqb f.place.id id o in
        let skip = ap (λ b. cond b (count id f.behind + 1) (count id f.behind)) t in
        let all = ap (count id) parts ∙ count_append id f.before (f.place ∷ f.behind) in
        let waiting = count_waits id n f.behind in
        let one = has.0 in
        let far = ap (ahead id) parts ∙ ahead_append id f.before (f.place ∷ f.behind) none
        ∙ ap (λ b. length f.before + cond b 0 (ahead id f.behind + 1)) t in
        let near = ahead_here id (map (waits n) f.behind) (map (waits n) f.before ++ served hold f.place ∷ [])
        (omega (arith, all, skip, waiting, none, one)) ∙ ahead_waits id n f.behind in
        let same = ap length (queue_after hold ps f parts id few
        ∙ ap (λ b. cond b (drop hold f.place.queue) (queue_of id (others hold ps f parts))) t
        ∙ sym (queue_before hold ps f parts id few
        ∙ ap (λ b. cond b f.place.queue (queue_of id (others hold ps f parts))) t)) in
        let short = has.1 in
        inr (omega (arith, far, near), (same_count hold ps f parts id ∙ has.0, omega (arith, same, short)))

  pub nearer : (ps : List Place) → Has ps → depth ≤ length (queue_of id ps) → Nearer ps (turn hold ps).places
  nearer ps has full = by (first_busy ps) (found ps) where
    by : (o : Option Found) → IsFound ps o → Nearer ps (turn_of hold ps o).places
    by None g = absurd (
        let none = idle_none id ps [] g
        (subst (λ (l : List Place). 1 ≤ length (queue_of id l)) (sym (append-nil ps)) (omega (arith, full, d1))) in
        let one = has.0 in omega (arith, none, one))
    by (Some f) g =
        let none = idle_none id f.before (f.place ∷ f.behind) g.1
        (subst (λ (l : List Place). 1 ≤ length (queue_of id l)) g.0 (omega (arith, full, d1))) in
        elim (cases_eq f.place.id id) [
          | inl e ↦ inl (gives ps f g.0 none has e)
          | inr o ↦ comes ps f g.0 none has o
        ]

  abbrev rest : ℕ → List Place → List Place
  rest most ps = (turns_while (is_full depth id) hold most ps).places

  stays : (most : ℕ) (ps : List Place) → length (queue_of id ps) < depth → rest most ps ≡ ps
  stays zero ps l = refl
  stays (suc most) ps l =
      ap (λ v. (cond (not v) (turn_and hold ps (turns_while (is_full depth id) hold most (turn hold ps).places))
      (stay ps)).places) (lt-ltb (length (queue_of id ps)) depth l)

  pub has_room : (most : ℕ) (ps : List Place) → Has ps → ahead id ps < most →
      length (queue_of id (rest most ps)) < depth
  has_room zero ps k l = absurd (omega arith)
  has_room (suc most) ps k l = by (is_full depth id ps) refl (has_room most (turn hold ps).places) where
    by : (t : Bool) → is_full depth id ps ≡ t → (Has (turn hold ps).places → ahead id (turn hold ps).places < most →
        length (queue_of id (rest most (turn hold ps).places)) < depth) →
        length (queue_of id (cond t (turn_and hold ps
        (turns_while (is_full depth id) hold most (turn hold ps).places)) (stay ps)).places) < depth
    by false e i = full_short depth id ps e
    by true e i = elim (nearer ps k (full_long depth id ps e)) [
      | inl s ↦
          subst (λ (qs : List Place). length (queue_of id qs) < depth) (sym (stays most (turn hold ps).places s)) s
      | inr c ↦ (let c0 = c.0 in i c.1 (omega (arith, c0, l)))
    ]
