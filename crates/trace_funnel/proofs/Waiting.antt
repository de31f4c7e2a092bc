-- How long places wait.
use Rattle.std.proofs.Common.{◌≡◌, ℕ, zero, suc, ◌+◌, ◌-◌, ◌*◌, ◌^◌, ◌≤◌, List, [], ◌∷◌, ◌++◌, length, length-append}
use Rattle.std.proofs.Common.{map, take, Bool, true, false, cond, nat_lt, refl, sym, ◌∙◌, ap, subst, arith}
use Rattle.std.proofs.Common.{Option, None, Some}
use Rattle.std.specs.Prelude.{◌==◌}
use Rattle.std.specs.List.{AllByRecursion}
use Rattle.std.proofs.lemmas.Bool.{lt-ltb}
use Rattle.std.proofs.lemmas.List.{length-map}
use Rattle.std.proofs.lemmas.Nat.{mul-le}
use Rattle.std.proofs.Math.Nat.{mul-le-mul_right}
use Rattle.trace_funnel.specs.Turns.{Place, is_busy, Found, first_busy, waits, served, longer}
use Rattle.trace_funnel.specs.Turns.{turn_of, turn, queue_of, waited_of, put}
use Rattle.trace_funnel.specs.Kept.{AreBounded}
use Rattle.trace_funnel.proofs.Places.{AreIdle, IsFound, found}

-- a place that waited at most so long, and not at all where it isn't busy
abbrev IsWithin : ℕ → Place → Type 0
IsWithin most p = (p.waited ≤ most) × (is_busy p ≡ false → p.waited ≡ 0)

abbrev more : ℕ → Place → Place
more n p = record { id = p.id; queue = p.queue; waited = p.waited + n }

within_waits : (n most : ℕ) (p : Place) → p.waited + n ≤ most → (is_busy p ≡ false → p.waited ≡ 0) →
    IsWithin most (waits n p)
within_waits n most p m z = by (is_busy p) refl where
  by : (t : Bool) → is_busy p ≡ t → IsWithin most (cond t (more n p) p)
  by true e = (m, λ o. absurd (let q : is_busy p ≡ false = o in let r = sym e ∙ q in cc))
  by false e = (omega (arith, m), z)

-- no place in a list has waited
abbrev AllZero : List Place → Type 0
AllZero [] = Unit {0}
AllZero (p ∷ ps) = (p.waited ≡ 0) × AllZero ps

module _ (hold : ℕ) where
  in_front : (a b : List Place) → AreIdle a → AreBounded hold (a ++ b) → AllZero a × AreBounded hold b
  in_front [] b i k = (tt, k)
  in_front (p ∷ a) b i k = let r = in_front a b i.1 k.2 in ((k.1 i.0, r.0), r.1)

  module _ (n : ℕ) (few : n ≤ hold) where
    idle_waits : (a : List Place) (q : Place) → AreIdle a → AllZero a → q.waited ≡ 0 →
        AreBounded hold (map (waits n) a ++ q ∷ [])
    idle_waits [] q i z w = (omega (arith, w), λ e. w, tt)
    idle_waits (p ∷ a) q i z w =
        let none : (waits n p).waited ≡ 0 = ap (λ t. let y : Place = cond t (more n p) p in y.waited) i.0 ∙ z.0 in
        (omega (arith, none), λ e. none, idle_waits a q i.1 z.1 w)

    busy_waits : (a t : List Place) → AreBounded hold a → 1 ≤ length t → AreBounded hold t →
        AreBounded hold (map (waits n) a ++ t)
    busy_waits [] t k l b = b
    busy_waits (p ∷ a) t k l b =
        let all = length-append (map (waits n) a) t in
        let same = length-map a (waits n) in
        let room : length a + 1 ≤ length (map (waits n) a ++ t) = omega (arith, all, same, l) in
        let bound = mul-le-mul_right hold room in
        let waited = k.0 in
        let r =
        within_waits n (length (map (waits n) a ++ t) * hold) p (omega (arith, bound, waited, few)) k.1
        in (r.0, r.1, busy_waits a t k.2 l b)

take_most : (n : ℕ) (l : List ℕ) → length (take n l) ≤ n
take_most zero l = omega arith
take_most (suc n) [] = omega arith
take_most (suc n) (x ∷ l) = let i = take_most n l in omega arith

pub turn_bounded : (hold : ℕ) (ps : List Place) → AreBounded hold ps → AreBounded hold (turn hold ps).places
turn_bounded hold ps k = by (first_busy ps) (found ps) where
  by : (o : Option Found) → IsFound ps o → AreBounded hold (turn_of hold ps o).places
  by None f = k
  by (Some f) g =
      let r = in_front hold f.before (f.place ∷ f.behind) g.1 (subst (AreBounded hold) g.0 k) in
      let n = length (take hold f.place.queue) in
      let few = take_most hold f.place.queue in
      let some = length-append (map (waits n) f.before) (served hold f.place ∷ []) in
      busy_waits hold n few f.behind (map (waits n) f.before ++ served hold f.place ∷ []) r.1.2
      (omega (arith, some)) (idle_waits hold n few f.before (served hold f.place) g.1 r.0 refl)

-- a byte more in a queue changes no waiting
pub put_bounded : (hold id b : ℕ) (ps : List Place) → AreBounded hold ps → AreBounded hold (put id b ps)
put_bounded hold id b [] k = tt
put_bounded hold id b (p ∷ ps) k = by (p.id == id) (put_bounded hold id b ps k.2) where
  most : p.waited ≤ length (put id b ps) * hold
  most = subst (λ (m : ℕ). p.waited ≤ m * hold) (sym (length-map ps _)) k.0

  by : (t : Bool) → AreBounded hold (put id b ps) → (let q : Place = cond t (longer b p) p in
      (q.waited ≤ length (put id b ps) * hold) × (is_busy q ≡ false → q.waited ≡ 0) × AreBounded hold (put id b ps))
  by false i = (most, k.1, i)
  by true i = (
    most,
    λ e. absurd (
        let a = length-append p.queue (b ∷ []) in
        let l = lt-ltb 0 (length (p.queue ++ b ∷ [])) (omega (arith, a)) in let r = sym l ∙ e in cc),
    i,
  )

-- no place waits longer than all others may give
pub waited_few : (hold x : ℕ) (ps : List Place) → AreBounded hold ps → waited_of x ps ≤ (length ps - 1) * hold
waited_few hold x [] b = omega arith
waited_few hold x (p ∷ ps) b = by (p.id == x) (waited_few hold x ps b.2) where
  less : (length ps - 1) * hold ≤ length ps * hold
  less = mul-le-mul_right hold (let e : length ps - 1 ≤ length ps = omega arith in e)

  same : suc (length ps) - 1 ≡ length ps
  same = omega arith

  by : (t : Bool) → waited_of x ps ≤ (length ps - 1) * hold →
      cond t p.waited (waited_of x ps) ≤ (suc (length ps) - 1) * hold
  by true i = subst (λ m. p.waited ≤ m * hold) (sym same) b.0
  by false i = subst (λ m. waited_of x ps ≤ m * hold) (sym same) (let l = less in omega (arith, l, i))

-- a place with no bytes does not wait
pub waited_idle : (hold x : ℕ) (ps : List Place) → AreBounded hold ps → queue_of x ps ≡ [] → waited_of x ps ≡ 0
waited_idle hold x [] b e = refl
waited_idle hold x (p ∷ ps) b e = by (p.id == x) e (waited_idle hold x ps b.2) where
  by : (t : Bool) → cond t p.queue (queue_of x ps) ≡ [] → (queue_of x ps ≡ [] → waited_of x ps ≡ 0) →
      cond t p.waited (waited_of x ps) ≡ 0
  by true e i = b.1 (ap (λ (l : List ℕ). nat_lt 0 (length l)) e)
  by false e i = i e

-- no place waits for long
pub all_few : (hold : ℕ) (ps : List Place) → AreBounded hold ps → length ps ≤ 16 → hold ≤ 15 →
    AllByRecursion (λ (p : Place). p.waited ≤ 2 ^ 32) ps
all_few hold [] b l h = tt
all_few hold (p ∷ ps) b l h =
    let m = mul-le (length ps) hold 16 15 (omega (arith, l)) h in
    let w = b.0 in
    (omega (arith, m, w), all_few hold ps b.2 (omega (arith, l)) h)
