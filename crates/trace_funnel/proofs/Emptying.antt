-- Each turn of a funnel with bytes gives at least one.
use Rattle.std.proofs.Common.{◌≡◌, ℕ, zero, suc, ◌+◌, ◌<◌, ◌≤◌, List, [], ◌∷◌, ◌++◌, length, length-drop, map, take}
use Rattle.std.proofs.Common.{Bool, true, false, cond, nat_lt, refl, sym, ◌∙◌, ap, arith, Option, None, Some}
use Rattle.std.proofs.lemmas.Bool.{ltb-true, ltb-false, lt-ltb}
use Rattle.trace_funnel.specs.Turns.{Place, Found, first_busy, waits, served, turn_of, turn, turns_while, load}
use Rattle.trace_funnel.proofs.Places.{waits_at, AreIdle, IsFound, found}
use Rattle.trace_funnel.proofs.Turning.{turn_and, stay}

pub load_append : (a b : List Place) → load (a ++ b) ≡ load a + load b
load_append [] b = omega arith
load_append (p ∷ a) b = let i = load_append a b in omega (arith, i)

pub load_waits : (n : ℕ) (a : List Place) → load (map (waits n) a) ≡ load a
load_waits n [] = refl
load_waits n (p ∷ a) =
    ap (λ (q : List ℕ). length q + load (map (waits n) a)) (waits_at n p).1
    ∙ ap (λ m. length p.queue + m) (load_waits n a)

pub idle_load : (a : List Place) → AreIdle a → load a ≡ 0
idle_load [] i = refl
idle_load (p ∷ a) i = (let e = empty p.queue i.0 in let r = idle_load a i.1 in omega (arith, e, r)) where
  empty : (l : List ℕ) → nat_lt 0 (length l) ≡ false → length l ≡ 0
  empty [] e = refl
  empty (y ∷ l) e = absurd (let k = lt-ltb 0 (length (y ∷ l)) (omega arith) in let r = sym k ∙ e in cc)

pub less_load : (hold : ℕ) (ps : List Place) → 1 ≤ hold → 0 < load ps → load (turn hold ps).places < load ps
less_load hold ps h l = by (first_busy ps) (found ps) where
  by : (o : Option Found) → IsFound ps o → load (turn_of hold ps o).places < load ps
  by None f = absurd (let z = idle_load ps f in omega (arith, z, l))
  by (Some v) f =
      let n = length (take hold v.place.queue) in
      let a = load_append (map (waits n) v.behind) (map (waits n) v.before ++ served hold v.place ∷ []) in
      let b = load_append (map (waits n) v.before) (served hold v.place ∷ []) in
      let c = load_waits n v.behind in
      let d = load_waits n v.before in
      let e = ap load f.0 in
      let g = load_append v.before (v.place ∷ v.behind) in
      let s = length-drop hold v.place.queue in
      let t = ltb-true 0 (length v.place.queue) f.2 in
      omega (arith, a, b, c, d, e, g, s, t, h)

abbrev pub has_bytes : List Place → Bool
has_bytes ps = nat_lt 0 (load ps)

pub drained : (hold most : ℕ) (ps : List Place) → 1 ≤ hold → load ps ≤ most →
    load (turns_while has_bytes hold most ps).places ≡ 0
drained hold zero ps h l = omega arith
drained hold (suc most) ps h l = by (has_bytes ps) refl (drained hold most (turn hold ps).places h) where
  by : (t : Bool) → has_bytes ps ≡ t →
      (load (turn hold ps).places ≤ most → load (turns_while has_bytes hold most (turn hold ps).places).places ≡ 0) →
      load (cond t (turn_and hold ps (turns_while has_bytes hold most (turn hold ps).places)) (stay ps)).places ≡ 0
  by true e i = i (let k = less_load hold ps h (ltb-true 0 (load ps) e) in omega (arith, k, l))
  by false e i = let k = ltb-false 0 (load ps) e in omega (arith, k)
