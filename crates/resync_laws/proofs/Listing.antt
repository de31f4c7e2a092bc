-- What the events of all sources in a rest are, against those in the whole, run by run.
use Rattle.std.proofs.Common.{◌≡◌, ℕ, suc, ◌+◌, ◌*◌, ◌<◌, ◌≤◌, List, [], ◌∷◌, ◌++◌, map, refl, sym, ◌∙◌, ap, subst, inl, inr, arith, append_assoc, append-nil, Bool, true, false, cond, Option, None, Some}
use Rattle.std.specs.Prelude.{◌==◌, is_none, nat_le}
use Rattle.std.proofs.lemmas.Grind.{flat_map-append}
use Rattle.std.proofs.lemmas.List.{map-append}
use Rattle.std.proofs.lemmas.List.Elements.{filter-append}
use Rattle.std.proofs.lemmas.Bool.Decides.{nat_tests}
use Rattle.resync_laws.specs.Names.{Cell, Place, Placed, byte_at, Stream, Said, Notice, Kept, Rises, is_source, What}
use Rattle.resync_laws.specs.Names.{Raw, Trigger, id_of, bytes_of, placed_run, last_at, IsRunFrom, end_of, list_of}
use Rattle.resync_laws.specs.Names.{AllIn, start_of, Mapped, AreLawful, what_of, lifted, triggers, raw_events, raws}
use Rattle.resync_laws.specs.Names.{events, Between, items_of, from_point, key, is_from, is_item}
use Rattle.source_events.proofs.Placing.{RunsBetween}
use Rattle.source_events.proofs.Least.{AreSound}
use Rattle.source_events.proofs.Merges.{test_same, test_other, same_or_not}
use Rattle.source_events.proofs.Family.{all_raw, of_cases, list_own, list_other}
use Rattle.source_events.proofs.Running.{end_within}
use Rattle.resync_laws.proofs.RunTerms.{unnamed_run}
use Rattle.resync_laws.proofs.EventTerms.{OnlyGrow, items, told_from, EachFollows}
use Rattle.resync_laws.specs.Resumed.{Resumed, wholes, rests, AreBytes, CanAll, first_named, points_in}
use Rattle.resync_laws.proofs.Sources.{one_follows}
use Rattle.resync_rules.proofs.Following.{between_down}

-- events as a source has them, and as the report does
pub lifted_items : {V : Type 0} (g : List (Said V × Place)) → items (lifted g) ≡ lifted (items_of g)
lifted_items [] = refl
lifted_items ((Notice n, at) ∷ g) = lifted_items g
lifted_items {V} ((Kept v, at) ∷ g) = ap (λ (l : List (What V × Place)). (what_of (Kept v), at) ∷ l) (lifted_items g)

lifted_from : {V : Type 0} (o : Option Place) (g : List (Said V × Place)) → told_from o (lifted g) ≡ lifted (from_point o g)
lifted_from o [] = refl
lifted_from {V} o (x ∷ g) = by (is_from o x.1) (lifted_from o g) where
  by : (b : Bool) → told_from o (lifted g) ≡ lifted (from_point o g) → cond b ((what_of x.0, x.1) ∷ told_from o (lifted g)) (told_from o (lifted g)) ≡ lifted (cond b (x ∷ from_point o g) (from_point o g))
  by true k = ap (λ (l : List (What V × Place)). (what_of x.0, x.1) ∷ l) k
  by false k = k

pub lifted_both : {V : Type 0} (o : Option Place) (g : List (Said V × Place)) → told_from o (items (lifted g)) ≡ lifted (from_point o (items_of g))
lifted_both o g = ap (told_from o) (lifted_items g) ∙ lifted_from o (items_of g)

-- each source's events only grow
grow_run : {V : Type 0} (stream : List Placed → Stream V) → ((u : List Placed) (at byte : ℕ) → Rises (stream u) (stream (u ++ byte_at at byte ∷ [])) at) → (run : List Cell) (u : List Placed) →
    (more : List (Said V × Place)) × ((stream (u ++ placed_run run)).given ≡ (stream u).given ++ more)
grow_run stream rise [] u = ([], ap (λ (l : List Placed). (stream l).given) (append-nil u) ∙ sym (append-nil (stream u).given))
grow_run {V} stream rise (c ∷ run) u =
    let one = rise u c.at c.byte in
    let rest = grow_run stream rise run (u ++ byte_at c.at c.byte ∷ []) in (
      one.more ++ rest.0,
      ap (λ (l : List Placed). (stream l).given) (sym (append_assoc u (byte_at c.at c.byte ∷ []) (placed_run run)))
          ∙ rest.1 ∙ ap (λ (l : List (Said V × Place)). l ++ rest.0) one.given ∙ append_assoc (stream u).given one.more rest.0,
    )

raws_append : {V : Type 0} (x : ℕ) (a b : List (List Cell)) → raws {V = V} x (a ++ b) ≡ raws x a ++ raws x b
raws_append x a b = flat_map-append (λ (run : List Cell). cond (is_source x (id_of run)) (raw_events x run) []) a b

pub grow : {V : Type 0} (ss : List (Mapped V)) → AreLawful ss → OnlyGrow (events ss)
grow [] law x before m = (raws x (m ∷ []), raws_append x before (m ∷ []))
grow {V} (s ∷ ss) law x before m = by (x == s.id) (grow ss law.1 x before m) where
  own : (more : List (What V × Place)) × (lifted (s.stream (list_of x (before ++ m ∷ []))).given ≡ lifted (s.stream (list_of x before)).given ++ more)
  own = elim (of_cases x (id_of m)) [
    | inl o ↦
        let k = grow_run s.stream law.0.rises m (list_of x before) in
        (lifted k.0, ap (λ (l : List Placed). lifted (s.stream l).given) (list_own x before m o.1) ∙ ap lifted k.1 ∙ map-append (λ (e : Said V × Place). (what_of e.0, e.1)) (s.stream (list_of x before)).given k.0)
    | inr o ↦ ([], ap (λ (l : List Placed). lifted (s.stream l).given) (list_other x before m o.1) ∙ sym (append-nil (lifted (s.stream (list_of x before)).given)))
  ]

  by : (b : Bool) → (more : List (What V × Place)) × (events ss x (before ++ m ∷ []) ≡ events ss x before ++ more) →
      (more : List (What V × Place)) × (cond b (lifted (s.stream (list_of x (before ++ m ∷ []))).given) (events ss x (before ++ m ∷ [])) ≡ cond b (lifted (s.stream (list_of x before)).given) (events ss x before) ++ more)
  by true k = own
  by false k = k

-- a source's bytes rise
run_rises : (run : List Cell) (n : ℕ) → IsRunFrom n run → Between (λ b. key b.place) (2 * n) (2 * end_of run) (placed_run run)
run_rises [] n r = absurd r
run_rises (c ∷ []) n r = ((let a = r.0 in let k : 2 * n ≤ 2 * c.at + 0 = omega arith in k), (let k : suc (2 * c.at + 0) ≤ 2 * (c.at + 1) = omega arith in k))
run_rises (c ∷ (d ∷ run)) n r = (
  (let a = r.0 in let k : 2 * n ≤ 2 * c.at + 0 = omega arith in k),
  between_down (λ (b : Placed). key b.place) (placed_run (d ∷ run)) (2 * (c.at + 1)) (suc (2 * c.at + 0)) (2 * end_of (d ∷ run)) (run_rises (d ∷ run) (c.at + 1) r.1) (omega arith),
)

between_both : (xs ys : List Placed) (lo mid hi : ℕ) → Between (λ b. key b.place) lo mid xs → Between (λ b. key b.place) mid hi ys → Between (λ b. key b.place) lo hi (xs ++ ys)
between_both [] ys lo mid hi a b = between_down (λ (b : Placed). key b.place) ys mid lo hi b a
between_both (x ∷ xs) ys lo mid hi a b = (a.0, between_both xs ys (suc (key x.place)) mid hi a.1 b)

pub list_rises : (x : ℕ) (runs : List (List Cell)) (n k : ℕ) → RunsBetween n k runs → Between (λ b. key b.place) (2 * n) (2 * k) (list_of x runs)
list_rises x [] n k b = (let a : n ≤ k = b in let q : 2 * n ≤ 2 * k = omega arith in q)
list_rises x (run ∷ runs) n k b = by (is_source x (id_of run)) (list_rises x runs (end_of run) k b.1) where
  by : (t : Bool) → Between (λ b. key b.place) (2 * end_of run) (2 * k) (list_of x runs) → Between (λ b. key b.place) (2 * n) (2 * k) (cond t (placed_run run) [] ++ list_of x runs)
  by true h = between_both (placed_run run) (list_of x runs) (2 * n) (2 * end_of run) (2 * k) (run_rises run n b.0) h
  by false h = between_down (λ (b : Placed). key b.place) (list_of x runs) (2 * end_of run) (2 * n) (2 * k) h (let e = end_within n run b.0 in omega arith)

run_bytes : (run : List Cell) (u : List Placed) → AreBytes u → AreBytes (placed_run run ++ u)
run_bytes [] u h = h
run_bytes (c ∷ run) u h = (refl, run_bytes run u h)

pub list_bytes : (x : ℕ) (runs : List (List Cell)) → AreBytes (list_of x runs)
list_bytes x [] = tt
list_bytes x (run ∷ runs) = by (is_source x (id_of run)) (list_bytes x runs) where
  by : (t : Bool) → AreBytes (list_of x runs) → AreBytes (cond t (placed_run run) [] ++ list_of x runs)
  by true h = run_bytes run (list_of x runs) h
  by false h = h

-- runs up to an offset, and from it on
pub runs_cut_at : (a b : List (List Cell)) (n k : ℕ) → RunsBetween n k (a ++ b) → (m : ℕ) × RunsBetween n m a × RunsBetween m k b
runs_cut_at [] b n k r = (n, (let q : n ≤ n = omega arith in q), r)
runs_cut_at (run ∷ a) b n k r = let s = runs_cut_at a b (end_of run) k r.1 in (s.0, (r.0, s.1), s.2)

abbrev FromOn : ℕ → Option Place → Type 0
FromOn m None = Unit {0}
FromOn m (Some p) = m ≤ p.at

from_down : (n m : ℕ) (o : Option Place) → m ≤ n → FromOn n o → FromOn m o
from_down n m None l f = tt
from_down n m (Some p) l f = (let a : n ≤ p.at = f in let q : m ≤ p.at = omega arith in q)

named_from : (runs : List (List Cell)) (m k : ℕ) → RunsBetween m k runs → FromOn m (first_named runs)
named_from [] m k b = tt
named_from ([] ∷ runs) m k b = absurd b.0
named_from ((c ∷ run) ∷ runs) m k b = by (is_none c.id) (from_down (end_of (c ∷ run)) m (first_named runs) (end_within m (c ∷ run) b.0) (named_from runs (end_of (c ∷ run)) k b.1)) where
  by : (t : Bool) → FromOn m (first_named runs) → FromOn m (cond t (first_named runs) (Some (record { at = c.at; half = 0 })))
  by true h = h
  by false h = b.0.0

hidden_first : (hidden named : List (List Cell)) → first_named (map unnamed_run hidden ++ named) ≡ first_named named
hidden_first [] named = refl
hidden_first ([] ∷ hidden) named = hidden_first hidden named
hidden_first ((c ∷ run) ∷ hidden) named = hidden_first hidden named

under : (p q : Place) → q.at < p.at → q.half ≤ 1 → nat_le (key p) (key q) ≡ false
under p q h l = grind (arith, nat_tests)

pub raws_hidden : {V : Type 0} (x : ℕ) (hidden : List (List Cell)) → raws {V = V} x (map unnamed_run hidden) ≡ []
raws_hidden x [] = refl
raws_hidden x ([] ∷ hidden) = raws_hidden x hidden
raws_hidden x ((c ∷ run) ∷ hidden) = raws_hidden x hidden

-- halves of raw events are 0
abbrev AllLow : {V : Type 0} → ℕ → List (What V × Place) → Type 0
AllLow n [] = Unit {0}
AllLow n (e ∷ es) = (e.1.at < n) × (e.1.half ≤ 1) × AllLow n es

none_low : {V : Type 0} (p : Place) (n : ℕ) (es : List (What V × Place)) → AllLow n es → n ≤ p.at → told_from (Some p) (items es) ≡ []
none_low p n [] all l = refl
none_low {V} p n (e ∷ es) all l = by (is_item e.0) (none_low p n es all.2 l) where
  by : (b : Bool) → told_from (Some p) (items es) ≡ [] → told_from (Some p) (cond b (e ∷ items es) (items es)) ≡ []
  by true k = ap (λ (t : Bool). cond t (e ∷ told_from (Some p) (items es)) (told_from (Some p) (items es))) (under p e.1 (let a = all.0 in omega arith) all.1) ∙ k
  by false k = k

abbrev Halves : {V : Type 0} → List (What V × Place) → Type 0
Halves [] = Unit {0}
Halves (e ∷ es) = (e.1.half ≤ 1) × Halves es

low_triggers : (V : Type 0) (x : ℕ) (run : List Cell) (n : ℕ) → IsRunFrom n run → AllLow {V = V} (end_of run) (raw_events x run)
low_triggers V x run n r = low (raw_events x run) (start_of n) (all_raw V x n run r) (halves (x == 0) (x == 125)) where
  low : (es : List (What V × Place)) (p : Place) → AllIn p (end_of run) es → Halves es → AllLow (end_of run) es
  low [] p a h = tt
  low (e ∷ es) p a h = (a.1, h.0, low es e.1 a.2 h.1)

  all : (cells : List Cell) → Halves {V = V} (map (λ (c : Cell). (Trigger c.byte, record { at = c.at; half = 0 })) cells)
  all [] = tt
  all (c ∷ cells) = ((let q : 0 ≤ 1 = omega arith in q), all cells)

  halves : (s t : Bool) → Halves {V = V} (cond s [] (cond t (triggers run) ((Raw (bytes_of run), record { at = last_at run; half = 0 }) ∷ [])))
  halves true t = tt
  halves false true = all run
  halves false false = ((let q : 0 ≤ 1 = omega arith in q), tt)

low_append : {V : Type 0} (n m : ℕ) (xs ys : List (What V × Place)) → n ≤ m → AllLow n xs → AllLow m ys → AllLow m (xs ++ ys)
low_append n m [] ys l a b = b
low_append n m (x ∷ xs) ys l a b = ((let k = a.0 in omega arith), a.1, low_append n m xs ys l a.2 b)

runs_end : (runs : List (List Cell)) (n k : ℕ) → RunsBetween n k runs → n ≤ k
runs_end [] n k b = b
runs_end (d ∷ runs) n k b = (let x = end_within n d b.0 in let y = runs_end runs (end_of d) k b.1 in omega arith)

low_raws : (V : Type 0) (x : ℕ) (runs : List (List Cell)) (n k : ℕ) → RunsBetween n k runs → AllLow {V = V} k (raws x runs)
low_raws V x [] n k b = tt
low_raws V x (run ∷ runs) n k b = by (is_source x (id_of run)) (low_raws V x runs (end_of run) k b.1) where
  by : (t : Bool) → AllLow {V = V} k (raws x runs) → AllLow {V = V} k (cond t (raw_events x run) [] ++ raws x runs)
  by true h = low_append (end_of run) k (raw_events x run) (raws x runs) (runs_end runs (end_of run) k b.1) (low_triggers V x run n b.0) h
  by false h = h

none_point : {V : Type 0} (es : List (What V × Place)) → told_from None es ≡ []
none_point [] = refl
none_point (e ∷ es) = none_point es

-- a source that is not mapped has nothing before the port's point
none_early : {V : Type 0} (x m : ℕ) (runs : List (List Cell)) → RunsBetween 0 m runs → (o : Option Place) → FromOn m o → told_from o (items (raws {V = V} x runs)) ≡ []
none_early x m runs b None f = none_point (items (raws x runs))
none_early {V} x m runs b (Some p) f = none_low p m (raws x runs) (low_raws V x runs 0 m b) f

module _ (before hidden named : List (List Cell)) (hi : ℕ) (between : RunsBetween 0 hi (before ++ named)) where
  abbrev rest_runs : List (List Cell)
  rest_runs = map unnamed_run hidden ++ named

  raw_follows : {V : Type 0} (x : ℕ) (front after : List (List Cell)) → named ≡ front ++ after →
      told_from (first_named rest_runs) (items (raws {V = V} x (map unnamed_run hidden ++ front))) ≡ told_from (first_named rest_runs) (items (raws x (before ++ front)))
  raw_follows {V} x front after e =
      let s = runs_cut_at before named 0 hi between in
      let o = first_named rest_runs in
      let none = none_early {V = V} x s.0 before s.1 o (subst (λ (q : Option Place). FromOn s.0 q) (sym (hidden_first hidden named)) (named_from named s.0 hi s.2)) in
      ap (λ (l : List (What V × Place)). told_from o (items l)) (raws_append x (map unnamed_run hidden) front ∙ ap (λ (l : List (What V × Place)). l ++ raws x front) (raws_hidden x hidden))
      ∙ sym (ap (λ (l : List (What V × Place)). told_from o (items l)) (raws_append x before front)
      ∙ ap (told_from o) (filter-append (λ (e : What V × Place). is_item e.0) (raws x before) (raws x front))
      ∙ filter-append (λ (e : What V × Place). is_from o e.1) (items (raws x before)) (items (raws x front))
      ∙ ap (λ (l : List (What V × Place)). l ++ told_from o (items (raws x front))) none)

  abbrev Same : {K V : Type 0} → Resumed K V → List (Resumed K V) → ℕ → List (List Cell) → Bool → Type 0
  Same p ps x front b =
      told_from (cond b (p.point (p.rest (p.units (list_of x rest_runs)))) (points_in ps rest_runs x)) (items (cond b (lifted (p.rest (p.units (list_of x (map unnamed_run hidden ++ front)))).given) (events (rests ps) x (map unnamed_run hidden ++ front))))
      ≡ told_from (cond b (p.point (p.rest (p.units (list_of x rest_runs)))) (points_in ps rest_runs x)) (items (cond b (lifted (p.whole (p.units (list_of x (before ++ front)))).given) (events (wholes ps) x (before ++ front))))

  -- each source
  pub each_follows : {K V : Type 0} (ps : List (Resumed K V)) → CanAll ps → AreSound (wholes ps) (before ++ named) → EachFollows (events (wholes ps)) (events (rests ps)) (points_in ps rest_runs) before (map unnamed_run hidden) named
  each_follows [] can sound x front after e = raw_follows x front after e
  each_follows {V} (p ∷ ps) can sound x front after e = elim (same_or_not x p.id) [
    | inl i ↦ by true (test_same x p.id i) (own i)
    | inr n ↦ by false (test_other x p.id n) (each_follows ps can.1 sound.1 x front after e)
  ] where
    by : (b : Bool) → (x == p.id) ≡ b → Same p ps x front b → Same p ps x front (x == p.id)
    by b t k = subst (λ (z : Bool). Same p ps x front z) (sym t) k

    own : x ≡ p.id → Same p ps x front true
    own i =
        let point = p.point (p.rest (p.units (list_of x rest_runs))) in
        lifted_both point (p.rest (p.units (list_of x (map unnamed_run hidden ++ front)))).given
        ∙ ap lifted (one_follows p.point p.units can.0.append p.whole p.rest can.0.follows x before hidden named (can.0.rising (list_of x (before ++ named)) (list_bytes x (before ++ named)) (2 * hi, list_rises x (before ++ named) 0 hi between)) (ap (λ (z : ℕ). (p.whole (p.units (list_of z (before ++ named)))).fault) i ∙ sound.0) front after e)
        ∙ sym (lifted_both point (p.whole (p.units (list_of x (before ++ front)))).given)
