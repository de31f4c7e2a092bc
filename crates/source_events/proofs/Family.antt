-- The events of all sources grow run by run.
use Rattle.std.proofs.Common.{◌≡◌, ◌≢◌, ℕ, ◌+◌, ◌<◌, ◌≤◌, List, [], ◌∷◌, ◌++◌, refl, sym, ◌∙◌, ap, subst, ◌⊎◌, inl, inr, append_assoc, append-nil, arith, map, Option, None, Some, Bool, true, false, cond}
use Rattle.std.specs.Prelude.{is_none, ◌==◌}
use Rattle.std.proofs.lemmas.Grind.{flat_map-append}
use Rattle.std.proofs.lemmas.List.{map-append}
use Rattle.trace_values.specs.declared.cell.Cell.{Cell}
use Rattle.trace_values.specs.declared.fault.Reason.{Reason}
use Rattle.trace_values.specs.Placed.{Place, Placed, byte_at}
use Rattle.trace_values.specs.Stream.{Said, Stream, Rises, Settled, AllAt, FaultAt}
use Rattle.frame_grammar.specs.Reading.{is_source}
use Rattle.source_events.specs.declared.event.What.{What}
use Rattle.source_events.specs.declared.event.What.TheVariants.{Raw, Trigger}
use Rattle.source_events.specs.Runs.{id_of, bytes_of, placed_run, last_at, RisesFrom, IsRunFrom, end_of, list_of}
use Rattle.source_events.specs.Merge.{IsAtMost, start_of, AllIn, of_sources}
use Rattle.source_events.proofs.Adding.{Adds, AddsAlways, GoesOn}
use Rattle.source_events.specs.Report.{Mapped, AreLawful, what_of, lifted, raw_events, raws, events}
use Rattle.source_events.proofs.Merges.{test_same, test_other, same_or_not}

-- whether a run is of a source
pub of_cases : (x : ℕ) (o : Option ℕ) → ((o ≡ Some x) × (is_source x o ≡ true)) ⊎ ((o ≡ Some x → ⊥) × (is_source x o ≡ false))
of_cases x None = inr ((λ e. (let k = e in cc)), refl)
of_cases x (Some y) = elim (same_or_not y x) [
  | inl e ↦ inl (ap Some e, test_same y x e)
  | inr n ↦ inr ((λ e. n (let k = e in cc)), test_other y x n)
]

-- cells that rise, all below an offset
abbrev pub Within : ℕ → ℕ → List Cell → Type 0
Within n hi [] = Unit {0}
Within n hi (c ∷ cells) = (n ≤ c.at) × (c.at < hi) × Within (c.at + 1) hi cells

last_below : (n : ℕ) (c : Cell) (cells : List Cell) → RisesFrom n (c ∷ cells) → c.at < end_of (c ∷ cells)
last_below n c [] r = omega arith
last_below n c (d ∷ cells) r = (let k = last_below (c.at + 1) d cells r.1 in let b = r.1.0 in omega arith)

pub run_within : (n : ℕ) (c : Cell) (cells : List Cell) → RisesFrom n (c ∷ cells) → Within n (end_of (c ∷ cells)) (c ∷ cells)
run_within n c [] r = (r.0, last_below n c [] r, tt)
run_within n c (d ∷ cells) r = (r.0, last_below n c (d ∷ cells) r, run_within (c.at + 1) d cells r.1)

pub within_run : (n : ℕ) (run : List Cell) → IsRunFrom n run → Within n (end_of run) run
within_run n [] r = absurd r
within_run n (c ∷ cells) r = run_within n c cells r

-- what is all at one offset, and then what stands behind it
all_at_in : {W : Type 0} (at h hi : ℕ) (p : Place) (xs ys : List (W × Place)) → AllAt at h xs → IsAtMost p (record { at = at; half = h }) → at < hi →
    ((q : Place) → IsAtMost q (start_of (at + 1)) → AllIn q hi ys) → AllIn p hi (xs ++ ys)
all_at_in at h hi p [] ys all l b next = next p (grind (arith, l))
all_at_in at h hi p (x ∷ xs) ys all l b next =
    let a = all.0 in let k = all.1 in
    (grind (arith, l, a, k), omega arith, all_at_in at x.1.half hi x.1 xs ys all.2 (inr (all.0, (let z : x.1.half ≤ x.1.half = omega arith in z))) b next)

last_from : (n : ℕ) (run : List Cell) → IsRunFrom n run → n ≤ last_at run
last_from n [] r = absurd r
last_from n (c ∷ []) r = r.0
last_from n (c ∷ (d ∷ cells)) r = (let k = last_from (c.at + 1) (d ∷ cells) r.1 in let a = r.0 in omega arith)

module _ (x : ℕ) (before : List (List Cell)) (m : List Cell) where
  list_push : list_of x (before ++ m ∷ []) ≡ list_of x before ++ (cond (is_source x (id_of m)) (placed_run m) [])
  list_push = flat_map-append (λ (run : List Cell). cond (is_source x (id_of run)) (placed_run run) []) before (m ∷ []) ∙ ap (λ l. list_of x before ++ l) (append-nil (cond (is_source x (id_of m)) (placed_run m) []))

  pub list_own : is_source x (id_of m) ≡ true → list_of x (before ++ m ∷ []) ≡ list_of x before ++ placed_run m
  list_own e = list_push ∙ ap (λ (t : Bool). list_of x before ++ cond t (placed_run m) []) e

  pub list_other : is_source x (id_of m) ≡ false → list_of x (before ++ m ∷ []) ≡ list_of x before
  list_other e = list_push ∙ ap (λ (t : Bool). list_of x before ++ cond t (placed_run m) []) e ∙ append-nil (list_of x before)

-- a run of a source that is not mapped
all_triggers : (V : Type 0) (cells : List Cell) (n hi : ℕ) → Within n hi cells → (q : Place) → IsAtMost q (start_of n) → AllIn {W = What V} q hi (map (λ (c : Cell). (Trigger c.byte, record { at = c.at; half = 0 })) cells)
all_triggers V [] n hi w q l = tt
all_triggers V (c ∷ cells) n hi w q l =
    ((let a = w.0 in grind (arith, l, a)), w.1, all_triggers V cells (c.at + 1) hi w.2 (record { at = c.at; half = 0 }) (inl (let z : c.at < c.at + 1 = omega arith in z)))

pub all_raw : (V : Type 0) (x n : ℕ) (run : List Cell) → IsRunFrom n run → AllIn {W = What V} (start_of n) (end_of run) (raw_events x run)
all_raw V x n run r = by (x == 0) (x == 125) where
  by : (s t : Bool) → AllIn {W = What V} (start_of n) (end_of run) (cond s [] (cond t (map (λ (c : Cell). (Trigger c.byte, record { at = c.at; half = 0 })) run) ((Raw (bytes_of run), record { at = last_at run; half = 0 }) ∷ [])))
  by true t = tt
  by false true = all_triggers V run n (end_of run) (within_run n run r) (start_of n) (inr (refl, (let z : 0 ≤ 0 = omega arith in z)))
  by false false = ((let k = last_from n run r in grind (arith, k)), (let z : last_at run < last_at run + 1 = omega arith in z), tt)

-- wherever the runs before it are
abbrev pub Anywhere : ℕ → List (List Cell) → Type 0
Anywhere n before = Unit {0}

pub anywhere : GoesOn Anywhere IsRunFrom end_of
anywhere n before m a r = tt

module _ {V : Type 0} where
  pub all_lifted : (p : Place) (hi : ℕ) (xs : List (Said V × Place)) → AllIn p hi xs → AllIn p hi (lifted xs)
  all_lifted p hi [] all = tt
  all_lifted p hi (x ∷ xs) all = (all.0, all.1, all_lifted x.1 hi xs all.2)

  -- the reading of a run's bytes more
  module _ (stream : List Placed → Stream V) (rise : (u : List Placed) (at byte : ℕ) → Rises (stream u) (stream (u ++ byte_at at byte ∷ [])) at) where
    pub run_more : (cells : List Cell) (u : List Placed) (n hi : ℕ) → Within n hi cells →
        (more : List (Said V × Place)) × ((stream (u ++ placed_run cells)).given ≡ (stream u).given ++ more) × ((q : Place) → IsAtMost q (start_of n) → AllIn q hi more)
    run_more [] u n hi w = ([], ap (λ (l : List Placed). (stream l).given) (append-nil u) ∙ sym (append-nil (stream u).given), λ q l. tt)
    run_more (c ∷ cells) u n hi w =
        let one = rise u c.at c.byte in
        let rest = run_more cells (u ++ byte_at c.at c.byte ∷ []) (c.at + 1) hi w.2 in (
          one.more ++ rest.0,
          ap (λ (l : List Placed). (stream l).given) (sym (append_assoc u (byte_at c.at c.byte ∷ []) (placed_run cells)))
              ∙ rest.1 ∙ ap (λ (l : List (Said V × Place)). l ++ rest.0) one.given ∙ append_assoc (stream u).given one.more rest.0,
          λ q l. all_at_in c.at 0 hi q one.more rest.0 one.all (let a = w.0 in grind (arith, l, a)) w.1 rest.2,
        )

    pub run_fault : (settle : (v w : List Placed) → is_none (stream v).fault ≡ false → Settled (stream v) (stream (v ++ w))) →
        (cells : List Cell) (u : List Placed) (n hi : ℕ) → Within n hi cells → (stream u).fault ≡ None → (f : Place × Reason) → (stream (u ++ placed_run cells)).fault ≡ Some f → (n ≤ f.0.at) × (f.0.at < hi)
    run_fault settle [] u n hi w none f e = (let k = ap (λ (l : List Placed). (stream l).fault) (sym (append-nil u)) ∙ e in let j = none in cc)
    run_fault settle (c ∷ cells) u n hi w none f e =
        by (stream (u ++ byte_at c.at c.byte ∷ [])).fault refl (subst (λ (o : Option (Place × Reason)). FaultAt c.at o (stream (u ++ byte_at c.at c.byte ∷ [])).fault) none (rise u c.at c.byte).fault)
        (λ k. run_fault settle cells (u ++ byte_at c.at c.byte ∷ []) (c.at + 1) hi w.2 k f (ap (λ (l : List Placed). (stream l).fault) all ∙ e)) where
          all : (u ++ byte_at c.at c.byte ∷ []) ++ placed_run cells ≡ u ++ (byte_at c.at c.byte ∷ placed_run cells)
          all = append_assoc u (byte_at c.at c.byte ∷ []) (placed_run cells)

          by : (o : Option (Place × Reason)) → (stream (u ++ byte_at c.at c.byte ∷ [])).fault ≡ o → FaultAt c.at None o →
              ((stream (u ++ byte_at c.at c.byte ∷ [])).fault ≡ None → (c.at + 1 ≤ f.0.at) × (f.0.at < hi)) → (n ≤ f.0.at) × (f.0.at < hi)
          by None k h more = let z = more k in let a = w.0 in let b = z.0 in (omega arith, z.1)
          by (Some g) k h more =
              let s = (settle (u ++ byte_at c.at c.byte ∷ []) (placed_run cells) (ap (λ (o : Option (Place × Reason)). is_none o) k)).fault in
              let q : Some g ≡ Some f = sym k ∙ sym s ∙ ap (λ (l : List Placed). (stream l).fault) all ∙ e in
              let p : g ≡ f = cc in
              let i : g.0.at ≡ f.0.at = ap (λ (x : Place × Reason). x.0.at) p in
              let a = w.0 in let b = w.1 in let j = h in (omega arith, omega arith)

  module _ (x : ℕ) (before : List (List Cell)) (m : List Cell) where
    raws_push : raws {V = V} x (before ++ m ∷ []) ≡ raws x before ++ (cond (is_source x (id_of m)) (raw_events x m) [])
    raws_push = flat_map-append (λ (run : List Cell). cond (is_source x (id_of run)) (raw_events {V = V} x run) []) before (m ∷ []) ∙ ap (λ l. raws x before ++ l) (append-nil (cond (is_source x (id_of m)) (raw_events x m) []))

    pub raws_own : is_source x (id_of m) ≡ true → raws {V = V} x (before ++ m ∷ []) ≡ raws x before ++ raw_events x m
    raws_own e = raws_push ∙ ap (λ (t : Bool). raws {V = V} x before ++ cond t (raw_events x m) []) e

    pub raws_other : is_source x (id_of m) ≡ false → raws {V = V} x (before ++ m ∷ []) ≡ raws x before ++ []
    raws_other e = raws_push ∙ ap (λ (t : Bool). raws {V = V} x before ++ cond t (raw_events x m) []) e

  -- the events of a source that is mapped first, and those of another
  pub events_own : (s : Mapped V) (ss : List (Mapped V)) (x : ℕ) (runs : List (List Cell)) → x ≡ s.id → events (s ∷ ss) x runs ≡ lifted (s.stream (list_of x runs)).given
  events_own s ss x runs e = ap (λ (t : Bool). cond t (lifted (s.stream (list_of x runs)).given) (events ss x runs)) (test_same x s.id e)

  pub events_other : (s : Mapped V) (ss : List (Mapped V)) (x : ℕ) (runs : List (List Cell)) → x ≢ s.id → events (s ∷ ss) x runs ≡ events ss x runs
  events_other s ss x runs e = ap (λ (t : Bool). cond t (lifted (s.stream (list_of x runs)).given) (events ss x runs)) (test_other x s.id e)

  lifted_append : (xs ys : List (Said V × Place)) → lifted (xs ++ ys) ≡ lifted xs ++ lifted ys
  lifted_append xs ys = map-append (λ (e : Said V × Place). (what_of e.0, e.1)) xs ys

  -- of a mapped source
  pub own_push : (s : Mapped V) (ss : List (Mapped V)) (x : ℕ) (before : List (List Cell)) (m : List Cell) (more : List (Said V × Place)) → x ≡ s.id → is_source x (id_of m) ≡ true →
      (s.stream (list_of x before ++ placed_run m)).given ≡ (s.stream (list_of x before)).given ++ more → events (s ∷ ss) x (before ++ m ∷ []) ≡ events (s ∷ ss) x before ++ lifted more
  own_push s ss x before m more e o g =
      events_own s ss x (before ++ m ∷ []) e ∙ ap (λ (l : List Placed). lifted (s.stream l).given) (list_own x before m o) ∙ ap lifted g
      ∙ lifted_append (s.stream (list_of x before)).given more ∙ ap (λ l. l ++ lifted more) (sym (events_own s ss x before e))

  own_stays : (s : Mapped V) (ss : List (Mapped V)) (x : ℕ) (before : List (List Cell)) (m : List Cell) → x ≡ s.id → is_source x (id_of m) ≡ false →
      events (s ∷ ss) x (before ++ m ∷ []) ≡ events (s ∷ ss) x before ++ []
  own_stays s ss x before m e o =
      events_own s ss x (before ++ m ∷ []) e ∙ ap (λ (l : List Placed). lifted (s.stream l).given) (list_other x before m o) ∙ sym (events_own s ss x before e) ∙ sym (append-nil (events (s ∷ ss) x before))

  source_adds : (ss : List (Mapped V)) → AreLawful ss → (x n : ℕ) (before : List (List Cell)) (m : List Cell) →
      IsRunFrom n m → Adds end_of id_of (of_sources (events ss)) (Some x) n before m
  source_adds [] law x n before m r = elim (of_cases x (id_of m)) [
    | inl o ↦ record { more = raw_events x m; given = raws_own x before m o.1; all = all_raw V x n m r; own = λ k. absurd (k o.0) }
    | inr o ↦ record { more = []; given = raws_other x before m o.1; all = tt; own = λ k. refl }
  ]
  source_adds (s ∷ ss) law x n before m r = elim (same_or_not x s.id) [
    | inl e ↦ elim (of_cases x (id_of m)) [
      | inl o ↦
          (let k = run_more s.stream law.0.rises m (list_of x before) n (end_of m) (within_run n m r) in
          record {
            more = lifted k.0;
            given = own_push s ss x before m k.0 e o.1 k.1;
            all = all_lifted (start_of n) (end_of m) k.0 (k.2 (start_of n) (inr (refl, (let z : 0 ≤ 0 = omega arith in z))));
            own = λ j. absurd (j o.0);
          })
      | inr o ↦ record { more = []; given = own_stays s ss x before m e o.1; all = tt; own = λ k. refl }
    ]
    | inr e ↦
        (let k = source_adds ss law.1 x n before m r in
        record { more = k.more; given = events_other s ss x (before ++ m ∷ []) e ∙ k.given ∙ ap (λ l. l ++ k.more) (sym (events_other s ss x before e)); all = k.all; own = k.own })
  ]

  pub adds : (ss : List (Mapped V)) → AreLawful ss →
      AddsAlways Anywhere IsRunFrom end_of id_of (of_sources (events ss))
  adds ss law None n before m a r = record { more = []; given = refl; all = tt; own = λ k. refl }
  adds ss law (Some x) n before m a r = source_adds ss law x n before m r

  source_first : (ss : List (Mapped V)) → AreLawful ss → (x : ℕ) → events ss x [] ≡ []
  source_first [] law x = refl
  source_first (s ∷ ss) law x = elim (same_or_not x s.id) [
    | inl e ↦ events_own s ss x [] e ∙ ap lifted law.0.begins
    | inr e ↦ events_other s ss x [] e ∙ source_first ss law.1 x
  ]

  pub none_first : (ss : List (Mapped V)) → AreLawful ss → (x : Option ℕ) → of_sources (events ss) x [] ≡ []
  none_first ss law None = refl
  none_first ss law (Some x) = source_first ss law x
