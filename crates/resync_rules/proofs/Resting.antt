-- What the rest of a source's units reads as, against the whole.
use Rattle.std.proofs.Common.{◌≡◌, ℕ, ◌-◌, List, [], ◌∷◌, ◌++◌, length, refl, sym, ◌∙◌, ap, subst, ◌⊎◌, inl, inr, arith, append_assoc, append-nil, Bool, true, false, Option, None}
use Rattle.std.specs.List.{AllByRecursion}
use Rattle.std.proofs.lemmas.List.{map-append, nil_from_length, same_from_push}
use Rattle.resync_rules.specs.Names.{Reason, Next, Place, Placed, units_of, Progress, Splits, progress}
use Rattle.resync_rules.specs.Names.{EndsWith, Pattern, pattern_of, Found, hunt, hunted_by, stream_in, Stream, Said}
use Rattle.resync_rules.specs.Names.{Notice, Kept, kept, shown}
use Rattle.trace_values.proofs.Readings as readings
use Rattle.trace_values.proofs.Standings.{from_append}
use Rattle.resync_rules.specs.Fronts.{Hunting, HasEnded, SyncEnds, all_skipped, Locks, IsRest}
use Rattle.resync_rules.specs.Syncing.{Syncs, hunting_for}
use Rattle.resync_rules.proofs.Continuing as continuing
use Rattle.resync_rules.proofs.Syncing.{units_append, splits_last}
use Rattle.resync_rules.proofs.Locking as locking

abbrev silent : {V : Type 0} → List (Said V × Place) → Type 0
silent {V} l = (before : List (Said V × Place)) (v : V) (place : Place) → l ≡ before ++ (Kept v, place) ∷ [] → ⊥

silent_nil : {V : Type 0} → silent {V = V} []
silent_nil [] v place e = cc
silent_nil (x ∷ l) v place e = cc

silent_notice : {V : Type 0} (n : ℕ) (at : Place) → silent {V = V} ((Notice n, at) ∷ [])
silent_notice {V} n at [] v place e = apart (ap (λ x. x.0) (let q : (let x : Said V × Place = (Notice n, at) in x ≡ (Kept v, place)) = cc in q)) where
  apart : (let x : Said V = Notice n in x ≡ Kept v) → ⊥
  apart q = cc
silent_notice n at (x ∷ l) v place e = silent_nil l v place (let q : [] ≡ l ++ (Kept v, place) ∷ [] = cc in q)

-- what is given last is the last item
last_kept : {V : Type 0} (front before : List (Said V × Place)) (items : List (V × Place)) (v : V) (place : Place) → silent front → front ++ kept items ≡ before ++ (Kept v, place) ∷ [] →
    (early : List (V × Place)) × (x : V × Place) × (items ≡ early ++ x ∷ []) × (x.0 ≡ v)
last_kept {V} front before items v place s e = by items refl where
  split : (l : List (V × Place)) → (l ≡ []) ⊎ ((early : List (V × Place)) × (x : V × Place) × (l ≡ early ++ x ∷ []))
  split [] = inl refl
  split (y ∷ l) = elim (split l) [
    | inl m ↦ inr ([], y, ap (λ (z : List (V × Place)). y ∷ z) m)
    | inr m ↦ inr (y ∷ m.0, m.1, ap (λ (z : List (V × Place)). y ∷ z) m.2)
  ]

  inside : (x y : V) → (let a : Said V = Kept x in a ≡ Kept y) → x ≡ y
  inside x y q = cc

  by : (l : List (V × Place)) → items ≡ l → (early : List (V × Place)) × (x : V × Place) × (items ≡ early ++ x ∷ []) × (x.0 ≡ v)
  by l q = elim (split items) [
    | inl m ↦ absurd (s before v place (sym (append-nil front) ∙ ap (λ (z : List (V × Place)). front ++ kept z) (sym m) ∙ e))
    | inr m ↦
        let g : (front ++ kept m.0) ++ (Kept m.1.0, m.1.1) ∷ [] ≡ before ++ (Kept v, place) ∷ [] =
        append_assoc front (kept m.0) ((Kept m.1.0, m.1.1) ∷ [])
        ∙ ap (λ (z : List (Said V × Place)). front ++ z) (sym (map-append (λ (x : V × Place). (Kept x.0, x.1)) m.0 (m.1 ∷ [])))
        ∙ ap (λ (z : List (V × Place)). front ++ kept z) (sym m.2) ∙ e in
        let same = (same_from_push (front ++ kept m.0) before (Kept m.1.0, m.1.1) (Kept v, place) g).1 in
        (m.0, m.1, m.2, inside m.1.0 v (ap (λ x. x.0) same))
  ]

module _ {S V : Type 0} (Spells : V → List Placed → Type 0) (why : List Placed → Reason) (rule : S → Placed → Next S V) (start : S) (p : Pattern) (v : V)
    (k : Syncs Spells why rule start p v) where
  abbrev prog : List Placed → Progress S V
  prog u = progress rule start u

  abbrev pub stream : Bool → List Placed → Stream V
  stream h u = stream_in p v rule start h u

  abbrev found_in : Bool → List Placed → Option (Found S V)
  found_in = locking.found_in Spells why rule start p v k

  abbrev at_found : ℕ → Place → Progress S V → Option (Found S V)
  at_found = locking.at_found Spells why rule start p v k

  abbrev pub notice : Bool → ℕ → Place → List (Said V × Place)
  notice false n place = []
  notice true n place = (Notice n, place) ∷ []

  notice_silent : (h : Bool) (n : ℕ) (place : Place) → silent (notice h n place)
  notice_silent false n place = silent_nil
  notice_silent true n place = silent_notice n place

  -- a stream is what is shown of what is read
  pub shows : (h : Bool) (x : List Placed) (n : ℕ) (place : Place) (q : Progress S V) → found_in h x ≡ at_found n place q → stream h x ≡ shown (notice h n place) n q
  shows false x n place q e =
      let f : (let a : Found S V = record { skipped = 0; place = record { at = 0; half = 0 }; reading = prog x } in a ≡ record { skipped = n; place = place; reading = q }) = cc in
      ap (λ (g : Found S V). shown [] g.skipped g.reading) f
  shows true x n place q e = ap (λ (o : Option (Found S V)). hunted_by (hunt p v rule start x).units o) e

  pub skips : (x : List Placed) → (hunt p v rule start x).found ≡ None → stream true x ≡ all_skipped (length x)
  skips x e =
      ap (λ (o : Option (Found S V)). hunted_by (hunt p v rule start x).units o) e ∙ ap (λ (n : ℕ). all_skipped n) (locking.units_counted Spells why rule start p v k x)

  -- where v has just ended, the pattern ends
  pub ends_pattern : (h : Bool) (x : List Placed) → HasEnded v (stream h x) → EndsWith (pattern_of p) (units_of x)
  ends_pattern h x e = elim (locking.by_mode Spells why rule start p v k h x) [
    | inr n ↦ absurd (nothing n.0 n.2)
    | inl r ↦
        let s = shows h x (length r.front) r.place (prog r.seen) r.here in
        let l = last_kept (notice h (length r.front) r.place) e.before (prog r.seen).items v e.place (notice_silent h (length r.front) r.place) (ap (λ (z : Stream V). z.given) (sym s) ∙ e.given) in
        let none : (prog r.seen).rest ≡ [] = nil_from_length (prog r.seen).rest (ap (λ (z : Stream V). z.held) (sym s) ∙ e.held) in
        let splits = (readings.reading_is Spells why rule start k.decides r.seen).splits in
        let at : Splits Spells (l.0 ++ l.1 ∷ []) [] r.seen =
        subst (λ (z : List Placed). Splits Spells (l.0 ++ l.1 ∷ []) z r.seen) none (subst (λ (z : List (V × Place)). Splits Spells z (prog r.seen).rest r.seen) l.2 splits) in
        let z = splits_last Spells l.0 l.1 r.seen at in
        let c = k.closes z.1 (subst (λ (y : V). Spells y z.1) l.3 z.3) in (
          units_of r.front ++ (units_of z.0 ++ c.0),
          ap units_of r.parts ∙ units_append r.front r.seen
              ∙ ap (λ (y : List ℕ). units_of r.front ++ y) (ap units_of z.2 ∙ units_append z.0 z.1 ∙ ap (λ (y : List ℕ). units_of z.0 ++ y) c.1 ∙ sym (append_assoc (units_of z.0) c.0 (pattern_of p)))
              ∙ sym (append_assoc (units_of r.front) (units_of z.0 ++ c.0) (pattern_of p)),
        )
  ] where
    nothing : h ≡ true → (hunt p v rule start x).found ≡ None → ⊥
    nothing t n = silent_nil e.before v e.place (ap (λ (z : Stream V). z.given) (sym (ap (λ (b : Bool). stream b x) t ∙ skips x n)) ∙ e.given)

  -- each value that is given is spelled
  abbrev pub IsSpelled : Said V → Type 0
  IsSpelled (Notice n) = Unit {0}
  IsSpelled (Kept x) = (s : List Placed) × Spells x s

  items_spelled : (items : List (V × Place)) (rest u : List Placed) → Splits Spells items rest u → AllByRecursion (λ g. IsSpelled g.0) (kept items)
  items_spelled [] rest u s = tt
  items_spelled (x ∷ items) rest u s = ((s.0 ++ s.1 ∷ [], s.3), items_spelled items rest s.2 s.6)

  spelled_after : (h : Bool) (n : ℕ) (place : Place) (items : List (V × Place)) → AllByRecursion (λ g. IsSpelled g.0) (kept items) → AllByRecursion (λ g. IsSpelled g.0) (notice h n place ++ kept items)
  spelled_after false n place items a = a
  spelled_after true n place items a = (tt, a)

  pub all_spelled : (h : Bool) (x : List Placed) → AllByRecursion (λ g. IsSpelled g.0) (stream h x).given
  all_spelled h x = elim (locking.by_mode Spells why rule start p v k h x) [
    | inr n ↦ subst (λ (z : Stream V). AllByRecursion (λ g. IsSpelled g.0) z.given) (sym (ap (λ (b : Bool). stream b x) n.0 ∙ skips x n.2)) tt
    | inl r ↦
        let splits = (readings.reading_is Spells why rule start k.decides r.seen).splits in
        subst (λ (z : Stream V). AllByRecursion (λ g. IsSpelled g.0) z.given) (sym (shows h x (length r.front) r.place (prog r.seen) r.here))
        (spelled_after h (length r.front) r.place (prog r.seen).items (items_spelled (prog r.seen).items (prog r.seen).rest r.seen splits))
  ]

  abbrev pub size : ℕ
  size = length (pattern_of p)

  -- how a list is read whole, and how a hunt reads its rest
  abbrev pub hunting : Bool → Hunting V
  hunting h = hunting_for p v rule start h

  module _ (h : Bool) (u w : List Placed) (l : locking.IsLock Spells why rule start p v k h u w) where
    abbrev front : List Placed
    front = l.before ++ l.sync

    nothing_more : l.sync ++ [] ≡ l.sync
    nothing_more = append-nil l.sync

    then : stream h (u ++ front) ≡ shown (notice h l.skipped l.whole_place) l.skipped (continuing.with_before rule start l.early (prog l.sync))
    then =
        shows h (u ++ front) l.skipped l.whole_place (continuing.with_before rule start l.early (prog l.sync))
        (ap (λ (z : List Placed). found_in h (u ++ z)) (sym (append-nil front)) ∙ l.whole []
        ∙ ap (λ (z : List Placed). at_found l.skipped l.whole_place (continuing.with_before rule start l.early (prog z))) nothing_more)

    now : (z : List Placed) → stream h (u ++ (front ++ z)) ≡ shown (notice h l.skipped l.whole_place) l.skipped (continuing.with_before rule start l.early (prog (l.sync ++ z)))
    now z =
        shows h (u ++ (front ++ z)) l.skipped l.whole_place (continuing.with_before rule start l.early (prog (l.sync ++ z))) (l.whole z)

    rest_is : (z : List Placed) → stream true (front ++ z) ≡ shown ((Notice (length l.before), l.place) ∷ []) (length l.before) (prog (l.sync ++ z))
    rest_is z = shows true (front ++ z) (length l.before) l.place (prog (l.sync ++ z)) (l.rest z)

    abbrev early : List (Said V × Place)
    early = notice h l.skipped l.whole_place ++ kept l.early

    kept_with : (more : List (V × Place)) → notice h l.skipped l.whole_place ++ kept (l.early ++ ((v, l.place) ∷ more)) ≡ early ++ ((Kept v, l.last.place) ∷ kept more)
    kept_with more =
        ap (λ (z : List (Said V × Place)). notice h l.skipped l.whole_place ++ z) (map-append (λ (x : V × Place). (Kept x.0, x.1)) l.early ((v, l.place) ∷ more))
        ∙ sym (append_assoc (notice h l.skipped l.whole_place) (kept l.early) ((Kept v, l.place) ∷ kept more))
        ∙ ap (λ (x : Place). early ++ ((Kept v, x) ∷ kept more)) l.at

    then_given : (stream h (u ++ front)).given ≡ early ++ (Kept v, l.last.place) ∷ []
    then_given =
        ap (λ (z : Stream V). z.given) then
        ∙ ap (λ (q : Progress S V). notice h l.skipped l.whole_place ++ kept (l.early ++ q.items)) l.alone ∙ kept_with []

    then_held : (stream h (u ++ front)).held ≡ 0
    then_held = ap (λ (z : Stream V). z.held) then ∙ ap (λ (q : Progress S V). length q.rest) l.alone

    more : (z : List Placed) → (more : List (V × Place)) × ((prog (l.sync ++ z)).items ≡ (v, l.place) ∷ more)
    more z =
        let i = continuing.items_from rule start z (prog l.sync) in (
          i.0,
          ap (λ (q : Progress S V). q.items) (from_append rule start l.sync z (continuing.ended rule start []))
              ∙ i.1 ∙ ap (λ (q : Progress S V). q.items ++ i.0) l.alone,
        )

    abbrev made : ℕ → Place → List (V × Place) → Option (Place × Reason) → ℕ → Stream V
    made n at items fault held = record { given = (Notice n, at) ∷ kept items; fault = fault; held = held; skipped = n; locked = true }

    rest_made : (z : List Placed) (items : List (V × Place)) → (prog (l.sync ++ z)).items ≡ (v, l.place) ∷ items →
        stream true (front ++ z) ≡ made (length front - size) l.last.place ((v, l.last.place) ∷ items) (stream h (u ++ (front ++ z))).fault (stream h (u ++ (front ++ z))).held
    rest_made z items e =
        rest_is z
        ∙ ap (λ (y : List (V × Place)). made (length l.before) l.place y (prog (l.sync ++ z)).fault (length (prog (l.sync ++ z)).rest)) e
        ∙ ap (λ (y : Stream V). made (length l.before) l.place ((v, l.place) ∷ items) y.fault y.held) (sym (now z))
        ∙ ap (λ (x : Place). made (length l.before) x ((v, x) ∷ items) (stream h (u ++ (front ++ z))).fault (stream h (u ++ (front ++ z))).held) l.at
        ∙ ap (λ (n : ℕ). made n l.last.place ((v, l.last.place) ∷ items) (stream h (u ++ (front ++ z))).fault (stream h (u ++ (front ++ z))).held) (let n = locking.front_length Spells why rule start p v k h u w l in let q : length l.before ≡ length front - size = omega arith in q)

    pub locked : Locks (hunting h) u w front
    locked = record {
      first =
          locking.first_end Spells why rule start p v k (SyncEnds (hunting h)) (ends_pattern h) h u w l
          (record { before = early; place = l.last.place; given = then_given; held = then_held });
      start = l.before ++ l.ends.0;
      last = l.last;
      ends = ap (λ (z : List Placed). l.before ++ z) l.ends.1 ∙ sym (append_assoc l.before l.ends.0 (l.last ∷ []));
      early = early;
      whole_then = then_given;
      later = λ z. (more z).0;
      whole_on = λ z.
          ap (λ (y : Stream V). y.given) (now z)
          ∙ ap (λ (y : List (V × Place)). notice h l.skipped l.whole_place ++ kept (l.early ++ y)) (more z).1 ∙ kept_with (more z).0;
      rest_on = λ z. rest_made z (more z).0 (more z).1;
    }

  -- what the rest of a source reads as
  pub is_rest : (h : Bool) (u w : List Placed) → (stream h (u ++ w)).fault ≡ None → IsRest (hunting h) u w
  is_rest h u w f =
      locking.rest_locks Spells why rule start p v k (SyncEnds (hunting h)) (ends_pattern h) h u w
      (locking.sound_in Spells why rule start p v k (λ (z : Stream V). z.fault) stream (λ h x n place q e. ap (λ (z : Stream V). z.fault) (shows h x n place q e)) h (u ++ w) f)
      (stream true w ≡ all_skipped (length w)) (Locks (hunting h) u w) (skips w) (locked h u w)
