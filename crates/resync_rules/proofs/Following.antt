-- From its point on a source gives what the whole's source gives, with each front of its units.
use Rattle.std.proofs.Common.{◌≡◌, ℕ, suc, ◌+◌, ◌≤◌, List, [], ◌∷◌, ◌++◌, length, length-append, refl, sym, ◌∙◌, ap, subst, inl, inr, arith, append_assoc, Bool, true, false, cond, Option, None, Some}
use Rattle.std.specs.Prelude.{is_none}
use Rattle.std.proofs.lemmas.List.{append_cancel_left, same_from_push, map-append}
use Rattle.std.proofs.lemmas.List.Elements.{filter-append}
use Rattle.std.proofs.lemmas.Bool.{le-leb, lt-leb}
use Rattle.resync_rules.specs.Names.{Reason, Next, Go, End, Fail, Place, Placed, Progress, with_unit, advance}
use Rattle.resync_rules.specs.Names.{progress_from, progress, Pattern, hunt, Stream, Said, Kept, kept}
use Rattle.trace_values.proofs.Standings.{from_append as read_on}
use Rattle.resync_rules.proofs.Continuing.{ended, items_from}
use Rattle.trace_values.proofs.Lists.{fronts_meet}
use Rattle.trace_values.proofs.Modes as modes
use Rattle.resync_rules.specs.Fronts.{Hunting, IsSync, Locks}
use Rattle.resync_rules.specs.Syncing.{Syncs}
use Rattle.resync_rules.specs.Points.{Between, IsRising, is_kept, items_of, point_of, from_point, Follows, key, is_from}
use Rattle.resync_rules.proofs.Locking as locking
use Rattle.resync_rules.proofs.Resting as resting

module _ {A : Type 0} (f : A → ℕ) where
  pub between_le : (xs : List A) (lo hi : ℕ) → Between f lo hi xs → lo ≤ hi
  between_le [] lo hi b = b
  between_le (x ∷ xs) lo hi b = let k = between_le xs (suc (f x)) hi b.1 in let l = b.0 in omega arith

  pub between_append : (xs ys : List A) (lo hi : ℕ) → Between f lo hi (xs ++ ys) → (mid : ℕ) × Between f lo mid xs × Between f mid hi ys
  between_append [] ys lo hi b = (lo, (let k : lo ≤ lo = omega arith in k), b)
  between_append (x ∷ xs) ys lo hi b = let k = between_append xs ys (suc (f x)) hi b.1 in (k.0, (b.0, k.1), k.2)

  pub between_push : (xs : List A) (x : A) (lo mid : ℕ) → Between f lo mid xs → mid ≤ f x → Between f lo (suc (f x)) (xs ++ x ∷ [])
  between_push [] x lo mid b h = ((let k : lo ≤ f x = omega arith in k), (let k : suc (f x) ≤ suc (f x) = omega arith in k))
  between_push (y ∷ xs) x lo mid b h = (b.0, between_push xs x (suc (f y)) mid b.1 h)

  pub between_up : (xs : List A) (lo hi up : ℕ) → Between f lo hi xs → hi ≤ up → Between f lo up xs
  between_up [] lo hi up b h = (let k : lo ≤ hi = b in omega (arith, k))
  between_up (x ∷ xs) lo hi up b h = (b.0, between_up xs (suc (f x)) hi up b.1 h)

  pub between_down : (xs : List A) (lo low hi : ℕ) → Between f lo hi xs → low ≤ lo → Between f low hi xs
  between_down [] lo low hi b h = (let k : lo ≤ hi = b in omega (arith, k))
  between_down (x ∷ xs) lo low hi b h = ((let k = b.0 in omega (arith, k)), b.1)

abbrev pub at_item : {V : Type 0} → Said V × Place → ℕ
at_item x = key x.1

module _ {V : Type 0} where
  none_from : (xs : List (Said V × Place)) → from_point None xs ≡ []
  none_from [] = refl
  none_from (x ∷ xs) = none_from xs

  none_yet : (point : Place) (xs : List (Said V × Place)) (lo hi : ℕ) → Between at_item lo hi xs → hi ≤ key point → from_point (Some point) xs ≡ []
  none_yet point [] lo hi b h = refl
  none_yet point (x ∷ xs) lo hi b h =
      let l = between_le at_item xs (suc (key x.1)) hi b.1 in
      ap (λ (t : Bool). cond t (x ∷ from_point (Some point) xs) (from_point (Some point) xs)) (lt-leb (key point) (key x.1) (omega arith)) ∙ none_yet point xs (suc (key x.1)) hi b.1 h

  all_from : (point : Place) (xs : List (Said V × Place)) (lo hi : ℕ) → Between at_item lo hi xs → key point ≤ lo → from_point (Some point) xs ≡ xs
  all_from point [] lo hi b h = refl
  all_from point (x ∷ xs) lo hi b h =
      let l = b.0 in
      ap (λ (t : Bool). cond t (x ∷ from_point (Some point) xs) (from_point (Some point) xs)) (le-leb (key point) (key x.1) (omega arith))
      ∙ ap (λ (ys : List (Said V × Place)). x ∷ ys) (all_from point xs (suc (key x.1)) hi b.1 (omega arith))

  from_append : (point : Option Place) (xs ys : List (Said V × Place)) → from_point point (xs ++ ys) ≡ from_point point xs ++ from_point point ys
  from_append point xs ys = filter-append (λ (x : Said V × Place). is_from point x.1) xs ys

  items_append : (xs ys : List (Said V × Place)) → items_of (xs ++ ys) ≡ items_of xs ++ items_of ys
  items_append xs ys = filter-append (λ (x : Said V × Place). is_kept x.0) xs ys

  items_kept : (xs : List (V × Place)) → items_of (kept xs) ≡ kept xs
  items_kept [] = refl
  items_kept (x ∷ xs) = ap (λ (ys : List (Said V × Place)). (Kept x.0, x.1) ∷ ys) (items_kept xs)

  kept_between : (xs : List (V × Place)) (lo hi : ℕ) → Between (λ x. key x.1) lo hi xs → Between at_item lo hi (kept xs)
  kept_between [] lo hi b = b
  kept_between (x ∷ xs) lo hi b = (b.0, kept_between xs (suc (key x.1)) hi b.1)

module _ {S V : Type 0} (rule : S → Placed → Next S V) (start : S) where
  abbrev at_unit : Placed → ℕ
  at_unit b = key b.place

  abbrev at_value : V × Place → ℕ
  at_value x = key x.1

  items_on : (q : Progress S V) (b : Placed) (n : Next S V) (f : Option (Place × Reason)) (lo mid : ℕ) → Between at_value lo mid q.items → mid ≤ at_unit b → Between at_value lo (suc (at_unit b)) (with_unit start q b n f).items
  items_on q b (End v) None lo mid h k = between_push at_value q.items (v, b.place) lo mid h k
  items_on q b (Go s) None lo mid h k = between_up at_value q.items lo mid (suc (at_unit b)) h (omega arith)
  items_on q b (Fail e) None lo mid h k = between_up at_value q.items lo mid (suc (at_unit b)) h (omega arith)
  items_on q b n (Some f) lo mid h k = between_up at_value q.items lo mid (suc (at_unit b)) h (omega arith)

  -- the items of a reading rise as its units do
  pub items_between : (w : List Placed) (q : Progress S V) (lo mid hi : ℕ) → Between at_value lo mid q.items → Between at_unit mid hi w → Between at_value lo hi (progress_from rule start q w).items
  items_between [] q lo mid hi h b = between_up at_value q.items lo mid hi h b
  items_between (b ∷ w) q lo mid hi h k =
      items_between w (advance rule start q b) lo (suc (at_unit b)) hi (items_on q b (rule q.state b) q.fault lo mid h k.0) k.1

module _ {S V : Type 0} (Spells : V → List Placed → Type 0) (why : List Placed → Reason) (rule : S → Placed → Next S V) (start : S) (p : Pattern) (v : V)
    (k : Syncs Spells why rule start p v) where
  abbrev stream : Bool → List Placed → Stream V
  stream = resting.stream Spells why rule start p v k

  abbrev hunting : Bool → Hunting V
  hunting = resting.hunting Spells why rule start p v k

  items_shown : (h : Bool) (n : ℕ) (place : Place) (xs : List (V × Place)) → items_of (resting.notice Spells why rule start p v k h n place ++ kept xs) ≡ kept xs
  items_shown false n place xs = items_kept xs
  items_shown true n place xs = items_kept xs

  given_between : (h : Bool) (x : List Placed) (lo hi : ℕ) → Between (λ b. key b.place) lo hi x → Between at_item lo hi (items_of (stream h x).given)
  given_between h x lo hi b = elim (locking.by_mode Spells why rule start p v k h x) [
    | inr n ↦
        subst (λ (t : Bool). Between at_item lo hi (items_of (stream t x).given)) (sym n.0)
        (subst (λ (s : Stream V). Between at_item lo hi (items_of s.given)) (sym (resting.skips Spells why rule start p v k x n.2)) (between_le (λ (c : Placed). key c.place) x lo hi b))
    | inl r ↦
        let s = resting.shows Spells why rule start p v k h x (length r.front) r.place (progress rule start r.seen) r.here in
        let m = between_append (λ (c : Placed). key c.place) r.front r.seen lo hi (subst (λ (l : List Placed). Between (λ b. key b.place) lo hi l) r.parts b) in
        let i = items_between rule start r.seen (ended rule start []) lo m.0 hi (between_le (λ (c : Placed). key c.place) r.front lo m.0 m.1) m.2 in
        subst (λ (l : List (Said V × Place)). Between at_item lo hi l)
        (sym (ap (λ (z : Stream V). items_of z.given) s ∙ items_shown h (length r.front) r.place (progress rule start r.seen).items))
        (kept_between (progress rule start r.seen).items lo hi i)
  ]

  -- the items of units that rise are in order
  pub order : (h : Bool) (x : List Placed) → IsRising x → (hi : ℕ) × Between at_item 0 hi (items_of (stream h x).given)
  order h x r = (r.0, given_between h x 0 r.0 r.1)

  -- with more units there is more, and nothing is taken back
  pub more : (h : Bool) (w z : List Placed) → (xs : List (Said V × Place)) × ((stream h (w ++ z)).given ≡ (stream h w).given ++ xs)
  more h w z = elim (locking.by_mode Spells why rule start p v k h w) [
    | inr n ↦ by n.0 n.2
    | inl r ↦
        let q = progress rule start r.seen in
        let now = resting.shows Spells why rule start p v k h w (length r.front) r.place q r.here in
        let then = resting.shows Spells why rule start p v k h (w ++ z) (length r.front) r.place (progress rule start (r.seen ++ z)) (r.on z) in
        let notice = resting.notice Spells why rule start p v k h (length r.front) r.place in
        let on : progress rule start (r.seen ++ z) ≡ progress_from rule start q z = read_on rule start r.seen z (ended rule start []) in
        let g = items_from rule start z q in (
          kept g.0,
          ap (λ (y : Stream V). y.given) then ∙ ap (λ (y : Progress S V). notice ++ kept y.items) on ∙ ap (λ (y : List (V × Place)). notice ++ kept y) g.1
              ∙ ap (λ (y : List (Said V × Place)). notice ++ y) (map-append (λ (x : V × Place). (Kept x.0, x.1)) q.items g.0) ∙ sym (append_assoc notice (kept q.items) (kept g.0))
              ∙ ap (λ (y : List (Said V × Place)). y ++ kept g.0) (sym (ap (λ (y : Stream V). y.given) now)),
        )
  ] where
    by : h ≡ true → (hunt p v rule start w).found ≡ None → (xs : List (Said V × Place)) × ((stream h (w ++ z)).given ≡ (stream h w).given ++ xs)
    by t n =
        ((stream h (w ++ z)).given, ap (λ (y : List (Said V × Place)). y ++ (stream h (w ++ z)).given) (sym (ap (λ (b : Bool). (stream b w).given) t ∙ ap (λ (y : Stream V). y.given) (resting.skips Spells why rule start p v k w n))))

  -- a front of a whole without a fault has none
  sound_before : (h : Bool) (u w : List Placed) → (stream h (u ++ w)).fault ≡ None → (stream h u).fault ≡ None
  sound_before h u w e = by (stream h u).fault refl where
    by : (o : Option (Place × Reason)) → (stream h u).fault ≡ o → (stream h u).fault ≡ None
    by None f = f
    by (Some g) f =
        let s = (modes.settles p v rule start h u w (ap (λ (o : Option (Place × Reason)). is_none o) f)).fault in
        let q : None ≡ Some g = sym e ∙ s ∙ f in cc

  whole_more : (h : Bool) (u w z front : List Placed) → IsSync (hunting h) u w front → IsSync (hunting h) u (w ++ z) front
  whole_more h u w z front s = record {
    more = s.more ++ z;
    parts = ap (λ (l : List Placed). l ++ z) s.parts ∙ append_assoc front s.more z;
    long = s.long;
    ended = s.ended;
  }

  -- where no front of w has a whole v, nothing is given
  nothing_yet : (h : Bool) (u w : List Placed) → (stream h (u ++ w)).fault ≡ None → ((front : List Placed) → IsSync (hunting h) u w front → ⊥) →
      (stream true w).given ≡ []
  nothing_yet h u w e n = elim (resting.is_rest Spells why rule start p v k h u w e) [
    | inl m ↦ ap (λ (s : Stream V). s.given) m.1
    | inr m ↦ absurd (n m.0 m.1.first.is_sync)
  ]

  last_of : (w : List Placed) (g : Placed) → (c : List Placed) × (x : Placed) × ((g ∷ w) ≡ c ++ x ∷ [])
  last_of [] g = ([], g, refl)
  last_of (y ∷ w) g = let m = last_of w y in ((g ∷ m.0), m.1, ap (λ (l : List Placed). g ∷ l) m.2)

  locked : (h : Bool) (u w z front : List Placed) → IsRising (u ++ (w ++ z)) → (stream h (u ++ (w ++ z))).fault ≡ None →
      Locks (hunting h) u (w ++ z) front →
      items_of (stream true w).given ≡ from_point (point_of (stream true (w ++ z))) (items_of (stream h (u ++ w)).given)
  locked h u w z front rising sound l =
      let whole = l.first.is_sync in
      let point : point_of (stream true (w ++ z)) ≡ Some l.last.place = ap (λ (x : List Placed). point_of (stream true x)) whole.parts ∙ ap (λ (s : Stream V). point_of s) (l.rest_on whole.more) in
      elim (fronts_meet front w whole.more z (sym whole.parts)) [
        | inl m ↦ after m.0 m.1 ∙ ap (λ (o : Option Place). from_point o (items_of (stream h (u ++ w)).given)) (sym point)
        | inr m ↦ before m.0 m.1 m.2 ∙ ap (λ (o : Option Place). from_point o (items_of (stream h (u ++ w)).given)) (sym point)
      ] where
        parts : (mid : ℕ) × Between (λ b. key b.place) 0 mid (u ++ w) × Between (λ b. key b.place) mid rising.0 z
        parts = between_append (λ (c : Placed). key c.place) (u ++ w) z 0 rising.0 (subst (λ (x : List Placed). Between (λ b. key b.place) 0 rising.0 x) (sym (append_assoc u w z)) rising.1)

        after : (c : List Placed) → w ≡ front ++ c → items_of (stream true w).given ≡ from_point (Some l.last.place) (items_of (stream h (u ++ w)).given)
        after c e =
            let given : items_of (stream h (u ++ w)).given ≡ items_of l.early ++ ((Kept v, l.last.place) ∷ kept (l.later c)) =
            ap (λ (x : List Placed). items_of (stream h (u ++ x)).given) e ∙ ap items_of (l.whole_on c) ∙ items_append l.early ((Kept v, l.last.place) ∷ kept (l.later c))
            ∙ ap (λ (y : List (Said V × Place)). items_of l.early ++ y) (items_kept ((v, l.last.place) ∷ l.later c)) in
            let all = subst (λ (y : List (Said V × Place)). Between at_item 0 parts.0 y) given (given_between h (u ++ w) 0 parts.0 parts.1) in
            let cut = between_append at_item (items_of l.early) ((Kept v, l.last.place) ∷ kept (l.later c)) 0 parts.0 all in
            ap (λ (x : List Placed). items_of (stream true x).given) e ∙ ap (λ (s : Stream V). items_of s.given) (l.rest_on c) ∙ items_kept ((v, l.last.place) ∷ l.later c)
            ∙ sym (
            ap (from_point (Some l.last.place)) given ∙ from_append (Some l.last.place) (items_of l.early) ((Kept v, l.last.place) ∷ kept (l.later c))
            ∙ ap (λ (y : List (Said V × Place)). y ++ from_point (Some l.last.place) ((Kept v, l.last.place) ∷ kept (l.later c))) (none_yet l.last.place (items_of l.early) 0 cut.0 cut.1 cut.2.0)
            ∙ all_from l.last.place ((Kept v, l.last.place) ∷ kept (l.later c)) (key l.last.place) parts.0 ((let q : key l.last.place ≤ key l.last.place = omega arith in q), cut.2.1) (omega arith))

        before : (c : List Placed) (g : Placed) → front ≡ w ++ (g ∷ c) → items_of (stream true w).given ≡ from_point (Some l.last.place) (items_of (stream h (u ++ w)).given)
        before c g e =
            let none = nothing_yet h u w (sound_before h (u ++ w) z (ap (λ (x : List Placed). (stream h x).fault) (append_assoc u w z) ∙ sound)) (λ other s.
            (let m = l.first.least other (whole_more h u w z other s) in let n = ap length e in let o = length-append w (g ∷ c) in let i = ap length s.parts in let j = length-append other s.more in let q : length (g ∷ c) ≡ length c + 1 = omega arith in omega (arith, m, n, o, i, j, q))) in
            let x = last_of c g in
            let same : l.last ≡ x.1 = (same_from_push l.start (w ++ x.0) l.last x.1 (sym l.ends ∙ e ∙ ap (λ (y : List Placed). w ++ y) x.2 ∙ sym (append_assoc w x.0 (x.1 ∷ [])))).1 in
            let after_w : z ≡ (x.0 ++ x.1 ∷ []) ++ l.first.is_sync.more =
            append_cancel_left w z ((x.0 ++ x.1 ∷ []) ++ l.first.is_sync.more) (l.first.is_sync.parts ∙ ap (λ (y : List Placed). y ++ l.first.is_sync.more) (e ∙ ap (λ (y : List Placed). w ++ y) x.2) ∙ append_assoc w (x.0 ++ x.1 ∷ []) l.first.is_sync.more) in
            let one = between_append (λ (y : Placed). key y.place) (x.0 ++ x.1 ∷ []) l.first.is_sync.more parts.0 rising.0 (subst (λ (y : List Placed). Between (λ b. key b.place) parts.0 rising.0 y) after_w parts.2) in
            let two = between_append (λ (y : Placed). key y.place) x.0 (x.1 ∷ []) parts.0 one.0 one.1 in
            let low = between_le (λ (y : Placed). key y.place) x.0 parts.0 two.0 two.1 in
            let high : two.0 ≤ key x.1.place = two.2.0 in
            let at : key x.1.place ≡ key l.last.place = ap (λ (y : Placed). key y.place) (sym same) in
            ap items_of none ∙ sym (none_yet l.last.place (items_of (stream h (u ++ w)).given) 0 parts.0 (given_between h (u ++ w) 0 parts.0 parts.1) (omega (arith, low, high, at)))

  -- with each front of its units the rest's source gives what the whole's gives from the point on
  pub follows : (h : Bool) → Follows (stream h) (stream true)
  follows h u w z rising sound = elim (resting.is_rest Spells why rule start p v k h u (w ++ z) sound) [
    | inr l ↦ locked h u w z l.0 rising sound l.1
    | inl n ↦
        let none = nothing_yet h u w (sound_before h (u ++ w) z (ap (λ (x : List Placed). (stream h x).fault) (append_assoc u w z) ∙ sound)) (λ front s. n.0 front (whole_more h u w z front s)) in
        ap items_of none ∙ sym (ap (λ (s : Stream V). from_point (point_of s) (items_of (stream h (u ++ w)).given)) n.1 ∙ none_from (items_of (stream h (u ++ w)).given))
  ]

-- from a point on twice is from it on
pub from_twice : {V : Type 0} (point : Option Place) (xs : List (Said V × Place)) → from_point point (from_point point xs) ≡ from_point point xs
from_twice point [] = refl
from_twice {V} point (x ∷ xs) = by (is_from point x.1) refl (from_twice point xs) where
  by : (b : Bool) → is_from point x.1 ≡ b → from_point point (from_point point xs) ≡ from_point point xs →
      from_point point (cond b (x ∷ from_point point xs) (from_point point xs)) ≡ cond b (x ∷ from_point point xs) (from_point point xs)
  by true e k = ap (λ (t : Bool). cond t (x ∷ from_point point (from_point point xs)) (from_point point (from_point point xs))) e ∙ ap (λ (l : List (Said V × Place)). x ∷ l) k
  by false e k = k
