-- From the first value on that begins the state anew, the rest gives the items that the whole gives.
use Rattle.std.proofs.Common.{◌≡◌, ℕ, suc, ◌≤◌, List, [], ◌∷◌, ◌++◌, refl, sym, ◌∙◌, ap, subst, arith, append-nil, append_assoc, Bool, true, false, cond, Option, None, Some}
use Rattle.std.specs.Prelude.{nat_le}
use Rattle.std.proofs.lemmas.List.Elements.{filter-append}
use Rattle.std.proofs.lemmas.Bool.{le-leb, leb-true, lt-leb}
use Rattle.resync_rules.specs.Names.{Place, Placed, Stream, Said, Notice, Kept, kept_if, decorate, carried, decorated}
use Rattle.resync_rules.specs.Points.{Between, IsRising, is_kept, items_of, point_of, from_point, Follows, FollowsFrom}
use Rattle.resync_rules.specs.Points.{key, is_from, AllFrom}
use Rattle.resync_rules.proofs.Following.{at_item, between_append, between_down}
use Rattle.trace_values.proofs.Decorating.{decorate_append}
use Rattle.resync_rules.proofs.ItemTerms.{first_item, IsMarked, AllFit, BeginsAnew}

-- items before a place, and from it on
abbrev AllUnder : {V : Type 0} → Place → List (Said V × Place) → Type 0
AllUnder p [] = Unit {0}
AllUnder p (x ∷ xs) = (is_from (Some p) x.1 ≡ false) × AllUnder p xs

keep_all : {V : Type 0} (o : Option Place) (xs : List (Said V × Place)) → AllFrom o xs → from_point o xs ≡ xs
keep_all o [] h = refl
keep_all {V} o (x ∷ xs) h = ap (λ (b : Bool). cond b (x ∷ from_point o xs) (from_point o xs)) h.0 ∙ ap (λ (l : List (Said V × Place)). x ∷ l) (keep_all o xs h.1)

drop_under : {V : Type 0} (p : Place) (xs : List (Said V × Place)) → AllUnder p xs → from_point (Some p) xs ≡ []
drop_under p [] h = refl
drop_under p (x ∷ xs) h = ap (λ (b : Bool). cond b (x ∷ from_point (Some p) xs) (from_point (Some p) xs)) h.0 ∙ drop_under p xs h.1

all_above : {V : Type 0} (p : Place) (xs : List (Said V × Place)) (lo hi : ℕ) → Between at_item lo hi xs → key p ≤ lo → AllFrom (Some p) xs
all_above p [] lo hi b l = tt
all_above p (x ∷ xs) lo hi b l = (le-leb (key p) (key x.1) (let k = b.0 in omega arith), all_above p xs (suc (key x.1)) hi b.1 (let k = b.0 in omega arith))

-- no notices
abbrev AllKept : {V : Type 0} → List (Said V × Place) → Type 0
AllKept [] = Unit {0}
AllKept ((Notice n, p) ∷ xs) = ⊥
AllKept ((Kept v, p) ∷ xs) = AllKept xs

items_kept_all : {V : Type 0} (xs : List (Said V × Place)) → AllKept (items_of xs)
items_kept_all [] = tt
items_kept_all ((Notice n, p) ∷ xs) = items_kept_all xs
items_kept_all ((Kept v, p) ∷ xs) = items_kept_all xs

first_items : {V : Type 0} (is_such : V → Bool) (xs : List (Said V × Place)) → first_item is_such (items_of xs) ≡ first_item is_such xs
first_items is_such [] = refl
first_items is_such ((Notice n, p) ∷ xs) = first_items is_such xs
first_items is_such ((Kept v, p) ∷ xs) = ap (λ (o : Option Place). cond (is_such v) (Some p) o) (first_items is_such xs)

none_from : {V : Type 0} (xs : List (Said V × Place)) → from_point None xs ≡ []
none_from [] = refl
none_from (x ∷ xs) = none_from xs

pub from_all : {V : Type 0} (o : Option Place) (xs : List (Said V × Place)) → AllFrom o (from_point o xs)
from_all o [] = tt
from_all o (x ∷ xs) = by (is_from o x.1) refl (from_all o xs) where
  by : (b : Bool) → is_from o x.1 ≡ b → AllFrom o (from_point o xs) → AllFrom o (cond b (x ∷ from_point o xs) (from_point o xs))
  by true e h = (e, h)
  by false e h = h

-- fronts and backs of units that rise
front_rises : (u w : List Placed) → IsRising (u ++ w) → IsRising u
front_rises u w r = let k = between_append (λ (b : Placed). key b.place) u w 0 r.0 r.1 in (k.0, k.1)

back_rises : (u w : List Placed) → IsRising (u ++ w) → IsRising w
back_rises u w r = let k = between_append (λ (b : Placed). key b.place) u w 0 r.0 r.1 in (r.0, between_down (λ (b : Placed). key b.place) w k.0 0 r.0 k.2 (omega arith))

-- items in order, cut at a place
record Cut {V : Type 0} (p : Place) (xs : List (Said V × Place)) : Type 0 where
  early : List (Said V × Place)
  late : List (Said V × Place)
  parts : xs ≡ early ++ late
  low : AllUnder p early
  high : AllFrom (Some p) late

cut_at : {V : Type 0} (p : Place) (xs : List (Said V × Place)) (lo hi : ℕ) → Between at_item lo hi xs → Cut p xs
cut_at p [] lo hi b = record { early = []; late = []; parts = refl; low = tt; high = tt }
cut_at {V} p (x ∷ xs) lo hi b = by (nat_le (key p) (key x.1)) refl (cut_at p xs (suc (key x.1)) hi b.1) where
  by : (t : Bool) → nat_le (key p) (key x.1) ≡ t → Cut p xs → Cut p (x ∷ xs)
  by true e k = record { early = []; late = x ∷ xs; parts = refl; low = tt; high = (e, all_above p xs (suc (key x.1)) hi b.1 (let l = leb-true (key p) (key x.1) e in omega arith)) }
  by false e k = record { early = x ∷ k.early; late = k.late; parts = ap (λ (l : List (Said V × Place)). x ∷ l) k.parts; low = (e, k.low); high = k.high }

late_is : {V : Type 0} (p : Place) (xs : List (Said V × Place)) (k : Cut p xs) → from_point (Some p) xs ≡ k.late
late_is {V} p xs k =
    ap (from_point (Some p)) k.parts ∙ filter-append (λ (x : Said V × Place). is_from (Some p) x.1) k.early k.late
    ∙ ap (λ (l : List (Said V × Place)). l ++ from_point (Some p) k.late) (drop_under p k.early k.low) ∙ keep_all (Some p) k.late k.high

-- from a later point on
from_later : {V : Type 0} (l p : Place) (xs : List (Said V × Place)) → key l ≤ key p → from_point (Some p) (from_point (Some l) xs) ≡ from_point (Some p) xs
from_later l p [] h = refl
from_later {V} l p (x ∷ xs) h = by (is_from (Some l) x.1) refl (is_from (Some p) x.1) refl (from_later l p xs h) where
  by : (s : Bool) → is_from (Some l) x.1 ≡ s → (t : Bool) → is_from (Some p) x.1 ≡ t → from_point (Some p) (from_point (Some l) xs) ≡ from_point (Some p) xs →
      from_point (Some p) (cond s (x ∷ from_point (Some l) xs) (from_point (Some l) xs)) ≡ cond (is_from (Some p) x.1) (x ∷ from_point (Some p) xs) (from_point (Some p) xs)
  by true d t e k = ap (λ (y : List (Said V × Place)). cond (is_from (Some p) x.1) (x ∷ y) y) k
  by false d true e k = absurd (let a = leb-true (key p) (key x.1) e in let b = le-leb (key l) (key x.1) (omega arith) in let c : true ≡ false = sym b ∙ d in cc)
  by false d false e k = k ∙ ap (λ (b : Bool). cond b (x ∷ from_point (Some p) xs) (from_point (Some p) xs)) (sym e)

module _ {V W T : Type 0} (step : T → V → Option W × T) where
  items_kept : (o : Option W) (p : Place) (xs : List (Said W × Place)) → items_of (kept_if o p xs) ≡ kept_if o p (items_of xs)
  items_kept None p xs = refl
  items_kept (Some w) p xs = refl

  -- notices are no part of it
  items_decorated : (xs : List (Said V × Place)) (t : T) → items_of (decorate step t xs) ≡ decorate step t (items_of xs)
  items_decorated [] t = refl
  items_decorated ((Notice n, p) ∷ xs) t = items_decorated xs t
  items_decorated ((Kept v, p) ∷ xs) t = items_kept (step t v).0 p (decorate step (step t v).1 xs) ∙ ap (λ (l : List (Said W × Place)). kept_if (step t v).0 p l) (items_decorated xs (step t v).1)

  under_kept : (q p : Place) (o : Option W) (xs : List (Said W × Place)) → is_from (Some q) p ≡ false → AllUnder q xs → AllUnder q (kept_if o p xs)
  under_kept q p None xs e h = h
  under_kept q p (Some w) xs e h = (e, h)

  all_under : (q : Place) (xs : List (Said V × Place)) (t : T) → AllUnder q xs → AllUnder q (decorate step t xs)
  all_under q [] t h = tt
  all_under q ((Notice n, p) ∷ xs) t h = (h.0, all_under q xs t h.1)
  all_under q ((Kept v, p) ∷ xs) t h = under_kept q p (step t v).0 (decorate step (step t v).1 xs) h.0 (all_under q xs (step t v).1 h.1)

  from_kept : (q : Option Place) (p : Place) (o : Option W) (xs : List (Said W × Place)) → is_from q p ≡ true → AllFrom q xs → AllFrom q (kept_if o p xs)
  from_kept q p None xs e h = h
  from_kept q p (Some w) xs e h = (e, h)

  all_from : (q : Option Place) (xs : List (Said V × Place)) (t : T) → AllFrom q xs → AllFrom q (decorate step t xs)
  all_from q [] t h = tt
  all_from q ((Notice n, p) ∷ xs) t h = (h.0, all_from q xs t h.1)
  all_from q ((Kept v, p) ∷ xs) t h = from_kept q p (step t v).0 (decorate step (step t v).1 xs) h.0 (all_from q xs (step t v).1 h.1)

  -- what is made of items in order, from a place on
  late_made : (p : Place) (xs : List (Said V × Place)) (t : T) (k : Cut p xs) → from_point (Some p) (decorate step t xs) ≡ decorate step (carried step t k.early) k.late
  late_made p xs t k =
      ap (λ (l : List (Said V × Place)). from_point (Some p) (decorate step t l)) k.parts
      ∙ ap (from_point (Some p)) (decorate_append step k.early k.late t)
      ∙ filter-append (λ (x : Said W × Place). is_from (Some p) x.1) (decorate step t k.early) (decorate step (carried step t k.early) k.late)
      ∙ ap (λ (l : List (Said W × Place)). l ++ from_point (Some p) (decorate step (carried step t k.early) k.late)) (drop_under p (decorate step t k.early) (all_under p k.early t k.low))
      ∙ keep_all (Some p) (decorate step (carried step t k.early) k.late) (all_from (Some p) k.late (carried step t k.early) k.high)

  module _ (fits : V → Type 0) (resets : V → Bool) (marks : W → Bool) (Alike : T → T → Type 0) (anew : BeginsAnew step fits resets marks Alike) where
    -- the first item of the kind is the first value that begins anew
    first_kept : (b : Bool) (o : Option W) (p : Place) (xs : List (Said W × Place)) → IsMarked marks b o → first_item marks (kept_if o p xs) ≡ cond b (Some p) (first_item marks xs)
    first_kept true None p xs m = absurd m
    first_kept false None p xs m = refl
    first_kept true (Some w) p xs m = ap (λ (b : Bool). cond b (Some p) (first_item marks xs)) m
    first_kept false (Some w) p xs m = ap (λ (b : Bool). cond b (Some p) (first_item marks xs)) m

    first_made : (xs : List (Said V × Place)) (t : T) → AllFit fits xs → first_item marks (decorate step t xs) ≡ first_item resets xs
    first_made [] t h = refl
    first_made ((Notice n, p) ∷ xs) t h = first_made xs t h
    first_made ((Kept v, p) ∷ xs) t h =
        first_kept (resets v) (step t v).0 p (decorate step (step t v).1 xs) (anew.marked t v h.0) ∙ ap (λ (o : Option Place). cond (resets v) (Some p) o) (first_made xs (step t v).1 h.1)

    -- two states that are alike give the same
    same_on : (xs : List (Said V × Place)) (s t : T) → Alike s t → decorate step s xs ≡ decorate step t xs
    same_on [] s t h = refl
    same_on ((Notice n, p) ∷ xs) s t h = ap (λ (l : List (Said W × Place)). (Notice n, p) ∷ l) (same_on xs s t h)
    same_on ((Kept v, p) ∷ xs) s t h =
        let k = anew.on s t v h in
        ap (λ (o : Option W). kept_if o p (decorate step (step s v).1 xs)) k.0 ∙ ap (λ (l : List (Said W × Place)). kept_if (step t v).0 p l) (same_on xs (step s v).1 (step t v).1 k.1)

    -- a list that is empty, or begins anew
    abbrev IsAnew : List (Said V × Place) → Type 0
    IsAnew [] = Unit {0}
    IsAnew ((Notice n, p) ∷ xs) = ⊥
    IsAnew ((Kept v, p) ∷ xs) = resets v ≡ true

    same_anew : (xs : List (Said V × Place)) (s t : T) → IsAnew xs → decorate step s xs ≡ decorate step t xs
    same_anew [] s t h = refl
    same_anew ((Notice n, p) ∷ xs) s t h = absurd h
    same_anew ((Kept v, p) ∷ xs) s t h =
        let k = anew.anew s t v h in
        ap (λ (o : Option W). kept_if o p (decorate step (step s v).1 xs)) k.0 ∙ ap (λ (l : List (Said W × Place)). kept_if (step t v).0 p l) (same_on xs (step s v).1 (step t v).1 k.1)

    front_anew : (xs ys : List (Said V × Place)) → IsAnew (xs ++ ys) → IsAnew xs
    front_anew [] ys h = tt
    front_anew ((Notice n, p) ∷ xs) ys h = h
    front_anew ((Kept v, p) ∷ xs) ys h = h

    first_after : (xs : List (Said V × Place)) (lo hi : ℕ) (p : Place) → Between at_item lo hi xs → first_item resets xs ≡ Some p → lo ≤ key p
    first_after [] lo hi p b e = cc
    first_after ((Notice n, q) ∷ xs) lo hi p b e = (let k = first_after xs (suc (key q)) hi p b.1 e in let l = b.0 in omega arith)
    first_after ((Kept v, q) ∷ xs) lo hi p b e = by (resets v) e (λ k. first_after xs (suc (key q)) hi p b.1 k) where
      by : (t : Bool) → cond t (Some q) (first_item resets xs) ≡ Some p → (first_item resets xs ≡ Some p → suc (key q) ≤ key p) → lo ≤ key p
      by true k more = (let s : q ≡ p = cc in let l : lo ≤ key q = b.0 in subst (λ (z : Place). lo ≤ key z) s l)
      by false k more = (let m = more k in let l = b.0 in omega arith)

    -- from the first value on that begins anew a list in order begins anew
    anew_from : (xs : List (Said V × Place)) (lo hi : ℕ) (p : Place) → Between at_item lo hi xs → AllKept xs → first_item resets xs ≡ Some p → IsAnew (from_point (Some p) xs)
    anew_from [] lo hi p b i e = tt
    anew_from ((Notice n, q) ∷ xs) lo hi p b i e = absurd i
    anew_from ((Kept v, q) ∷ xs) lo hi p b i e = by (resets v) refl e (λ k. first_after xs (suc (key q)) hi p b.1 k) (λ k. anew_from xs (suc (key q)) hi p b.1 i k) where
      by : (t : Bool) → resets v ≡ t → cond t (Some q) (first_item resets xs) ≡ Some p → (first_item resets xs ≡ Some p → suc (key q) ≤ key p) → (first_item resets xs ≡ Some p → IsAnew (from_point (Some p) xs)) →
          IsAnew (cond (is_from (Some p) q) ((Kept v, q) ∷ from_point (Some p) xs) (from_point (Some p) xs))
      by true r k after more =
          let s : q ≡ p = cc in
          subst (λ (b : Bool). IsAnew (cond b ((Kept v, q) ∷ from_point (Some p) xs) (from_point (Some p) xs))) (sym (le-leb (key p) (key q) (subst (λ (z : Place). key z ≤ key q) s (let l : key q ≤ key q = omega arith in l)))) r
      by false r k after more =
          subst (λ (b : Bool). IsAnew (cond b ((Kept v, q) ∷ from_point (Some p) xs) (from_point (Some p) xs))) (sym (lt-leb (key p) (key q) (let l = after k in omega arith))) (more k)

    -- the point is not before the lock
    first_from : (xs : List (Said V × Place)) (o : Option Place) (p : Place) → AllFrom o xs → first_item resets xs ≡ Some p → is_from o p ≡ true
    first_from [] o p a e = cc
    first_from ((Notice n, q) ∷ xs) o p a e = first_from xs o p a.1 e
    first_from ((Kept v, q) ∷ xs) o p a e = by (resets v) e (λ k. first_from xs o p a.1 k) where
      by : (t : Bool) → cond t (Some q) (first_item resets xs) ≡ Some p → (first_item resets xs ≡ Some p → is_from o p ≡ true) → is_from o p ≡ true
      by true k more = (let s : q ≡ p = cc in subst (λ (z : Place). is_from o z ≡ true) s a.0)
      by false k more = more k

    module _ (start : T) (whole rest : List Placed → Stream V) (follow : Follows whole rest)
        (whole_order : (x : List Placed) → IsRising x → (hi : ℕ) × Between at_item 0 hi (items_of (whole x).given))
        (rest_order : (x : List Placed) → IsRising x → (hi : ℕ) × Between at_item 0 hi (items_of (rest x).given))
        (more : (w z : List Placed) → (xs : List (Said V × Place)) × ((rest (w ++ z)).given ≡ (rest w).given ++ xs)) (fit : (x : List Placed) → AllFit fits (rest x).given) where
      at_point : (u w z : List Placed) → IsRising (u ++ (w ++ z)) → (whole (u ++ (w ++ z))).fault ≡ None → (p : Place) → first_item resets (items_of (rest (w ++ z)).given) ≡ Some p →
          from_point (Some p) (decorate step start (items_of (rest w).given)) ≡ from_point (Some p) (decorate step start (items_of (whole (u ++ w)).given))
      at_point u w z rising sound p e =
          let a = items_of (rest w).given in
          let b = items_of (whole (u ++ w)).given in
          let all = items_of (rest (w ++ z)).given in
          let wz = back_rises u (w ++ z) rising in
          let oa = rest_order w (front_rises w z wz) in
          let ob = whole_order (u ++ w) (front_rises (u ++ w) z (subst (λ (l : List Placed). IsRising l) (sym (append_assoc u w z)) rising)) in
          let oall = rest_order (w ++ z) wz in
          let ka = cut_at p a 0 oa.0 oa.1 in
          let kb = cut_at p b 0 ob.0 ob.1 in
          let nil : (w ++ z) ++ [] ≡ w ++ z = append-nil (w ++ z) in
          let whole_all : all ≡ from_point (point_of (rest (w ++ z))) (items_of (whole (u ++ (w ++ z))).given) =
          follow u (w ++ z) [] (subst (λ (l : List Placed). IsRising (u ++ l)) (sym nil) rising) (ap (λ (l : List Placed). (whole (u ++ l)).fault) nil ∙ sound)
          ∙ ap (λ (l : List Placed). from_point (point_of (rest l)) (items_of (whole (u ++ (w ++ z))).given)) nil in
          let after : is_from (point_of (rest (w ++ z))) p ≡ true = first_from all (point_of (rest (w ++ z))) p (subst (λ (l : List (Said V × Place)). AllFrom (point_of (rest (w ++ z))) l) (sym whole_all) (from_all (point_of (rest (w ++ z))) (items_of (whole (u ++ (w ++ z))).given))) e in
          let same : from_point (Some p) a ≡ from_point (Some p) b = ap (from_point (Some p)) (follow u w z rising sound) ∙ later (point_of (rest (w ++ z))) p b after in
          let grown = more w z in
          let parts : all ≡ a ++ items_of grown.0 = ap items_of grown.1 ∙ filter-append (λ (x : Said V × Place). is_kept x.0) (rest w).given grown.0 in
          let begun : IsAnew (from_point (Some p) a ++ from_point (Some p) (items_of grown.0)) =
          subst (λ (l : List (Said V × Place)). IsAnew l) (ap (from_point (Some p)) parts ∙ filter-append (λ (x : Said V × Place). is_from (Some p) x.1) a (items_of grown.0))
          (anew_from all 0 oall.0 p oall.1 (items_kept_all (rest (w ++ z)).given) e) in
          let y = from_point (Some p) a in
          late_made p a start ka ∙ ap (decorate step (carried step start ka.early)) (sym (late_is p a ka))
          ∙ same_anew y (carried step start ka.early) (carried step start kb.early) (front_anew y (from_point (Some p) (items_of grown.0)) begun)
          ∙ ap (decorate step (carried step start kb.early)) (same ∙ late_is p b kb) ∙ sym (late_made p b start kb) where
            later : (o : Option Place) (p : Place) (xs : List (Said V × Place)) → is_from o p ≡ true → from_point (Some p) (from_point o xs) ≡ from_point (Some p) xs
            later None p xs e = cc
            later (Some l) p xs e = from_later l p xs (leb-true (key l) (key p) e)

      -- From the first value that begins the state anew on, the items of the rest are those of the whole.
      pub follows_from : FollowsFrom (λ s. first_item marks s.given) (λ u. decorated step start (whole u)) (λ u. decorated step start (rest u))
      follows_from u w z rising sound =
          ap (λ (o : Option Place). from_point o (items_of (decorate step start (rest w).given))) (first_made (rest (w ++ z)).given start (fit (w ++ z)) ∙ sym (first_items resets (rest (w ++ z)).given))
          ∙ by (first_item resets (items_of (rest (w ++ z)).given)) refl
          ∙ ap (λ (o : Option Place). from_point o (items_of (decorate step start (whole (u ++ w)).given))) (sym (first_made (rest (w ++ z)).given start (fit (w ++ z)) ∙ sym (first_items resets (rest (w ++ z)).given))) where
            by : (o : Option Place) → first_item resets (items_of (rest (w ++ z)).given) ≡ o → from_point o (items_of (decorate step start (rest w).given)) ≡ from_point o (items_of (decorate step start (whole (u ++ w)).given))
            by None e = none_from (items_of (decorate step start (rest w).given)) ∙ sym (none_from (items_of (decorate step start (whole (u ++ w)).given)))
            by (Some p) e =
                ap (from_point (Some p)) (items_decorated (rest w).given start) ∙ at_point u w z rising sound p e ∙ ap (from_point (Some p)) (sym (items_decorated (whole (u ++ w)).given start))
