-- The merged list is sorted, has what the port says as its part of the port and what each source says as its part of
-- that source, and is the only one.
use Rattle.std.proofs.Common.{◌≡◌, ◌≢◌, ℕ, ◌+◌, ◌<◌, ◌≤◌, List, [], ◌∷◌, ◌++◌, length, refl, sym, ◌∙◌, ap, ◌⊎◌, inl, inr, append_assoc, append-nil, arith, subst, Option, None, Some, Bool, true, false, cond}
use Rattle.std.specs.Prelude.{drop, ◌==◌, ◌&&◌, ◌||◌, nat_lt}
use Rattle.std.proofs.lemmas.Bool.Decides.{nat_tests}
use Rattle.std.proofs.lemmas.List.{map-append, drop_at}
use Rattle.std.proofs.lemmas.List.Elements.{filter-append}
use Rattle.trace_values.specs.Placed.{Place}
use Rattle.source_events.specs.declared.event.Event.{Event}
use Rattle.source_events.specs.declared.event.What.{What}
use Rattle.source_events.specs.Merge.{told, place_of, grown, merged_from, is_of, part, IsAtMost, start_of, SortedFrom, InOrder, Between, AllIn, IsMerged, is_before, cut, From, Below}
use Rattle.source_events.proofs.Adding.{AddsAlways, GoesOn}

pub test_same : (a b : ℕ) → a ≡ b → (a == b) ≡ true
test_same a b e = grind (arith, nat_tests)

pub test_other : (a b : ℕ) → a ≢ b → (a == b) ≡ false
test_other a b e = grind (arith, nat_tests)

pub same_or_not : (a b : ℕ) → (a ≡ b) ⊎ (a ≢ b)
same_or_not a b = grind (arith, nat_tests)

-- sources, the port among them
pub is_same : (a b : Option ℕ) → b ≡ a → is_of a b ≡ true
is_same None None e = refl
is_same None (Some y) e = cc
is_same (Some x) None e = cc
is_same (Some x) (Some y) e = test_same y x (let k = e in cc)

pub is_other : (a b : Option ℕ) → b ≢ a → is_of a b ≡ false
is_other None None n = absurd (n refl)
is_other None (Some y) n = refl
is_other (Some x) None n = refl
is_other (Some x) (Some y) n = test_other y x (λ e. n (ap Some e))

pub one_or_other : (a b : Option ℕ) → (a ≡ b) ⊎ (a ≢ b)
one_or_other None None = inl refl
one_or_other None (Some y) = inr (λ e. (let k = e in cc))
one_or_other (Some x) None = inr (λ e. (let k = e in cc))
one_or_other (Some x) (Some y) = elim (same_or_not x y) [
  | inl e ↦ inl (ap Some e)
  | inr n ↦ inr (λ e. n (let k = e in cc))
]

pub at_most_trans : (p q r : Place) → IsAtMost p q → IsAtMost q r → IsAtMost p r
at_most_trans p q r s t = grind (arith, s, t)

pub at_most_self : (p : Place) → IsAtMost p p
at_most_self p = inr (refl, (let z : p.half ≤ p.half = omega arith in z))

pub below_start : (p : Place) (n : ℕ) → p.at < n → IsAtMost p (start_of n)
below_start p n l = inl l

pub start_le : (n k : ℕ) → n ≤ k → IsAtMost (start_of n) (start_of k)
start_le n k l = grind arith

-- an event is in a list
abbrev In : {V : Type 0} → Event V → List (Event V) → Type 0
In e [] = ⊥
In e (g ∷ gs) = (e ≡ g) ⊎ In e gs

in_append : {V : Type 0} (e : Event V) (xs ys : List (Event V)) → In e (xs ++ ys) → In e xs ⊎ In e ys
in_append e [] ys h = inr h
in_append e (x ∷ xs) ys (inl h) = inl (inl h)
in_append e (x ∷ xs) ys (inr h) = elim (in_append e xs ys h) [ inl k ↦ inl (inr k) | inr k ↦ inr k ]

-- the first of a source is in the list
in_part : {V : Type 0} (x : Option ℕ) (e : Event V) (es xs : List (Event V)) → part x xs ≡ e ∷ es → In e xs
in_part x e es [] h = cc
in_part x e es (g ∷ gs) h = by_test (is_of x g.source) (in_part x e es gs) h where
  by_test : (t : Bool) → (part x gs ≡ e ∷ es → In e gs) → cond t (g ∷ part x gs) (part x gs) ≡ e ∷ es → In e (g ∷ gs)
  by_test true more h = inl (let k : g ≡ e = cc in sym k)
  by_test false more h = inr (more h)

in_sorted : {V : Type 0} (e : Event V) (p : Place) (xs : List (Event V)) → SortedFrom p xs → In e xs → IsAtMost p (place_of e)
in_sorted {V} e p [] s i = elim i [ ]
in_sorted {V} e p (g ∷ gs) s (inl h) = subst (λ (x : Event V). IsAtMost p (place_of x)) (sym h) s.0
in_sorted {V} e p (g ∷ gs) s (inr h) = at_most_trans p (place_of g) (place_of e) s.0 (in_sorted e (place_of g) gs s.1 h)

-- events of different sources stand at different offsets
abbrev OneSource : {V : Type 0} → List (Event V) → Type 0
OneSource {V} xs = (e g : Event V) → In e xs → In g xs → e.at ≡ g.at → e.source ≡ g.source

both_at : {V : Type 0} (e g : Event V) → IsAtMost (place_of e) (place_of g) → IsAtMost (place_of g) (place_of e) → e.at ≡ g.at
both_at e g s t = grind (arith, s, t)

part_own : {V : Type 0} (e : Event V) (xs : List (Event V)) → part e.source (e ∷ xs) ≡ e ∷ part e.source xs
part_own e xs = ap (λ (t : Bool). cond t (e ∷ part e.source xs) (part e.source xs)) (is_same e.source e.source refl)

part_other : {V : Type 0} (x : Option ℕ) (e : Event V) (xs : List (Event V)) → e.source ≢ x → part x (e ∷ xs) ≡ part x xs
part_other x e xs n = ap (λ (t : Bool). cond t (e ∷ part x xs) (part x xs)) (is_other x e.source n)

part_at : {V : Type 0} (x : Option ℕ) (e : Event V) (xs : List (Event V)) → e.source ≡ x → part x (e ∷ xs) ≡ e ∷ part x xs
part_at x e xs h = ap (λ (t : Bool). cond t (e ∷ part x xs) (part x xs)) (is_same x e.source h)

-- two sorted lists with the same parts are one
pub only : {V : Type 0} (xs ys : List (Event V)) (p q : Place) → SortedFrom p xs → SortedFrom q ys → OneSource xs →
    ((x : Option ℕ) → part x xs ≡ part x ys) → xs ≡ ys
only {V} [] [] p q s t o h = refl
only {V} [] (g ∷ ys) p q s t o h = absurd (let k = h g.source ∙ part_own g ys in cc)
only {V} (e ∷ xs) [] p q s t o h = absurd (let k = sym (part_own e xs) ∙ h e.source in cc)
only {V} (e ∷ xs) (g ∷ ys) p q s t o h = elim (one_or_other e.source g.source) [
  | inl m ↦
      (let k : e ∷ part e.source xs ≡ g ∷ part e.source ys = sym (part_own e xs) ∙ h e.source ∙ part_at e.source g ys (sym m) in
      let first : e ≡ g = cc in
      let rest : xs ≡ ys = only xs ys (place_of e) (place_of g) s.1 t.1 (λ a b i j. o a b (inr i) (inr j)) (λ x. tails first x (one_or_other e.source x)) in
      cc)
  | inr m ↦
      (let k : e ∷ part e.source xs ≡ part e.source ys = sym (part_own e xs) ∙ h e.source ∙ part_other e.source g ys (λ r. m (sym r)) in
      let l : g ∷ part g.source ys ≡ part g.source xs = sym (part_own g ys) ∙ sym (h g.source) ∙ part_other g.source e xs m in
      let i = in_part e.source e (part e.source xs) ys (sym k) in
      let j = in_part g.source g (part g.source ys) xs (sym l) in
      absurd (m (o e g (inl refl) (inr j) (both_at e g (in_sorted g (place_of e) xs s.1 j) (in_sorted e (place_of g) ys t.1 i)))))
] where
  tails : e ≡ g → (x : Option ℕ) → ((e.source ≡ x) ⊎ (e.source ≢ x)) → part x xs ≡ part x ys
  tails f x (inl m) = (let k : e ∷ part x xs ≡ g ∷ part x ys = sym (part_at x e xs m) ∙ h x ∙ part_at x g ys (ap (λ (a : Event V). a.source) (sym f) ∙ m) in cc)
  tails f x (inr m) = sym (part_other x e xs m) ∙ h x ∙ part_other x g ys (λ r. m (ap (λ (a : Event V). a.source) f ∙ r))

pub from_weaker : {V : Type 0} (n k : ℕ) (es : List (Event V)) → k ≤ n → From n es → From k es
from_weaker n k [] l f = f
from_weaker n k (e ∷ es) l f = ((let z = f.0 in omega arith), from_weaker n k es l f.1)

pub below_weaker : {V : Type 0} (n k : ℕ) (es : List (Event V)) → n ≤ k → Below n es → Below k es
below_weaker n k [] l f = f
below_weaker n k (e ∷ es) l f = ((let z = f.0 in omega arith), below_weaker n k es l f.1)

pub from_append : {V : Type 0} (n : ℕ) (xs ys : List (Event V)) → From n xs → From n ys → From n (xs ++ ys)
from_append n [] ys a b = b
from_append n (x ∷ xs) ys a b = (a.0, from_append n xs ys a.1 b)

pub below_append : {V : Type 0} (n : ℕ) (xs ys : List (Event V)) → Below n xs → Below n ys → Below n (xs ++ ys)
below_append n [] ys a b = b
below_append n (x ∷ xs) ys a b = (a.0, below_append n xs ys a.1 b)

before_yes : (a h n i : ℕ) → a < n → (nat_lt a n || (a == n && nat_lt h i)) ≡ true
before_yes a h n i l = grind (arith, nat_tests)

before_no : (a h n i : ℕ) → n < a → (nat_lt a n || (a == n && nat_lt h i)) ≡ false
before_no a h n i l = grind (arith, nat_tests)

pub cut_below : {V F : Type 0} (f : Place × F) (es : List (Event V)) → Below f.0.at es → cut (Some f) es ≡ es
cut_below f [] b = refl
cut_below f (e ∷ es) b =
    ap (λ (t : Bool). cond t (e ∷ cut (Some f) es) (cut (Some f) es)) (before_yes e.at e.half f.0.at f.0.half b.0) ∙ ap (λ l. e ∷ l) (cut_below f es b.1)

pub cut_behind : {V F : Type 0} (f : Place × F) (es : List (Event V)) → From (f.0.at + 1) es → cut (Some f) es ≡ []
cut_behind f [] b = refl
cut_behind f (e ∷ es) b =
    ap (λ (t : Bool). cond t (e ∷ cut (Some f) es) (cut (Some f) es)) (before_no e.at e.half f.0.at f.0.half (let k = b.0 in omega arith)) ∙ cut_behind f es b.1

pub cut_append : {V F : Type 0} (f : Place × F) (xs ys : List (Event V)) → cut (Some f) (xs ++ ys) ≡ cut (Some f) xs ++ cut (Some f) ys
cut_append {V} f xs ys = filter-append (λ (e : Event V). is_before f.0 e) xs ys

pub merged_append : {X V : Type 0} (whose : X → Option ℕ) (said : Option ℕ → List X → List (What V × Place)) (ms ns before : List X) →
    merged_from whose said before (ms ++ ns) ≡ merged_from whose said before ms ++ merged_from whose said (before ++ ms) ns
merged_append {X} whose said [] ns before = ap (λ (l : List X). merged_from whose said l ns) (sym (append-nil before))
merged_append {X} whose said (m ∷ ms) ns before =
    ap (λ l. grown said before m (whose m) ++ l) (merged_append whose said ms ns (before ++ m ∷ []))
    ∙ ap (λ (l : List X). grown said before m (whose m) ++ (merged_from whose said (before ++ m ∷ []) ms ++ merged_from whose said l ns)) (append_assoc before (m ∷ []) ms)
    ∙ sym (append_assoc (grown said before m (whose m)) (merged_from whose said (before ++ m ∷ []) ms) (merged_from whose said (before ++ (m ∷ ms)) ns))

pub told_append : {V : Type 0} (x : Option ℕ) (xs ys : List (What V × Place)) → told x (xs ++ ys) ≡ told x xs ++ told x ys
told_append {V} x xs ys = map-append (λ (e : What V × Place). record { at = e.1.at; half = e.1.half; source = x; what = e.0 }) xs ys

pub below_told : {V : Type 0} → (x : Option ℕ) (n k : ℕ) (p : Place) (xs : List (What V × Place)) → AllIn p n xs → n ≤ k → Below k (told x xs)
below_told x n k p [] all l = tt
below_told x n k p (e ∷ xs) all l = ((let a = all.1 in omega arith), below_told x n k e.1 xs all.2 l)

-- what grows is what is added
pub grown_by : {X V : Type 0} → (said : Option ℕ → List X → List (What V × Place)) (before : List X) (m : X)
    (x : Option ℕ) (more : List (What V × Place)) →
    said x (before ++ m ∷ []) ≡ said x before ++ more → grown said before m x ≡ told x more
grown_by {V = V} said before m x more e =
    ap (λ (l : List (What V × Place)). told x (drop (length (said x before)) l)) e
    ∙ ap (told x) (drop_at (said x before) more (length (said x before)) refl)

-- the part of a source in what a source gives
pub part_told_own : {V : Type 0} (x : Option ℕ) (xs : List (What V × Place)) → part x (told x xs) ≡ told x xs
part_told_own x [] = refl
part_told_own x (e ∷ xs) =
    part_at x (record { at = e.1.at; half = e.1.half; source = x; what = e.0 }) (told x xs) refl
    ∙ ap (λ l. record { at = e.1.at; half = e.1.half; source = x; what = e.0 } ∷ l) (part_told_own x xs)

pub part_told_other : {V : Type 0} (x y : Option ℕ) (xs : List (What V × Place)) → y ≢ x → part x (told y xs) ≡ []
part_told_other x y [] n = refl
part_told_other x y (e ∷ xs) n =
    part_other x (record { at = e.1.at; half = e.1.half; source = y; what = e.0 }) (told y xs) n
    ∙ part_told_other x y xs n

pub part_append : {V : Type 0} (x : Option ℕ) (xs ys : List (Event V)) → part x (xs ++ ys) ≡ part x xs ++ part x ys
part_append {V} x xs ys = filter-append (λ (e : Event V). is_of x e.source) xs ys

-- where and whose they are
pub in_told : {V : Type 0} (e : Event V) (x : Option ℕ) (n : ℕ) (p : Place) (xs : List (What V × Place)) →
    AllIn p n xs → In e (told x xs) → (p.at ≤ e.at) × (e.at < n) × (e.source ≡ x)
in_told e x n p [] all i = elim i [ ]
in_told {V} e x n p (g ∷ xs) all (inl i) =
    let a = all.0 in let b = all.1 in
    let k : e.at ≡ g.1.at = ap (λ (z : Event V). z.at) i in
    (grind (arith, a, k), omega arith, ap (λ (z : Event V). z.source) i)
in_told e x n p (g ∷ xs) all (inr i) =
    let k = in_told e x n g.1 xs all.2 i in let a = all.0 in let b = k.0 in (grind (arith, a, b), k.1, k.2)

pub sorted_told : {V : Type 0} (x : Option ℕ) (n : ℕ) (p : Place) (xs : List (What V × Place)) (ys : List (Event V)) →
    AllIn p n xs → IsAtMost p (start_of n) → ((q : Place) → IsAtMost q (start_of n) → SortedFrom q ys) →
    SortedFrom p (told x xs ++ ys)
sorted_told x n p [] ys all l next = next p l
sorted_told x n p (e ∷ xs) ys all l next =
    (all.0, sorted_told x n e.1 xs ys all.2 (below_start e.1 n all.1) next)

pub all_weaker : {V : Type 0} (p q : Place) (n : ℕ) (xs : List (What V × Place)) → IsAtMost p q → AllIn q n xs →
    AllIn p n xs
all_weaker p q n [] l all = tt
all_weaker p q n (e ∷ xs) l all = (at_most_trans p q e.1 l all.0, all.1, all.2)

pub from_told : {V : Type 0} (x : Option ℕ) (n k : ℕ) (p : Place) (xs : List (What V × Place)) → AllIn p n xs →
    k ≤ p.at → From k (told x xs)
from_told x n k p [] all l = tt
from_told x n k p (e ∷ xs) all l =
    let a = all.0 in let b : k ≤ e.1.at = grind (arith, a) in (b, from_told x n k e.1 xs all.2 b)

-- what is said, with more that the port says before it
abbrev pub with_first : {V : Type 0} → List (What V × Place) → (Option ℕ → List (What V × Place)) → Option ℕ →
    List (What V × Place)
with_first first said None = first ++ said None
with_first first said (Some x) = said (Some x)

-- where two say the same, a list is merged of both or of none
pub merged_as : {V : Type 0} (old new : Option ℕ → List (What V × Place)) → ((x : Option ℕ) → old x ≡ new x) →
    (es : List (Event V)) → IsMerged old es → IsMerged new es
merged_as old new same es i = record { sorted = i.sorted; parts = λ x. i.parts x ∙ ap (told x) (same x) }

module _ {X V : Type 0} (Ahead : ℕ → List X → Type 0) (Lies : ℕ → X → Type 0) (end : X → ℕ)
    (within : (n : ℕ) (m : X) → Lies n m → n ≤ end m) (whose : X → Option ℕ)
    (said : Option ℕ → List X → List (What V × Place)) (adds : AddsAlways Ahead Lies end whose said)
    (next : GoesOn Ahead Lies end) where
  module _ (before : List X) (m : X) (n : ℕ) (a : Ahead n before) (l : Lies n m) where
    abbrev more : Option ℕ → List (What V × Place)
    more x = (adds x n before m a l).more

    pub grown_is : (x : Option ℕ) → grown said before m x ≡ told x (more x)
    grown_is x = grown_by said before m x (more x) (adds x n before m a l).given

    part_grown : (x s : Option ℕ) → whose m ≡ s → part x (grown said before m s) ≡ told x (more x)
    part_grown x s e = elim (one_or_other s x) [
      | inl k ↦
          subst (λ (z : Option ℕ). part z (grown said before m s) ≡ told z (more z)) k
          (ap (part s) (grown_is s) ∙ part_told_own s (more s))
      | inr k ↦
          ap (part x) (grown_is s) ∙ part_told_other x s (more s) k
          ∙ ap (told x) (sym ((adds x n before m a l).own (λ q. k (sym e ∙ q))))
    ]

    -- places
    sorted_grown : (s : Option ℕ) (p : Place) (ys : List (Event V)) → IsAtMost p (start_of n) →
        ((q : Place) → IsAtMost q (start_of (end m)) → SortedFrom q ys) → SortedFrom p (grown said before m s ++ ys)
    sorted_grown s p ys low rest =
        subst (λ (g : List (Event V)). SortedFrom p (g ++ ys)) (sym (grown_is s))
        (sorted_told s (end m) p (more s) ys
        (all_weaker p (start_of n) (end m) (more s) low (adds s n before m a l).all)
        (at_most_trans p (start_of n) (start_of (end m)) low (start_le n (end m) (within n m l))) rest)

    -- where events of a part are, and whose they are
    in_grown : (e : Event V) (s : Option ℕ) → In e (grown said before m s) →
        (n ≤ e.at) × (e.at < end m) × (e.source ≡ s)
    in_grown e s i =
        in_told e s (end m) (start_of n) (more s) (adds s n before m a l).all
        (subst (λ (g : List (Event V)). In e g) (grown_is s) i)

    from_grown : (s : Option ℕ) → From n (grown said before m s)
    from_grown s =
        subst (λ (g : List (Event V)). From n g) (sym (grown_is s))
        (from_told s (end m) n (start_of n) (more s) (adds s n before m a l).all (let z : n ≤ n = omega arith in z))

    below_grown : (k : ℕ) (s : Option ℕ) → end m ≤ k → Below k (grown said before m s)
    below_grown k s low =
        subst (λ (g : List (Event V)). Below k g) (sym (grown_is s))
        (below_told s (end m) k (start_of n) (more s) (adds s n before m a l).all low)

  parts_from : (x : Option ℕ) (n : ℕ) (ms before : List X) → Ahead n before → InOrder Lies end n ms →
      told x (said x before) ++ part x (merged_from whose said before ms) ≡ told x (said x (before ++ ms))
  parts_from x n [] before a r =
      append-nil (told x (said x before)) ∙ ap (λ (l : List X). told x (said x l)) (sym (append-nil before))
  parts_from x n (m ∷ ms) before a r =
      let b = adds x n before m a r.0 in
      let rest = merged_from whose said (before ++ m ∷ []) ms in
      ap (λ l. told x (said x before) ++ l) (part_append x (grown said before m (whose m)) rest)
      ∙ ap (λ l. told x (said x before) ++ (l ++ part x rest)) (part_grown before m n a r.0 x (whose m) refl)
      ∙ sym (append_assoc (told x (said x before)) (told x b.more) (part x rest))
      ∙ ap (λ l. l ++ part x rest) (sym (told_append x (said x before) b.more) ∙ ap (told x) (sym b.given))
      ∙ parts_from x (end m) ms (before ++ m ∷ []) (next n before m a r.0) r.1
      ∙ ap (λ (l : List X). told x (said x l)) (append_assoc before (m ∷ []) ms)

  pub sorted_from : (ms before : List X) (n : ℕ) (p : Place) → Ahead n before → InOrder Lies end n ms →
      IsAtMost p (start_of n) → SortedFrom p (merged_from whose said before ms)
  sorted_from [] before n p a r l = tt
  sorted_from (m ∷ ms) before n p a r l =
      sorted_grown before m n a r.0 (whose m) p (merged_from whose said (before ++ m ∷ []) ms) l
      (λ q k. sorted_from ms (before ++ m ∷ []) (end m) q (next n before m a r.0) r.1 k)

  in_from : (e : Event V) (ms before : List X) (n : ℕ) → Ahead n before → InOrder Lies end n ms →
      In e (merged_from whose said before ms) → n ≤ e.at
  in_from e [] before n a r i = elim i [ ]
  in_from e (m ∷ ms) before n a r i =
      elim (in_append e (grown said before m (whose m)) (merged_from whose said (before ++ m ∷ []) ms) i) [
        | inl k ↦ (in_grown before m n a r.0 e (whose m) k).0
        | inr k ↦
            (let q = in_from e ms (before ++ m ∷ []) (end m) (next n before m a r.0) r.1 k in
            let b = within n m r.0 in omega arith)
      ]

  one_source : (ms before : List X) (n : ℕ) → Ahead n before → InOrder Lies end n ms →
      OneSource (merged_from whose said before ms)
  one_source [] before n a r e g i j h = elim i [ ]
  one_source (m ∷ ms) before n a r e g i j h =
      let first = grown said before m (whose m) in
      let rest = merged_from whose said (before ++ m ∷ []) ms in
      let later = next n before m a r.0 in
      elim (in_append e first rest i) [
        | inl k ↦ elim (in_append g first rest j) [
          | inl l ↦ (in_grown before m n a r.0 e (whose m) k).2 ∙ sym (in_grown before m n a r.0 g (whose m) l).2
          | inr l ↦
              absurd (let q = (in_grown before m n a r.0 e (whose m) k).1 in
              let b = in_from g ms (before ++ m ∷ []) (end m) later r.1 l in omega arith)
        ]
        | inr k ↦ elim (in_append g first rest j) [
          | inl l ↦
              absurd (let q = (in_grown before m n a r.0 g (whose m) l).1 in
              let b = in_from e ms (before ++ m ∷ []) (end m) later r.1 k in omega arith)
          | inr l ↦ one_source ms (before ++ m ∷ []) (end m) later r.1 e g k l h
        ]
      ]

  -- The law: where these events of the port come first, parts are in order after them, and nothing is said of nothing,
  -- the list of both is merged, and no other is.
  module _ (none : (x : Option ℕ) → said x [] ≡ []) (first : List (What V × Place)) (start : ℕ)
      (all : AllIn (start_of 0) start first) (ms : List X) (a : Ahead start [])
      (order : InOrder Lies end start ms) where
    abbrev merged : List (Event V)
    merged = merged_from whose said [] ms

    abbrev whole : List (Event V)
    whole = told None first ++ merged

    abbrev all_said : Option ℕ → List (What V × Place)
    all_said = with_first first (λ x. said x ms)

    one_of_both : OneSource whole
    one_of_both e g i j h =
        elim (in_append e (told None first) merged i) [
          | inl k ↦ elim (in_append g (told None first) merged j) [
            | inl l ↦
                (in_told e None start (start_of 0) first all k).2
                ∙ sym (in_told g None start (start_of 0) first all l).2
            | inr l ↦
                absurd (let q = (in_told e None start (start_of 0) first all k).1 in
                let b = in_from g ms [] start a order l in omega arith)
          ]
          | inr k ↦ elim (in_append g (told None first) merged j) [
            | inl l ↦
                absurd (let q = (in_told g None start (start_of 0) first all l).1 in
                let b = in_from e ms [] start a order k in omega arith)
            | inr l ↦ one_source ms [] start a order e g k l h
          ]
        ]

    part_is : (x : Option ℕ) → part x merged ≡ told x (said x ms)
    part_is x =
        ap (λ (l : List (What V × Place)). told x l ++ part x merged) (sym (none x)) ∙ parts_from x start ms [] a order

    whole_is : (x : Option ℕ) → part x whole ≡ told x (all_said x)
    whole_is None =
        part_append None (told None first) merged ∙ ap (λ l. l ++ part None merged) (part_told_own None first)
        ∙ ap (λ l. told None first ++ l) (part_is None) ∙ sym (told_append None first (said None ms))
    whole_is (Some x) =
        part_append (Some x) (told None first) merged
        ∙ ap (λ l. l ++ part (Some x) merged) (part_told_other (Some x) None first (λ e. (let k = e in cc)))
        ∙ part_is (Some x)

    pub is_merged : IsMerged all_said whole
    is_merged = record {
      sorted =
          sorted_told None start (start_of 0) first merged all
          (start_le 0 start (let z : 0 ≤ start = omega arith in z)) (λ q l. sorted_from ms [] start q a order l);
      parts = whole_is;
    }

    pub only_merged : (es : List (Event V)) → IsMerged all_said es → es ≡ whole
    only_merged es i =
        sym (only whole es _ _ is_merged.sorted i.sorted one_of_both (λ x. whole_is x ∙ sym (i.parts x)))

  -- where the events of parts are
  pub from : (ms before : List X) (n : ℕ) → Ahead n before → InOrder Lies end n ms →
      From n (merged_from whose said before ms)
  from [] before n a r = tt
  from (m ∷ ms) before n a r =
      from_append n (grown said before m (whose m)) _ (from_grown before m n a r.0 (whose m))
      (from_weaker (end m) n _ (within n m r.0) (from ms (before ++ m ∷ []) (end m) (next n before m a r.0) r.1))

  pub between_end : (ms : List X) (n k : ℕ) → Between Lies end n k ms → n ≤ k
  between_end [] n k r = r
  between_end (m ∷ ms) n k r =
      (let a = within n m r.0 in let b = between_end ms (end m) k r.1 in omega arith)

  pub below : (ms before : List X) (n k : ℕ) → Ahead n before → Between Lies end n k ms →
      Below k (merged_from whose said before ms)
  below [] before n k a r = tt
  below (m ∷ ms) before n k a r =
      below_append k (grown said before m (whose m)) _
      (below_grown before m n a r.0 k (whose m) (between_end ms (end m) k r.1))
      (below ms (before ++ m ∷ []) (end m) k (next n before m a r.0) r.1)
