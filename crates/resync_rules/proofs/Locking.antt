-- The rest of a list locks where the whole has a value that ends with the pattern, and both read the same from there.
use Rattle.std.proofs.Common.{◌≡◌, ℕ, ◌+◌, ◌≤◌, List, [], ◌∷◌, ◌++◌, length, length-append, refl, sym, ◌∙◌, ap, subst, ◌⊎◌, inl, inr, arith, append_assoc, append-nil, Bool, true, false, Option, None, Some}
use Rattle.std.proofs.lemmas.Bool.{true_from_ne_false}
use Rattle.std.proofs.lemmas.List.{append_cancel_left}
use Rattle.resync_rules.specs.Names.{Reason, Next, Place, Placed, units_of, Progress, advance, progress_from, progress}
use Rattle.resync_rules.specs.Names.{EndsWith, IsAfter, IsNowhere, IsFirst, Pattern, pattern_of, Found, Hunt, hunt_on, hunt_from}
use Rattle.resync_rules.specs.Names.{no_hunt, hunt}
use Rattle.trace_values.proofs.Lists.{fronts_meet, same_fronts}
use Rattle.trace_values.proofs.Standings.{from_append}
use Rattle.trace_values.proofs.HuntSteps as hunt_steps
use Rattle.trace_values.proofs.HuntedLemmas as hunting
use Rattle.resync_rules.specs.Fronts.{EndsIn, EndsFirst}
use Rattle.resync_rules.specs.Syncing.{Syncs}
use Rattle.resync_rules.proofs.Continuing as continuing
use Rattle.resync_rules.proofs.Syncing.{units_append, units_length, parts_of, ends_within}
use Rattle.resync_rules.proofs.Syncing as syncing

-- where the pattern is it is with more units
after_more : (pattern u y a : List ℕ) → IsAfter pattern u a → IsAfter pattern (u ++ y) a
after_more pattern u y a s = (
  s.0 ++ y,
  ap (λ (l : List ℕ). l ++ y) s.1 ∙ append_assoc a (pattern ++ s.0) y ∙ ap (λ (l : List ℕ). a ++ l) (append_assoc pattern s.0 y),
)

-- the pattern after a front
after_front : (pattern : List ℕ) (a b : List Placed) (u : List ℕ) → units_of (a ++ b) ≡ u → IsAfter pattern u (units_of a) → (z : List ℕ) × (units_of b ≡ pattern ++ z)
after_front pattern a b u e s = (s.0, append_cancel_left (units_of a) (units_of b) (pattern ++ s.0) (sym (units_append a b) ∙ e ∙ s.1))

after_here : (pattern : List ℕ) (a b : List Placed) (z : List ℕ) → units_of b ≡ pattern ++ z → IsAfter pattern (units_of (a ++ b)) (units_of a)
after_here pattern a b z e = (z, units_append a b ∙ ap (λ (l : List ℕ). units_of a ++ l) e)

same_place : {V : Type 0} (v : V) (a b : Place) (l : List (V × Place)) → (v, a) ∷ [] ≡ (v, b) ∷ l → a ≡ b
same_place {V} v a b l e = ap (λ x. x.1) (let k : (let x : V × Place = (v, a) in x ≡ (v, b)) = cc in k)

module _ {S V : Type 0} (Spells : V → List Placed → Type 0) (why : List Placed → Reason) (rule : S → Placed → Next S V) (start : S) (p : Pattern) (v : V)
    (k : Syncs Spells why rule start p v) where
  abbrev pub prog : List Placed → Progress S V
  prog u = progress rule start u

  abbrev pub hunt_of : List Placed → Hunt S V
  hunt_of u = hunt p v rule start u

  abbrev pub at_found : ℕ → Place → Progress S V → Option (Found S V)
  at_found n place q = Some (record { skipped = n; place = place; reading = q })

  -- what is read in a mode
  abbrev pub found_in : Bool → List Placed → Option (Found S V)
  found_in false u = at_found 0 (record { at = 0; half = 0 }) (prog u)
  found_in true u = (hunt_of u).found

  abbrev pub Sound : Option (Found S V) → Type 0
  Sound None = Unit {0}
  Sound (Some f) = f.reading.fault ≡ None

  -- after the lock a hunt reads on
  found_from : (y : List Placed) (h : Hunt S V) (f : Found S V) → h.found ≡ Some f →
      (hunt_from p v rule start h y).found ≡ at_found f.skipped f.place (progress_from rule start f.reading y)
  found_from [] h f e = e
  found_from (b ∷ y) h f e =
      found_from y (hunt_on p v rule start h b h.found) (record { skipped = f.skipped; place = f.place; reading = advance rule start f.reading b })
      (ap (λ (o : Option (Found S V)). (hunt_on p v rule start h b o).found) e)

  abbrev pub BeginsAt : List (V × Place) → Place → Type 0
  BeginsAt items place = (more : List (V × Place)) × (items ≡ (v, place) ∷ more)

  -- a list is read after a front of it
  pub record Reads (h : Bool) (x : List Placed) : Type 0 where
    pub front : List Placed
    pub seen : List Placed
    pub place : Place
    pub parts : x ≡ front ++ seen
    pub first : h ≡ true → IsFirst (pattern_of p) (units_of x) (units_of front)
    pub none : h ≡ false → front ≡ []
    pub begins : h ≡ true → BeginsAt (prog seen).items place
    pub here : found_in h x ≡ at_found (length front) place (prog seen)
    pub on : (y : List Placed) → found_in h (x ++ y) ≡ at_found (length front) place (prog (seen ++ y))

  abbrev Knew : List Placed → ℕ → Option (Found S V) → Type 0
  Knew u run o = hunting.Knew Spells why rule start k.decides p v k.apart k.spelled u run o

  knew : (u : List Placed) (o : Option (Found S V)) → (hunt_of u).found ≡ o → Knew u (hunt_of u).run o
  knew u o e = subst (λ (x : Option (Found S V)). Knew u (hunt_of u).run x) e (hunting.knows Spells why rule start k.decides p v k.apart k.spelled u).found

  pub units_counted : (u : List Placed) → (hunt_of u).units ≡ length u
  units_counted u = (hunting.knows Spells why rule start k.decides p v k.apart k.spelled u).units

  -- or the pattern is nowhere in it
  pub by_mode : (h : Bool) (x : List Placed) → Reads h x ⊎ ((h ≡ true) × IsNowhere (pattern_of p) (units_of x) × ((hunt_of x).found ≡ None))
  by_mode false x = inl (record {
    front = [];
    seen = x;
    place = record { at = 0; half = 0 };
    parts = refl;
    first = λ e. (let q = e in cc);
    none = λ _. refl;
    begins = λ e. (let q = e in cc);
    here = refl;
    on = λ y. refl;
  })
  by_mode true x = by (hunt_of x).found refl where
    by : (o : Option (Found S V)) → (hunt_of x).found ≡ o → Reads true x ⊎ ((true ≡ true) × IsNowhere (pattern_of p) (units_of x) × ((hunt_of x).found ≡ None))
    by None e = inr (refl, (knew x None e).0, e)
    by (Some f) e =
        let q = knew x (Some f) e in
        inl (record {
          front = q.0;
          seen = q.1;
          place = f.place;
          parts = q.2;
          first = λ _. q.3;
          none = λ n. (let z = n in cc);
          begins = λ _. subst (λ (r : Progress S V). BeginsAt r.items f.place) q.5 q.6;
          here = e ∙ ap (λ (n : ℕ). at_found n f.place f.reading) (sym q.4) ∙ ap (at_found (length q.0) f.place) q.5;
          on = λ y.
              ap (λ (g : Hunt S V). g.found) (hunt_steps.from_append p v rule start x y no_hunt) ∙ found_from y (hunt_of x) f e
              ∙ ap (λ (n : ℕ). at_found n f.place (progress_from rule start f.reading y)) (sym q.4)
              ∙ ap (λ (r : Progress S V). at_found (length q.0) f.place (progress_from rule start r y)) q.5
              ∙ ap (at_found (length q.0) f.place) (sym (from_append rule start q.1 y (continuing.ended rule start [])));
        })

  -- the whole u ++ w and its rest w read the same from a value v on, which ends with the pattern at its first place in w
  pub record IsLock (h : Bool) (u w : List Placed) : Type 0 where
    pub before : List Placed
    pub sync : List Placed
    pub after : List Placed
    pub early : List (V × Place)
    pub place : Place
    pub last : Placed
    pub ends : (start : List Placed) × (sync ≡ start ++ last ∷ [])
    pub at : place ≡ last.place
    pub skipped : ℕ
    pub whole_place : Place
    pub parts : w ≡ (before ++ sync) ++ after
    pub pattern : units_of sync ≡ pattern_of p
    pub first : IsFirst (pattern_of p) (units_of w) (units_of before)
    pub alone : prog sync ≡ continuing.ended rule start ((v, place) ∷ [])
    pub whole : (z : List Placed) → found_in h (u ++ ((before ++ sync) ++ z)) ≡ at_found skipped whole_place (continuing.with_before rule start early (prog (sync ++ z)))
    pub rest : (z : List Placed) → found_in true ((before ++ sync) ++ z) ≡ at_found (length before) place (prog (sync ++ z))

  alone_at : (m : List Placed) → units_of m ≡ pattern_of p → syncing.IsJoined Spells why rule start p v k [] m
  alone_at m h = syncing.alone_joined Spells why rule start p v k m h

  module _ (h : Bool) (u a m y w : List Placed) (parts : w ≡ (a ++ m) ++ y) (pattern : units_of m ≡ pattern_of p) (first : IsFirst (pattern_of p) (units_of w) (units_of a)) where
    ends_nil : units_of m ≡ pattern_of p ++ []
    ends_nil = pattern ∙ sym (append-nil (pattern_of p))

    in_rest : IsAfter (pattern_of p) (units_of (a ++ m)) (units_of a)
    in_rest = after_here (pattern_of p) a m [] ends_nil

    in_whole : IsAfter (pattern_of p) (units_of (u ++ (a ++ m))) (units_of (u ++ a))
    in_whole = subst (λ (l : List Placed). IsAfter (pattern_of p) (units_of l) (units_of (u ++ a))) (append_assoc u a m) (after_here (pattern_of p) (u ++ a) m [] ends_nil)

    -- a place of the pattern in a front of the rest is one in the rest
    not_before : (c : List Placed) → IsAfter (pattern_of p) (units_of (a ++ m)) (units_of c) → length a ≤ length c
    not_before c s =
        let e : units_of w ≡ units_of (a ++ m) ++ units_of y = ap units_of parts ∙ units_append (a ++ m) y in
        let l = first.least (units_of c) (subst (λ (x : List ℕ). IsAfter (pattern_of p) x (units_of c)) (sym e) (after_more (pattern_of p) (units_of (a ++ m)) (units_of y) (units_of c) s)) in
        let n = units_length a in let o = units_length c in omega arith

    -- the rest by itself
    pub rest_at : (place : Place) → prog m ≡ continuing.ended rule start ((v, place) ∷ []) → (z : List Placed) → found_in true ((a ++ m) ++ z) ≡ at_found (length a) place (prog (m ++ z))
    rest_at place alone z = elim (by_mode true (a ++ m)) [
      | inl r ↦
          let f = r.first refl in
          let low = not_before r.front f.stands in
          let high = f.least (units_of a) in_rest in
          let same = same_fronts a r.front m r.seen (let n = units_length a in let o = units_length r.front in let i = high in omega arith) r.parts in
          let b : BeginsAt (prog m).items r.place = subst (λ (l : List Placed). BeginsAt (prog l).items r.place) (sym same.1) (r.begins refl) in
          let two : (v, place) ∷ [] ≡ (v, r.place) ∷ b.0 = sym (ap (λ (q : Progress S V). q.items) alone) ∙ b.1 in
          let at : r.place ≡ place = sym (same_place v place r.place b.0 two) in
          r.on z ∙ ap (λ (l : List Placed). at_found (length l) r.place (prog (r.seen ++ z))) (sym same.0)
          ∙ ap (λ (x : Place). at_found (length a) x (prog (r.seen ++ z))) at
          ∙ ap (λ (l : List Placed). at_found (length a) place (prog (l ++ z))) (sym same.1)
      | inr n ↦ absurd (n.1 (units_of a) in_rest)
    ]

    -- the whole, where it is read after a front of it
    record Goes (r : Reads h (u ++ (a ++ m))) : Type 0 where
      early : List (V × Place)
      front : List Placed
      joined : syncing.IsJoined Spells why rule start p v k front m
      all : (z : List Placed) → prog (r.seen ++ z) ≡ continuing.with_before rule start early (prog (m ++ z))

    within : (r : Reads h (u ++ (a ++ m))) (c : List Placed) → (prog r.seen).fault ≡ None → u ≡ r.front ++ c → Goes r
    within r c sound e =
        let s : r.seen ≡ (c ++ a) ++ m =
        append_cancel_left r.front r.seen ((c ++ a) ++ m) (sym r.parts ∙ ap (λ (l : List Placed). l ++ (a ++ m)) e ∙ append_assoc r.front c (a ++ m) ∙ ap (λ (l : List Placed). r.front ++ l) (sym (append_assoc c a m))) in
        let j = syncing.joined Spells why rule start p v k (c ++ a) m pattern (ap (λ (l : List Placed). (prog l).fault) (sym s) ∙ sound) in
        record {
          early = j.early;
          front = c ++ a;
          joined = j;
          all = λ z. ap (λ (l : List Placed). prog (l ++ z)) s ∙ ap prog (append_assoc (c ++ a) m z) ∙ syncing.joined_all Spells why rule start p v k (c ++ a) m j z;
        }

    beyond : (r : Reads h (u ++ (a ++ m))) (c : List Placed) (g : Placed) → r.front ≡ u ++ (g ∷ c) → Goes r
    beyond r c g e =
        let hunts : h ≡ true = true_from_ne_false h (λ n. no_front (r.none n)) in
        let f = r.first hunts in
        let rest : a ++ m ≡ (g ∷ c) ++ r.seen =
        append_cancel_left u (a ++ m) ((g ∷ c) ++ r.seen) (r.parts ∙ ap (λ (l : List Placed). l ++ r.seen) e ∙ append_assoc u (g ∷ c) r.seen) in
        let inside = after_front (pattern_of p) r.front r.seen (units_of (u ++ (a ++ m))) (ap units_of (sym r.parts)) f.stands in
        let low = not_before (g ∷ c) (subst (λ (l : List Placed). IsAfter (pattern_of p) (units_of l) (units_of (g ∷ c))) (sym rest) (after_here (pattern_of p) (g ∷ c) r.seen inside.0 inside.1)) in
        let high = f.least (units_of (u ++ a)) in_whole in
        let lengths : length a ≡ length (g ∷ c) =
        (let n = units_length r.front in let o = units_length (u ++ a) in let i = ap length e in let j = length-append u (g ∷ c) in let q = length-append u a in omega arith) in
        let same = same_fronts a (g ∷ c) m r.seen lengths rest in
        record {
          early = [];
          front = [];
          joined = alone_at m pattern;
          all = λ z. ap (λ (l : List Placed). prog (l ++ z)) (sym same.1);
        }
      where
        no_front : r.front ≡ [] → ⊥
        no_front n = (let i = ap length e in let j = length-append u (g ∷ c) in let o = ap length n in let q : length {A = Placed} [] ≡ 0 = refl in let x : length (g ∷ c) ≡ length c + 1 = omega arith in omega (arith, i, j, o, q, x))

    goes : (r : Reads h (u ++ (a ++ m))) → (prog r.seen).fault ≡ None → Goes r
    goes r sound = elim (fronts_meet r.front u r.seen (a ++ m) (sym r.parts)) [
      | inl c ↦ within r c.0 sound c.1
      | inr c ↦ beyond r c.0 c.1 c.2
    ]

    pub lock_at : Sound (found_in h (u ++ w)) → IsLock h u w
    lock_at sound = elim (by_mode h (u ++ (a ++ m))) [
      | inr n ↦ absurd (n.1 (units_of (u ++ a)) in_whole)
      | inl r ↦
          let all : u ++ w ≡ (u ++ (a ++ m)) ++ y = ap (λ (l : List Placed). u ++ l) parts ∙ sym (append_assoc u (a ++ m) y) in
          let at : Sound (at_found (length r.front) r.place (prog (r.seen ++ y))) =
          subst Sound (r.on y) (subst (λ (l : List Placed). Sound (found_in h l)) all sound) in
          let g = goes r (syncing.no_fault_before Spells why rule start p v k r.seen y at) in
          let j = g.joined in
          record {
            before = a;
            sync = m;
            after = y;
            early = g.early;
            place = j.place;
            skipped = length r.front;
            whole_place = r.place;
            last = j.last;
            ends = j.ends;
            at = j.at;
            parts = parts;
            pattern = pattern;
            first = first;
            alone = j.alone;
            whole = λ z. ap (found_in h) (sym (append_assoc u (a ++ m) z)) ∙ r.on z ∙ ap (at_found (length r.front) r.place) (g.all z);
            rest = rest_at j.place j.alone;
          }
    ]

  -- the pattern is nowhere in the rest, or the rest locks
  pub locks : (h : Bool) (u w : List Placed) → Sound (found_in h (u ++ w)) → IsLock h u w ⊎ (IsNowhere (pattern_of p) (units_of w) × ((hunt_of w).found ≡ None))
  locks h u w sound = elim (by_mode true w) [
    | inr n ↦ inr (n.1, n.2)
    | inl r ↦
        let f = r.first refl in
        let i = after_front (pattern_of p) r.front r.seen (units_of w) (ap units_of (sym r.parts)) f.stands in
        let s = parts_of r.seen (pattern_of p) i.0 i.1 in
        inl (lock_at h u r.front s.0 s.1 w (r.parts ∙ ap (λ (l : List Placed). r.front ++ l) s.2 ∙ sym (append_assoc r.front s.0 s.1)) s.3 f sound)
  ]

  abbrev size : ℕ
  size = length (pattern_of p)

  pub front_length : (h : Bool) (u w : List Placed) (l : IsLock h u w) → length (l.before ++ l.sync) ≡ length l.before + size
  front_length h u w l = let i = length-append l.before l.sync in let j = ap length l.pattern in let n = units_length l.sync in omega arith

  -- what is read of what is found has a fault where that has one
  pub sound_in : {R : Type 0} (fault : R → Option (Place × Reason)) (whole : Bool → List Placed → R) →
      ((h : Bool) (x : List Placed) (n : ℕ) (place : Place) (q : Progress S V) → found_in h x ≡ at_found n place q → fault (whole h x) ≡ q.fault) →
      (h : Bool) (x : List Placed) → fault (whole h x) ≡ None → Sound (found_in h x)
  sound_in fault whole same h x e = by (found_in h x) refl where
    by : (o : Option (Found S V)) → found_in h x ≡ o → Sound o
    by None i = tt
    by (Some f) i = sym (same h x f.skipped f.place f.reading i) ∙ e

  -- where it is known when a v has ended, since the pattern ends there
  module _ (Ended : List Placed → Type 0) (closes : (x : List Placed) → Ended x → EndsWith (pattern_of p) (units_of x)) where
    -- one that ends in the rest has the pattern there
    stands_there : (u w front : List Placed) → EndsIn Ended size u w front →
        (c : List ℕ) × (length c + size ≡ length front) × IsAfter (pattern_of p) (units_of w) c
    stands_there u w front g =
        let e = closes (u ++ front) g.ended in
        let long = g.long in
        let s = ends_within (units_of u) (units_of front) e.0 (pattern_of p) (sym (units_append u front) ∙ e.1) (let n = units_length front in omega arith) in (
          s.0,
          (let n = units_length front in let i = ap length s.1 in let j = length-append s.0 (pattern_of p) in omega arith),
          (units_of g.more, ap units_of g.parts ∙ units_append front g.more ∙ ap (λ (y : List ℕ). y ++ units_of g.more) s.1 ∙ append_assoc s.0 (pattern_of p) (units_of g.more)),
        )

    pub first_end : (h : Bool) (u w : List Placed) (l : IsLock h u w) → Ended (u ++ (l.before ++ l.sync)) → EndsFirst Ended size u w (l.before ++ l.sync)
    first_end h u w l e = record {
      is_sync = record { more = l.after; parts = l.parts; long = (let n = front_length h u w l in omega arith); ended = e };
      least = λ other s. (let c = stands_there u w other s in let i = l.first.least c.0 c.2 in let n = front_length h u w l in let o = units_length l.before in let q = c.1 in omega arith);
    }

    -- none ends in the rest, or the rest locks
    pub rest_locks : (h : Bool) (u w : List Placed) → Sound (found_in h (u ++ w)) → (R : Type 0) (Q : List Placed → Type 0) →
        ((hunt_of w).found ≡ None → R) → ((l : IsLock h u w) → Q (l.before ++ l.sync)) →
        (((front : List Placed) → EndsIn Ended size u w front → ⊥) × R) ⊎ ((front : List Placed) × Q front)
    rest_locks h u w sound R Q skips locked = elim (locks h u w sound) [
      | inl l ↦ inr (l.before ++ l.sync, locked l)
      | inr n ↦ inl (λ front s. (let c = stands_there u w front s in n.0 c.0 c.2), skips n.1)
    ]
