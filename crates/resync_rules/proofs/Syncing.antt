-- Where a pattern ends a value, in a reading and in a hunt.
use Rattle.std.proofs.Common.{◌≡◌, ℕ, ◌+◌, ◌≤◌, List, [], ◌∷◌, ◌++◌, length, length-append, replicate, refl, sym, ◌∙◌, ap, subst, inl, inr, arith, append_assoc, None}
use Rattle.std.proofs.lemmas.List.{map-append, length-map, append_cancel_left}
use Rattle.resync_rules.specs.Names.{Reason, Next, Go, Place, Placed, units_of, Reading, Splits, Progress, advance}
use Rattle.resync_rules.specs.Names.{progress_from, progress, reading, EndsWith, Pattern, pattern_of}
use Rattle.trace_values.proofs.Lists.{fronts_meet}
use Rattle.trace_values.proofs.Standings.{from_append}
use Rattle.trace_values.proofs.Readings as readings
pub use Rattle.trace_values.proofs.Placing.{parts_of}
use Rattle.trace_values.proofs.Wholes.{spelled_reads}
use Rattle.resync_rules.specs.Fronts.{EndsAt, EndsOnly}
use Rattle.resync_rules.specs.Syncing.{said_last, EndsOrFails, Syncs}
use Rattle.resync_rules.proofs.Continuing as continuing

pub units_append : (a b : List Placed) → units_of (a ++ b) ≡ units_of a ++ units_of b
units_append a b = map-append (λ (x : Placed). x.unit) a b

pub units_length : (a : List Placed) → length (units_of a) ≡ length a
units_length a = length-map a (λ (x : Placed). x.unit)

-- units that are a front and one more
pub push_of : (m : List Placed) (front : List ℕ) (x : ℕ) → units_of m ≡ front ++ x ∷ [] → (m' : List Placed) × (l : Placed) × (m ≡ m' ++ l ∷ []) × (units_of m' ≡ front) × (l.unit ≡ x)
push_of m front x e = by (parts_of m front (x ∷ []) e) where
  one_of : (w : List Placed) → units_of w ≡ x ∷ [] → (l : Placed) × (w ≡ l ∷ []) × (l.unit ≡ x)
  one_of [] k = cc
  one_of (l ∷ []) k = (l, refl, cc)
  one_of (l ∷ (c ∷ w)) k = cc

  by : (v : List Placed) × (w : List Placed) × (m ≡ v ++ w) × (units_of v ≡ front) × (units_of w ≡ x ∷ []) → (m' : List Placed) × (l : Placed) × (m ≡ m' ++ l ∷ []) × (units_of m' ≡ front) × (l.unit ≡ x)
  by (v, w, k, f, g) = let o = one_of w g in (v, o.0, k ∙ ap (λ (z : List Placed). v ++ z) o.1, f, o.2)

-- the last of some values is spelled by the last units
pub splits_last : {V : Type 0} (Spells : V → List Placed → Type 0) → (early : List (V × Place)) (x : V × Place) (u : List Placed) → Splits Spells (early ++ x ∷ []) [] u →
    (c : List Placed) × (s : List Placed) × (u ≡ c ++ s) × Spells x.0 s × Splits Spells early [] c
splits_last Spells [] x u s =
    ([], s.0 ++ s.1 ∷ [], s.4 ∙ ap (λ (w : List Placed). s.0 ++ (s.1 ∷ w)) s.6, s.3, refl)
splits_last Spells (y ∷ early) x u s =
    let k = splits_last Spells early x s.2 s.6 in
    (s.0 ++ (s.1 ∷ k.0), k.1, s.4 ∙ ap (λ (w : List Placed). s.0 ++ (s.1 ∷ w)) k.2 ∙ sym (append_assoc s.0 (s.1 ∷ k.0) k.1), k.3, (s.0, s.1, k.0, s.3, refl, s.5, k.4))

-- of two ends of one list the shorter ends the longer
pub ends_within : (a b x c : List ℕ) → a ++ b ≡ x ++ c → length c ≤ length b → (y : List ℕ) × (b ≡ y ++ c)
ends_within a b x c e h = elim (fronts_meet a x b c e) [
  | inl m ↦ (m.0, append_cancel_left a b (m.0 ++ c) (e ∙ ap (λ (l : List ℕ). l ++ c) m.1 ∙ append_assoc a m.0 c))
  | inr m ↦ absurd (
      let k = ap length (append_cancel_left x c ((m.1 ∷ m.0) ++ b) (sym e ∙ ap (λ (l : List ℕ). l ++ b) m.2 ∙ append_assoc x (m.1 ∷ m.0) b)) in
      let n = length-append (m.1 ∷ m.0) b in
      let o : length (m.1 ∷ m.0) ≡ length m.0 + 1 = omega arith in omega arith)
]

module _ {S V : Type 0} (Spells : V → List Placed → Type 0) (why : List Placed → Reason) (rule : S → Placed → Next S V) (start : S) (p : Pattern) (v : V)
    (k : Syncs Spells why rule start p v) where
  abbrev pub prog : List Placed → Progress S V
  prog u = progress rule start u

  abbrev pub with_before : List (V × Place) → Progress S V → Progress S V
  with_before = continuing.with_before rule start

  abbrev pub ended : List (V × Place) → Progress S V
  ended = continuing.ended rule start

  pub no_fault_before : (u w : List Placed) → (prog (u ++ w)).fault ≡ None → (prog u).fault ≡ None
  no_fault_before u w f = continuing.no_fault rule start w (prog u) (ap (λ (q : Progress S V). q.fault) (sym (from_append rule start u w (continuing.ended rule start []))) ∙ f)

  -- after any units the pattern ends one v, where it is no fault
  pub record IsJoined (u m : List Placed) : Type 0 where
    pub early : List (V × Place)
    pub place : Place
    pub last : Placed
    pub ends : (start : List Placed) × (m ≡ start ++ last ∷ [])
    pub at : place ≡ last.place
    pub once : prog (u ++ m) ≡ ended (early ++ (v, place) ∷ [])
    pub alone : prog m ≡ ended ((v, place) ∷ [])

  joined_at : (u m m' : List Placed) (l : Placed) → m ≡ m' ++ l ∷ [] → units_of m ≡ pattern_of p → (prog (u ++ m)).fault ≡ None → IsJoined u m
  joined_at u m m' l e h f =
      let q = prog u in
      let g : q.fault ≡ None = no_fault_before u m f in
      let w = readings.rest_walks Spells why rule start k.decides u g in
      let d = k.syncs q.state q.rest m w h in
      let split : prog (u ++ m) ≡ advance rule start (progress_from rule start q m') l =
      ap (λ (z : List Placed). prog (u ++ z)) e ∙ from_append rule start u (m' ++ l ∷ []) (continuing.ended rule start []) ∙ from_append rule start m' (l ∷ []) q in
      record {
        early = (progress_from rule start q m').items;
        place = l.place;
        last = l;
        ends = (m', e);
        at = refl;
        once = split ∙ continuing.ends_with rule start m' l v q g
            (subst (λ (z : List Placed). let n : Next S V = said_last rule start (Go q.state) z in EndsOrFails v n) e d)
            (ap (λ (x : Progress S V). x.fault) (sym split) ∙ f);
        alone = ap prog e ∙ spelled_reads rule start Spells why k.decides [] v m' l (subst (λ (z : List Placed). Spells v z) e (k.spelled m h));
      }

  pub joined : (u m : List Placed) → units_of m ≡ pattern_of p → (prog (u ++ m)).fault ≡ None → IsJoined u m
  joined u m h f = let s = push_of m (replicate p.most p.unit) p.last h in joined_at u m s.0 s.1 s.2 h f

  pub alone_joined : (m : List Placed) → units_of m ≡ pattern_of p → IsJoined [] m
  alone_joined m h =
      let s = push_of m (replicate p.most p.unit) p.last h in
      let a : prog m ≡ ended ((v, s.1.place) ∷ []) = ap prog s.2 ∙ spelled_reads rule start Spells why k.decides [] v s.0 s.1 (subst (λ (z : List Placed). Spells v z) s.2 (k.spelled m h)) in
      joined [] m h (ap (λ (q : Progress S V). q.fault) a)

  -- from there on the whole is its early values and then what the pattern begins
  pub joined_all : (u m : List Placed) (j : IsJoined u m) (y : List Placed) → prog (u ++ (m ++ y)) ≡ with_before j.early (prog (m ++ y))
  joined_all u m j y =
      ap prog (sym (append_assoc u m y)) ∙ from_append rule start (u ++ m) y (continuing.ended rule start [])
      ∙ ap (λ (q : Progress S V). progress_from rule start q y) j.once
      ∙ continuing.with_before_from rule start y j.early (ended ((v, j.place) ∷ []))
      ∙ ap (λ (q : Progress S V). with_before j.early (progress_from rule start q y)) (sym j.alone)
      ∙ ap (with_before j.early) (sym (from_append rule start m y (continuing.ended rule start [])))

  -- the pattern ends exactly where a v ends
  pub ends_only : EndsOnly Spells why (pattern_of p) v
  ends_only u r i f front rest e = (there, back) where
    same : r ≡ reading rule start u
    same = readings.only_reading Spells why rule start k.decides u r i

    sound : (prog (front ++ rest)).fault ≡ None
    sound = ap (λ (z : List Placed). (prog z).fault) (sym e) ∙ ap (λ (x : Reading V). x.fault) (sym same) ∙ f

    there : EndsWith (pattern_of p) (units_of front) → EndsAt Spells v r.items front
    there (c, g) =
        let s = parts_of front c (pattern_of p) g in
        let h : (prog (s.0 ++ s.1)).fault ≡ None = ap (λ (z : List Placed). (prog z).fault) (sym s.2) ∙ no_fault_before front rest sound in
        let j = joined s.0 s.1 s.4 h in
        let at_front : prog front ≡ ended (j.early ++ (v, j.place) ∷ []) = ap prog s.2 ∙ j.once in
        let more = continuing.items_from rule start rest (prog front) in
        let splits = (readings.reading_is Spells why rule start k.decides front).splits in
        record {
          early = j.early;
          place = j.place;
          later = more.0;
          parts = ap (λ (x : Reading V). x.items) same ∙ ap (λ (z : List Placed). (prog z).items) e
              ∙ ap (λ (q : Progress S V). q.items) (from_append rule start front rest (continuing.ended rule start [])) ∙ more.1
              ∙ ap (λ (q : Progress S V). q.items ++ more.0) at_front ∙ append_assoc j.early ((v, j.place) ∷ []) more.0;
          spelled = subst (λ (q : Progress S V). Splits Spells q.items q.rest front) at_front splits;
        }

    back : EndsAt Spells v r.items front → EndsWith (pattern_of p) (units_of front)
    back g =
        let z = splits_last Spells g.early (v, g.place) front g.spelled in
        let c = k.closes z.1 z.3 in
        (units_of z.0 ++ c.0, ap units_of z.2 ∙ units_append z.0 z.1 ∙ ap (λ (l : List ℕ). units_of z.0 ++ l) c.1 ∙ sym (append_assoc (units_of z.0) c.0 (pattern_of p)))
