-- The hunt finds the least place of the pattern, and reads from there.
use Rattle.std.proofs.Common.{◌≡◌, ◌≢◌, ℕ, suc, ◌+◌, ◌-◌, ◌<◌, ◌≤◌, List, [], ◌∷◌, ◌++◌, length, replicate, refl, sym, ◌∙◌, ap, ◌⊎◌, inl, inr, append_assoc, append-nil, arith, subst, length-append, Option, None, Some, Bool, true, false, cond}
use Rattle.std.specs.Prelude.{◌==◌, ◌&&◌}
use Rattle.std.proofs.lemmas.Bool.Decides.{nat_tests}
use Rattle.std.proofs.lemmas.List.{length_push, length-replicate, length-map, same_from_push}
use Rattle.trace_values.specs.declared.fault.Reason.{Reason}
use Rattle.trace_values.specs.declared.next.Next.{Next}
use Rattle.trace_values.specs.declared.next.Next.TheVariants.{Go, End, Fail}
use Rattle.trace_values.specs.Walk.{Decides}
use Rattle.trace_values.specs.Placed.{Place, Placed, units_of}
use Rattle.trace_values.specs.Reading.{Progress, with_unit, advance, progress}
use Rattle.trace_values.specs.Hunt.{IsNowhere, IsFirst, EndsInRun}
use Rattle.trace_values.specs.declared.pattern.Pattern.{Pattern}
use Rattle.trace_values.specs.Hunted.{pattern_of, Found, Hunt, run_after, begun, hunt_on, hunt_from, no_hunt, hunt}
use Rattle.trace_values.proofs.Placing.{parts_of, units_push}
use Rattle.trace_values.proofs.Hunts.{at_end_or_before, still_nowhere, now_first, ends_here, not_here}
use Rattle.trace_values.proofs.Runs.{no_run, run_on}
use Rattle.trace_values.proofs.Standings.{progress_push}
use Rattle.trace_values.proofs.Wholes.{spelled_reads}

tested : (x b r m : ℕ) → (((x == b && r == m) ≡ true) × (x ≡ b) × (r ≡ m)) ⊎ (((x == b && r == m) ≡ false) × ((x ≢ b) ⊎ (r ≢ m)))
tested x b r m = grind (arith, nat_tests)

module _ {S V : Type 0} (Spells : V → List Placed → Type 0) (why : List Placed → Reason) (rule : S → Placed → Next S V) (start : S) (d : Decides Spells why rule start) (p : Pattern) (v : V)
    (apart : p.unit ≢ p.last) (spelled : (w : List Placed) → units_of w ≡ pattern_of p → Spells v w) where
  -- the lock's place is that of the first item
  abbrev pub BeginsAt : List (V × Place) → Place → Type 0
  BeginsAt items place = (more : List (V × Place)) × (items ≡ (v, place) ∷ more)

  items_by : (q : Progress S V) (b : Placed) (n : Next S V) (f : Option (Place × Reason)) → (more : List (V × Place)) × ((with_unit start q b n f).items ≡ q.items ++ more)
  items_by q b (End w) None = ((w, b.place) ∷ [], refl)
  items_by q b (Go t) None = ([], sym (append-nil q.items))
  items_by q b (Fail e) None = ([], sym (append-nil q.items))
  items_by q b n (Some f) = ([], sym (append-nil q.items))

  begins_on : (q : Progress S V) (b : Placed) (place : Place) → BeginsAt q.items place → BeginsAt (advance rule start q b).items place
  begins_on q b place h = let k = items_by q b (rule q.state b) q.fault in (h.0 ++ k.0, k.1 ∙ ap (λ l. l ++ k.0) h.1)

  -- what a hunt knows of the units so far
  abbrev pub Knew : List Placed → ℕ → Option (Found S V) → Type 0
  Knew u run None = IsNowhere (pattern_of p) (units_of u) × EndsInRun p.unit p.most run (units_of u)
  Knew u run (Some f) = (a : List Placed) × (w : List Placed) × (u ≡ a ++ w) × IsFirst (pattern_of p) (units_of u) (units_of a) × (length a ≡ f.skipped) × (f.reading ≡ progress rule start w) × BeginsAt f.reading.items f.place

  pub record Knows (u : List Placed) (h : Hunt S V) : Type 0 where
    pub units : h.units ≡ length u
    pub found : Knew u h.run h.found

  -- the pattern reads as one item
  pattern_reads : (w : List Placed) (l : Placed) → units_of w ≡ replicate p.most p.unit → l.unit ≡ p.last →
      progress rule start (w ++ l ∷ []) ≡ begun start v l.place
  pattern_reads w l e f = spelled_reads rule start Spells why d [] v w l (spelled (w ++ l ∷ [])
      (units_push w l ∙ ap (λ (y : List ℕ). y ++ l.unit ∷ []) e ∙ ap (λ (n : ℕ). replicate p.most p.unit ++ n ∷ []) f))

  IsFirst-more : (u a : List ℕ) (b : ℕ) → IsFirst (pattern_of p) u a → IsFirst (pattern_of p) (u ++ b ∷ []) a
  IsFirst-more u a b f = record {
    stands = (
      f.stands.0 ++ b ∷ [],
      ap (λ (l : List ℕ). l ++ b ∷ []) f.stands.1 ∙ append_assoc a (pattern_of p ++ f.stands.0) (b ∷ []) ∙ ap (λ (l : List ℕ). a ++ l) (append_assoc (pattern_of p) f.stands.0 (b ∷ [])),
    );
    least = λ other s. elim (at_end_or_before (pattern_of p) u b other s.0 s.1) [
      | inl m ↦ at_end other (s.1 ∙ ap (λ (l : List ℕ). other ++ (pattern_of p ++ l)) m)
      | inr m ↦ f.least other m
    ];
  } where
    at_end : (other : List ℕ) → u ++ b ∷ [] ≡ other ++ (pattern_of p ++ []) → length a ≤ length other
    at_end other e =
        let k = ap length e in
        let n = length_push u b in
        let l = length-append other (pattern_of p ++ []) in
        let q = length-append (pattern_of p) [] in
        let i = ap length f.stands.1 in
        let j = length-append a (pattern_of p ++ f.stands.0) in
        let o = length-append (pattern_of p) f.stands.0 in omega arith

  abbrev lock : Hunt S V → Placed → Hunt S V
  lock h b = record { units = suc h.units; run = 0; found = Some (record { skipped = h.units - p.most; place = b.place; reading = begun start v b.place }) }

  abbrev seek : Hunt S V → Placed → Hunt S V
  seek h b = record { units = suc h.units; run = run_after p h.run b.unit; found = None }

  units_on : (u : List Placed) (h : Hunt S V) (b : Placed) → h.units ≡ length u → suc h.units ≡ length (u ++ b ∷ [])
  units_on u h b k = let n = length_push u b in omega arith

  locked : (u : List Placed) (h : Hunt S V) (b : Placed) → h.units ≡ length u → Knew u h.run None → b.unit ≡ p.last → h.run ≡ p.most → Knows (u ++ b ∷ []) (lock h b)
  locked u h b k s x r =
      let here = ends_here p.unit p.last p.most apart h.run (units_of u) s.1 r in
      let split : units_of u ≡ here.0 ++ replicate p.most p.unit =
      (same_from_push (units_of u) (here.0 ++ replicate p.most p.unit) p.last p.last (here.1 ∙ sym (append_assoc here.0 (replicate p.most p.unit) (p.last ∷ [])))).0 in
      let q = parts_of u here.0 (replicate p.most p.unit) split in
      let all : units_of u ++ b.unit ∷ [] ≡ units_of q.0 ++ pattern_of p = ap (λ (y : ℕ). units_of u ++ y ∷ []) x ∙ here.1 ∙ ap (λ (l : List ℕ). l ++ pattern_of p) (sym q.3) in
      record {
        units = units_on u h b k;
        found = (
          q.0,
          q.1 ++ b ∷ [],
          ap (λ l. l ++ b ∷ []) q.2 ∙ append_assoc q.0 q.1 (b ∷ []),
          subst (λ (l : List ℕ). IsFirst (pattern_of p) l (units_of q.0)) (sym (units_push u b)) (now_first (pattern_of p) (units_of u) b.unit s.0 (units_of q.0) all),
          (let n = ap length q.2 in let l = length-append q.0 q.1 in let i = length-replicate p.most p.unit in let j = ap length q.4 in let o = length-map q.1 (λ (z : Placed). z.unit) in omega arith),
          sym (pattern_reads q.1 b q.4 x),
          ([], refl),
        );
      }

  goes : (u : List Placed) (h : Hunt S V) (b : Placed) → h.units ≡ length u → Knew u h.run None → ((b.unit ≢ p.last) ⊎ (h.run ≢ p.most)) → Knows (u ++ b ∷ []) (seek h b)
  goes u h b k s x =
      let y : (b.unit ≢ p.last) ⊎ (h.run < p.most) = elim x [ inl n ↦ inl n | inr n ↦ inr (let w = s.1.within in grind arith) ] in
      record {
        units = units_on u h b k;
        found = (
          subst (λ (l : List ℕ). IsNowhere (pattern_of p) l) (sym (units_push u b)) (still_nowhere (pattern_of p) (units_of u) b.unit s.0 (not_here p.unit p.last p.most apart h.run b.unit (units_of u) s.1 y)),
          subst (λ (l : List ℕ). EndsInRun p.unit p.most (run_after p h.run b.unit) l) (sym (units_push u b)) (run_on p apart h.run b.unit (units_of u) s.1),
        );
      }

  knows_on : (u : List Placed) (h : Hunt S V) (b : Placed) (f : Option (Found S V)) → h.found ≡ f → Knows u h → Knows (u ++ b ∷ []) (hunt_on p v rule start h b f)
  knows_on u h b (Some f) e k =
      let s : Knew u h.run (Some f) = subst (λ (x : Option (Found S V)). Knew u h.run x) e k.found in
      record {
        units = units_on u h b k.units;
        found = (
          s.0,
          s.1 ++ b ∷ [],
          ap (λ l. l ++ b ∷ []) s.2 ∙ append_assoc s.0 s.1 (b ∷ []),
          subst (λ (l : List ℕ). IsFirst (pattern_of p) l (units_of s.0)) (sym (units_push u b)) (IsFirst-more (units_of u) (units_of s.0) b.unit s.3),
          s.4,
          ap (λ (q : Progress S V). advance rule start q b) s.5 ∙ sym (progress_push rule start s.1 b),
          begins_on f.reading b f.place s.6,
        );
      }
  knows_on u h b None e k =
      let s : Knew u h.run None = subst (λ (x : Option (Found S V)). Knew u h.run x) e k.found in
      elim (tested b.unit p.last h.run p.most) [
        | inl m ↦ subst (λ (t : Bool). Knows (u ++ b ∷ []) (cond t (lock h b) (seek h b))) (sym m.0) (locked u h b k.units s m.1 m.2)
        | inr m ↦ subst (λ (t : Bool). Knows (u ++ b ∷ []) (cond t (lock h b) (seek h b))) (sym m.0) (goes u h b k.units s m.1)
      ]

  knows_from : (w u : List Placed) (h : Hunt S V) → Knows u h → Knows (u ++ w) (hunt_from p v rule start h w)
  knows_from [] u h k = subst (λ (l : List Placed). Knows l h) (sym (append-nil u)) k
  knows_from (b ∷ w) u h k =
      subst (λ (l : List Placed). Knows l (hunt_from p v rule start (hunt_on p v rule start h b h.found) w)) (append_assoc u (b ∷ []) w)
      (knows_from w (u ++ b ∷ []) (hunt_on p v rule start h b h.found) (knows_on u h b h.found refl k))

  nothing : (a w : List ℕ) → [] ≡ a ++ (pattern_of p ++ w) → ⊥
  nothing a w e =
      let k = ap length e in let l = length-append a (pattern_of p ++ w) in let q = length-append (pattern_of p) w in
      let o = length_push (replicate p.most p.unit) p.last in let z : length (pattern_of p) ≡ length (replicate p.most p.unit) + 1 = o in
      let i : length {A = ℕ} [] ≡ 0 = refl in omega arith

  pub knows : (u : List Placed) → Knows u (hunt p v rule start u)
  knows u = knows_from u [] no_hunt (record {
    units = refl;
    found = ((λ a s. nothing a s.0 s.1), no_run p.unit p.most);
  })
