-- The fold is what the words say; and a part after a cut is read by itself.
use Rattle.std.proofs.Common.{◌≡◌, ℕ, List, [], ◌∷◌, ◌++◌, map, refl, sym, ◌∙◌, ap, subst, append_assoc, append-nil}
use Rattle.std.proofs.Common.{Option, None, Some, Bool, true, false}
use Rattle.std.specs.Prelude.{is_none, flat_map}
use Rattle.trace_values.specs.declared.fault.Reason.{Reason}
use Rattle.trace_values.specs.Placed.{Place, Placed}
use Rattle.trace_values.specs.Stream.{Said, Kept, Stream, Settled}
use Rattle.stretch_readings.specs.declared.heard.Heard.{Heard}
use Rattle.stretch_readings.specs.declared.heard.Heard.TheVariants.{Broken}
use Rattle.stretch_readings.specs.Stretches.{Fed, One, Mark, Resumption, Stretch, Stretches, renewed, resumed_by, fed}
use Rattle.stretch_readings.specs.Stretches.{fed_from, before, stretches, recovering, told, heard, broken}
use Rattle.stretch_readings.specs.Words.{Goes, IsSound, IsSettling, after_past}

module _ {V : Type 0} (reads : Bool → List Placed → Stream V) (way : Resumption) where
  module _ (sound : IsSound reads way) where
    abbrev at_ : List Stretch → Bool → ℕ → List Placed → Stretches
    at_ past h n w = record { past = past; now = record { hunts = h; count = n; units = w } }

    abbrev Walks : List Stretch → Bool → ℕ → List Placed → Stretches → Type 0
    Walks past h n u e = (more : List Stretch) × (e.past ≡ past ++ more) × Goes reads way h n u more e.now

    module _ (b : Placed) (l : List Placed) (more : (past : List Stretch) (h : Bool) (n : ℕ) (w : List Placed) →
        (reads h w).fault ≡ None → Walks past h n (w ++ l) (fed_from reads way (at_ past h n w) (map One l)))
        (past : List Stretch) (h : Bool) (n : ℕ) (w : List Placed) (e : (reads h w).fault ≡ None) where
      by_fault : (o : Option (Place × Reason)) → (reads h (w ++ b ∷ [])).fault ≡ o →
          Walks past h n (w ++ (b ∷ l)) (fed_from reads way
          (resumed_by reads way (reads h (w ++ b ∷ [])).fault (at_ past h n (w ++ b ∷ []))) (map One l))
      by_fault None q =
          subst (λ (o : Option (Place × Reason)). Walks past h n (w ++ (b ∷ l))
          (fed_from reads way (resumed_by reads way o (at_ past h n (w ++ b ∷ []))) (map One l))) (sym q)
          (subst (λ (u : List Placed). Walks past h n u (fed_from reads way (at_ past h n (w ++ b ∷ [])) (map One l)))
          (append_assoc w (b ∷ []) l) (more past h n (w ++ b ∷ []) q))
      by_fault (Some f) q =
          let s : Stretch = record { hunts = h; count = n; units = w ++ b ∷ [] } in
          let k : is_none (reads h (w ++ b ∷ [])).fault ≡ false = ap is_none q in
          let t = more (past ++ s ∷ []) way.hunts (renewed reads way s).count
          (renewed reads way s).units (sound h w b e k) in
          subst (λ (o : Option (Place × Reason)). Walks past h n (w ++ (b ∷ l))
          (fed_from reads way (resumed_by reads way o (at_ past h n (w ++ b ∷ []))) (map One l))) (sym q)
          (s ∷ t.0, t.1 ∙ append_assoc past (s ∷ []) t.0, (w, b, l, refl, refl, e, k, t.2))

    goes : (l : List Placed) (past : List Stretch) (h : Bool) (n : ℕ) (w : List Placed) → (reads h w).fault ≡ None →
        Walks past h n (w ++ l) (fed_from reads way (at_ past h n w) (map One l))
    goes [] past h n w e = (
      [],
      sym (append-nil past),
      (
        ap (λ (u : List Placed). record { hunts = h; count = n; units = u })
            (sym (append-nil w)),
        ap (λ (u : List Placed). (reads h u).fault) (append-nil w) ∙ e,
      ),
    )
    goes (b ∷ l) past h n w e = by_fault b l (λ past h n w e. goes l past h n w e) past h n w e
        (reads h (w ++ b ∷ [])).fault refl

    -- the stretches of a list, the first of which hunts or not
    pub words : (h : Bool) → (reads h []).fault ≡ None → (u : List Placed) →
        Goes reads way h 0 u (stretches reads way h (map One u)).past (stretches reads way h (map One u)).now
    words h e u =
        let t = goes u [] h 0 [] e in
        subst (λ (p : List Stretch). Goes reads way h 0 u p (stretches reads way h (map One u)).now) (sym t.1) t.2

  resumed_after : (past : List Stretch) (r : Stretches) (o : Option (Place × Reason)) →
      resumed_by reads way o (after_past past r) ≡ after_past past (resumed_by reads way o r)
  resumed_after past r None = refl
  resumed_after past r (Some f) =
      ap (λ (p : List Stretch). record { past = p; now = (resumed_by reads way (Some f) r).now })
      (append_assoc past r.past (r.now ∷ []))

  fed_after : (past : List Stretch) (r : Stretches) (x : Fed) →
      fed reads way (after_past past r) x ≡ after_past past (fed reads way r x)
  fed_after past r (One b) = resumed_after past (record r { now = record r.now { units = r.now.units ++ b ∷ [] } })
      (reads r.now.hunts (r.now.units ++ b ∷ [])).fault
  fed_after past r Mark = ap (λ (p : List Stretch). record { past = p; now = (fed reads way r Mark).now })
      (append_assoc past r.past (r.now ∷ []))

  from_after : (l : List Fed) (past : List Stretch) (r : Stretches) →
      fed_from reads way (after_past past r) l ≡ after_past past (fed_from reads way r l)
  from_after [] past r = refl
  from_after (x ∷ l) past r = ap (λ (s : Stretches). fed_from reads way s l) (fed_after past r x)
      ∙ from_after l past (fed reads way r x)

  pub from_append : (l m : List Fed) (r : Stretches) →
      fed_from reads way r (l ++ m) ≡ fed_from reads way (fed_from reads way r l) m
  from_append [] m r = refl
  from_append (x ∷ l) m r = from_append l m (fed reads way r x)

  pub parts : (h : Bool) (l m : List Fed) →
      stretches reads way h (l ++ (Mark ∷ m)) ≡ after_past
      ((stretches reads way h l).past ++ (stretches reads way h l).now ∷ []) (stretches reads way true m)
  parts h l m =
      let r = stretches reads way h l in
      let past = r.past ++ r.now ∷ [] in
      from_append l (Mark ∷ m) (before reads way h)
      ∙ ap (λ (p : List Stretch). fed_from reads way (record {
        past = p;
        now =
            record { hunts = true; count = 0; units = [] };
      }) m) (sym (append-nil past))
      ∙ from_after m past (before reads way true)

-- beside the reading that ends at its first fault
module _ {V : Type 0} (reads : Bool → List Placed → Stream V) (way : Resumption) (sound : IsSound reads way)
    (begins : (h : Bool) → (reads h []).fault ≡ None)
    (settles : IsSettling reads) where
  ends_there : (h : Bool) (u before after : List Placed) (f : Placed) → u ≡ before ++ (f ∷ after) →
      is_none (reads h (before ++ f ∷ [])).fault ≡ false → Settled (reads h (before ++ f ∷ [])) (reads h u)
  ends_there h u before after f e k =
      subst (λ w. Settled (reads h (before ++ f ∷ [])) (reads h w)) (append_assoc before (f ∷ []) after
      ∙ sym e) (settles h (before ++ f ∷ []) after k)

  pub strict : (h : Bool) (u : List Placed) → (reads h u).fault ≡ None →
      stretches reads way h (map One u) ≡ record { past = []; now = record { hunts = h; count = 0; units = u } }
  strict h u e = by (stretches reads way h (map One u)).past refl (words reads way sound h (begins h) u) where
    by : (past : List Stretch) → (stretches reads way h (map One u)).past ≡ past →
        Goes reads way h 0 u past (stretches reads way h (map One u)).now →
        stretches reads way h (map One u) ≡ record { past = []; now = record { hunts = h; count = 0; units = u } }
    by [] p g = ap (λ q. record { past = q; now = (stretches reads way h (map One u)).now }) p
        ∙ ap (λ n. record { past = []; now = n }) g.0
    by (s ∷ more) p g =
        let t = ends_there h u g.0 g.2 g.1 g.3 g.6 in
        let k : true ≡ false = ap is_none (sym e ∙ t.fault) ∙ g.6 in
        cc

  pub first_broken : (h : Bool) (u : List Placed) (f : Place × Reason) → (reads h u).fault ≡ Some f →
      (rest : List (Said (Heard V) × Place)) × ((recovering reads way h (map One u)).given
      ≡ (map (heard reads way 0) (reads h u).given ++ (Kept (Broken f.1), f.0) ∷ []) ++ rest)
  first_broken h u f e = by (stretches reads way h (map One u)).past refl (words reads way sound h (begins h) u) where
    by : (past : List Stretch) → (stretches reads way h (map One u)).past ≡ past →
        Goes reads way h 0 u past (stretches reads way h (map One u)).now →
        (rest : List (Said (Heard V) × Place)) × ((recovering reads way h (map One u)).given
        ≡ (map (heard reads way 0) (reads h u).given ++ (Kept (Broken f.1), f.0) ∷ []) ++ rest)
    by [] p g = (let k : None ≡ Some f = sym g.1 ∙ e in cc)
    by (s ∷ more) p g =
        let t = ends_there h u g.0 g.2 g.1 g.3 g.6 in
        let last = told reads way (stretches reads way h (map One u)).now in
        let rest = flat_map (told reads way) more ++ last in (
          rest,
          ap (λ q. flat_map (told reads way) q ++ last) p
              ∙ append_assoc (told reads way s) (flat_map (told reads way) more) last
              ∙ ap (λ l. l ++ rest)
              (ap (told reads way) g.4
              ∙ ap (λ l. map (heard reads way 0) l ++ broken reads way (reads h (g.0 ++ g.1 ∷ [])).fault) (sym t.given)
              ∙ ap (λ o. map (heard reads way 0) (reads h u).given ++ broken reads way o) (sym t.fault ∙ e)),
        )
