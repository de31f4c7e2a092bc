-- One more unit, in a hunt.
use Rattle.std.proofs.Common.{◌≡◌, ℕ, suc, ◌+◌, ◌-◌, ◌*◌, ◌≤◌, List, [], ◌∷◌, ◌++◌, length, refl, sym, ◌∙◌, ap, arith, subst, Option, None, Some, Bool, true, false, cond}
use Rattle.std.specs.Prelude.{is_none, ◌==◌, ◌&&◌}
use Rattle.trace_values.specs.declared.fault.Reason.{Reason}
use Rattle.trace_values.specs.declared.next.Next.{Next}
use Rattle.trace_values.specs.declared.next.Next.TheVariants.{Go}
use Rattle.trace_values.specs.declared.step.Step.TheVariants.{Skipping, Locked}
use Rattle.trace_values.specs.Placed.{Place, Placed}
use Rattle.trace_values.specs.Reading.{advance}
use Rattle.trace_values.specs.Stream.{Notice, Kept, kept, shown, Grows, Shows, Settled}
use Rattle.trace_values.specs.Standing.{live_after, state_after}
use Rattle.trace_values.specs.declared.pattern.Pattern.{Pattern}
use Rattle.trace_values.specs.Hunted.{Found, Hunt, run_after, begun, hunt_on, hunt_from, no_hunt, hunt, hunted_by, hunted, Seeks as SeeksIn, Follows as FollowsIn}
use Rattle.trace_values.proofs.OneUnit.{step_on, RisesOn}
use Rattle.trace_values.proofs.Standings.{none_of, some_of, settled_on, state_stays, rises_on, rest_on, counted_on, Keeps-fed, Grows-fed}

module _ {S V : Type 0} (p : Pattern) (v : V) (rule : S → Placed → Next S V) (start : S) where
  abbrev Seeks : ℕ → ℕ → List Placed → Type 0
  Seeks = SeeksIn p v rule start

  abbrev Follows : ℕ → Bool → S → List Placed → Type 0
  Follows = FollowsIn p v rule start

  pub from_append : (u w : List Placed) (h : Hunt S V) → hunt_from p v rule start h (u ++ w) ≡ hunt_from p v rule start (hunt_from p v rule start h u) w
  from_append [] w h = refl
  from_append (b ∷ u) w h = from_append u w (hunt_on p v rule start h b h.found)

  pub hunt_push : (u : List Placed) (b : Placed) (f : Option (Found S V)) → (hunt p v rule start u).found ≡ f → hunt p v rule start (u ++ b ∷ []) ≡ hunt_on p v rule start (hunt p v rule start u) b f
  hunt_push u b f e = from_append u (b ∷ []) no_hunt ∙ ap (λ (x : Option (Found S V)). hunt_on p v rule start (hunt p v rule start u) b x) e

  pub Seeks-empty : Seeks 0 0 []
  Seeks-empty = record { run_is = refl; units_is = refl; none = refl }

  -- what the unit does to a hunt that seeks
  goes_on : (h : Hunt S V) (b : Placed) (run : ℕ) → h.run ≡ run → (b.unit == p.last && run == p.most) ≡ false →
      hunt_on p v rule start h b None ≡ record { units = suc h.units; run = run_after p h.run b.unit; found = None }
  goes_on h b run e f =
      ap (λ (t : Bool). cond t (record { units = suc h.units; run = 0; found = Some (record { skipped = h.units - p.most; place = b.place; reading = begun start v b.place }) }) (record { units = suc h.units; run = run_after p h.run b.unit; found = None }))
      (ap (λ (n : ℕ). b.unit == p.last && n == p.most) e ∙ f)

  locks : (h : Hunt S V) (b : Placed) (run : ℕ) → h.run ≡ run → (b.unit == p.last && run == p.most) ≡ true →
      hunt_on p v rule start h b None ≡ record { units = suc h.units; run = 0; found = Some (record { skipped = h.units - p.most; place = b.place; reading = begun start v b.place }) }
  locks h b run e f =
      ap (λ (t : Bool). cond t (record { units = suc h.units; run = 0; found = Some (record { skipped = h.units - p.most; place = b.place; reading = begun start v b.place }) }) (record { units = suc h.units; run = run_after p h.run b.unit; found = None }))
      (ap (λ (n : ℕ). b.unit == p.last && n == p.most) e ∙ f)

  module _ (run skipped : ℕ) (u : List Placed) (b : Placed) (s : Seeks run skipped u) where
    abbrev h : Hunt S V
    h = hunt p v rule start u

    still : (b.unit == p.last && run == p.most) ≡ false → hunt p v rule start (u ++ b ∷ []) ≡ record { units = suc h.units; run = run_after p h.run b.unit; found = None }
    still f = hunt_push u b None s.none ∙ goes_on h b run s.run_is f

    pub Seeks-fed : (b.unit == p.last && run == p.most) ≡ false → Seeks (run_after p run b.unit) (skipped + 1) (u ++ b ∷ [])
    Seeks-fed f = record {
      run_is = ap (λ (x : Hunt S V). x.run) (still f) ∙ ap (λ (n : ℕ). run_after p n b.unit) s.run_is;
      units_is = ap (λ (x : Hunt S V). x.units) (still f) ∙ (let e = s.units_is in omega (arith, e));
      none = ap (λ (x : Hunt S V). x.found) (still f);
    }

    pub Grows-skipping : (b.unit == p.last && run == p.most) ≡ false → Grows (hunted p v rule start u) (hunted p v rule start (u ++ b ∷ [])) b.place.at Skipping
    Grows-skipping f =
        subst (λ (o : Option (Found S V)). Grows (hunted_by h.units o) (hunted p v rule start (u ++ b ∷ [])) b.place.at Skipping) (sym s.none)
        (subst (λ (x : Hunt S V). Grows (hunted_by {S = S} h.units None) (hunted_by x.units x.found) b.place.at Skipping) (sym (still f)) (record { given = refl; fault = refl; hunt = (refl, refl) }))

    now : (b.unit == p.last && run == p.most) ≡ true → hunt p v rule start (u ++ b ∷ []) ≡
        record { units = suc h.units; run = 0; found = Some (record { skipped = h.units - p.most; place = b.place; reading = begun start v (b.place) }) }
    now f = hunt_push u b None s.none ∙ locks h b run s.run_is f

    pub Follows-now : (b.unit == p.last && run == p.most) ≡ true → Follows (skipped - p.most) true start (u ++ b ∷ [])
    Follows-now f = record {
      found = record { skipped = h.units - p.most; place = b.place; reading = begun start v (b.place) };
      some = ap (λ (x : Hunt S V). x.found) (now f);
      skipped_is = ap (λ (n : ℕ). n - p.most) s.units_is;
      stands = record { live_is = refl; state_is = refl };
    }

    pub Grows-locked : (b.unit == p.last && run == p.most) ≡ true → Grows (hunted p v rule start u) (hunted p v rule start (u ++ b ∷ [])) b.place.at (Locked (skipped - p.most) b.place.half v)
    Grows-locked f =
        subst (λ (n : ℕ). Grows (hunted p v rule start u) (hunted p v rule start (u ++ b ∷ [])) b.place.at (Locked (n - p.most) b.place.half v)) s.units_is
        (subst (λ (o : Option (Found S V)). Grows (hunted_by h.units o) (hunted p v rule start (u ++ b ∷ [])) b.place.at (Locked (h.units - p.most) b.place.half v)) (sym s.none)
        (subst (λ (x : Hunt S V). Grows (hunted_by {S = S} h.units None) (hunted_by x.units x.found) b.place.at (Locked (h.units - p.most) b.place.half v)) (sym (now f))
        (record { given = refl; fault = refl; hunt = (refl, refl, refl) })))

  -- after the lock
  found_push : (u : List Placed) (b : Placed) (f : Found S V) → (hunt p v rule start u).found ≡ Some f →
      (hunt p v rule start (u ++ b ∷ [])).found ≡ Some (record { skipped = f.skipped; place = f.place; reading = advance rule start f.reading b })
  found_push u b f e = ap (λ (x : Hunt S V). x.found) (hunt_push u b (Some f) e)

  pub Follows-fed : (skipped : ℕ) (live : Bool) (state : S) (u : List Placed) (b : Placed) (live' : Bool) (state' : S) (n : Next S V) → live ≡ true →
      n ≡ rule state b → live' ≡ live_after n → state' ≡ state_after start n state →
      Follows skipped live state u → Follows skipped live' state' (u ++ b ∷ [])
  Follows-fed skipped live state u b live' state' n l e f g s = record {
    found = record { skipped = s.found.skipped; place = s.found.place; reading = advance rule start s.found.reading b };
    some = found_push u b s.found s.some;
    skipped_is = s.skipped_is;
    stands = Keeps-fed rule start s.found.reading live state b live' state' n l e f g s.stands;
  }

  pub Grows-followed : (skipped : ℕ) (live : Bool) (state : S) (u : List Placed) (b : Placed) (n : Next S V) → live ≡ true →
      n ≡ rule state b → Follows skipped live state u →
      Grows (hunted p v rule start u) (hunted p v rule start (u ++ b ∷ [])) b.place.at (step_on b.place n)
  Grows-followed skipped live state u b n l e s =
      let f = s.found in
      subst (λ (o : Option (Found S V)). Grows (hunted_by (hunt p v rule start u).units o) (hunted p v rule start (u ++ b ∷ [])) b.place.at (step_on b.place n)) (sym s.some)
      (subst (λ (o : Option (Found S V)). Grows (shown ((Notice f.skipped, f.place) ∷ []) f.skipped f.reading) (hunted_by (hunt p v rule start (u ++ b ∷ [])).units o) b.place.at (step_on b.place n)) (sym (found_push u b f s.some))
      (Grows-fed rule start ((Notice f.skipped, f.place) ∷ []) f.skipped f.reading live state b n l e s.stands))

  -- one more unit, by whether it locks
  abbrev after : Hunt S V → Placed → Bool → Hunt S V
  after h b t = cond t (record { units = suc h.units; run = 0; found = Some (record { skipped = h.units - p.most; place = b.place; reading = begun start v b.place }) }) (record { units = suc h.units; run = run_after p h.run b.unit; found = None })

  -- one more unit in any hunt
  rises_by : (h : Hunt S V) (b : Placed) (f : Option (Found S V)) →
      RisesOn (hunted_by h.units f) (hunted_by (hunt_on p v rule start h b f).units (hunt_on p v rule start h b f).found) b.place
  rises_by h b (Some f) = rises_on rule start ((Notice f.skipped, f.place) ∷ []) f.skipped f.reading b
  rises_by h b None = by_test (b.unit == p.last && h.run == p.most) where
    by_test : (t : Bool) → RisesOn (hunted_by {S = S} h.units None) (hunted_by (after h b t).units (after h b t).found) b.place
    by_test true = record {
      more = (Notice (h.units - p.most), b.place) ∷ ((Kept v, b.place) ∷ []);
      given = refl;
      all = (refl, (refl, tt));
      fault = tt;
    }
    by_test false = record { more = []; given = refl; all = tt; fault = tt }

  pub rises : (u : List Placed) (b : Placed) → RisesOn (hunted p v rule start u) (hunted p v rule start (u ++ b ∷ [])) b.place
  rises u b =
      subst (λ (x : Hunt S V). RisesOn (hunted p v rule start u) (hunted_by x.units x.found) b.place) (sym (hunt_push u b (hunt p v rule start u).found refl))
      (rises_by (hunt p v rule start u) b (hunt p v rule start u).found)

  -- a fault settles it
  settled_from : (w : List Placed) (h : Hunt S V) (f : Found S V) (e : Place × Reason) → h.found ≡ Some f → f.reading.fault ≡ Some e →
      (g : Found S V) × ((hunt_from p v rule start h w).found ≡ Some g) × (g.skipped ≡ f.skipped) × (g.place ≡ f.place) × (g.reading.items ≡ f.reading.items) × (g.reading.fault ≡ Some e) × (g.reading.state ≡ f.reading.state)
  settled_from [] h f e k l = (f, k, refl, refl, refl, l, refl)
  settled_from (b ∷ w) h f e k l =
      let on = settled_on rule start f.reading b e l in
      let k' : (hunt_on p v rule start h b h.found).found ≡ Some (record { skipped = f.skipped; place = f.place; reading = advance rule start f.reading b }) = ap (λ (o : Option (Found S V)). (hunt_on p v rule start h b o).found) k in
      let more = settled_from w (hunt_on p v rule start h b h.found) (record { skipped = f.skipped; place = f.place; reading = advance rule start f.reading b }) e k' on.1 in
      (more.0, more.1, more.2, more.3, more.4 ∙ on.0, more.5, more.6 ∙ state_stays rule start f.reading (b ∷ []) e l)

  pub settles : (u w : List Placed) → is_none (hunted p v rule start u).fault ≡ false → Settled (hunted p v rule start u) (hunted p v rule start (u ++ w))
  settles u w e = by_found (hunt p v rule start u).found refl e where
    by_found : (o : Option (Found S V)) → (hunt p v rule start u).found ≡ o → is_none (hunted_by (hunt p v rule start u).units o).fault ≡ false → Settled (hunted p v rule start u) (hunted p v rule start (u ++ w))
    by_found None k e = cc
    by_found (Some f) k e =
        let x = some_of f.reading.fault e in
        let g = settled_from w (hunt p v rule start u) f x.0 k x.1 in
        let a : (hunt p v rule start (u ++ w)).found ≡ Some g.0 = ap (λ (x : Hunt S V). x.found) (from_append u w no_hunt) ∙ g.1 in
        record {
          given = ap (λ (o : Option (Found S V)). (hunted_by (hunt p v rule start (u ++ w)).units o).given) a
              ∙ ap (λ (n : ℕ). (Notice n, g.0.place) ∷ kept g.0.reading.items) g.2
              ∙ ap (λ (l : Place). (Notice f.skipped, l) ∷ kept g.0.reading.items) g.3
              ∙ ap (λ (l : List (V × Place)). (Notice f.skipped, f.place) ∷ kept l) g.4
              ∙ sym (ap (λ (o : Option (Found S V)). (hunted_by (hunt p v rule start u).units o).given) k);
          fault = ap (λ (o : Option (Found S V)). (hunted_by (hunt p v rule start (u ++ w)).units o).fault) a ∙ g.5 ∙ sym x.1
              ∙ sym (ap (λ (o : Option (Found S V)). (hunted_by (hunt p v rule start u).units o).fault) k);
        }

  pub Follows-dead : (skipped : ℕ) (live : Bool) (state : S) (u w : List Placed) → live ≡ false → Follows skipped live state u → Follows skipped live state (u ++ w)
  Follows-dead skipped live state u w l s =
      let f = some_of s.found.reading.fault (sym s.stands.live_is ∙ l) in
      let g = settled_from w (hunt p v rule start u) s.found f.0 s.some f.1 in
      record {
        found = g.0;
        some = ap (λ (x : Hunt S V). x.found) (from_append u w no_hunt) ∙ g.1;
        skipped_is = g.2 ∙ s.skipped_is;
        stands = record { live_is = l ∙ sym (ap is_none g.5); state_is = g.6 ∙ s.stands.state_is };
      }

  -- where the state counts the units of the rest
  module _ (count : S → ℕ) (none : count start ≡ 0) (one : (s t : S) (b : Placed) → rule s b ≡ Go t → count t ≡ count s + 1) where
    -- how many units there are, skipped and held
    abbrev pub Counts : ℕ → Option (Found S V) → ℕ → Type 0
    Counts units None o = (units ≡ o) × Unit {0}
    Counts units (Some f) o = (units ≡ o) × (f.skipped + length f.reading.rest ≤ o) × (f.reading.fault ≡ None → length f.reading.rest ≡ count f.reading.state)

    counts_by : (h : Hunt S V) (b : Placed) (f : Option (Found S V)) → h.found ≡ f → (o : ℕ) → Counts h.units f o → Counts (hunt_on p v rule start h b f).units (hunt_on p v rule start h b f).found (suc o)
    counts_by h b (Some f) e o k =
        (let a = rest_on rule start b f.reading in
        (omega (arith, k.0), omega (arith, k.1, a), counted_on rule start count none one f.reading b k.2))
    counts_by h b None e o k = by_test (b.unit == p.last && h.run == p.most) where
      by_test : (t : Bool) → Counts (after h b t).units (after h b t).found (suc o)
      by_test true = (omega (arith, k.0), (let i = k.0 in omega arith), λ _. sym none)
      by_test false = (omega (arith, k.0), tt)

    counts_from : (u : List Placed) (h : Hunt S V) (o : ℕ) → Counts h.units h.found o → Counts (hunt_from p v rule start h u).units (hunt_from p v rule start h u).found (o + length u)
    counts_from [] h o k = subst (λ (n : ℕ). Counts h.units h.found n) (let e : o ≡ o + 0 = omega arith in e) k
    counts_from (b ∷ u) h o k = subst (λ (n : ℕ). Counts (hunt_from p v rule start h (b ∷ u)).units (hunt_from p v rule start h (b ∷ u)).found n) (let e : suc o + length u ≡ o + suc (length u) = omega arith in e)
        (counts_from u (hunt_on p v rule start h b h.found) (suc o) (counts_by h b h.found refl o k))

    pub counts : (u : List Placed) → Counts (hunt p v rule start u).units (hunt p v rule start u).found (length u)
    counts u = subst (λ (n : ℕ). Counts (hunt p v rule start u).units (hunt p v rule start u).found n) (let e : 0 + length u ≡ length u = omega arith in e) (counts_from u no_hunt 0 (refl, tt))

    pub Seeks-shows : (run skipped : ℕ) (u : List Placed) (bytes : ℕ) → length u ≤ 2 * bytes → Seeks run skipped u → Shows true false 0 skipped bytes (hunted p v rule start u)
    Seeks-shows run skipped u bytes most s =
        let c = subst (λ (o : Option (Found S V)). Counts (hunt p v rule start u).units o (length u)) s.none (counts u) in
        subst (λ (o : Option (Found S V)). Shows true false 0 skipped bytes (hunted_by (hunt p v rule start u).units o)) (sym s.none) (record {
          live_is = refl;
          locked_is = refl;
          held_is = λ _. refl;
          skipped_is = sym s.units_is;
          room = λ _. (let a = s.units_is in let b = c.0 in omega arith);
        })

    pub Follows-shows : (skipped : ℕ) (live : Bool) (state : S) (u : List Placed) (bytes : ℕ) → length u ≤ 2 * bytes → Follows skipped live state u → Shows live true (count state) skipped bytes (hunted p v rule start u)
    Follows-shows skipped live state u bytes most s =
        let c = subst (λ (o : Option (Found S V)). Counts (hunt p v rule start u).units o (length u)) s.some (counts u) in
        subst (λ (o : Option (Found S V)). Shows live true (count state) skipped bytes (hunted_by (hunt p v rule start u).units o)) (sym s.some) (record {
          live_is = s.stands.live_is;
          locked_is = refl;
          held_is = λ l. held c.2 l;
          skipped_is = sym s.skipped_is;
          room = λ l. (let a = held c.2 l in let b = c.1 in let d = s.skipped_is in omega arith);
        }) where
          held : (s.found.reading.fault ≡ None → length s.found.reading.rest ≡ count s.found.reading.state) → live ≡ true → count state ≡ length s.found.reading.rest
          held c l = ap count (sym s.stands.state_is) ∙ sym (c (none_of s.found.reading.fault (sym l ∙ s.stands.live_is)))
