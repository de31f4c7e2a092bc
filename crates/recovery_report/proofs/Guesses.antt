-- What a source says with its guesses grows with each of its bytes, at the places of its units, and nothing is taken
-- back. (With half a byte of an STP source a guess may be taken back: where the other half locks the hunt.)
use Rattle.std.proofs.Common.{◌≡◌, ℕ, ◌+◌, ◌-◌, ◌<◌, ◌≤◌, List, [], ◌∷◌, ◌++◌, length, drop, map, refl, sym}
use Rattle.std.proofs.Common.{◌∙◌, ap, subst, arith, inl, inr, ◌⊎◌, append_assoc, append-nil, Option, None, Some, Bool}
use Rattle.std.proofs.Common.{true, false}
use Rattle.std.specs.Prelude.{is_none, filter, flat_map, nat_lt}
use Rattle.std.proofs.lemmas.Grind.{flat_map-append}
use Rattle.std.proofs.lemmas.List.{drop_all, map-append}
use Rattle.std.proofs.lemmas.List.Elements.{filter-append}
use Rattle.trace_values.specs.declared.cell.Cell.{Cell}
use Rattle.trace_values.specs.declared.fault.Reason.{Reason}
use Rattle.trace_values.specs.Placed.{Place, Placed}
use Rattle.trace_values.specs.Stream.{Said, Notice, Kept, Stream}
use Rattle.trace_values.proofs.OneUnit.{RisesOn}
use Rattle.source_events.specs.declared.plan.SourceKind.{SourceKind}
use Rattle.source_events.specs.Merge.{AllIn, IsAtMost, start_of}
use Rattle.source_events.proofs.Family.{Within}
use Rattle.source_events.proofs.Merges.{at_most_self, start_le}
use Rattle.source_machine.specs.Units.{units_at}
use Rattle.stretch_readings.specs.declared.heard.Heard.{Heard}
use Rattle.stretch_readings.specs.Guessing.{as_guess, at_next, before_first, ends_in_fault, guess_of, guessed_in}
use Rattle.stretch_readings.specs.Guessing.{has_fault, near_of, told_near}
use Rattle.stretch_readings.specs.Stretches.{One, Stretch, Stretches, before, broken, fed}
use Rattle.stretch_readings.specs.Stretches.{fed_from, from_fault, heard, heard_of, parted, recovering}
use Rattle.stretch_readings.specs.Stretches.{resumed_by, told, with_unit}
use Rattle.stretch_readings.specs.Words.{IsSound}
use Rattle.stretch_readings.proofs.Feeding.{last_unit}
use Rattle.stretch_readings.proofs.StretchLaws.{from_append}
use Rattle.recovering_machines.specs.Run.{units_in}
use Rattle.recovery_report.proofs.Below.{all_below, drop_more, ends_none, ends_on, EndsAt, is_within, none_below}
use Rattle.recovery_report.proofs.Below.{on_below, said_join, said_later, SaidBelow, units_below, units_join}
use Rattle.recovery_report.proofs.Below.{units_later, UnitsBelow}
use Rattle.recovery_report.proofs.Hearing.{all_later, at_next_on, last_at, last_of, stays_whole, units_span, units_to}
use Rattle.recovery_report.proofs.Spans.{AllTo, UnitsTo, at_le, guess_to, in_join, on_to, to_in, to_join, to_le}
use Rattle.recovery_report.proofs.Spans.{to_more, units_before, units_drop, units_le, units_push}

module _ {V : Type 0} (reads : Bool → List Placed → Stream V)
    (rises : (h : Bool) (u : List Placed) (b : Placed) → RisesOn (reads h u) (reads h (u ++ b ∷ [])) b.place)
    (begins : (h : Bool) → (reads h []).fault ≡ None) (quiet : (h : Bool) → (reads h []).given ≡ [])
    (sound : IsSound reads from_fault) where
  abbrev Heards : Type 0
  Heards = List (Said (Heard V) × Place)

  next_sound : IsSound reads at_next
  next_sound = λ h u b e k.
      ap (λ w. (reads false w).fault) (drop_all (length (u ++ b ∷ []) - 0) (u ++ b ∷ []) (omega arith)) ∙ begins false

  abbrev next_given : Stretches → Heards
  next_given r = (heard_of reads at_next r).given

  -- what is guessed of more units is at their places
  guess_more : (u w : List Placed) (p q : Place) → UnitsTo p q w →
      (more : Heards) × (guess_of reads from_fault (u ++ w) ≡ guess_of reads from_fault u ++ more) × AllTo p q more
  guess_more u w p q i =
      let start = before reads at_next false in
      let r = fed_from reads at_next start (map One u) in
      let on = at_next_on reads rises begins quiet in
      let b = units_to reads rises at_next next_sound on w r p q
      (stays_whole reads rises at_next next_sound on (begins true) (map One u) start (begins false)) i in
      let all : (recovering reads at_next false (map One (u ++ w))).given ≡ next_given r ++ b.0 =
      ap (λ l. next_given (fed_from reads at_next start l)) (map-append One u w)
      ∙ ap next_given (from_append reads at_next (map One u) (map One w) start) ∙ b.1 in (
        flat_map as_guess b.0,
        ap (flat_map as_guess) all ∙ flat_map-append as_guess (next_given r) b.0,
        guess_to p q b.0 b.2,
      )

  guess_none : guess_of reads from_fault [] ≡ []
  guess_none =
      ap (λ l. flat_map as_guess (map (heard reads at_next 0) l ++ broken reads at_next (reads false []).fault))
      (quiet false)
      ∙ ap (λ o. flat_map as_guess (broken reads at_next o)) (begins false)

  guess_all : (w : List Placed) (p q : Place) → UnitsTo p q w → AllTo p q (guess_of reads from_fault w)
  guess_all w p q i =
      let g = guess_more [] w p q i in
      subst (AllTo p q) (sym (g.1 ∙ ap (λ l. l ++ g.0) guess_none)) g.2

  abbrev tail : Bool → Stretch → Heards
  tail after s = guessed_in reads from_fault after s ++ told reads from_fault s

  -- what a stretch tells of units at places in order is at their places
  heard_to : (count : ℕ) (p q : Place) (xs : List (Said V × Place)) → AllTo p q xs →
      AllTo p q (map (heard reads from_fault count) xs)
  heard_to count p q [] a = a
  heard_to count p q ((Notice k, place) ∷ xs) a = (a.0, heard_to count place q xs a.1)
  heard_to count p q ((Kept v, place) ∷ xs) a = (a.0, heard_to count place q xs a.1)

  broken_to : (q : Place) (o : Option (Place × Reason)) → EndsAt q o → AllTo q q (broken reads from_fault o)
  broken_to q None e = at_most_self q
  broken_to q (Some f) e = (
    subst (λ (z : Place). IsAtMost q z) (sym e) (at_most_self q),
    subst (λ (z : Place). IsAtMost z q) (sym e) (at_most_self q),
  )

  given_from : (h : Bool) (w u : List Placed) (p q r : Place) → AllTo p q (reads h u).given → UnitsTo q r w →
      AllTo p r (reads h (u ++ w)).given
  given_from h [] u p q r a i =
      subst (λ (l : List Placed). AllTo p r (reads h l).given) (sym (append-nil u))
      (to_more p q r (reads h u).given a i)
  given_from h (b ∷ w) u p q r a i =
      let on = rises h u b in
      subst (λ (l : List Placed). AllTo p r (reads h l).given) (append_assoc u (b ∷ []) w)
      (given_from h w (u ++ b ∷ []) p b.place r
      (subst (AllTo p b.place) (sym on.given)
      (to_join p q b.place (reads h u).given on.more a (on_to q b.place on.more i.0 on.all))) i.1)

  given_to : (h : Bool) (w : List Placed) (p q : Place) → UnitsTo p q w → AllTo p q (reads h w).given
  given_to h w p q i =
      given_from h w [] p p q (subst (AllTo p p) (sym (quiet h)) (at_most_self p)) i

  module _ (s : Stretch) (p q : Place) (i : UnitsTo p q s.units) (ends : EndsAt q (reads s.hunts s.units).fault) where
    abbrev said : List (Said V × Place)
    said = (reads s.hunts s.units).given

    tells_to : (o : Place) → AllTo o q said → AllTo o q (told reads from_fault s)
    tells_to o a =
        to_join o q q (map (heard reads from_fault s.count) said)
        (broken reads from_fault (reads s.hunts s.units).fault)
        (heard_to s.count o q said a) (broken_to q (reads s.hunts s.units).fault ends)

    -- its guesses first
    guesses_to : (l : List (Said V × Place)) → said ≡ l → AllTo p q l → AllTo p q (tail true s)
    guesses_to [] e a =
        to_join p q q (guess_of reads from_fault (drop 1 (before_first said s.units))) (told reads from_fault s)
        (subst (λ (l : List (Said V × Place)). AllTo p q (guess_of reads from_fault (drop 1 (before_first l s.units))))
        (sym e) (guess_all (drop 1 s.units) p q (units_drop p q s.units i)))
        (tells_to q (subst (AllTo q q) (sym e) (at_most_self q)))
    guesses_to (x ∷ l) e a =
        to_join p x.1 q (guess_of reads from_fault (drop 1 (before_first said s.units))) (told reads from_fault s)
        (subst
        (λ (l : List (Said V × Place)). AllTo p x.1 (guess_of reads from_fault (drop 1 (before_first l s.units))))
        (sym e) (guess_all (drop 1 (filter (λ (u : Placed). nat_lt u.place.at x.1.at) s.units)) p x.1
        (units_drop p x.1 (filter (λ (u : Placed). nat_lt u.place.at x.1.at) s.units)
        (units_before p q x.1 s.units i a.0))))
        (tells_to x.1 (subst (AllTo x.1 q) (sym e) (at_most_self x.1, a.1)))

    tail_to : (after : Bool) → AllTo p q (tail after s)
    tail_to false = tells_to p (given_to s.hunts s.units p q i)
    tail_to true = guesses_to said refl (given_to s.hunts s.units p q i)

  -- A stretch with more units, all of one offset, which is after those that it has: it says more.
  module _ (s : Stretch) (at : ℕ) (whole : (reads s.hunts s.units).fault ≡ None) (below : UnitsBelow at s.units)
      (said_below : SaidBelow at (reads s.hunts s.units).given) where
    abbrev longer : List Placed → Stretch
    longer w = record { hunts = s.hunts; count = s.count; units = s.units ++ w }

    abbrev first : List (Said V × Place)
    first = (reads s.hunts s.units).given

    module _ (p q : Place) (begin : p.at ≡ at) (end : q.at ≡ at) (w : List Placed) (span : UnitsTo p q w)
        (more : List (Said V × Place)) (more_to : AllTo p q more)
        (grew : (reads s.hunts (s.units ++ w)).given ≡ first ++ more)
        (ends : EndsAt q (reads s.hunts (s.units ++ w)).fault) where
      abbrev t : Stretch
      t = longer w

      abbrev hears : List (Said V × Place) → Heards
      hears l = map (heard reads from_fault s.count) l

      abbrev last : Heards
      last = broken reads from_fault (reads s.hunts (s.units ++ w)).fault

      told_was : told reads from_fault s ≡ hears first
      told_was = ap (λ o. hears first ++ broken reads from_fault o) whole ∙ append-nil (hears first)

      told_grows : told reads from_fault t ≡ told reads from_fault s ++ (hears more ++ last)
      told_grows =
          ap (λ l. hears l ++ last) grew
          ∙ ap (λ l. l ++ last) (map-append (heard reads from_fault s.count) first more)
          ∙ append_assoc (hears first) (hears more) last ∙ ap (λ l. l ++ (hears more ++ last)) (sym told_was)

      abbrev guesses : List (Said V × Place) → List Placed → Heards
      guesses said units = guess_of reads from_fault (drop 1 (before_first said units))

      -- the units before the lock are the same
      same_units : (x : Said V × Place) → x.1.at ≤ at →
          before_first (x ∷ []) (s.units ++ w) ≡ before_first (x ∷ []) s.units
      same_units x l =
          filter-append (λ (u : Placed). nat_lt u.place.at x.1.at) s.units w
          ∙ ap (λ l. filter (λ (u : Placed). nat_lt u.place.at x.1.at) s.units ++ l)
          (none_below x.1.at p q w (let k = begin in omega (arith, k, l)) span)
          ∙ append-nil (filter (λ (u : Placed). nat_lt u.place.at x.1.at) s.units)

      abbrev Grows : Type 0
      Grows = (more_guesses : Heards)
          × (guessed_in reads from_fault true t ≡ guessed_in reads from_fault true s ++ more_guesses)
          × AllTo p q more_guesses × ((more_guesses ≡ []) ⊎ ((told reads from_fault s ≡ []) × (more ≡ [])))

      same_guesses : guesses (reads s.hunts (s.units ++ w)).given (s.units ++ w) ≡ guesses first s.units → Grows
      same_guesses e = ([], e ∙ sym (append-nil (guesses first s.units)), to_le p q more more_to, inl refl)

      guess_grows : (g m : List (Said V × Place)) → first ≡ g → more ≡ m → Grows
      guess_grows [] [] e n =
          let all = (reads s.hunts (s.units ++ w)).given in
          let rest = drop_more p q s.units w span in
          let k = guess_more (drop 1 s.units) rest.0 p q rest.2 in
          let nothing : all ≡ [] = grew ∙ ap (λ l. l ++ more) e ∙ n in (
            k.0,
            ap (λ l. guesses l (s.units ++ w)) nothing ∙ ap (guess_of reads from_fault) rest.1 ∙ k.1
                ∙ ap (λ l. guesses l s.units ++ k.0) (sym e),
            k.2,
            inr (told_was ∙ ap hears e, n),
          )
      guess_grows [] (x ∷ m) e n =
          let said : (reads s.hunts (s.units ++ w)).given ≡ x ∷ m = grew ∙ ap (λ l. l ++ more) e ∙ n in
          let here = subst (λ (l : List (Said V × Place)). AllTo p q l) n more_to in
          let low = at_le p x.1 here.0 in
          let high = at_le x.1 q (to_le x.1 q m here.1) in
          let same : x.1.at ≡ at = (let b = begin in let e = end in omega (arith, low, high, b, e)) in
          same_guesses (
          ap (λ l. guesses l (s.units ++ w)) said
          ∙ ap (λ l. guess_of reads from_fault (drop 1 l)) (same_units x (let k = same in omega (arith, k))
          ∙ ap (λ n. filter (λ (u : Placed). nat_lt u.place.at n) s.units) same ∙ all_below at s.units below)
          ∙ ap (λ l. guesses l s.units) (sym e)
          )
      guess_grows (x ∷ g) m e n =
          let said : (reads s.hunts (s.units ++ w)).given ≡ x ∷ (g ++ more) = grew ∙ ap (λ l. l ++ more) e in
          let here = subst (λ (l : List (Said V × Place)). SaidBelow at l) e said_below in
          let b : x.1.at < at = here.0 in
          same_guesses (
          ap (λ l. guesses l (s.units ++ w)) said
          ∙ ap (λ l. guess_of reads from_fault (drop 1 l)) (same_units x (let k = b in omega (arith, k)))
          ∙ ap (λ l. guesses l s.units) (sym e)
          )

      abbrev IsTail : Bool → Type 0
      IsTail after = (extra : Heards) × (tail after t ≡ tail after s ++ extra) × AllTo p q extra

      last_to : AllTo q q last
      last_to = broken_to q (reads s.hunts (s.units ++ w)).fault ends

      joined : (k : Heards) → AllTo p q k → (k ≡ []) ⊎ ((told reads from_fault s ≡ []) × (more ≡ [])) →
          (g : Heards) → (extra : Heards)
          × ((g ++ k) ++ (told reads from_fault s ++ (hears more ++ last))
          ≡ (g ++ told reads from_fault s) ++ extra) × AllTo p q extra
      joined k a (inl n) g =
          let e = hears more ++ last in
          let was = told reads from_fault s in (
            e,
            ap (λ l. (g ++ l) ++ (was ++ e)) n ∙ ap (λ l. l ++ (was ++ e)) (append-nil g) ∙ sym (append_assoc g was e),
            to_join p q q (hears more) last (heard_to s.count p q more more_to) last_to,
          )
      joined k a (inr n) g =
          let e = hears more ++ last in
          let was = told reads from_fault s in (
            k ++ e,
            ap (λ l. (g ++ k) ++ (l ++ e)) n.0 ∙ append_assoc g k e
                ∙ ap (λ l. l ++ (k ++ e)) (sym (append-nil g)) ∙ ap (λ l. (g ++ l) ++ (k ++ e)) (sym n.0),
            to_join p q q k e a
                (subst (λ (m : List (Said V × Place)). AllTo q q (hears m ++ last)) (sym n.1) last_to),
          )

      tail_grows : (after : Bool) → IsTail after
      tail_grows false = (
        hears more ++ last,
        told_grows,
        to_join p q q (hears more) last (heard_to s.count p q more more_to) last_to,
      )
      tail_grows true =
          let g = guess_grows first more refl refl in
          let j = joined g.0 g.2 g.3 (guessed_in reads from_fault true s) in (
            j.0,
            ap (λ l. l ++ told reads from_fault t) g.1
                ∙ ap (λ l. (guessed_in reads from_fault true s ++ g.0) ++ l) told_grows ∙ j.1,
            j.2,
          )

  -- stretches after others
  abbrev last_fault : Bool → List Stretch → Bool
  last_fault = ends_in_fault reads from_fault

  near_append : (p q : List Stretch) (after : Bool) → told_near reads from_fault after (p ++ q)
      ≡ told_near reads from_fault after p ++ told_near reads from_fault (last_fault after p) q
  near_append [] q after = refl
  near_append (s ∷ p) q after =
      let f = has_fault reads from_fault s in
      ap (λ l. tail after s ++ l) (near_append p q f)
      ∙ sym (append_assoc (tail after s) (told_near reads from_fault f p)
      (told_near reads from_fault (last_fault f p) q))

  near_push : (p : List Stretch) (s : Stretch) → told_near reads from_fault false (p ++ s ∷ [])
      ≡ told_near reads from_fault false p ++ tail (last_fault false p) s
  near_push p s = near_append p (s ∷ []) false
      ∙ ap (λ l. told_near reads from_fault false p ++ l) (append-nil (tail (last_fault false p) s))

  -- Stretches of which those after these say what is at places in order, up to the units of the last one.
  record Follows (done : List Stretch) (p q : Place) (r : Stretches) : Type 0 where
    later : List Stretch
    past : r.past ≡ done ++ later
    mid : Place
    over : AllTo p mid (told_near reads from_fault (last_fault false done) later)
    span : UnitsTo mid q r.now.units
    whole : (reads r.now.hunts r.now.units).fault ≡ None

  module _ (done : List Stretch) (p : Place) where
    abbrev after : Bool
    after = last_fault false done

    -- one more stretch after them
    then_to : (later : List Stretch) (s : Stretch) (mid q : Place) →
        AllTo p mid (told_near reads from_fault after later) → UnitsTo mid q s.units →
        EndsAt q (reads s.hunts s.units).fault → AllTo p q (told_near reads from_fault after (later ++ s ∷ []))
    then_to later s mid q a i ends =
        let here = tail (last_fault after later) s in
        subst (AllTo p q)
        (sym (near_append later (s ∷ []) after
        ∙ ap (λ l. told_near reads from_fault after later ++ l) (append-nil here)))
        (to_join p mid q (told_near reads from_fault after later) here a
        (tail_to s mid q i ends (last_fault after later)))

    module _ (q : Place) (r : Stretches) (f : Follows done p q r) (b : Placed) (l : IsAtMost q b.place) where
      abbrev new : Option (Place × Reason)
      new = (reads r.now.hunts (r.now.units ++ b ∷ [])).fault

      spans : UnitsTo f.mid b.place (r.now.units ++ b ∷ [])
      spans = units_push f.mid q r.now.units b f.span l

      follows_by : (o : Option (Place × Reason)) → new ≡ o →
          Follows done p b.place (resumed_by reads from_fault o (with_unit reads from_fault r b))
      follows_by None e = record {
        later = f.later;
        past = f.past;
        mid = f.mid;
        over = f.over;
        span = spans;
        whole = e;
      }
      follows_by (Some g) e =
          let s : Stretch = record { hunts = r.now.hunts; count = r.now.count; units = r.now.units ++ b ∷ [] } in
          record {
            later = f.later ++ s ∷ [];
            past = ap (λ p. p ++ s ∷ []) f.past ∙ append_assoc done f.later (s ∷ []);
            mid = b.place;
            over = then_to f.later s f.mid b.place f.over spans
                (ends_on b.place (reads r.now.hunts r.now.units).fault new f.whole
                (rises r.now.hunts r.now.units b).fault);
            span = subst (UnitsTo b.place b.place) (sym (last_unit r.now.units b))
                (at_most_self b.place, at_most_self b.place);
            whole = sound r.now.hunts r.now.units b f.whole (ap is_none e);
          }

    follows_all : (w : List Placed) (r : Stretches) (q stop : Place) → Follows done p q r → UnitsTo q stop w →
        (end : Place) × IsAtMost end stop × Follows done p end (fed_from reads from_fault r (map One w))
    follows_all [] r q stop f i = (q, i, f)
    follows_all (b ∷ w) r q stop f i =
        follows_all w (fed reads from_fault r (One b)) b.place stop
        (follows_by q r f b i.0 (reads r.now.hunts (r.now.units ++ b ∷ [])).fault refl) i.1

    -- what they say
    follows_says : (q : Place) (r : Stretches) → Follows done p q r → (extra : Heards)
        × (near_of reads from_fault r ≡ told_near reads from_fault false done ++ extra) × AllTo p q extra
    follows_says q r f = (
      told_near reads from_fault after (f.later ++ r.now ∷ []),
      ap (λ p. told_near reads from_fault false (p ++ r.now ∷ [])) f.past
          ∙ ap (told_near reads from_fault false) (append_assoc done f.later (r.now ∷ []))
          ∙ near_append done (f.later ++ r.now ∷ []) false,
      then_to f.later r.now f.mid q f.over f.span (ends_none q (reads r.now.hunts r.now.units).fault f.whole),
    )

  abbrev Extends : Place → Place → Heards → Stretches → Type 0
  Extends p q said r = (extra : Heards) × (near_of reads from_fault r ≡ said ++ extra) × AllTo p q extra

  -- the units of one offset, one by one: so many are in the stretch, and more come
  module _ (past : List Stretch) (s : Stretch) (at : ℕ) (whole : (reads s.hunts s.units).fault ≡ None)
      (below : UnitsBelow at s.units) (said_below : SaidBelow at (reads s.hunts s.units).given)
      (p stop : Place) (begin : p.at ≡ at) (end : stop.at ≡ at) where
    abbrev said_first : Heards
    said_first = told_near reads from_fault false past ++ tail (last_fault false past) s

    abbrev with_front : List Placed → Stretches
    with_front u = record { past = past; now = record { hunts = s.hunts; count = s.count; units = u } }

    record IsFront (u : List Placed) (q : Place) : Type 0 where
      front : List Placed
      is : u ≡ s.units ++ front
      span : UnitsTo p q front
      more : List (Said V × Place)
      more_to : AllTo p q more
      grew : (reads s.hunts u).given ≡ (reads s.hunts s.units).given ++ more

    last_says : (u : List Placed) (q : Place) → IsFront u q → IsAtMost q stop → EndsAt q (reads s.hunts u).fault →
        (extra : Heards)
        × (told_near reads from_fault false past ++ tail (last_fault false past) (with_front u).now
        ≡ said_first ++ extra) × AllTo p q extra
    last_says u q f late ends =
        let same : q.at ≡ at = is_within p q stop at begin end (units_le p q f.front f.span) late in
        let t = tail_grows s at whole below said_below p q begin same f.front f.span f.more f.more_to
        (ap (λ l. (reads s.hunts l).given) (sym f.is) ∙ f.grew)
        (subst (λ (l : List Placed). EndsAt q (reads s.hunts l).fault) f.is ends) (last_fault false past) in (
          t.0,
          ap (λ l. told_near reads from_fault false past ++ tail (last_fault false past) (with_front l).now) f.is
              ∙ ap (λ l. told_near reads from_fault false past ++ l) t.1
              ∙ sym (append_assoc (told_near reads from_fault false past) (tail (last_fault false past) s) t.0),
          t.2,
        )

    push : (u : List Placed) (q : Place) (b : Placed) → IsAtMost q b.place → IsFront u q →
        IsFront (u ++ b ∷ []) b.place
    push u q b l f =
        let on = rises s.hunts u b in
        record {
          front = f.front ++ b ∷ [];
          is = ap (λ l. l ++ b ∷ []) f.is ∙ append_assoc s.units f.front (b ∷ []);
          span = units_push p q f.front b f.span l;
          more = f.more ++ on.more;
          more_to = to_join p q b.place f.more on.more f.more_to (on_to q b.place on.more l on.all);
          grew = on.given ∙ ap (λ l. l ++ on.more) f.grew
              ∙ append_assoc (reads s.hunts s.units).given f.more on.more;
        }

    module _ (b : Placed) (l : List Placed) (u : List Placed) (f : IsFront (u ++ b ∷ []) b.place)
        (fine : (reads s.hunts u).fault ≡ None) (i : UnitsTo b.place stop l)
        (rest : (reads s.hunts (u ++ b ∷ [])).fault ≡ None → IsFront (u ++ b ∷ []) b.place →
        Extends p stop said_first (fed_from reads from_fault (with_front (u ++ b ∷ [])) (map One l))) where
      by_fault : (o : Option (Place × Reason)) → (reads s.hunts (u ++ b ∷ [])).fault ≡ o → Extends p stop said_first
          (fed_from reads from_fault (resumed_by reads from_fault o (with_front (u ++ b ∷ []))) (map One l))
      by_fault None q = rest q f
      by_fault (Some x) q =
          let t = (with_front (u ++ b ∷ [])).now in
          let done = past ++ t ∷ [] in
          let r = resumed_by reads from_fault (Some x) (with_front (u ++ b ∷ [])) in
          let begun : Follows done b.place b.place r = record {
            later = [];
            past = sym (append-nil done);
            mid = b.place;
            over = at_most_self b.place;
            span = subst (UnitsTo b.place b.place) (sym (last_unit u b)) (at_most_self b.place, at_most_self b.place);
            whole = sound s.hunts u b fine (ap is_none q);
          } in
          let all = follows_all done b.place l r b.place stop begun i in
          let o = follows_says done b.place all.0 (fed_from reads from_fault r (map One l)) all.2 in
          let m = last_says (u ++ b ∷ []) b.place f (units_le b.place stop l i)
          (ends_on b.place (reads s.hunts u).fault (reads s.hunts (u ++ b ∷ [])).fault fine
          (rises s.hunts u b).fault) in (
            m.0 ++ o.0,
            o.1 ∙ ap (λ k. k ++ o.0) (near_push past t ∙ m.1) ∙ append_assoc said_first m.0 o.0,
            to_join p b.place stop m.0 o.0 m.2 (to_more b.place all.0 stop o.0 o.2 all.1),
          )

    each : (w u : List Placed) (q : Place) → UnitsTo q stop w → (reads s.hunts u).fault ≡ None → IsFront u q →
        Extends p stop said_first (fed_from reads from_fault (with_front u) (map One w))
    each [] u q i fine f =
        let m = last_says u q f i (ends_none q (reads s.hunts u).fault fine) in
        (m.0, near_push past (with_front u).now ∙ m.1, to_more p q stop m.0 m.2 i)
    each (b ∷ w) u q i fine f =
        by_fault b w u (push u q b i.0 f) fine i.1 (λ e g. each w (u ++ b ∷ []) b.place i.1 e g)
        (reads s.hunts (u ++ b ∷ [])).fault refl

  -- all that the last stretch has is before an offset, and it has no fault
  pub record IsBelow (n : ℕ) (r : Stretches) : Type 0 where
    pub whole : (reads r.now.hunts r.now.units).fault ≡ None
    pub units : UnitsBelow n r.now.units
    pub said_in : SaidBelow n (reads r.now.hunts r.now.units).given

  pub below_later : (n m : ℕ) (r : Stretches) → n ≤ m → IsBelow n r → IsBelow m r
  below_later n m r l b = record {
    whole = b.whole;
    units = units_later n m r.now.units l b.units;
    said_in = said_later n m (reads r.now.hunts r.now.units).given l b.said_in;
  }

  pub below_first : (n : ℕ) (h : Bool) → IsBelow n (before reads from_fault h)
  below_first n h = record {
    whole = begins h;
    units = tt;
    said_in = subst (λ (l : List (Said V × Place)). SaidBelow n l) (sym (quiet h)) tt;
  }

  pub below_cut : (n : ℕ) (r : Stretches) → IsBelow n (parted reads from_fault r)
  below_cut n r = record {
    whole = begins true;
    units = tt;
    said_in = subst (λ (l : List (Said V × Place)). SaidBelow n l) (sym (quiet true)) tt;
  }

  module _ (n : ℕ) (r : Stretches) (b : Placed) (l : b.place.at < n) (k : IsBelow n r) where
    below_by : (o : Option (Place × Reason)) → (reads r.now.hunts (r.now.units ++ b ∷ [])).fault ≡ o →
        IsBelow n (resumed_by reads from_fault o (with_unit reads from_fault r b))
    below_by None e =
        let on = rises r.now.hunts r.now.units b in
        record {
          whole = e;
          units = units_join n r.now.units (b ∷ []) k.units (l, tt);
          said_in = subst (λ (l : List (Said V × Place)). SaidBelow n l) (sym on.given)
              (said_join n (reads r.now.hunts r.now.units).given on.more k.said_in
              (on_below b.place n on.more l on.all));
        }
    below_by (Some f) e =
        let on = rises true [] b in
        let here = last_unit r.now.units b in
        record {
          whole = sound r.now.hunts r.now.units b k.whole (ap is_none e);
          units = subst (UnitsBelow n) (sym here) (l, tt);
          said_in = subst (λ (u : List Placed). SaidBelow n (reads true u).given) (sym here)
              (subst (λ (l : List (Said V × Place)). SaidBelow n l)
              (sym (on.given ∙ ap (λ g. g ++ on.more) (quiet true))) (on_below b.place n on.more l on.all));
        }

    below_one : IsBelow n (fed reads from_fault r (One b))
    below_one = below_by (reads r.now.hunts (r.now.units ++ b ∷ [])).fault refl

  below_all : (n : ℕ) (w : List Placed) (r : Stretches) → UnitsBelow n w → IsBelow n r →
      IsBelow n (fed_from reads from_fault r (map One w))
  below_all n [] r a k = k
  below_all n (b ∷ w) r a k = below_all n w (fed reads from_fault r (One b)) a.1 (below_one n r b a.0 k)

  -- With what comes after all others, and lies from a place on and below an offset, nothing that is said is taken back.
  pub record IsNear (p : Place) (n : ℕ) (r s : Stretches) : Type 0 where
    pub extra : Heards
    pub is : near_of reads from_fault s ≡ near_of reads from_fault r ++ extra
    pub all : AllIn p n extra
    pub below : IsBelow n s

  -- the units of one byte
  byte_more : (at : ℕ) (q : Place) (r : Stretches) (w : List Placed) → UnitsTo (start_of at) q w → q.at ≡ at →
      IsBelow at r → IsNear (start_of at) (at + 1) r (fed_from reads from_fault r (map One w))
  byte_more at q r w i e k =
      let p = start_of at in
      let next : q.at < at + 1 = (let h = e in omega (arith, h)) in
      let f = each r.past r.now at k.whole k.units k.said_in p q refl e w r.now.units p i k.whole (record {
        front = [];
        is = sym (append-nil r.now.units);
        span = at_most_self p;
        more = [];
        more_to = at_most_self p;
        grew = sym (append-nil (reads r.now.hunts r.now.units).given);
      }) in
      record {
        extra = f.0;
        is = f.1 ∙ ap (λ l. l ++ f.0) (sym (near_push r.past r.now));
        all = to_in p q (at + 1) f.0 f.2 next;
        below = below_all (at + 1) w r (units_below p q (at + 1) w i next) (below_later at (at + 1) r (omega arith) k);
      }

  -- a cut takes back nothing either, and says nothing
  cut_says : (after : Bool) (r : Stretches) → tail after (parted reads from_fault r).now ≡ []
  cut_says after r = guesses after ∙ tells where
    tells : told reads from_fault (parted reads from_fault r).now ≡ []
    tells =
        ap (λ l. map (heard reads from_fault 0) l ++ broken reads from_fault (reads true []).fault) (quiet true)
        ∙ ap (broken reads from_fault) (begins true)

    guesses : (after : Bool) → tail after (parted reads from_fault r).now
        ≡ told reads from_fault (parted reads from_fault r).now
    guesses false = refl
    guesses true =
        ap (λ l. l ++ told reads from_fault (parted reads from_fault r).now)
        (ap (λ l. guess_of reads from_fault (drop 1 (before_first l []))) (quiet true) ∙ guess_none)

  pub cut_near : (r : Stretches) → near_of reads from_fault (parted reads from_fault r) ≡ near_of reads from_fault r
  cut_near r =
      near_push (r.past ++ r.now ∷ []) (parted reads from_fault r).now
      ∙ ap (λ l. near_of reads from_fault r ++ l) (cut_says (last_fault false (r.past ++ r.now ∷ [])) r)
      ∙ append-nil (near_of reads from_fault r)

  pub cut_more : (p : Place) (n : ℕ) (r : Stretches) → IsNear p n r (parted reads from_fault r)
  cut_more p n r = record {
    extra = [];
    is = cut_near r ∙ sym (append-nil (near_of reads from_fault r));
    all = tt;
    below = below_cut n r;
  }

  -- a run of cells after all others
  pub run_more : (kind : SourceKind) (cells : List Cell) (n hi : ℕ) (r : Stretches) → Within n hi cells → n ≤ hi →
      IsBelow n r → IsNear (start_of n) hi r (fed_from reads from_fault r (map One (units_in kind cells)))
  run_more kind [] n hi r w l k = record {
    extra = [];
    is = sym (append-nil (near_of reads from_fault r));
    all = tt;
    below = below_later n hi r l k;
  }
  run_more kind (c ∷ cells) n hi r w l k =
      let here = units_at kind c.at c.byte in
      let one = byte_more c.at (last_of kind c.at) r here (units_span kind c.at c.byte) (last_at kind c.at)
      (below_later n c.at r w.0 k) in
      let next = fed_from reads from_fault r (map One here) in
      let end : c.at + 1 ≤ hi = let q = w.1 in omega (arith, q) in
      let rest = run_more kind cells (c.at + 1) hi next w.2 end one.below in
      let all : fed_from reads from_fault r (map One (here ++ units_in kind cells))
      ≡ fed_from reads from_fault next (map One (units_in kind cells)) =
      ap (fed_from reads from_fault r) (map-append One here (units_in kind cells))
      ∙ from_append reads from_fault (map One here) (map One (units_in kind cells)) r in
      let first = start_le n c.at w.0 in
      record {
        extra = one.extra ++ rest.extra;
        is = ap (near_of reads from_fault) all ∙ rest.is ∙ ap (λ g. g ++ rest.extra) one.is
            ∙ append_assoc (near_of reads from_fault r) one.extra rest.extra;
        all = in_join (start_of n) (c.at + 1) hi one.extra rest.extra
            (start_le n (c.at + 1) (let q = w.0 in omega (arith, q))) end
            (all_later (start_of n) (start_of c.at) (c.at + 1) one.extra first one.all) rest.all;
        below = subst (IsBelow hi) (sym all) rest.below;
      }
