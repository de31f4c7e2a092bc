-- What the lister of a recovering report makes of one event.
use Rattle.std.proofs.Common.{◌≡◌, ℕ, List, [], ◌∷◌, ◌++◌, sym, ◌∙◌, ap, subst, append-nil, refl}
use Rattle.std.specs.Prelude.{Result, Ok, Err, Bool, true, false, not, ◌||◌}
use Rattle.std.proofs.Math.Bool.{or-false, or-true}
use Rattle.trace_values.specs.declared.fault.Reason.{Reason}
use Rattle.source_events.specs.declared.event.Event.{Event}
use Rattle.source_events.specs.declared.event.What.{What}
use Rattle.source_events.specs.declared.event.What.TheVariants.{Locked, Packet as Said, Raw, Trigger}
use Rattle.source_events.specs.declared.packet.Packet.{Packet}
use Rattle.source_events.specs.declared.plan.Plan.{Plan}
use Rattle.source_events.specs.Merge.{place_of}
use Rattle.source_events.specs.Report.{is_item}
use Rattle.stretch_readings.specs.declared.heard.Heard.{Heard}
use Rattle.stretch_readings.specs.declared.heard.Heard.TheVariants.{Read, Broken, Guessed, Misread}
use Rattle.recovering_machines.specs.Hearing.{as_event, as_strict, is_guess}
use Rattle.recovery_report.specs.Report.{sure_events}
use Rattle.trace_text.specs.FaultText.{fault_line}
use Rattle.trace_text.specs.LineText.{doubted}
use Rattle.capture_actions.specs.declared.filter.Filter.{Filter}
use Rattle.capture_actions.specs.declared.list_plan.ListPlan.{ListPlan}
use Rattle.capture_actions.specs.declared.source_clocks.SourceClocks.{SourceClocks}
use Rattle.capture_actions.specs.Faulty.{is_stp}
use Rattle.capture_actions.specs.Filter.{plan_by, HasSeen}
use Rattle.capture_actions.specs.Guesses.{guess_by}
use Rattle.capture_actions.specs.Lister as strict
use Rattle.capture_actions.specs.Listing.{line_by}
use Rattle.capture_actions.specs.SourceClocks.{AllStand, without}
use Rattle.recovery_listing.specs.LineLaws.{clocked_append, fault_push, guess_clocked_append, seen_push, sure_push}
use Rattle.recovery_listing.specs.Lister.{ListerGets, Stands, plan_of}
use Rattle.recovery_listing.specs.Listing.{clocked_by, clocked_from, has_fault, is_err, line_of}
use Rattle.recovering_machines.specs.Hearing.{seen_by, seen_in}
use Rattle.recovery_listing.specs.Near.{guess_clocked, guess_clocked_by, guess_line, near_line}
use Rattle.recovery_listing.specs.GuessClocks.{Follow, Suit}
use Rattle.recovery_listing.specs.declared.guess_clocks.GuessClocks.{GuessClocks}
use Rattle.recovery_listing.specs.declared.lister.RecoveringLister.{RecoveringLister}

abbrev Events : Type 0
Events = List (Event (Heard Packet))

-- the clocks of guesses take a guess, but for its fault
abbrev guess_taken : List (Event Packet) → Event (Heard Packet) → Result (What Packet) Reason → List (Event Packet)
guess_taken clocked e (Ok what) = clocked ++ as_event e what ∷ []
guess_taken clocked e (Err reason) = clocked

takes_guess : (clocked : List (Event Packet)) (e : Event (Heard Packet)) (w : What (Heard Packet)) → is_guess w ≡ true →
    guess_clocked_by clocked e (as_strict w) ≡ guess_taken clocked e (as_strict w)
takes_guess clocked e (Locked skipped) g = absurd (cc)
takes_guess clocked e (Said (Read packet)) g = absurd (cc)
takes_guess clocked e (Said (Broken reason)) g = absurd (cc)
takes_guess clocked e (Said (Guessed packet)) g = refl
takes_guess clocked e (Said (Misread reason)) g = refl
takes_guess clocked e (Raw bytes) g = absurd (cc)
takes_guess clocked e (Trigger byte) g = absurd (cc)

-- the clocks of guesses take an event that is sure
module _ (new : GuessClocks) (x : Event Packet) (es : List (Event Packet)) (e : Event (Heard Packet))
    (what : What Packet) (same : x ≡ as_event e what) where
  what_is : what ≡ x.what
  what_is = ap (λ (y : Event Packet). y.what) (sym same)

  pub lock_taken : (skipped : ℕ) → x.what ≡ Locked skipped → Follow new (without x.source es) →
      Follow new (guess_clocked_by es e (Ok what))
  lock_taken skipped is h =
      subst (λ w. Follow new (guess_clocked_by es e (Ok w))) (sym (what_is ∙ is))
      (subst (λ s. Follow new (without s es)) (ap (λ (y : Event Packet). y.source) same) h)

  sure_taken : (w : What Packet) → is_item w ≡ true → guess_clocked_by es e (Ok w) ≡ es ++ as_event e w ∷ []
  sure_taken (Locked skipped) i = absurd (cc)
  sure_taken (Said packet) i = refl
  sure_taken (Raw bytes) i = refl
  sure_taken (Trigger byte) i = refl

  pub item_taken : is_item x.what ≡ true → Follow new (es ++ x ∷ []) → Follow new (guess_clocked_by es e (Ok what))
  item_taken i h =
      subst (Follow new) (sym (sure_taken what (ap is_item what_is ∙ i)))
      (subst (λ y. Follow new (es ++ y ∷ [])) same h)

  -- by what the code tests
  pub notice_taken : (b : Bool) → b ≡ not (is_item x.what) → b ≡ true → Follow new (without x.source es) →
      Follow new (guess_clocked_by es e (Ok what))
  notice_taken b q t h = by x.what refl (sym q ∙ t) where
    by : (w : What Packet) → x.what ≡ w → not (is_item w) ≡ true → Follow new (guess_clocked_by es e (Ok what))
    by (Locked skipped) is i = lock_taken skipped is h
    by (Said packet) is i = absurd (cc)
    by (Raw bytes) is i = absurd (cc)
    by (Trigger byte) is i = absurd (cc)

  pub other_taken : (b : Bool) → b ≡ not (is_item x.what) → b ≡ false → Follow new (es ++ x ∷ []) →
      Follow new (guess_clocked_by es e (Ok what))
  other_taken b q f h = item_taken (by (is_item x.what) (sym q ∙ f)) h where
    by : (i : Bool) → not i ≡ false → i ≡ true
    by true n = refl
    by false n = cc

module _ (old new : RecoveringLister) (a b : List ℕ) (e : Event (Heard Packet)) where
  abbrev p : ListPlan
  p = plan_of old

  -- the clocks of guesses with one more event
  guessed : (before : Events) (r : Result (What Packet) Reason) → as_strict e.what ≡ r →
      guess_clocked (before ++ e ∷ []) ≡ guess_clocked_by (guess_clocked before) e r
  guessed before r q = guess_clocked_append [] before (e ∷ []) ∙ ap (guess_clocked_by (guess_clocked before) e) q

  -- its line
  line_is : (before : Events) (g : Bool) → is_guess e.what ≡ g → b ≡ a ++ near_line p before e g →
      b ≡ a ++ (near_line p before e (is_guess e.what) ++ [])
  line_is before g q l =
      l ∙ ap (λ t. a ++ near_line p before e t) (sym q)
      ∙ ap (λ (l : List ℕ). a ++ l) (sym (append-nil (near_line p before e (is_guess e.what))))

  -- an event that is sure
  module _ (sure : is_guess e.what ≡ false) where
    next : (before : Events) → sure_events (before ++ e ∷ []) ≡ sure_events before ++ e ∷ []
    next before = sure_push before e false sure

    clocked : (before : Events) (r : Result (What Packet) Reason) → as_strict e.what ≡ r →
        clocked_from [] (sure_events (before ++ e ∷ [])) ≡ clocked_by (clocked_from [] (sure_events before)) e r
    clocked before r q =
        ap (clocked_from []) (next before) ∙ clocked_append [] (sure_events before) (e ∷ [])
        ∙ ap (clocked_by (clocked_from [] (sure_events before)) e) q

    seen : (before : Events) (r : Result (What Packet) Reason) → as_strict e.what ≡ r →
        seen_in (sure_events (before ++ e ∷ [])) ≡ seen_in (sure_events before) ++ seen_by e r
    seen before r q =
        ap seen_in (next before) ∙ seen_push (sure_events before) e
        ∙ ap (λ o. seen_in (sure_events before) ++ seen_by e o) q

    found : (before : Events) (r : Result (What Packet) Reason) → as_strict e.what ≡ r →
        has_fault (sure_events (before ++ e ∷ [])) ≡ (has_fault (sure_events before) || is_err r)
    found before r q =
        ap has_fault (next before) ∙ fault_push (sure_events before) e
        ∙ ap (λ o. has_fault (sure_events before) || is_err o) q

    sure_line : (before : Events) (r : Result (What Packet) Reason) → as_strict e.what ≡ r →
        b ≡ a ++ line_of p (sure_events before) e r → b ≡ a ++ (near_line p before e (is_guess e.what) ++ [])
    sure_line before r q l =
        line_is before false sure (l ∙ ap (λ o. a ++ line_of p (sure_events before) e o) (sym q))

    pub event_put : (what : What Packet) → as_strict e.what ≡ Ok what → new.is_faulty ≡ old.is_faulty →
        ((es : List (Event Packet)) → Follow old.guess_clocks es →
        Follow new.guess_clocks (guess_clocked_by es e (Ok what))) →
        new.guess_clocks.kept ≡ old.guess_clocks.kept →
        strict.gets (old.lister, a) (as_event e what ∷ []) (new.lister, b) → ListerGets (old, a) (e ∷ []) (new, b)
    event_put what q kept beside follow g = record {
      same = g.asked;
      kept = follow;
      stands = λ before h. record {
        clocks = subst (λ (l : List (Event Packet)). AllStand new.lister.clocks l) (sym (clocked before (Ok what) q))
            (g.clocks (clocked_from [] (sure_events before)) h.clocks);
        guesses = subst (λ (l : List (Event Packet)). Follow new.guess_clocks l) (sym (guessed before (Ok what) q))
            (beside (guess_clocked before) h.guesses);
        seen = subst (λ (l : List (Event Packet)). HasSeen new.lister.filter l) (sym (seen before (Ok what) q))
            (g.seen (seen_in (sure_events before)) h.seen);
        faulty = kept ∙ h.faulty ∙ sym (found before (Ok what) q ∙ or-false (has_fault (sure_events before)));
      };
      text = λ before h n. sure_line before (Ok what) q
          (g.text (clocked_from [] (sure_events before)) (seen_in (sure_events before)) h.clocks h.seen
          ∙ ap (λ (l : List ℕ). a ++ l)
          (append-nil (line_by p (clocked_from [] (sure_events before)) (seen_in (sure_events before))
          (as_event e what))));
    }

    pub fault_put : (reason : Reason) → as_strict e.what ≡ Err reason → new.is_faulty ≡ true →
        new.guess_clocks ≡ old.guess_clocks →
        new.lister.plan ≡ old.lister.plan →
        new.lister.filter ≡ old.lister.filter →
        ((es : List (Event Packet)) → AllStand old.lister.clocks es →
        AllStand new.lister.clocks (without e.source es)) →
        b ≡ a ++ fault_line (is_stp old.lister.plan e.source) (place_of e, (reason, e.source)) →
        ListerGets (old, a) (e ∷ []) (new, b)
    fault_put reason q is beside plan filter clocks line = record {
      kept = ap (λ (c : GuessClocks). c.kept) beside;
      same = ap (λ (x : Plan). plan_by x new.lister.filter) plan
          ∙ ap (λ (f : Filter). plan_by old.lister.plan f) filter;
      stands = λ before h. record {
        clocks = subst (λ (l : List (Event Packet)). AllStand new.lister.clocks l)
            (sym (clocked before (Err reason) q)) (clocks (clocked_from [] (sure_events before)) h.clocks);
        guesses = subst (λ (l : List (Event Packet)). Follow new.guess_clocks l) (sym (guessed before (Err reason) q))
            (subst (λ (c : GuessClocks). Follow c (guess_clocked before)) (sym beside) h.guesses);
        seen = subst (λ (l : List (Event Packet)). HasSeen new.lister.filter l)
            (sym (seen before (Err reason) q ∙ append-nil (seen_in (sure_events before))))
            (subst (λ (f : Filter). HasSeen f (seen_in (sure_events before))) (sym filter) h.seen);
        faulty = is ∙ sym (found before (Err reason) q ∙ or-true (has_fault (sure_events before)));
      };
      text = λ before h n. sure_line before (Err reason) q line;
    }

  -- A guess: the lister takes nothing.
  module _ (guess : is_guess e.what ≡ true) (plan : new.lister.plan ≡ old.lister.plan)
      (filter : new.lister.filter ≡ old.lister.filter) (own : new.lister.clocks ≡ old.lister.clocks)
      (kept : new.is_faulty ≡ old.is_faulty) where
    still : (before : Events) → sure_events (before ++ e ∷ []) ≡ sure_events before
    still before = sure_push before e true guess ∙ append-nil (sure_events before)

    asked : plan_of new ≡ p
    asked = ap (λ (x : Plan). plan_by x new.lister.filter) plan ∙ ap (λ (f : Filter). plan_by old.lister.plan f) filter

    stands_on : (before : Events) → Stands old before → Follow new.guess_clocks (guess_clocked (before ++ e ∷ [])) →
        Stands new (before ++ e ∷ [])
    stands_on before h taken = record {
      clocks = subst (λ (l : Events). AllStand new.lister.clocks (clocked_from [] l)) (sym (still before))
          (subst (λ (c : SourceClocks). AllStand c (clocked_from [] (sure_events before))) (sym own) h.clocks);
      guesses = taken;
      seen = subst (λ (l : Events). HasSeen new.lister.filter (seen_in l)) (sym (still before))
          (subst (λ (f : Filter). HasSeen f (seen_in (sure_events before))) (sym filter) h.seen);
      faulty = kept ∙ h.faulty ∙ sym (ap has_fault (still before));
    }

    takes : (before : Events) (r : Result (What Packet) Reason) → as_strict e.what ≡ r →
        guess_clocked (before ++ e ∷ []) ≡ guess_taken (guess_clocked before) e r
    takes before r q =
        guessed before (as_strict e.what) refl ∙ takes_guess (guess_clocked before) e e.what guess
        ∙ ap (guess_taken (guess_clocked before) e) q

    -- a guess suits only clocks that are kept
    followed : (clocked : List (Event Packet)) → (kept : Bool) → Suit kept (e ∷ []) →
        (kept ≡ true → AllStand old.guess_clocks.clocks clocked) → AllStand old.guess_clocks.clocks clocked
    followed clocked true n h = h refl
    followed clocked false n h = (let k = sym guess ∙ n.0 in cc)

    pub guess_put : (what : What Packet) → as_strict e.what ≡ Ok what →
        new.guess_clocks.kept ≡ old.guess_clocks.kept →
        ((es : List (Event Packet)) → AllStand old.guess_clocks.clocks es →
        AllStand new.guess_clocks.clocks (es ++ as_event e what ∷ [])) →
        ((clocked seen : List (Event Packet)) → AllStand old.guess_clocks.clocks clocked →
        HasSeen old.lister.filter seen →
        b ≡ a ++ guess_by p clocked seen (as_event e what)) → ListerGets (old, a) (e ∷ []) (new, b)
    guess_put what q follow taken line = record {
      same = asked;
      kept = follow;
      stands = λ before h. stands_on before h
          (subst (λ (l : List (Event Packet)). Follow new.guess_clocks l) (sym (takes before (Ok what) q))
          (λ k. taken (guess_clocked before) (h.guesses (sym follow ∙ k))));
      text = λ before h n. line_is before true guess
          (line (guess_clocked before) (seen_in (sure_events before))
          (followed (guess_clocked before) old.guess_clocks.kept n h.guesses) h.seen
          ∙ ap (λ o. a ++ guess_line p before e o) (sym q));
    }

    pub misread_put : (reason : Reason) → as_strict e.what ≡ Err reason → new.guess_clocks ≡ old.guess_clocks →
        b ≡ a ++ doubted (fault_line (is_stp old.lister.plan e.source) (place_of e, (reason, e.source))) →
        ListerGets (old, a) (e ∷ []) (new, b)
    misread_put reason q same line = record {
      same = asked;
      kept = ap (λ (c : GuessClocks). c.kept) same;
      stands = λ before h. stands_on before h
          (subst (λ (l : List (Event Packet)). Follow new.guess_clocks l) (sym (takes before (Err reason) q))
          (subst (λ (c : GuessClocks). Follow c (guess_clocked before)) (sym same) h.guesses));
      text = λ before h n. line_is before true guess (line ∙ ap (λ o. a ++ guess_line p before e o) (sym q));
    }
