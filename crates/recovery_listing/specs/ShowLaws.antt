-- How the account of `show` goes on: proofs that its `impl` cites.
use Rattle.std.proofs.Common.{◌≡◌, ◌<◌, ℕ, List, [], ◌∷◌, ◌++◌, length, sym, ◌∙◌, ap, subst, append-nil, refl, Bool, true, false}
use Rattle.std.specs.List.{list_any}
use Rattle.std.proofs.lemmas.Bool.{or_parts}
use Rattle.trace_values.specs.Placed.{placed}
use Rattle.source_events.proofs.Captures.{capture_rises}
use Rattle.source_events.specs.declared.event.Event.{Event}
use Rattle.source_events.specs.declared.packet.Packet.{Packet}
use Rattle.source_events.specs.declared.plan.Plan.{Plan}
use Rattle.stretch_readings.specs.declared.heard.Heard.{Heard}
use Rattle.recovering_machines.specs.Hearing.{is_guess}
use Rattle.recovery_report.specs.Report.{report, report_with}
use Rattle.recovery_laws.proofs.Guessed.{no_guess}
use Rattle.capture_actions.specs.declared.list_plan.ListPlan.{ListPlan}
use Rattle.recovery_listing.specs.Account.{GoesOn, Pages, events_of}
use Rattle.recovery_listing.specs.GuessClocks.{NoGuess, Suit}
use Rattle.recovery_listing.specs.LineLaws.{near_append}
use Rattle.recovery_listing.specs.Lister as lister
use Rattle.recovery_listing.specs.ListerLaws.{none_next}
use Rattle.recovery_listing.specs.Near.{listing_meaning, near_lines_after}
use Rattle.recovery_listing.specs.Show.{HasListed, asked, gets, with_plan}
use Rattle.recovery_listing.specs.declared.going_on.GoingOn.{GoingOn}
use Rattle.recovery_listing.specs.declared.lister.RecoveringLister.{RecoveringLister}

-- what is asked by what is listed
abbrev by_lines : GoingOn Plan → ListPlan → GoingOn ListPlan
by_lines how p = record { plan = with_plan how.plan p; guesses = how.guesses }

pub same : (old new : RecoveringLister × Pages) (given : List (Event (Heard Packet))) (how : GoingOn Plan) →
    gets old given new → asked new.0 how ≡ asked old.0 how
same old new given how g = ap (by_lines how) g.listed.same

-- the events that further bytes add have guesses only where these are asked for
unguessed : (es : List (Event (Heard Packet))) → list_any (λ e. is_guess e.what) es ≡ false → NoGuess es
unguessed [] none = tt
unguessed (e ∷ es) none =
    let parts = or_parts (is_guess e.what) (list_any (λ e. is_guess e.what) es) none in
    (parts.0, unguessed es parts.1)

none_of : (how : GoingOn Plan) (bytes : List ℕ) → how.guesses ≡ false → NoGuess (events_of how bytes)
none_of how bytes e =
    subst (λ (guesses : Bool). NoGuess (report_with guesses how.plan (placed bytes))) (sym e)
    (unguessed (report how.plan (placed bytes))
    (no_guess how.plan 0 (length bytes) (placed bytes) (capture_rises bytes)))

suits : (how : GoingOn Plan) (seen front : List ℕ) (given : List (Event (Heard Packet))) →
    events_of how (seen ++ front) ≡ events_of how seen ++ given → (kept : Bool) → kept ≡ how.guesses → Suit kept given
suits how seen front given more true e = tt
suits how seen front given more false e =
    none_next (events_of how seen) given
    (subst (λ (es : List (Event (Heard Packet))). NoGuess es) more (none_of how (seen ++ front) (sym e)))

pub goes_on : (old new : RecoveringLister × Pages) (given : List (Event (Heard Packet))) (how : GoingOn Plan)
    (seen front : List ℕ) → gets old given new → 0 < length front →
    events_of how (seen ++ front) ≡ events_of how seen ++ given → HasListed old.0 how seen →
    GoesOn (HasListed new.0 how) (listing_meaning (asked old.0 how)) (λ bytes. []) seen front old.1 new.1
goes_on old new given how seen front g some more h =
    let own = lister.plan_of old.0 in
    let p = with_plan how.plan own in
    let said = events_of how seen in
    record {
      read = record {
        plan = ap (λ (q : ListPlan). q.plan) g.listed.same ∙ h.plan;
        guesses = g.listed.kept ∙ h.guesses;
        events = subst (λ (es : List (Event (Heard Packet))). lister.Stands new.0 es) (sym more)
            (g.listed.stands said h.events);
      };
      more = near_lines_after p said given;
      grown = ap (near_lines_after p []) more ∙ near_append p [] said given;
      gained = g.listed.text said h.events (suits how seen front given more old.0.guess_clocks.kept h.guesses)
          ∙ ap (λ (plan : Plan). old.1.text ++ near_lines_after (with_plan plan own) said given) h.plan;
      told = [];
      noted = refl;
      noting = g.silent ∙ sym (append-nil old.1.notes);
    }
