-- What a lister with no window puts of an event from its parts: its line, where what its source gives is wanted.
use Rattle.std.proofs.Common.{◌≡◌, ℕ, Bool, true, List, [], ◌∷◌, ◌++◌, refl, sym, ◌∙◌, ap, subst, append-nil, cond}
use Rattle.std.specs.Prelude.{Option, None, Some, ◌&&◌, ◌||◌, not}
use Rattle.std.proofs.Math.Bool.{or-false}
use Rattle.capture_actions.specs.Names.{Bounds, Choice, Event, Packet, Plan, content_of, event_line, is_item}
use Rattle.capture_actions.specs.Faulty.{is_stp}
use Rattle.capture_actions.specs.Filter.{ChoiceWindow, SawAll, bounds_in, plan_by, wants}
use Rattle.capture_actions.specs.Lister.{ListerGets}
use Rattle.capture_actions.specs.Listing.{is_listed, itm_packets, lines_from, meets, remark_of}
use Rattle.capture_actions.specs.SourceClocks.{AllStand}
use Rattle.capture_actions.specs.declared.filter.Filter.{Filter}
use Rattle.capture_actions.specs.declared.list_plan.ListPlan.{ListPlan}
use Rattle.capture_actions.specs.declared.lister.Lister.{Lister}

meets_as : (only : Option (List Choice)) (e : Event Packet) → meets only e ≡ wants only e.source (content_of e.what)
meets_as None e = refl
meets_as (Some choices) e = refl

-- with no window an item is listed where it is wanted
listed_where : (only : Option (List Choice)) (window : Option Bounds) (before : List (Event Packet))
    (e : Event Packet) (wanted : Bool) → window ≡ None → is_item e.what ≡ true →
    wanted ≡ wants only e.source (content_of e.what) → is_listed only window before e ≡ wanted
listed_where only window before e wanted none item is =
    ap (λ (w : Option Bounds). is_listed only w before e) none
    ∙ ap (λ (b : Bool). (true && meets only e) || not b) item
    ∙ or-false (meets only e) ∙ meets_as only e ∙ sym is

-- the line of an event of a source, where all are listed
abbrev pub line_of : Lister → List (Event Packet) → Event Packet → List ℕ
line_of lister before e =
    event_line (is_stp lister.plan e.source) e (remark_of (itm_packets e.source before) e.what)

module _ (old new : Lister) (a b : List ℕ) (e : Event Packet) (wanted : Bool)
    (none : old.filter.window ≡ None) (item : is_item e.what ≡ true)
    (is : wanted ≡ wants old.filter.only e.source (content_of e.what)) where
  abbrev p : ListPlan
  p = plan_by old.plan old.filter

  line_put : (clocked seen : List (Event Packet)) → b ≡ a ++ cond wanted (line_of old clocked e) [] →
      b ≡ a ++ lines_from p clocked seen (e ∷ [])
  line_put clocked seen h =
      h
      ∙ ap (λ (w : Bool). a ++ cond w (line_of old clocked e) [])
      (sym (listed_where p.only p.window seen e wanted (ap bounds_in none) item is))
      ∙ ap (λ (l : List ℕ). a ++ l)
      (sym (append-nil (cond (is_listed p.only p.window seen e) (line_of old clocked e) [])))

  pub put_from_parts : new.plan ≡ old.plan → new.filter ≡ old.filter →
      ((before : List (Event Packet)) → AllStand old.clocks before → AllStand new.clocks (before ++ e ∷ [])) →
      ((before : List (Event Packet)) → AllStand old.clocks before →
      b ≡ a ++ cond wanted (line_of old before e) []) → ListerGets (old, a) (e ∷ []) (new, b)
  put_from_parts plan filter clocks text = record {
    kept = plan;
    asked = ap (λ (x : Plan). plan_by x new.filter) plan ∙ ap (λ (f : Filter). plan_by old.plan f) filter;
    clocks = clocks;
    seen = λ before f.
        subst (λ (w : Option ChoiceWindow). SawAll w (before ++ e ∷ []))
        (sym (ap (λ (f : Filter). f.window) filter ∙ none)) tt;
    text = λ clocked seen h f. line_put clocked seen (text clocked h);
  }
