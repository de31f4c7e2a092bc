-- What the lister of a recovering report is given adds up: proofs that its `impl` cites.
use Rattle.std.proofs.Common.{◌≡◌, ◌∙◌, ℕ, ◌++◌, ◌∷◌, [], List, sym, ap, subst, append_assoc, append-nil, refl}
use Rattle.std.proofs.Common.{Bool, true, false, Option, None, Some}
use Rattle.source_events.specs.declared.event.Event.{Event}
use Rattle.source_events.specs.declared.packet.Packet.{Packet}
use Rattle.source_events.specs.declared.plan.SourceKind.{SourceKind}
use Rattle.source_events.specs.declared.plan.SourceKind.TheVariants.{Itm, Stp}
use Rattle.stretch_readings.specs.declared.heard.Heard.{Heard}
use Rattle.recovering_machines.specs.Hearing.{AddsUp}
use Rattle.capture_actions.specs.declared.list_plan.ListPlan.{ListPlan}
use Rattle.capture_actions.specs.Faulty.{is_stp}
use Rattle.capture_actions.specs.Filter.{ChoiceWindow, bounds_in}
use Rattle.recovery_listing.specs.GuessClocks.{NoGuess, Suit}
use Rattle.recovery_listing.specs.LineLaws.{near_append}
use Rattle.recovery_listing.specs.Lister.{Lists, Stands, gets, plan_of}
use Rattle.recovery_listing.specs.Near.{near_lines_after}
use Rattle.recovery_listing.specs.declared.lister.RecoveringLister.{RecoveringLister}

-- what suits two lists of events suits each
none_first : (es fs : List (Event (Heard Packet))) → NoGuess (es ++ fs) → NoGuess es
none_first [] fs n = tt
none_first (e ∷ es) fs n = (n.0, none_first es fs n.1)

pub none_next : (es fs : List (Event (Heard Packet))) → NoGuess (es ++ fs) → NoGuess fs
none_next [] fs n = n
none_next (e ∷ es) fs n = none_next es fs n.1

suit_first : (kept : Bool) (es fs : List (Event (Heard Packet))) → Suit kept (es ++ fs) → Suit kept es
suit_first true es fs n = tt
suit_first false es fs n = none_first es fs n

suit_next : (kept : Bool) (es fs : List (Event (Heard Packet))) → Suit kept (es ++ fs) → Suit kept fs
suit_next true es fs n = tt
suit_next false es fs n = none_next es fs n

gets_none : (s : RecoveringLister × List ℕ) → gets s [] s
gets_none s = record {
  same = refl;
  kept = refl;
  stands = λ before h. subst (λ (es : List (Event (Heard Packet))). Stands s.0 es) (sym (append-nil before)) h;
  text = λ before h n. sym (append-nil s.1);
}

gets_more : (a b c : RecoveringLister × List ℕ) (es fs : List (Event (Heard Packet))) → gets a es b →
    gets b fs c → gets a (es ++ fs) c
gets_more a b c es fs g h =
    let p = plan_of a.0 in
    record {
      same = h.same ∙ g.same;
      kept = h.kept ∙ g.kept;
      stands = λ before k.
          subst (λ (l : List (Event (Heard Packet))). Stands c.0 l) (append_assoc before es fs)
          (h.stands (before ++ es) (g.stands before k));
      text = λ before k n.
          h.text (before ++ es) (g.stands before k)
          (subst (λ (kept : Bool). Suit kept fs) (sym g.kept) (suit_next a.0.guess_clocks.kept es fs n))
          ∙ ap (λ (q : ListPlan). b.1 ++ near_lines_after q (before ++ es) fs) g.same
          ∙ ap (λ (l : List ℕ). l ++ near_lines_after p (before ++ es) fs)
          (g.text before k (suit_first a.0.guess_clocks.kept es fs n))
          ∙ append_assoc a.1 (near_lines_after p before es) (near_lines_after p (before ++ es) fs)
          ∙ ap (λ (l : List ℕ). a.1 ++ l) (sym (near_append p before es fs));
    }

pub adds_up : AddsUp gets
adds_up = record { none = gets_none; more = gets_more }

no_window : (w : Option ChoiceWindow) → bounds_in w ≡ None → w ≡ None
no_window None e = refl
no_window (Some w) e = cc

lists_same : (a b : RecoveringLister × List ℕ) (es : List (Event (Heard Packet))) (source : ℕ) (stp : Bool) →
    gets a es b → (a.0.lister.filter.window ≡ None) × (is_stp a.0.lister.plan (Some source) ≡ stp) →
    (b.0.lister.filter.window ≡ None) × (is_stp b.0.lister.plan (Some source) ≡ stp)
lists_same a b es source stp g t = (
  no_window b.0.lister.filter.window (ap (λ (p : ListPlan). p.window) g.same ∙ ap bounds_in t.0),
  ap (λ (p : ListPlan). is_stp p.plan (Some source)) g.same ∙ t.1,
)

-- what is listed from its parts is so after any events
pub lists_on : (a b : RecoveringLister × List ℕ) (es : List (Event (Heard Packet))) (source : ℕ) (kind : SourceKind) →
    gets a es b → Lists a.0 source kind → Lists b.0 source kind
lists_on a b es source Itm g t = lists_same a b es source false g t
lists_on a b es source Stp g t = lists_same a b es source true g t
