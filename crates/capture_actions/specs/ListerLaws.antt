-- What the receiver of `show` is given adds up: proofs that its `impl` cites.
use Rattle.std.proofs.Common.{◌≡◌, ◌∙◌, ℕ, ◌++◌, [], List, Bool, true, false, Option, None, Some, sym, ap, subst, refl}
use Rattle.std.proofs.Common.{append_assoc, append-nil}
use Rattle.capture_actions.specs.Names.{Event, Packet, Plan, SourceKind, Stp}
use Rattle.source_events.specs.declared.plan.SourceKind.TheVariants.{Itm}
use Rattle.capture_actions.specs.Faulty.{is_stp}
use Rattle.capture_actions.specs.declared.list_plan.ListPlan.{ListPlan}
use Rattle.capture_actions.specs.declared.lister.Lister.{Lister}
use Rattle.capture_actions.specs.Filter.{ChoiceWindow, bounds_in, plan_by, HasSeen}
use Rattle.capture_actions.specs.LineLaws.{lines_more}
use Rattle.capture_actions.specs.Lister.{Lists, gets}
use Rattle.capture_actions.specs.Listing.{lines_from}
use Rattle.capture_actions.specs.SourceClocks.{AllStand}
use Rattle.recovering_machines.specs.Hearing.{AddsUp}

gets_none : (s : Lister × List ℕ) → gets s [] s
gets_none s = record {
  kept = refl;
  asked = refl;
  clocks = λ before h. subst (λ (es : List (Event Packet)). AllStand s.0.clocks es) (sym (append-nil before)) h;
  seen = λ before f. subst (λ (es : List (Event Packet)). HasSeen s.0.filter es) (sym (append-nil before)) f;
  text = λ clocked seen h f. sym (append-nil s.1);
}

gets_more : (a b c : Lister × List ℕ) (es fs : List (Event Packet)) → gets a es b → gets b fs c →
    gets a (es ++ fs) c
gets_more a b c es fs g h =
    let p = plan_by a.0.plan a.0.filter in
    record {
      kept = h.kept ∙ g.kept;
      asked = h.asked ∙ g.asked;
      clocks = λ before k.
          subst (λ (l : List (Event Packet)). AllStand c.0.clocks l) (append_assoc before es fs)
          (h.clocks (before ++ es) (g.clocks before k));
      seen = λ before f.
          subst (λ (l : List (Event Packet)). HasSeen c.0.filter l) (append_assoc before es fs)
          (h.seen (before ++ es) (g.seen before f));
      text = λ clocked seen k f.
          h.text (clocked ++ es) (seen ++ es) (g.clocks clocked k) (g.seen seen f)
          ∙ ap (λ (q : ListPlan). b.1 ++ lines_from q (clocked ++ es) (seen ++ es) fs) g.asked
          ∙ ap (λ (l : List ℕ). l ++ lines_from p (clocked ++ es) (seen ++ es) fs) (g.text clocked seen k f)
          ∙ append_assoc a.1 (lines_from p clocked seen es) (lines_from p (clocked ++ es) (seen ++ es) fs)
          ∙ ap (λ (l : List ℕ). a.1 ++ l) (sym (lines_more p clocked seen es fs));
    }

pub adds_up : AddsUp gets
adds_up = record { none = gets_none; more = gets_more }

no_window : (w : Option ChoiceWindow) → bounds_in w ≡ None → w ≡ None
no_window None e = refl
no_window (Some w) e = cc

lists_same : (a b : Lister × List ℕ) (es : List (Event Packet)) (source : ℕ) (stp : Bool) → gets a es b →
    (a.0.filter.window ≡ None) × (is_stp a.0.plan (Some source) ≡ stp) →
    (b.0.filter.window ≡ None) × (is_stp b.0.plan (Some source) ≡ stp)
lists_same a b es source stp g t = (
  no_window b.0.filter.window (ap (λ (p : ListPlan). p.window) g.asked ∙ ap bounds_in t.0),
  ap (λ (p : Plan). is_stp p (Some source)) g.kept ∙ t.1,
)

-- what is listed from its parts is so after any events
pub lists_on : (a b : Lister × List ℕ) (es : List (Event Packet)) (source : ℕ) (kind : SourceKind) → gets a es b →
    Lists a.0 source kind → Lists b.0 source kind
lists_on a b es source Itm g t = lists_same a b es source false g t
lists_on a b es source Stp g t = lists_same a b es source true g t
