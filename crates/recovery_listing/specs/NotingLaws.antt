-- What a receiver is given beside what is noted adds up: proofs that the `impl` of `Noting` cites.
use Rattle.std.proofs.Common.{◌≡◌, ◌∙◌, ℕ, ◌++◌, [], List, Option, sym, ap, subst, append_assoc, append-nil, refl, Bool}
use Rattle.std.specs.Prelude.{◌||◌, Ok, false}
use Rattle.std.proofs.Math.Bool.{or_assoc, or-false}
use Rattle.std.proofs.lemmas.Grind.{flat_map-append}
use Rattle.source_events.specs.declared.event.Event.{Event}
use Rattle.source_events.specs.declared.event.What.{What}
use Rattle.source_events.specs.declared.event.What.TheVariants.{Locked, Packet as Said, Raw, Trigger}
use Rattle.source_events.specs.declared.packet.Packet.{Packet}
use Rattle.source_events.specs.declared.plan.SourceKind.{SourceKind}
use Rattle.stretch_readings.specs.declared.heard.Heard.{Heard}
use Rattle.stretch_readings.specs.declared.heard.Heard.TheVariants.{Read, Broken, Guessed, Misread}
use Rattle.recovering_machines.specs.Hearing.{AddsUp, as_strict}
use Rattle.recovery_report.specs.Report.{sure_events}
use Rattle.recovery_listing.specs.FaultLines.{fault_lines}
use Rattle.recovery_listing.specs.Listing.{has_fault}
use Rattle.recovery_listing.specs.Noting.{NotingGets, given_of, is_misread, with_losses}
use Rattle.recovery_listing.specs.SureLaws.{sure_faults_append, sure_lines_append}
use Rattle.recovery_listing.specs.declared.noting.Noting.{Noting}

-- what is read is no fault of a guess
pub not_misread : (w : What (Heard Packet)) (what : What Packet) → as_strict w ≡ Ok what → is_misread w ≡ false
not_misread (Locked skipped) what q = refl
not_misread (Said (Read packet)) what q = refl
not_misread (Said (Broken reason)) what q = refl
not_misread (Said (Guessed packet)) what q = refl
not_misread (Said (Misread reason)) what q = cc
not_misread (Raw bytes) what q = refl
not_misread (Trigger byte) what q = refl

pub losses_append : (own : Option ℕ) (xs ys : List (Event (Heard Packet))) →
    with_losses own (xs ++ ys) ≡ with_losses own xs ++ with_losses own ys
losses_append own xs ys =
    flat_map-append (λ (e : Event (Heard Packet)). given_of own e (is_misread e.what)) xs ys

module _ {R : Type 0} (own : (R × List ℕ) → List (Event Packet) → (R × List ℕ) → Type 0) where
  gets_none : ((s : R × List ℕ) → own s [] s) → (s : Noting R × List ℕ) → NotingGets own s [] s
  gets_none none s = record {
    same = refl;
    receiver = none (s.0.receiver, s.1);
    lines = sym (append-nil s.0.lines);
    faulty = sym (or-false s.0.is_faulty);
  }

  gets_more : ((a b c : R × List ℕ) (es fs : List (Event Packet)) → own a es b → own b fs c → own a (es ++ fs) c) →
      (a b c : Noting R × List ℕ) (es fs : List (Event (Heard Packet))) → NotingGets own a es b →
      NotingGets own b fs c →
      NotingGets own a (es ++ fs) c
  gets_more more a b c es fs g h =
      let source = a.0.source in
      let here : with_losses source es ++ with_losses b.0.source fs ≡ with_losses source (es ++ fs) =
      ap (λ (s : Option ℕ). with_losses source es ++ with_losses s fs) g.same ∙ sym (losses_append source es fs) in
      record {
        same = h.same ∙ g.same;
        receiver = subst (λ (l : List (Event Packet)). own (a.0.receiver, a.1) l (c.0.receiver, c.1)) here
            (more (a.0.receiver, a.1) (b.0.receiver, b.1) (c.0.receiver, c.1) (with_losses source es)
            (with_losses b.0.source fs) g.receiver h.receiver);
        lines = h.lines ∙ ap (λ (l : List ℕ). l ++ fault_lines (sure_events fs)) g.lines
            ∙ append_assoc a.0.lines (fault_lines (sure_events es)) (fault_lines (sure_events fs))
            ∙ ap (λ (l : List ℕ). a.0.lines ++ l) (sym (sure_lines_append es fs));
        faulty = h.faulty ∙ ap (λ (f : Bool). f || has_fault (sure_events fs)) g.faulty
            ∙ or_assoc a.0.is_faulty (has_fault (sure_events es)) (has_fault (sure_events fs))
            ∙ ap (λ (f : Bool). a.0.is_faulty || f) (sym (sure_faults_append es fs));
      }

  pub adds_up : AddsUp own → AddsUp (NotingGets own)
  adds_up laws = record { none = gets_none laws.none; more = gets_more laws.more }

  -- what the receiver may be given as what it says, it may be given so after any events
  pub takes_on : (takes : R → ℕ → SourceKind → Type 0) →
      ((a b : R × List ℕ) (es : List (Event Packet)) (source : ℕ) (kind : SourceKind) → own a es b →
      takes a.0 source kind → takes b.0 source kind) →
      (a b : Noting R × List ℕ) (es : List (Event (Heard Packet))) (source : ℕ) (kind : SourceKind) →
      NotingGets own a es b → takes a.0.receiver source kind → takes b.0.receiver source kind
  takes_on takes on a b es source kind g t =
      on (a.0.receiver, a.1) (b.0.receiver, b.1) (with_losses a.0.source es) source kind g.receiver t
