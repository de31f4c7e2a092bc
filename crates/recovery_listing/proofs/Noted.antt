-- What notes the faults of a recovering report makes of one event.
use Rattle.std.proofs.Common.{◌≡◌, ◌+◌, ◌≤◌, ℕ, List, [], ◌∷◌, ◌++◌, Bool, refl, sym, ◌∙◌, ap, subst, append-nil, arith}
use Rattle.std.proofs.Common.{cond, true, false, Option}
use Rattle.std.specs.Prelude.{Result, Ok, Err, ◌||◌, not, min}
use Rattle.std.proofs.Math.Bool.{or-false, or-true}
use Rattle.trace_values.specs.declared.fault.Reason.{Reason}
use Rattle.source_events.specs.declared.event.Event.{Event}
use Rattle.source_events.specs.declared.event.What.{What}
use Rattle.source_events.specs.declared.event.What.TheVariants.{Locked, Packet as Said, Raw, Trigger}
use Rattle.source_events.specs.declared.packet.Packet.{Packet}
use Rattle.source_events.specs.Merge.{place_of}
use Rattle.stretch_readings.specs.declared.heard.Heard.{Heard}
use Rattle.stretch_readings.specs.declared.heard.Heard.TheVariants.{Read, Broken, Guessed, Misread}
use Rattle.recovering_machines.specs.Hearing.{as_event, as_strict, is_guess}
use Rattle.recovery_report.specs.Report.{sure_events}
use Rattle.trace_text.specs.FaultText.{fault_line}
use Rattle.recovery_listing.specs.FaultLines.{fault_by, fault_lines}
use Rattle.recovery_listing.specs.Listing.{has_fault, is_err}
use Rattle.recovery_listing.specs.Noting.{NotingGets, given_by, given_of, is_misread, loser_of, loss_at, with_losses}
use Rattle.recovery_listing.specs.NotingLaws.{not_misread}
use Rattle.recovery_listing.specs.declared.noting.Noting.{Noting}

-- of two rooms of which one is less by one, the smaller is less by one at most
pub smaller : (a b c d : ℕ) → a ≤ c + 1 → b ≤ d + 1 → min a b ≤ min c d + 1
smaller a b c d first second = omega (arith, first, second)

-- a fault of a guess is a guess, and any other fault is none
misread_guess : (w : What (Heard Packet)) → is_misread w ≡ true → is_guess w ≡ true
misread_guess (Locked skipped) m = cc
misread_guess (Said (Read packet)) m = cc
misread_guess (Said (Broken reason)) m = cc
misread_guess (Said (Guessed packet)) m = refl
misread_guess (Said (Misread reason)) m = refl
misread_guess (Raw bytes) m = cc
misread_guess (Trigger byte) m = cc

fault_sure : (w : What (Heard Packet)) (reason : Reason) → as_strict w ≡ Err reason → is_misread w ≡ false →
    is_guess w ≡ false
fault_sure (Locked skipped) reason q m = refl
fault_sure (Said (Read packet)) reason q m = refl
fault_sure (Said (Broken why)) reason q m = refl
fault_sure (Said (Guessed packet)) reason q m = cc
fault_sure (Said (Misread why)) reason q m = cc
fault_sure (Raw bytes) reason q m = refl
fault_sure (Trigger byte) reason q m = refl

module _ (e : Event (Heard Packet)) where
  sure_one : (g : Bool) → is_guess e.what ≡ g → sure_events (e ∷ []) ≡ cond (not g) (e ∷ []) []
  sure_one g q = ap (λ (b : Bool). cond (not b) (e ∷ []) []) q

  -- the line and the fault of what is read, guessed or not
  no_line : (what : What Packet) → as_strict e.what ≡ Ok what → fault_lines (sure_events (e ∷ [])) ≡ []
  no_line what q = by (is_guess e.what) refl where
    by : (g : Bool) → is_guess e.what ≡ g → fault_lines (sure_events (e ∷ [])) ≡ []
    by true g = ap fault_lines (sure_one true g)
    by false g = ap fault_lines (sure_one false g) ∙ append-nil (fault_by e (as_strict e.what)) ∙ ap (fault_by e) q

  no_fault : (what : What Packet) → as_strict e.what ≡ Ok what → has_fault (sure_events (e ∷ [])) ≡ false
  no_fault what q = by (is_guess e.what) refl where
    by : (g : Bool) → is_guess e.what ≡ g → has_fault (sure_events (e ∷ [])) ≡ false
    by true g = ap has_fault (sure_one true g)
    by false g = ap has_fault (sure_one false g) ∙ or-false (is_err (as_strict e.what)) ∙ ap is_err q

  -- those of a fault that is sure
  one_line : (reason : Reason) → as_strict e.what ≡ Err reason → is_guess e.what ≡ false →
      fault_lines (sure_events (e ∷ [])) ≡ fault_line false (place_of e, (reason, e.source))
  one_line reason q g =
      ap fault_lines (sure_one false g) ∙ append-nil (fault_by e (as_strict e.what)) ∙ ap (fault_by e) q

  one_fault : (reason : Reason) → as_strict e.what ≡ Err reason → is_guess e.what ≡ false →
      has_fault (sure_events (e ∷ [])) ≡ true
  one_fault reason q g = ap has_fault (sure_one false g) ∙ or-false (is_err (as_strict e.what)) ∙ ap is_err q

  -- what the receiver is given
  given_is : (own : Option ℕ) (r : Result (What Packet) Reason) → is_misread e.what ≡ false → as_strict e.what ≡ r →
      with_losses own (e ∷ []) ≡ given_by own e r
  given_is own r m q =
      append-nil (given_of own e (is_misread e.what)) ∙ ap (given_of own e) m ∙ ap (given_by own e) q

module _ {R : Type 0} (own : (R × List ℕ) → List (Event Packet) → (R × List ℕ) → Type 0) (old new : Noting R)
    (a b : List ℕ) (e : Event (Heard Packet)) where
  pub event_given : (what : What Packet) → as_strict e.what ≡ Ok what → new.source ≡ old.source →
      new.lines ≡ old.lines → new.is_faulty ≡ old.is_faulty →
      own (old.receiver, a) (as_event e what ∷ []) (new.receiver, b) → NotingGets own (old, a) (e ∷ []) (new, b)
  event_given what q source lines faulty g = record {
    same = source;
    receiver = subst (λ (l : List (Event Packet)). own (old.receiver, a) l (new.receiver, b))
        (sym (given_is e old.source (Ok what) (not_misread e.what what q) q)) g;
    lines = lines ∙ sym (ap (λ (l : List ℕ). old.lines ++ l) (no_line e what q) ∙ append-nil old.lines);
    faulty = faulty ∙ sym (ap (λ (f : Bool). old.is_faulty || f) (no_fault e what q) ∙ or-false old.is_faulty);
  }

  pub fault_passed : (reason : Reason) → as_strict e.what ≡ Err reason → is_misread e.what ≡ false →
      new.source ≡ old.source → new.lines ≡ old.lines ++ fault_line false (place_of e, (reason, e.source)) →
      new.is_faulty ≡ true →
      own (old.receiver, a) (loss_at (place_of e) (loser_of old.source e.source)) (new.receiver, b) →
      NotingGets own (old, a) (e ∷ []) (new, b)
  fault_passed reason q m source lines faulty g =
      let sure = fault_sure e.what reason q m in
      record {
        same = source;
        receiver = subst (λ (l : List (Event Packet)). own (old.receiver, a) l (new.receiver, b))
            (sym (given_is e old.source (Err reason) m q)) g;
        lines = lines ∙ ap (λ (l : List ℕ). old.lines ++ l) (sym (one_line e reason q sure));
        faulty = faulty
            ∙ sym (ap (λ (f : Bool). old.is_faulty || f) (one_fault e reason q sure) ∙ or-true old.is_faulty);
      }

-- of a fault of a guess nothing is made
pub guess_passed : {R : Type 0} (own : (R × List ℕ) → List (Event Packet) → (R × List ℕ) → Type 0)
    (none : (s : R × List ℕ) → own s [] s) (old : Noting R) (a : List ℕ) (e : Event (Heard Packet)) →
    is_misread e.what ≡ true → NotingGets own (old, a) (e ∷ []) (old, a)
guess_passed own none old a e m =
    let guess = sure_one e true (misread_guess e.what m) in
    record {
      same = refl;
      receiver = subst (λ (l : List (Event Packet)). own (old.receiver, a) l (old.receiver, a))
          (sym (append-nil (given_of old.source e (is_misread e.what)) ∙ ap (given_of old.source e) m))
          (none (old.receiver, a));
      lines = sym (ap (λ (l : List ℕ). old.lines ++ l) (ap fault_lines guess) ∙ append-nil old.lines);
      faulty = sym (ap (λ (f : Bool). old.is_faulty || f) (ap has_fault guess) ∙ or-false old.is_faulty);
    }
