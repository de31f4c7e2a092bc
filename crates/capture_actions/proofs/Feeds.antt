-- Turns of a reading, one after the other.
use Rattle.std.proofs.Common.{◌≡◌, ◌∙◌, ℕ, ◌+◌, ◌-◌, [], List, ◌++◌, length, take, drop, refl, sym, ap, subst, append_assoc}
use Rattle.std.proofs.Common.{append-nil, length-append, arith, Bool, false}
use Rattle.std.proofs.lemmas.List.{take_all, length-drop}
use Rattle.std.proofs.Math.Seq.{take-add}
use Rattle.recovering_machines.specs.Hearing.{AddsUp}
use Rattle.capture_actions.specs.Names.{placed, FaultAfter, Event, Packet, Plan, report_of}
use Rattle.capture_actions.specs.CaptureReading.{plan_of, taken_by, IsLive, Stands, Grew, TakesOn}
use Rattle.capture_actions.specs.Faulty.{IsFaulty}
use Rattle.capture_actions.specs.declared.reading.CaptureReading.{CaptureReading}
use Rattle.capture_actions.proofs.Feeding.{sound_here}

-- a reading that takes nothing
grew_none : (r : CaptureReading) (seen : List ℕ) → IsLive r → Stands r seen → Grew r r seen [] false []
grew_none r seen live s =
    let same = sym (append-nil seen) in
    record {
      stands = subst (λ (l : List ℕ). Stands r l) same s;
      report = ap (λ (l : List ℕ). report_of (plan_of r) (placed l)) (append-nil seen)
          ∙ sym (append-nil (report_of (plan_of r) (placed seen)));
      fault = subst (λ (l : List ℕ). FaultAfter (IsFaulty (plan_of r)) l false) same (sound_here r seen live s);
    }

-- a reading that grew by some events, and then by more
grew_both : (old mid new : CaptureReading) (seen front next : List ℕ) (is_faulty : Bool) (es fs : List (Event Packet)) →
    plan_of mid ≡ plan_of old → Grew old mid seen front false es → Grew mid new (seen ++ front) next is_faulty fs →
    Grew old new seen (front ++ next) is_faulty (es ++ fs)
grew_both old mid new seen front next is_faulty es fs same one two =
    let here : (seen ++ front) ++ next ≡ seen ++ (front ++ next) = append_assoc seen front next in
    let report : List ℕ → List (Event Packet) = λ l. report_of (plan_of old) (placed l) in
    record {
      stands = subst (λ (l : List ℕ). Stands new l) here two.stands;
      report = ap report (sym here)
          ∙ subst (λ (p : Plan). report_of p (placed ((seen ++ front) ++ next)) ≡ report_of p (placed (seen ++ front)) ++ fs) same two.report
          ∙ ap (λ (l : List (Event Packet)). l ++ fs) one.report ∙ append_assoc (report seen) es fs;
      fault = subst (λ (l : List ℕ). FaultAfter (IsFaulty (plan_of old)) l is_faulty) here
          (subst (λ (p : Plan). FaultAfter (IsFaulty p) ((seen ++ front) ++ next) is_faulty) same two.fault);
    }

pub rest_of : (n : ℕ) (piece : List ℕ) → take (length piece - n) (drop n piece) ≡ drop n piece
rest_of n piece = take_all (length piece - n) (drop n piece) (let k = length-drop n piece in omega arith)

-- what takes the events, given none and given some after others
module _ {S : Type 0} (gets : S → List (Event Packet) → S → Type 0) (adds_up : AddsUp gets) where
  pub took_none : (old : CaptureReading × S) → IsLive old.0 → TakesOn gets old old [] false
  took_none old live = record {
    same = refl;
    count = (let k : taken_by old.0 ≡ taken_by old.0 + 0 = omega arith in k);
    reads = ([], adds_up.none old.1, λ seen s. grew_none old.0 seen live s);
    live = λ e. live;
  }

  -- two turns, one after the other
  took_both : (old mid new : CaptureReading × S) (front next : List ℕ) (is_faulty : Bool) → TakesOn gets old mid front false →
      TakesOn gets mid new next is_faulty → TakesOn gets old new (front ++ next) is_faulty
  took_both old mid new front next is_faulty first second = record {
    same = second.same ∙ first.same;
    count = second.count ∙ (let k = first.count in let l = length-append front next in omega (arith, k, l));
    reads = (
      first.reads.0 ++ second.reads.0,
      adds_up.more old.1 mid.1 new.1 first.reads.0 second.reads.0 first.reads.1 second.reads.1,
      λ seen s.
          let one = first.reads.2 seen s in
          grew_both old.0 mid.0 new.0 seen front next is_faulty first.reads.0 second.reads.0 first.same one
          (second.reads.2 (seen ++ front) one.stands),
    );
    live = second.live;
  }

  -- the front of a piece, and then some of its rest
  pub took_next : (old mid new : CaptureReading × S) (piece : List ℕ) (done bytes : ℕ) (is_faulty : Bool) →
      TakesOn gets old mid (take done piece) false →
      TakesOn gets mid new (take bytes (take (length piece - done) (drop done piece))) is_faulty →
      TakesOn gets old new (take (done + bytes) piece) is_faulty
  took_next old mid new piece done bytes is_faulty first second =
      subst (λ (l : List ℕ). TakesOn gets old new l is_faulty) (sym (take-add done bytes piece))
      (took_both old mid new (take done piece) (take bytes (drop done piece)) is_faulty first
      (subst (λ (l : List ℕ). TakesOn gets mid new (take bytes l) is_faulty) (rest_of done piece) second))
