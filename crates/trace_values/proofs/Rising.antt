-- With a byte of one unit or of two a reading has more, and what is more is at that byte.
use Rattle.std.proofs.Common.{◌≡◌, ℕ, ◌≤◌, List, [], ◌∷◌, ◌++◌, sym, ◌∙◌, ap, append_assoc, append-nil, arith, subst, refl, Option, None, Some}
use Rattle.trace_values.specs.declared.fault.Reason.{Reason}
use Rattle.trace_values.specs.Placed.{Place}
use Rattle.trace_values.specs.Stream.{Stream, AllAt, FaultAt, Rises}
use Rattle.trace_values.proofs.OneUnit.{AllOn, FaultOn, RisesOn}

all_then : {W : Type 0} (at : ℕ) (h : ℕ) (p : Place) (xs ys : List (W × Place)) → p.at ≡ at → h ≤ p.half → AllOn p xs → ((k : ℕ) → k ≤ p.half → AllAt at k ys) → AllAt at h (xs ++ ys)
all_then at h p [] ys e l a b = b h l
all_then at h p (x ∷ xs) ys e l a b = (
  ap (λ (q : Place). q.at) a.0 ∙ e,
  (let k = ap (λ (q : Place). q.half) a.0 in omega arith),
  all_then at x.1.half p xs ys e (let k = ap (λ (q : Place). q.half) a.0 in omega arith) a.1 b,
)

fault_both : (at : ℕ) (o m n : Option (Place × Reason)) → FaultOn (record { at = at; half = 0 }) o m → FaultOn (record { at = at; half = 1 }) m n → FaultAt at o n
fault_both at None None None a b = tt
fault_both at None None (Some f) a b = ap (λ (p : Place). p.at) b
fault_both at None (Some f) n a b = subst (λ (x : Option (Place × Reason)). FaultAt at None x) (sym b) (ap (λ (p : Place). p.at) a)
fault_both at (Some f) None n a b = (let k = a in cc)
fault_both at (Some f) (Some g) n a b = b ∙ a

fault_one : (at : ℕ) (o n : Option (Place × Reason)) → FaultOn (record { at = at; half = 0 }) o n → FaultAt at o n
fault_one at None None a = tt
fault_one at None (Some f) a = ap (λ (p : Place). p.at) a
fault_one at (Some f) n a = a

-- with a byte of two units
pub rises_both : {V : Type 0} (old mid new : Stream V) (at : ℕ) → RisesOn old mid (record { at = at; half = 0 }) → RisesOn mid new (record { at = at; half = 1 }) → Rises old new at
rises_both old mid new at r s = record {
  more = r.more ++ s.more;
  given = s.given ∙ ap (λ l. l ++ s.more) r.given ∙ append_assoc old.given r.more s.more;
  all = all_then at 0 (record { at = at; half = 0 }) r.more s.more refl (omega arith) r.all
      (λ k l. subst (λ z. AllAt at k z) (append-nil s.more) (all_then at k (record { at = at; half = 1 }) s.more [] refl (omega arith) s.all (λ j i. tt)));
  fault = fault_both at old.fault mid.fault new.fault r.fault s.fault;
}

-- with a byte that is one unit
pub rises_one : {V : Type 0} (old new : Stream V) (at : ℕ) → RisesOn old new (record { at = at; half = 0 }) → Rises old new at
rises_one old new at r = record {
  more = r.more;
  given = r.given;
  all = subst (λ z. AllAt at 0 z) (append-nil r.more) (all_then at 0 (record { at = at; half = 0 }) r.more [] refl (omega arith) r.all (λ j i. tt));
  fault = fault_one at old.fault new.fault r.fault;
}
