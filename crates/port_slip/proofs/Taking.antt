-- What a realigner takes, as the list that it stands for.
use Rattle.std.proofs.Common.{◌≡◌, ℕ, ◌+◌, ◌≤◌, List, [], ◌++◌, length, length-append, sym, ◌∙◌, ap, subst, arith, append_assoc, append-nil}
use Rattle.port_slip.specs.declared.slip.Slip.{Slip}
use Rattle.port_slip.specs.Segments.{Realigned, realigned}
use Rattle.port_slip.specs.Slip.{Stands, Takes, joined, pushed_by, to_come}

front_of : List ℕ → Realigned → Realigned
front_of so_far r = record { bytes = so_far ++ r.bytes; skipped = r.skipped; dropped = r.dropped; patterns = r.patterns }

pub takes : (old new : Slip) (bytes sure : List ℕ) → pushed_by new ≡ pushed_by old + length bytes →
    length sure ≤ length bytes →
    ((more : List ℕ) → joined [] old (to_come old (bytes ++ more)) ≡ joined sure new (to_come new more)) → Takes old new bytes sure
unfolding front_of
takes old new bytes sure n l e = record {
  count = n;
  few = l;
  list = λ before so_far s. record {
    count = (let a = length-append before bytes in let c = s.count in omega (arith, a, c, n));
    completes = λ more. ap realigned (append_assoc before bytes more) ∙ s.completes (bytes ++ more) ∙ ap (front_of so_far) (e more)
        ∙ ap (λ (l : List ℕ). let r : Realigned = record { bytes = l; skipped = (joined sure new (to_come new more)).skipped; dropped = (joined sure new (to_come new more)).dropped; patterns = (joined sure new (to_come new more)).patterns } in r)
        (sym (append_assoc so_far sure (to_come new more).bytes));
  };
}

-- of no bytes
pub takes_none : (s : Slip) → Takes s s [] []
takes_none s = record {
  count = omega arith;
  few = omega arith;
  list = λ before so_far h. subst (λ (l : List ℕ). Stands s l (so_far ++ [])) (sym (append-nil before)) (subst (λ (l : List ℕ). Stands s before l) (sym (append-nil so_far)) h);
}

-- and of some bytes and others after them
pub takes_more : (s t u : Slip) (a b x y : List ℕ) → Takes s t a x → Takes t u b y → Takes s u (a ++ b) (x ++ y)
takes_more s t u a b x y f g = record {
  count = (let m = f.count in let n = g.count in let l = length-append a b in omega (arith, m, n, l));
  few = (let m = f.few in let n = g.few in let l = length-append a b in let k = length-append x y in omega (arith, m, n, l, k));
  list = λ before so_far h. subst (λ (l : List ℕ). Stands u l (so_far ++ (x ++ y))) (append_assoc before a b)
      (subst (λ (l : List ℕ). Stands u ((before ++ a) ++ b) l) (append_assoc so_far x y) (g.list (before ++ a) (so_far ++ x) (f.list before so_far h)));
}
