use Rattle.std.proofs.Common.{ℕ, List, [], ◌++◌, ap, ◌∙◌, append_assoc, append-nil, sym, subst}
use Rattle.std.specs.declared.option.Option.{Option}
use Rattle.std.specs.Io.KnownBytes.{Appends}
use Rattle.std.proofs.KnownBytes.{Appends-trans}
use Rattle.trace_io.specs.Bytes.{AppendsPrefix, TakesFront}
use Rattle.trace_io.proofs.Writes.{front_more}
use Rattle.trace_stream.specs.Debt.{Debt, Paid, Owes, with_debt}

-- a prefix of a piece is one of the piece and more
pub AppendsPrefix-append : (old new : Option (List ℕ)) (piece more : List ℕ) → AppendsPrefix old new piece → AppendsPrefix old new (piece ++ more)
AppendsPrefix-append old new piece more p =
    let q = p.1 in (p.0 ++ more, record { front = q.front; took = q.took; all = ap (λ l. l ++ more) q.all ∙ append_assoc q.front p.0 more })

-- after the front of a text, the front of the rest and more
pub prefix_more : (old mid new : Option (List ℕ)) (text pending more : List ℕ) → TakesFront old mid text pending → AppendsPrefix mid new (pending ++ more) → AppendsPrefix old new (text ++ more)
prefix_more old mid new text pending more p q = (q.0, front_more old mid new text pending more q.0 p q.1)

-- a prefix of what is pending goes on with the front of the text
pub prefix_join : (old mid new : Option (List ℕ)) (text pending : List ℕ) → TakesFront old mid text pending → AppendsPrefix mid new pending → AppendsPrefix old new text
prefix_join old mid new text pending p q = subst (AppendsPrefix old new) (append-nil text) (prefix_more old mid new text pending [] p (subst (AppendsPrefix mid new) (sym (append-nil pending)) q))

-- what is pending after the front of a text goes on by a front of its own
pub front_join : (old mid new : Option (List ℕ)) (text pending rest : List ℕ) → TakesFront old mid text pending → TakesFront mid new pending rest → TakesFront old new text rest
front_join old mid new text pending rest p q = subst (λ t. TakesFront old new t rest) (append-nil text) (front_more old mid new text pending [] rest p (subst (λ t. TakesFront mid new t rest) (sym (append-nil pending)) q))

-- where all that is pending is written, all of the text is
pub front_written : (old mid new : Option (List ℕ)) (text pending : List ℕ) → TakesFront old mid text pending → Appends mid new pending → Appends old new text
front_written old mid new text pending p q = subst (Appends old new) (sym p.all) (Appends-trans old mid new p.front pending p.took q)

-- what is owed comes after what is pending: some of that is written
front_owed : (old new : Option (List ℕ)) (pending rest : List ℕ) (debt : Debt) → TakesFront old new pending rest
    → TakesFront old new (with_debt pending debt) (with_debt rest debt)
front_owed old new pending rest Paid p = p
front_owed old new pending rest (Owes text calls) p = record {
  front = p.front;
  took = p.took;
  all = ap (λ l. l ++ text) p.all ∙ append_assoc p.front rest text;
}

pub front_pending : (old mid new : Option (List ℕ)) (text pending rest : List ℕ) (debt : Debt)
    → TakesFront old mid text (with_debt pending debt) → TakesFront mid new pending rest
    → TakesFront old new text (with_debt rest debt)
front_pending old mid new text pending rest debt p q =
    front_join old mid new text (with_debt pending debt) (with_debt rest debt) p
    (front_owed mid new pending rest debt q)

-- or a write of it fails
prefix_owed : (old new : Option (List ℕ)) (pending : List ℕ) (debt : Debt) → AppendsPrefix old new pending
    → AppendsPrefix old new (with_debt pending debt)
prefix_owed old new pending Paid p = p
prefix_owed old new pending (Owes text calls) p = AppendsPrefix-append old new pending text p

pub prefix_pending : (old mid new : Option (List ℕ)) (text pending : List ℕ) (debt : Debt)
    → TakesFront old mid text (with_debt pending debt) → AppendsPrefix mid new pending → AppendsPrefix old new text
prefix_pending old mid new text pending debt p q =
    prefix_join old mid new text (with_debt pending debt) p (prefix_owed mid new pending debt q)
