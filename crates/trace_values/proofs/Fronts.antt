-- The rest of a reading, up to its fault if it has one, leaves the rule in the reading's state.
use Rattle.std.proofs.Common.{◌≡◌, List, [], ◌∷◌, ◌++◌, refl, sym, ◌∙◌, ap, append_assoc, append-nil, Option, None, Some}
use Rattle.trace_values.specs.declared.fault.Reason.{Reason}
use Rattle.trace_values.specs.declared.next.Next.{Next}
use Rattle.trace_values.specs.declared.next.Next.TheVariants.{Go, End, Fail}
use Rattle.trace_values.specs.Placed.{Place, Placed}
use Rattle.trace_values.specs.Walk.{Within, walk}
use Rattle.trace_values.specs.Reading.{Progress, with_unit, advance, progress_from, unread, progress}
use Rattle.trace_values.proofs.Walks.{walk_push, walked}

module _ {S V : Type 0} (rule : S → Placed → Next S V) (start : S) where
  pub record Leaves (p : Progress S V) : Type 0 where
    pub front : List Placed
    pub more : List Placed
    pub parts : p.rest ≡ front ++ more
    pub walks : walk rule start front ≡ Within p.state
    pub all : p.fault ≡ None → more ≡ []

  -- without a fault that is the whole rest
  whole : (p : Progress S V) → Leaves p → p.fault ≡ None → walk rule start p.rest ≡ Within p.state
  whole p k f = ap (λ (l : List Placed). walk rule start l) (k.parts ∙ ap (λ (l : List Placed). k.front ++ l) (k.all f) ∙ append-nil k.front) ∙ k.walks

  some_is : (f : Place × Reason) → (let x : Option (Place × Reason) = Some f in x ≡ None) → (more : List Placed) → more ≡ []
  some_is f e more = cc

  leaves_by : (p : Progress S V) (b : Placed) (n : Next S V) (f : Option (Place × Reason)) → rule p.state b ≡ n → p.fault ≡ f → Leaves p → Leaves (with_unit start p b n f)
  leaves_by p b (Go t) None e g k = record {
    front = p.rest ++ b ∷ [];
    more = [];
    parts = sym (append-nil (p.rest ++ b ∷ []));
    walks = walk_push rule start p.state p.rest b (whole p k g) ∙ ap (λ (n : Next S V). walked rule n) e;
    all = λ h. refl;
  }
  leaves_by p b (End v) None e g k = record { front = []; more = []; parts = refl; walks = refl; all = λ h. refl }
  leaves_by p b (Fail w) None e g k = record { front = p.rest; more = b ∷ []; parts = refl; walks = whole p k g; all = λ h. some_is (b.place, w) h (b ∷ []) }
  leaves_by p b n (Some f) e g k = record {
    front = k.front;
    more = k.more ++ b ∷ [];
    parts = ap (λ (l : List Placed). l ++ b ∷ []) k.parts ∙ append_assoc k.front k.more (b ∷ []);
    walks = k.walks;
    all = λ h. some_is f h (k.more ++ b ∷ []);
  }

  leaves_from : (u : List Placed) (p : Progress S V) → Leaves p → Leaves (progress_from rule start p u)
  leaves_from [] p k = k
  leaves_from (b ∷ u) p k = leaves_from u (advance rule start p b) (leaves_by p b (rule p.state b) p.fault refl refl k)

  pub leaves : (u : List Placed) → Leaves (progress rule start u)
  leaves u = leaves_from u (unread start) (record { front = []; more = []; parts = refl; walks = refl; all = λ h. refl })
