-- The fault of the run that stops a frame is the least of all sources, whatever follows.
use Rattle.std.proofs.Common.{◌≡◌, ℕ, ◌+◌, ◌<◌, ◌≤◌, List, [], ◌∷◌, ◌++◌, refl, sym, ◌∙◌, ap, ◌⊎◌, inl, inr, append_assoc, append-nil, arith, subst, Option, None, Some, Bool, true, false, cond}
use Rattle.std.specs.Prelude.{is_none, ◌==◌, ◌&&◌, ◌||◌, nat_lt}
use Rattle.std.proofs.lemmas.Bool.Decides.{nat_tests}
use Rattle.std.proofs.lemmas.Grind.{flat_map-append}
use Rattle.trace_values.specs.declared.cell.Cell.{Cell}
use Rattle.trace_values.specs.declared.fault.Reason.{Reason}
use Rattle.trace_values.specs.Placed.{Place, Placed}
use Rattle.source_events.specs.Runs.{id_of, IsRunFrom, end_of, list_of}
use Rattle.source_events.specs.Merge.{InOrder}
use Rattle.source_events.specs.Report.{Mapped, IsLawful, AreLawful, is_less, lesser, of_source, least_fault}
use Rattle.source_events.proofs.Family.{of_cases, list_own, list_other, within_run, run_fault}
use Rattle.source_events.proofs.Running.{end_within}

-- no mapped source has a fault in these runs
abbrev pub AreSound : {V : Type 0} → List (Mapped V) → List (List Cell) → Type 0
AreSound [] runs = Unit {0}
AreSound (s ∷ ss) runs = ((s.stream (list_of s.id runs)).fault ≡ None) × AreSound ss runs

-- none, or from this offset on
abbrev pub Later : {F : Type 0} → ℕ → Option (Place × F) → Type 0
Later n None = Unit {0}
Later n (Some f) = n ≤ f.0.at

pub later_weaker : {F : Type 0} (n k : ℕ) (o : Option (Place × F)) → k ≤ n → Later n o → Later k o
later_weaker n k None l h = tt
later_weaker n k (Some f) l h = omega arith

pub list_append : (x : ℕ) (runs rest : List (List Cell)) → list_of x (runs ++ rest) ≡ list_of x runs ++ list_of x rest
list_append x runs rest = flat_map-append _ runs rest

module _ {V : Type 0} (s : Mapped V) (law : IsLawful s.stream) where
  abbrev fault_of : List (List Cell) → Option (Place × Reason)
  fault_of runs = (s.stream (list_of s.id runs)).fault

  pub settled : (runs rest : List (List Cell)) (f : Place × Reason) → fault_of runs ≡ Some f → fault_of (runs ++ rest) ≡ Some f
  settled runs rest f e =
      ap (λ (u : List Placed). (s.stream u).fault) (list_append s.id runs rest) ∙ (law.settles (list_of s.id runs) (list_of s.id rest) (ap (λ (o : Option (Place × Reason)). is_none o) e)).fault ∙ e

  -- with one more run
  pub one_on : (runs : List (List Cell)) (run : List Cell) (n : ℕ) → IsRunFrom n run → fault_of runs ≡ None → (fault_of (runs ++ run ∷ []) ≡ None) ⊎ ((g : Place × Reason) × (fault_of (runs ++ run ∷ []) ≡ Some g) × (n ≤ g.0.at))
  one_on runs run n r e = elim (of_cases s.id (id_of run)) [
    | inl o ↦ by_new (fault_of (runs ++ run ∷ [])) refl
        (λ g k. (run_fault s.stream law.rises law.settles run (list_of s.id runs) n (end_of run) (within_run n run r) e g (ap (λ (u : List Placed). (s.stream u).fault) (sym (list_own s.id runs run o.1)) ∙ k)).0)
    | inr o ↦ inl (ap (λ (u : List Placed). (s.stream u).fault) (list_other s.id runs run o.1) ∙ e)
  ] where
    by_new : (x : Option (Place × Reason)) → fault_of (runs ++ run ∷ []) ≡ x → ((g : Place × Reason) → fault_of (runs ++ run ∷ []) ≡ Some g → n ≤ g.0.at) →
        (fault_of (runs ++ run ∷ []) ≡ None) ⊎ ((g : Place × Reason) × (fault_of (runs ++ run ∷ []) ≡ Some g) × (n ≤ g.0.at))
    by_new None k h = inl k
    by_new (Some g) k h = inr (g, k, h g k)

  pub later : (rest runs : List (List Cell)) (n : ℕ) → fault_of runs ≡ None → InOrder IsRunFrom end_of n rest → Later n (fault_of (runs ++ rest))
  later [] runs n e r = subst (λ (o : Option (Place × Reason)). Later n o) (sym (ap (λ (l : List (List Cell)). fault_of l) (append-nil runs) ∙ e)) tt
  later (run ∷ rest) runs n e r =
      subst (λ (l : List (List Cell)). Later n (fault_of l)) (append_assoc runs (run ∷ []) rest)
      (elim (one_on runs run n r.0 e) [
        | inl k ↦ later_weaker (end_of run) n _ (end_within n run r.0) (later rest (runs ++ run ∷ []) (end_of run) k r.1)
        | inr k ↦ subst (λ (o : Option (Place × Reason)). Later n o) (sym (settled (runs ++ run ∷ []) rest k.0 k.1)) k.2
      ])

abbrev pub Full : Type 0
Full = Place × (Reason × Option ℕ)

pub later_of : (n : ℕ) (x : Option ℕ) (o : Option (Place × Reason)) → Later n o → Later n (of_source x o)
later_of n x None h = tt
later_of n x (Some f) h = h

-- the one fault, or a later one
pub first_wins : (f : Full) (o : Option Full) → Later (f.0.at + 1) o → lesser (Some f) o ≡ Some f
first_wins f None h = refl
first_wins f (Some g) h = ap (λ (t : Bool). cond t (Some g) (Some f)) (not_less g.0.at g.0.half f.0.at f.0.half (omega arith)) where
  not_less : (a h b i : ℕ) → b < a → (nat_lt a b || (a == b && nat_lt h i)) ≡ false
  not_less a h b i l = grind (arith, nat_tests)

pub second_wins : (f : Full) (o : Option Full) → Later (f.0.at + 1) o → lesser o (Some f) ≡ Some f
second_wins f None h = refl
second_wins f (Some g) h = ap (λ (t : Bool). cond t (Some f) (Some g)) (less f.0.at f.0.half g.0.at g.0.half (omega arith)) where
  less : (a h b i : ℕ) → a < b → (nat_lt a b || (a == b && nat_lt h i)) ≡ true
  less a h b i l = grind (arith, nat_tests)

pub later_both : (n : ℕ) (o p : Option Full) → Later n o → Later n p → Later n (lesser o p)
later_both n None p a b = b
later_both n (Some f) None a b = a
later_both n (Some f) (Some g) a b = by_test (is_less g.0 f.0) where
  by_test : (t : Bool) → Later n (cond t (Some g) (Some f))
  by_test true = b
  by_test false = a

pub others_later : {V : Type 0} (ss : List (Mapped V)) (runs rest : List (List Cell)) (n : ℕ) → AreLawful ss → AreSound ss runs → InOrder IsRunFrom end_of n rest → Later n (least_fault ss (runs ++ rest))
others_later [] runs rest n law a r = tt
others_later (s ∷ ss) runs rest n law a r = later_both n _ _ (later_of n (Some s.id) _ (later s law.0 rest runs n a.0 r)) (others_later ss runs rest n law.1 a.1 r)

pub least_none : {V : Type 0} (ss : List (Mapped V)) (runs : List (List Cell)) → AreSound ss runs → least_fault ss runs ≡ None
least_none [] runs a = refl
least_none (s ∷ ss) runs a = ap (λ (o : Option (Place × Reason)). lesser (of_source (Some s.id) o) (least_fault ss runs)) a.0 ∙ least_none ss runs a.1

pub least_at : {V : Type 0} (a : List (Mapped V)) (s : Mapped V) (b : List (Mapped V)) (runs rest : List (List Cell)) (f : Place × Reason) (n : ℕ) → AreLawful a → IsLawful s.stream → AreLawful b → AreSound a runs → AreSound b runs →
    (s.stream (list_of s.id runs)).fault ≡ Some f → f.0.at < n → InOrder IsRunFrom end_of n rest → least_fault (a ++ (s ∷ b)) (runs ++ rest) ≡ Some (f.0, (f.1, Some s.id))
least_at [] s b runs rest f n la ls lb sa sb e l r =
    ap (λ (o : Option (Place × Reason)). lesser (of_source (Some s.id) o) (least_fault b (runs ++ rest))) (settled s ls runs rest f e)
    ∙ first_wins (f.0, (f.1, Some s.id)) (least_fault b (runs ++ rest)) (later_weaker n (f.0.at + 1) _ (omega arith) (others_later b runs rest n lb sb r))
least_at (t ∷ a) s b runs rest f n la ls lb sa sb e l r =
    ap (λ (o : Option Full). lesser (of_source (Some t.id) (t.stream (list_of t.id (runs ++ rest))).fault) o) (least_at a s b runs rest f n la.1 ls lb sa.1 sb e l r)
    ∙ second_wins (f.0, (f.1, Some s.id)) (of_source (Some t.id) (t.stream (list_of t.id (runs ++ rest))).fault) (later_weaker n (f.0.at + 1) _ (omega arith) (later_of n (Some t.id) _ (later t la.0 rest runs n sa.0 r)))
