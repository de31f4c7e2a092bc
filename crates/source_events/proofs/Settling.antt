-- Further runs mend no fault, and take nothing of the report back.
use Rattle.std.proofs.Common.{◌≡◌, ℕ, ◌+◌, ◌<◌, ◌≤◌, List, [], ◌∷◌, ◌++◌, refl, sym, ◌∙◌, ap, inl, inr, append_assoc, append-nil, arith, Option, None, Some, Bool, true, false, cond}
use Rattle.trace_values.specs.declared.cell.Cell.{Cell}
use Rattle.trace_values.specs.declared.fault.Reason.{Reason}
use Rattle.trace_values.specs.Placed.{Place, Placed}
use Rattle.source_events.specs.Runs.{id_of, IsRunFrom, end_of, list_of}
use Rattle.source_events.specs.Merge.{InOrder, merged_from, of_sources, cut}
use Rattle.source_events.specs.Report.{Mapped, IsLawful, AreLawful, events, lesser, is_less, of_source, least_fault, all_events, reported}
use Rattle.source_events.proofs.Family.{of_cases, list_own, list_other, within_run, run_fault, Anywhere, anywhere, adds}
use Rattle.source_events.proofs.Running.{end_within}
use Rattle.source_events.proofs.Merges.{merged_append, cut_below, cut_behind, cut_append, below, from, from_weaker, below_weaker}
use Rattle.source_events.proofs.Placing.{RunsBetween}
use Rattle.source_events.proofs.Least.{AreSound, Full, Later, later_weaker, later_of, first_wins, second_wins, settled, later, others_later}

module _ {V : Type 0} (s : Mapped V) (law : IsLawful s.stream) where
  abbrev fault_in : List (List Cell) → Option (Place × Reason)
  fault_in runs = (s.stream (list_of s.id runs)).fault

  -- a fault stands below the end of the runs
  step_in : (runs : List (List Cell)) (run : List Cell) (n : ℕ) → IsRunFrom n run → fault_in runs ≡ None → (g : Place × Reason) → fault_in (runs ++ run ∷ []) ≡ Some g → g.0.at < end_of run
  step_in runs run n r e g k = elim (of_cases s.id (id_of run)) [
    | inl o ↦ (run_fault s.stream law.rises law.settles run (list_of s.id runs) n (end_of run) (within_run n run r) e g (ap (λ (u : List Placed). (s.stream u).fault) (sym (list_own s.id runs run o.1)) ∙ k)).1
    | inr o ↦ (let q : None ≡ Some g = sym e ∙ ap (λ (u : List Placed). (s.stream u).fault) (sym (list_other s.id runs run o.1)) ∙ k in cc)
  ]

  pub earlier : (rest runs : List (List Cell)) (n k : ℕ) → fault_in runs ≡ None → RunsBetween n k rest → (g : Place × Reason) → fault_in (runs ++ rest) ≡ Some g → g.0.at < k
  earlier [] runs n k e b g h = (let q : None ≡ Some g = sym e ∙ ap (λ (l : List (List Cell)). fault_in l) (sym (append-nil runs)) ∙ h in cc)
  earlier (run ∷ rest) runs n k e b g h = by (fault_in (runs ++ run ∷ [])) refl (λ x. earlier rest (runs ++ run ∷ []) (end_of run) k x b.1 g (ap (λ (l : List (List Cell)). fault_in l) (append_assoc runs (run ∷ []) rest) ∙ h)) where
    ends : (rest : List (List Cell)) (n k : ℕ) → RunsBetween n k rest → n ≤ k
    ends [] n k b = b
    ends (d ∷ rest) n k b = (let x = end_within n d b.0 in let y = ends rest (end_of d) k b.1 in omega arith)

    by : (o : Option (Place × Reason)) → fault_in (runs ++ run ∷ []) ≡ o → (fault_in (runs ++ run ∷ []) ≡ None → g.0.at < k) → g.0.at < k
    by None x more = more x
    by (Some f) x more =
        let q : Some f ≡ Some g = sym (settled s law (runs ++ run ∷ []) rest f x) ∙ ap (λ (l : List (List Cell)). fault_in l) (append_assoc runs (run ∷ []) rest) ∙ h in
        let p : f ≡ g = cc in
        let i : f.0.at ≡ g.0.at = ap (λ (z : Place × Reason). z.0.at) p in
        let a = step_in runs run n b.0 e f x in
        let c = ends rest (end_of run) k b.1 in omega arith

pub lesser_none : {F : Type 0} (o p : Option (Place × F)) → lesser o p ≡ None → (o ≡ None) × (p ≡ None)
lesser_none None p e = (refl, e)
lesser_none (Some f) None e = cc
lesser_none (Some f) (Some g) e = two (is_less g.0 f.0) e where
  two : (t : Bool) → cond t (Some g) (Some f) ≡ None → (Some f ≡ None) × (Some g ≡ None)
  two true h = cc
  two false h = cc

pub source_none : (x : Option ℕ) (o : Option (Place × Reason)) → of_source x o ≡ None → o ≡ None
source_none x None e = refl
source_none x (Some f) e = cc

module _ {V : Type 0} (runs more : List (List Cell)) (n : ℕ) (b : RunsBetween 0 n runs) (r : InOrder IsRunFrom end_of n more) where
  one_below : (s : Mapped V) → IsLawful s.stream → (g : Place × Reason) → (s.stream (list_of s.id runs)).fault ≡ Some g → g.0.at < n
  one_below s law g e = earlier s law runs [] 0 n law.sound b g e

  pub all_sound : (ss : List (Mapped V)) → least_fault ss runs ≡ None → AreSound ss runs
  all_sound [] e = tt
  all_sound (s ∷ ss) e = let k = lesser_none (of_source (Some s.id) (s.stream (list_of s.id runs)).fault) (least_fault ss runs) e in (source_none (Some s.id) _ k.0, all_sound ss k.1)

  pub least_below : (ss : List (Mapped V)) → AreLawful ss → (f : Full) → least_fault ss runs ≡ Some f → f.0.at < n
  least_below [] law f e = cc
  least_below (s ∷ ss) law f e = by (s.stream (list_of s.id runs)).fault refl (least_fault ss runs) refl (one_below s law.0) (λ h k. least_below ss law.1 h k) e where
    by : (o : Option (Place × Reason)) → (s.stream (list_of s.id runs)).fault ≡ o → (p : Option Full) → least_fault ss runs ≡ p →
        ((g : Place × Reason) → (s.stream (list_of s.id runs)).fault ≡ Some g → g.0.at < n) → ((h : Full) → least_fault ss runs ≡ Some h → h.0.at < n) →
        lesser (of_source (Some s.id) (s.stream (list_of s.id runs)).fault) (least_fault ss runs) ≡ Some f → f.0.at < n
    by None oe p pe one rest k = rest f (sym (ap (λ (x : Option (Place × Reason)). lesser (of_source (Some s.id) x) (least_fault ss runs)) oe) ∙ k)
    by (Some g) oe None pe one rest k =
        let q : Some (g.0, (g.1, Some s.id)) ≡ Some f = sym (ap (λ (x : Option (Place × Reason)). lesser (of_source (Some s.id) x) (least_fault ss runs)) oe ∙ ap (λ (x : Option Full). lesser (Some (g.0, (g.1, Some s.id))) x) pe) ∙ k in
        let z : g.0.at ≡ f.0.at = ap (λ (x : Option Full). at_of x) q in
        let a = one g oe in omega arith where
          at_of : Option Full → ℕ
          at_of None = 0
          at_of (Some x) = x.0.at
    by (Some g) oe (Some h) pe one rest k =
        two (is_less h.0 g.0) (sym (ap (λ (x : Option (Place × Reason)). lesser (of_source (Some s.id) x) (least_fault ss runs)) oe ∙ ap (λ (x : Option Full). lesser (Some (g.0, (g.1, Some s.id))) x) pe) ∙ k) where
          two : (t : Bool) → cond t (Some h) (Some (g.0, (g.1, Some s.id))) ≡ Some f → f.0.at < n
          two true q = rest f (pe ∙ q)
          two false q = (let z : (g.0, (g.1, Some s.id)) ≡ f = cc in let a = one g oe in let i : g.0.at ≡ f.0.at = ap (λ (x : Full). x.0.at) z in omega arith)

  -- the least fault stays
  pub least_stays : (ss : List (Mapped V)) → AreLawful ss → (f : Full) → least_fault ss runs ≡ Some f → least_fault ss (runs ++ more) ≡ Some f
  least_stays [] law f e = cc
  least_stays (s ∷ ss) law f e = by (s.stream (list_of s.id runs)).fault refl (least_fault ss runs) refl (λ h k. least_stays ss law.1 h k) e where
    by : (o : Option (Place × Reason)) → (s.stream (list_of s.id runs)).fault ≡ o → (p : Option Full) → least_fault ss runs ≡ p → ((h : Full) → least_fault ss runs ≡ Some h → least_fault ss (runs ++ more) ≡ Some h) →
        lesser (of_source (Some s.id) (s.stream (list_of s.id runs)).fault) (least_fault ss runs) ≡ Some f → least_fault (s ∷ ss) (runs ++ more) ≡ Some f
    by None oe p pe stay k =
        let q : least_fault ss runs ≡ Some f = sym (ap (λ (x : Option (Place × Reason)). lesser (of_source (Some s.id) x) (least_fault ss runs)) oe) ∙ k in
        let w = least_below ss law.1 f q in
        ap (λ (x : Option Full). lesser (of_source (Some s.id) (s.stream (list_of s.id (runs ++ more))).fault) x) (stay f q)
        ∙ second_wins f (of_source (Some s.id) (s.stream (list_of s.id (runs ++ more))).fault) (later_weaker n (f.0.at + 1) _ (omega arith) (later_of n (Some s.id) _ (later s law.0 more runs n oe r)))
    by (Some g) oe None pe stay k =
        let q = sym (ap (λ (x : Option (Place × Reason)). lesser (of_source (Some s.id) x) (least_fault ss runs)) oe ∙ ap (λ (x : Option Full). lesser (Some (g.0, (g.1, Some s.id))) x) pe) ∙ k in
        let w = one_below s law.0 g oe in
        ap (λ (x : Option (Place × Reason)). lesser (of_source (Some s.id) x) (least_fault ss (runs ++ more))) (settled s law.0 runs more g oe)
        ∙ first_wins (g.0, (g.1, Some s.id)) (least_fault ss (runs ++ more)) (later_weaker n (g.0.at + 1) _ (omega arith) (others_later ss runs more n law.1 (all_sound ss pe) r)) ∙ q
    by (Some g) oe (Some h) pe stay k =
        ap (λ (x : Option (Place × Reason)). lesser (of_source (Some s.id) x) (least_fault ss (runs ++ more))) (settled s law.0 runs more g oe)
        ∙ ap (λ (x : Option Full). lesser (Some (g.0, (g.1, Some s.id))) x) (stay h pe)
        ∙ sym (ap (λ (x : Option (Place × Reason)). lesser (of_source (Some s.id) x) (least_fault ss runs)) oe ∙ ap (λ (x : Option Full). lesser (Some (g.0, (g.1, Some s.id))) x) pe) ∙ k

  -- what is cut stays, and what is not grows: for a fault below the end of the runs, and for one from there on
  pub cut_stays : (ss : List (Mapped V)) → AreLawful ss → (f : Full) → f.0.at < n → cut (Some f) (all_events ss (runs ++ more)) ≡ cut (Some f) (all_events ss runs)
  cut_stays ss law f l =
      ap (λ z. cut (Some f) z) (merged_append id_of (of_sources (events ss)) runs more []) ∙ cut_append f (all_events ss runs) (merged_from id_of (of_sources (events ss)) runs more)
      ∙ ap (λ z. cut (Some f) (all_events ss runs) ++ z) (cut_behind f (merged_from id_of (of_sources (events ss)) runs more)
      (from_weaker n (f.0.at + 1) _ (omega arith) (from Anywhere IsRunFrom end_of end_within id_of (of_sources (events ss)) (adds ss law) anywhere more runs n tt r)))
      ∙ append-nil (cut (Some f) (all_events ss runs))

  pub cut_grows : (ss : List (Mapped V)) → AreLawful ss → (o : Option Full) → Later n o → cut o (all_events ss (runs ++ more)) ≡ all_events ss runs ++ cut o (merged_from id_of (of_sources (events ss)) runs more)
  cut_grows ss law None l = merged_append id_of (of_sources (events ss)) runs more []
  cut_grows ss law (Some f) l =
      ap (λ z. cut (Some f) z) (merged_append id_of (of_sources (events ss)) runs more []) ∙ cut_append f (all_events ss runs) (merged_from id_of (of_sources (events ss)) runs more)
      ∙ ap (λ z. z ++ cut (Some f) (merged_from id_of (of_sources (events ss)) runs more)) (cut_below f (all_events ss runs) (below_weaker n f.0.at _ l (below Anywhere IsRunFrom end_of end_within id_of (of_sources (events ss)) (adds ss law) anywhere runs [] 0 n tt b)))

  pub report_stays : (ss : List (Mapped V)) → AreLawful ss → (f : Full) → least_fault ss runs ≡ Some f → reported ss (runs ++ more) ≡ reported ss runs
  report_stays ss law f e =
      ap (λ (o : Option Full). cut o (all_events ss (runs ++ more))) (least_stays ss law f e) ∙ cut_stays ss law f (least_below ss law f e) ∙ ap (λ (o : Option Full). cut o (all_events ss runs)) (sym e)
