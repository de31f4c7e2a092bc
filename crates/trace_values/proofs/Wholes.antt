-- A whole spelling is read as its value.
use Rattle.std.proofs.Common.{◌≡◌, List, [], ◌∷◌, ◌++◌, refl, ◌∙◌, ap, None}
use Rattle.trace_values.specs.declared.fault.Reason.{Reason}
use Rattle.trace_values.specs.declared.next.Next.{Next}
use Rattle.trace_values.specs.declared.next.Next.TheVariants.{Go, End, Fail}
use Rattle.trace_values.specs.Placed.{Place, Placed}
use Rattle.trace_values.specs.Walk.{Walked, Within, Whole, after, walk, Decides}
use Rattle.trace_values.specs.Reading.{Progress, with_unit, progress_from}

module _ {S V : Type 0} (rule : S → Placed → Next S V) (start : S) where
  abbrev at_state : List (V × Place) → List Placed → S → Progress S V
  at_state items r s = record { items = items; rest = r; fault = None; state = s }

  abbrev ended : List (V × Place) → V → Place → Progress S V
  ended items v place = record { items = items ++ (v, place) ∷ []; rest = []; fault = None; state = start }

  not_whole : (s : S) (v : V) → (let p : Walked S V = Within s in let q : Walked S V = Whole v in p ≡ q) → ⊥
  not_whole s v e = cc

  never_whole : (z v : V) (w : List Placed) (l : Placed) (more : S → Walked S V) → after (End z) more (w ++ l ∷ []) ≡ Whole v → ⊥
  never_whole z v [] l more h = cc
  never_whole z v (c ∷ w) l more h = cc

  -- units that end a value do so with the last of them
  pub whole_reads : (w : List Placed) (l : Placed) (items : List (V × Place)) (r : List Placed) (s : S) (v : V) → walk rule s (w ++ l ∷ []) ≡ Whole v →
      progress_from rule start (at_state items r s) (w ++ l ∷ []) ≡ ended items v l.place
  whole_reads [] l items r s v e = by (rule s l) refl e where
    by : (n : Next S V) → rule s l ≡ n → after {U = Placed} n (λ x. Within x) [] ≡ Whole v → with_unit start (at_state items r s) l (rule s l) None ≡ ended items v l.place
    by (Go x) k h = absurd (not_whole x v h)
    by (End z) k h = let same : z ≡ v = cc in ap (λ (n : Next S V). with_unit start (at_state items r s) l n None) k ∙ ap (λ (y : V). ended items y l.place) same
    by (Fail f) k h = cc
  whole_reads (b ∷ w) l items r s v e = by (rule s b) refl e (λ x h. whole_reads w l items (r ++ b ∷ []) x v h) where
    by : (n : Next S V) → rule s b ≡ n → after n (λ x. walk rule x (w ++ l ∷ [])) (w ++ l ∷ []) ≡ Whole v →
        ((x : S) → walk rule x (w ++ l ∷ []) ≡ Whole v → progress_from rule start (at_state items (r ++ b ∷ []) x) (w ++ l ∷ []) ≡ ended items v l.place) →
        progress_from rule start (with_unit start (at_state items r s) b (rule s b) None) (w ++ l ∷ []) ≡ ended items v l.place
    by (Go x) k h more = ap (λ (n : Next S V). progress_from rule start (with_unit start (at_state items r s) b n None) (w ++ l ∷ [])) k ∙ more x h
    by (End z) k h more = absurd (never_whole z v w l (λ x. walk rule x (w ++ l ∷ [])) h)
    by (Fail f) k h more = cc

  -- after values that leave nothing, a spelling is one value more
  pub spelled_reads : (Spells : V → List Placed → Type 0) (why : List Placed → Reason) (d : Decides Spells why rule start) (items : List (V × Place)) (v : V) (w : List Placed) (l : Placed) →
      Spells v (w ++ l ∷ []) → progress_from rule start (at_state items [] start) (w ++ l ∷ []) ≡ ended items v l.place
  spelled_reads Spells why d items v w l s = whole_reads w l items [] start v (d.complete v (w ++ l ∷ []) s)
