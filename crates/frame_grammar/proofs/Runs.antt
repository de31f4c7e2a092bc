-- Cells have runs: those of a frame, the first ones of such a list, none, and one alone.
use Rattle.std.proofs.Common.{◌≡◌, ◌≤◌, ℕ, List, [], ◌∷◌, Option, arith, sym, ◌∙◌, ap, subst, take, drop, inl, inr}
use Rattle.std.specs.List.{Contains}
use Rattle.std.proofs.lemmas.List.{take-append-drop}
use Rattle.std.proofs.lemmas.List.Elements.{All-nil, All-cons, All-take, Contains-append_left, Contains-push_cases}
use Rattle.std.proofs.lemmas.List.Sorted.{IsNonDecreasingBy-short, IsNonDecreasingBy-take}
use Rattle.frame_grammar.specs.Names.{Cell}
use Rattle.frame_grammar.specs.Frame.{cells}
use Rattle.frame_grammar.specs.Runs.{HasRuns}
use Rattle.frame_grammar.proofs.CellLaws.{rising, one_id, few_runs}

-- those of a frame
pub cells_have_runs : (frame offsets : List ℕ) (id : Option ℕ) → HasRuns (cells frame offsets id)
cells_have_runs frame offsets id = record { in_order = rising frame offsets id; one_id = one_id frame offsets id; few = few_runs frame offsets id }

contains_take : (n : ℕ) (cs : List Cell) (c : Cell) → Contains (take n cs) c → Contains cs c
contains_take n cs c h = subst (λ (l : List Cell). Contains l c) (take-append-drop n cs) (Contains-append_left (take n cs) (drop n cs) c h)

-- the first ones
pub take_has_runs : (n : ℕ) (cs : List Cell) → HasRuns cs → HasRuns (take n cs)
take_has_runs n cs h = record {
  in_order = IsNonDecreasingBy-take (λ c. c.run) n cs h.in_order;
  one_id = λ c d p q. h.one_id c d (contains_take n cs c p) (contains_take n cs d q);
  few = All-take (λ c. c.run ≤ 8) n cs h.few;
}

only_one : (x c : Cell) → Contains (x ∷ []) c → x ≡ c
only_one x c h = elim (Contains-push_cases [] x c h) [ inl n ↦ absurd (let l = n.1 in omega arith) | inr e ↦ e ]

-- one alone
pub one_has_runs : (c : Cell) → c.run ≤ 8 → HasRuns (c ∷ [])
one_has_runs x h = record {
  in_order = IsNonDecreasingBy-short (λ c. c.run) (x ∷ []) (omega arith);
  one_id = λ c d p q e. sym (ap (λ (y : Cell). y.id) (only_one x c p)) ∙ ap (λ (y : Cell). y.id) (only_one x d q);
  few = All-cons (λ c. c.run ≤ 8) x [] h (All-nil (λ c. c.run ≤ 8));
}
