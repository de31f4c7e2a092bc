-- What the lines of a script are rebuilt to, straight or through a funnel, reads back as what they give.
use Rattle.std.proofs.Common.{◌≡◌, ◌≤◌, ℕ, List, [], ◌∷◌, ◌++◌, refl, sym, ◌∙◌, ap, subst, Bool, true, false, cond}
use Rattle.std.proofs.Common.{arith, Option, None, Some, ◌==◌, ◌&&◌, ◌||◌, nat_le, All}
use Rattle.std.specs.List.{list_any}
use Rattle.std.proofs.lemmas.Bool.Decides.{nat_tests}
use Rattle.std.proofs.lemmas.List.Elements.{All-nil, All-cons}
use Rattle.script_laws.specs.Names.{IsOfSource, Tagged, joined, written_segments, routed_script, is_routed, are_routed}
use Rattle.script_laws.specs.Names.{are_placed, placed_front, script_segments, script_of, RebuildPlan, Of, Line2, One}
use Rattle.script_laws.specs.Names.{Trigger, is_sound, Plan, are_of, placed, Turns, to_funnel, all_passed, IsSaid2}
use Rattle.script_text.proofs.Hexadecimals.{and_left, and_right}
use Rattle.trace_funnel.proofs.Counting.{none_of_both}
use Rattle.script_laws.proofs.Bytes.{bytes_for, for_append, none_bytes}
use Rattle.script_laws.proofs.Given.{any_reads_as_given}
use Rattle.script_laws.specs.Puts.{CanAllBePut}
use Rattle.script_laws.specs.ReadBack.{rebuilt, IsFair, is_line_of, has_line, ReadsAsGiven}
use Rattle.script_laws.proofs.Kept.{all_kept}
use Rattle.script_laws.proofs.Said.{script_good}

-- no line with a place is of a source without one
not_placed : (order : List ℕ) (x id : ℕ) → list_any (λ y. y == id) order ≡ true →
    list_any (λ y. y == x) order ≡ false → (id == x) ≡ false
not_placed order x id r e = by (id == x) refl
  where
    by : (v : Bool) → (id == x) ≡ v → v ≡ false
    by true h =
        let same : id ≡ x = grind (arith, nat_tests) in
        sym r ∙ ap (λ (n : ℕ). list_any (λ y. y == n) order) same ∙ e
    by false h = refl

other_route : (order : List ℕ) (x : ℕ) (line : Line2) → is_routed order line ≡ true →
    list_any (λ y. y == x) order ≡ false → is_line_of x line ≡ false
other_route order x (One (Of id item)) r e = not_placed order x id r e
other_route order x (Trigger byte) r e = not_placed order x 125 r e
other_route order x line r e = refl

none_has : (order : List ℕ) (x : ℕ) (lines : List Line2) → are_routed order lines ≡ true →
    list_any (λ y. y == x) order ≡ false → has_line x lines ≡ false
none_has order x [] r e = refl
none_has order x (line ∷ lines) r e =
    ap (λ (v : Bool). v || has_line x lines)
    (other_route order x line (and_left (is_routed order line) (are_routed order lines) r) e)
    ∙ none_has order x lines (and_right (is_routed order line) (are_routed order lines) r) e

-- bytes of no other source than those that have one
self_is : (x : ℕ) → (x == x) ≡ true
self_is x = grind (arith, nat_tests)

rest_none : (x : ℕ) (b : Tagged) (bytes : List Tagged) → bytes_for x (b ∷ bytes) ≡ [] → bytes_for x bytes ≡ []
rest_none x b bytes e = by (b.id == x) e
  where
    by : (v : Bool) → cond v (b.byte ∷ bytes_for x bytes) (bytes_for x bytes) ≡ [] → bytes_for x bytes ≡ []
    by true h = absurd (let no = h in cc)
    by false h = h

first_none : (b : Tagged) (bytes : List Tagged) → bytes_for b.id (b ∷ bytes) ≡ [] → ⊥
first_none b bytes e =
    let rest = bytes_for b.id bytes in
    let no = ap (λ (v : Bool). cond v (b.byte ∷ rest) rest) (sym (self_is b.id)) ∙ e in
    cc

of_order : (order : List ℕ) (bytes : List Tagged) →
    ((x : ℕ) → list_any (λ y. y == x) order ≡ false → bytes_for x bytes ≡ []) →
    are_of order (to_funnel bytes) ≡ true
of_order order [] none = refl
of_order order (b ∷ bytes) none =
    by (list_any (λ y. y == b.id) order) refl (of_order order bytes (λ x h. rest_none x b bytes (none x h)))
  where
    by : (v : Bool) → list_any (λ y. y == b.id) order ≡ v → are_of order (to_funnel bytes) ≡ true →
        (v && are_of order (to_funnel bytes)) ≡ true
    by true e rest = rest
    by false e rest = absurd (first_none b bytes (none b.id e))

-- and so of those from 1 to 126 alone
abbrev in_range : ℕ → Bool
in_range x = nat_le 1 x && nat_le x 126

from_others : (x id : ℕ) → 1 ≤ id → id ≤ 126 → in_range x ≡ false → (id == x) ≡ false
from_others x id low high out = by (id == x) refl
  where
    by : (v : Bool) → (id == x) ≡ v → v ≡ false
    by true e = absurd (grind (arith, nat_tests))
    by false e = refl

other_line : (plan : Plan) (x : ℕ) (line : Line2) → in_range x ≡ false → IsSaid2 plan line → is_line_of x line ≡ false
other_line plan x (One (Of id item)) out said = from_others x id said.0 said.1 out
other_line plan x (Trigger byte) out said = from_others x 125 (omega arith) (omega arith) out
other_line plan x line out said = refl

no_line : (plan : Plan) (x : ℕ) (before lines : List Line2) → in_range x ≡ false → CanAllBePut plan before lines →
    has_line x lines ≡ false
no_line plan x before [] out good = refl
no_line plan x before (line ∷ lines) out good =
    ap (λ (v : Bool). v || has_line x lines) (other_line plan x line out good.0.said)
    ∙ no_line plan x (before ++ line ∷ []) lines out good.1

inside : (bytes : List Tagged) → ((x : ℕ) → in_range x ≡ false → bytes_for x bytes ≡ []) → All IsOfSource bytes
inside [] none = All-nil IsOfSource
inside (b ∷ bytes) none =
    All-cons IsOfSource b bytes (by (in_range b.id) refl) (inside bytes (λ x h. rest_none x b bytes (none x h)))
  where
    by : (v : Bool) → in_range b.id ≡ v → IsOfSource b
    by true h = record { named = grind (arith, nat_tests); in_range = grind (arith, nat_tests) }
    by false h = absurd (first_none b bytes (none b.id h))

abbrev AreNamed : List (List Tagged) → Type 0
AreNamed segments = All (λ (bytes : List Tagged). All IsOfSource bytes) segments

all_inside : (segments : List (List Tagged)) →
    ((x : ℕ) → in_range x ≡ false → bytes_for x (joined segments) ≡ []) → AreNamed segments
all_inside [] none = All-nil (λ (l : List Tagged). All IsOfSource l)
all_inside (segment ∷ rest) none =
    All-cons (λ (l : List Tagged). All IsOfSource l) segment rest (inside segment (λ x e. (both x e).0))
    (all_inside rest (λ x e. (both x e).1))
  where
    both : (x : ℕ) → in_range x ≡ false → (bytes_for x segment ≡ []) × (bytes_for x (joined rest) ≡ [])
    both x e =
        none_of_both (bytes_for x segment) (bytes_for x (joined rest))
        (sym (for_append x segment (joined rest)) ∙ none x e)

-- segments in which each source has the bytes that lines put: those that are put straight, and what a funnel passes on
module _ (every halves : ℕ) (plan : Plan) (lines : List Line2) (sound : is_sound plan ≡ true)
    (good : CanAllBePut plan [] lines) where
  reads : (segments : List (List Tagged)) →
      ((x : ℕ) → bytes_for x (joined segments) ≡ bytes_for x (joined (script_segments plan lines))) →
      ReadsAsGiven plan lines (placed (written_segments every halves segments))
  reads segments kept =
      any_reads_as_given every halves plan lines sound good segments
      (all_inside segments (λ x e. kept x ∙ none_bytes plan x sound lines good (no_line plan x [] lines e good))) kept

  pub port_reads : (funnel : Option Turns) → IsFair funnel → are_placed funnel lines ≡ true →
      (let p : RebuildPlan = record { plan = plan; every = every; halves = halves; funnel = funnel } in
      ReadsAsGiven plan lines (rebuilt p lines))
  port_reads None fair all = reads (script_segments plan lines) (λ x. refl)
  port_reads (Some t) fair all =
      let segments = script_segments plan lines in
      reads (all_passed t segments) (all_kept t segments fair.0 fair.1
      (of_order t.order (joined segments) (λ x e. none_bytes plan x sound lines good (none_has t.order x lines all e))))

-- lines before others can be put where all can
front_good : (plan : Plan) (before front rest : List Line2) → CanAllBePut plan before (front ++ rest) →
    CanAllBePut plan before front
front_good plan before [] rest good = tt
front_good plan before (line ∷ front) rest good = (good.0, front_good plan (before ++ line ∷ []) front rest good.1)

-- so it is with a script's, as far as it has no fault and each line has a place
pub script_reads : (p : RebuildPlan) (script : List ℕ) → is_sound p.plan ≡ true → IsFair p.funnel →
    ReadsAsGiven p.plan (routed_script p script).lines (rebuilt p (routed_script p script).lines)
script_reads p script sound fair =
    let r = script_of p.plan script in
    let all = placed_front p.funnel r in
    let good = subst (λ (l : List Line2). CanAllBePut p.plan [] l) all.parts (script_good p.plan script) in
    port_reads p.every p.halves p.plan (routed_script p script).lines sound
    (front_good p.plan [] (routed_script p script).lines all.rest good) p.funnel fair all.places
