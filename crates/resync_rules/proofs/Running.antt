-- A pattern that is a run of one unit and then another unit: what a rule that looks at the units alone owes so that the
-- pattern is a synchronising word of its grammar.
use Rattle.std.proofs.Common.{◌≡◌, ◌≢◌, ℕ, zero, suc, ◌+◌, ◌-◌, ◌≤◌, List, [], ◌∷◌, ◌++◌, replicate, refl, sym, ◌∙◌, ap, subst, ◌⊎◌, inl, inr, arith, append_assoc}
use Rattle.resync_rules.specs.Names.{Reason, Next, Go, End, Fail, Placed, units_of, Within, walk, Decides, by_unit}
use Rattle.resync_rules.specs.Names.{EndsWith, Pattern, pattern_of}
use Rattle.trace_values.specs.Grammar.{InUnits}
use Rattle.trace_values.proofs.Placing.{on_units, walk_units}
use Rattle.resync_rules.specs.Syncing.{said_last, EndsOrFails, Syncs}

-- what is said of units is said of placed ones
pub said_units : {S V : Type 0} (rule : S → ℕ → Next S V) (start : S) (n : Next S V) (w : List Placed) → said_last (by_unit rule) start n w ≡ said_last rule start n (units_of w)
said_units rule start n [] = refl
said_units rule start (Go s) (b ∷ w) = said_units rule start (rule s b.unit) w
said_units rule start (End v) (b ∷ w) = said_units rule start (rule start b.unit) w
said_units rule start (Fail e) (b ∷ w) = refl

-- a run is two runs, one after the other
split_run : (unit n m : ℕ) → replicate (n + m) unit ≡ replicate n unit ++ replicate m unit
split_run unit zero m = ap (λ k. replicate k unit) (let e : 0 + m ≡ m = omega arith in e)
split_run unit (suc n) m = ap (λ k. replicate k unit) (let e : suc n + m ≡ suc (n + m) = omega arith in e) ∙ ap (λ l. unit ∷ l) (split_run unit n m)

-- a run that is at least as long as the pattern's, and then the last unit, end with the pattern
pub run_closes : (p : Pattern) (n : ℕ) → p.most ≤ n → EndsWith (pattern_of p) (replicate n p.unit ++ p.last ∷ [])
run_closes p n h = (
  replicate (n - p.most) p.unit,
  ap (λ l. l ++ p.last ∷ []) (ap (λ k. replicate k p.unit) (let k : n ≡ (n - p.most) + p.most = omega arith in k) ∙ split_run p.unit (n - p.most) p.most)
      ∙ append_assoc (replicate (n - p.most) p.unit) (replicate p.most p.unit) (p.last ∷ []),
)

-- Leads k s: after k of the unit, the state is one from which the run goes on.
module _ {S V : Type 0} (rule : S → ℕ → Next S V) (start : S) (p : Pattern) (v : V) (Leads : ℕ → S → Type 0) where
  abbrev pub Says : ℕ → Next S V → Type 0
  Says k (Go s) = Leads k s
  Says k (End x) = Leads k start
  Says k (Fail e) = Unit {0}

  module _ (less : (k : ℕ) (s : S) → Leads (suc k) s → Says k (rule s p.unit)) (stays : (s : S) → Leads 0 s → Says 0 (rule s p.unit)) where
    one : (k : ℕ) (s : S) → Leads k s → (j : ℕ) × (j + 1 ≤ k ⊎ (j ≡ 0)) × Says j (rule s p.unit)
    one zero s w = (0, inr refl, stays s w)
    one (suc k) s w = (k, inl (let q : k + 1 ≤ suc k = omega arith in q), less k s w)

    bound : (k j n : ℕ) → k ≤ suc n → (j + 1 ≤ k ⊎ (j ≡ 0)) → j ≤ n
    bound k j n h (inl e) = omega arith
    bound k j n h (inr e) = omega arith

    -- after the run
    pub run_says : (n k : ℕ) (x : Next S V) → Says k x → k ≤ n → Says 0 (said_last rule start x (replicate n p.unit))
    run_says zero zero x w h = w
    run_says zero (suc k) x w h = absurd (omega arith)
    run_says (suc n) k (Go s) w h = let o = one k s w in run_says n o.0 (rule s p.unit) o.2 (bound k o.0 n h o.1)
    run_says (suc n) k (End y) w h = let o = one k start w in run_says n o.0 (rule start p.unit) o.2 (bound k o.0 n h o.1)
    run_says (suc n) k (Fail e) w h = tt

    module _ (ends : (s : S) → Leads 0 s → EndsOrFails v (rule s p.last)) where
      last_unit : (x : Next S V) → Says 0 x → EndsOrFails v (said_last rule start x (p.last ∷ []))
      last_unit (Go s) w = ends s w
      last_unit (End y) w = ends start w
      last_unit (Fail e) w = tt

      said_append : (w : List ℕ) (x : Next S V) (z : List ℕ) → said_last rule start x (w ++ z) ≡ said_last rule start (said_last rule start x w) z
      said_append [] x z = refl
      said_append (b ∷ w) (Go s) z = said_append w (rule s b) z
      said_append (b ∷ w) (End y) z = said_append w (rule start b) z
      said_append (b ∷ w) (Fail e) [] = refl
      said_append (b ∷ w) (Fail e) (c ∷ z) = refl

      -- after the pattern
      run_ends : (k : ℕ) (s : S) → Leads k s → k ≤ p.most → EndsOrFails v (said_last rule start (Go s) (pattern_of p))
      run_ends k s w h =
          subst (λ (n : Next S V). EndsOrFails v n) (sym (said_append (replicate p.most p.unit) (Go s) (p.last ∷ [])))
          (last_unit (said_last rule start (Go s) (replicate p.most p.unit)) (run_says p.most k (Go s) w h))

      -- where each state that is reached leads there within the run
      pub syncs_run : (Spells : V → List ℕ → Type 0) (why : List ℕ → Reason) → Decides Spells why rule start → p.unit ≢ p.last → Spells v (pattern_of p) →
          ((w : List ℕ) → Spells v w → EndsWith (pattern_of p) w) → (k : ℕ) → k ≤ p.most → ((s : S) (r : List ℕ) → walk rule start r ≡ Within s → Leads k s) →
          Syncs (InUnits Spells) (λ r. why (units_of r)) (by_unit rule) start p v
      syncs_run Spells why decided apart spelled closes k few reached = record {
        decides = on_units rule Spells why start decided;
        apart = apart;
        spelled = λ w e. subst (λ (l : List ℕ). Spells v l) (sym e) spelled;
        closes = λ w s. closes (units_of w) s;
        syncs = λ s r m w e.
            subst (λ (n : Next S V). EndsOrFails v n) (sym (said_units rule start (Go s) m ∙ ap (λ (l : List ℕ). said_last rule start (Go s) l) e))
            (run_ends k s (reached s (units_of r) (sym (walk_units rule start r) ∙ w)) few);
      }
