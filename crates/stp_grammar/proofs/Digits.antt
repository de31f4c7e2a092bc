-- Nibbles of a payload or a word by the rule: how many they are, and what number they stand for.
use Rattle.std.proofs.Common.{◌≡◌, ℕ, zero, suc, ◌+◌, ◌-◌, ◌*◌, ◌^◌, ◌<◌, List, [], ◌∷◌, ◌++◌, length, true, false, cond, refl, sym, ◌∙◌, ap, ◌⊎◌, inl, inr, arith}
use Rattle.std.proofs.Math.Nat.{pow-suc, mul-add, mul_assoc, mul_comm}
use Rattle.std.specs.Prelude.{◌==◌}
use Rattle.std.proofs.lemmas.Bool.Decides.{nat_tests}
use Rattle.stp_grammar.specs.Names.{Next, Go, Walked, Within, Whole, after}
use Rattle.stp_grammar.specs.declared.packet.Order.{Order}
use Rattle.stp_grammar.specs.declared.packet.Order.TheVariants.{Msn, Lsn}
use Rattle.stp_grammar.specs.declared.packet.StpPacket.{StpPacket}
use Rattle.stp_grammar.specs.declared.partial.Partial.{Partial}
use Rattle.stp_grammar.specs.Spelling.{number}
use Rattle.stp_grammar.specs.Rule.{rule, number_with}
use Rattle.stp_grammar.proofs.Walking.{from}

-- the number with more nibbles, one by one
abbrev pub value_from : Order → ℕ → ℕ → List ℕ → ℕ
value_from order n v [] = v
value_from order n v (b ∷ r) = value_from order (n + 1) (number_with order n v b) r

value_msn : (n v : ℕ) (r : List ℕ) → value_from Msn n v r ≡ v * 16 ^ length r + number Msn r
value_msn n v [] = omega arith
value_msn n v (b ∷ r) = value_msn (n + 1) (16 * v + b) r ∙ weigh (16 ^ length r) (number Msn r) (pow-suc 16 (length r)) where
  weigh : (p more : ℕ) → 16 ^ suc (length r) ≡ p * 16 → (16 * v + b) * p + more ≡ v * 16 ^ suc (length r) + (b * p + more)
  weigh p more e =
      let q : (16 * v + b) * p ≡ 16 * v * p + b * p = mul_comm (16 * v + b) p ∙ mul-add p (16 * v) b ∙ sum_of (mul_comm p (16 * v)) (mul_comm p b) in
      let o : v * (p * 16) ≡ 16 * v * p = ap (λ (z : ℕ). v * z) (mul_comm p 16) ∙ sym (mul_assoc v 16 p) ∙ ap (λ (z : ℕ). z * p) (mul_comm v 16) in
      rw e (omega arith)
    where
      sum_of : {a b c d : ℕ} → a ≡ c → b ≡ d → a + b ≡ c + d
      sum_of e f = omega arith

weigh_more : (value count b more : ℕ) → value + 16 ^ count * b + 16 ^ (count + 1) * more ≡ value + 16 ^ count * (b + 16 * more)
weigh_more value count b more =
    let p : 16 ^ (count + 1) ≡ 16 ^ count * 16 = ap (λ (n : ℕ). 16 ^ n) (let e : count + 1 ≡ suc count = omega arith in e) ∙ pow-suc 16 count in
    let q : 16 ^ count * 16 * more ≡ 16 ^ count * (16 * more) = mul_assoc (16 ^ count) 16 more in
    let r : 16 ^ count * (b + 16 * more) ≡ 16 ^ count * b + 16 ^ count * (16 * more) = mul-add (16 ^ count) b (16 * more) in
    rw p (omega arith)

value_lsn : (n v : ℕ) (r : List ℕ) → value_from Lsn n v r ≡ v + 16 ^ n * number Lsn r
value_lsn n v [] = omega arith
value_lsn n v (b ∷ r) = value_lsn (n + 1) (v + 16 ^ n * b) r ∙ weigh_more v n b (number Lsn r)

pub value_whole : (order : Order) (r : List ℕ) → value_from order 0 0 r ≡ number order r
value_whole Msn r = (let k = value_msn 0 0 r in omega arith)
value_whole Lsn r = (let k = value_lsn 0 0 r in omega arith)

pub number_none : (order : Order) → 0 ≡ number order []
number_none Msn = refl
number_none Lsn = refl

-- a list in two parts, the first of this length
pub parts : (n : ℕ) (r : List ℕ) → (length r < n) ⊎ ((d : List ℕ) × (w : List ℕ) × (length d ≡ n) × (r ≡ d ++ w))
parts zero r = inr ([], r, refl, refl)
parts (suc n) [] = inl (omega arith)
parts (suc n) (b ∷ r) = elim (parts n r) [
  | inl m ↦ inl (omega arith)
  | inr m ↦ inr (b ∷ m.0, m.1, ap suc m.2, ap (λ (l : List ℕ). b ∷ l) m.3)
]

pub within_whole : (s : Partial) (x : StpPacket) → (let p : Walked Partial StpPacket = Within s in let q : Walked Partial StpPacket = Whole x in p ≡ q) → ⊥
within_whole s x e = cc

-- A stage of this many nibbles, in which the state has a count and a number, and what comes after it.
module _ (order : Order) (most : ℕ) (state : ℕ → ℕ → Partial) (then : ℕ → Next Partial StpPacket)
    (same : (n v b : ℕ) → rule order (state n v) b ≡ cond (n + 1 == most) (then (number_with order n v b)) (Go (state (n + 1) (number_with order n v b)))) where
  goes : (n v b : ℕ) → n + 1 < most → rule order (state n v) b ≡ Go (state (n + 1) (number_with order n v b))
  goes n v b h = same n v b ∙ (let t : (n + 1 == most) ≡ false = grind (arith, nat_tests) in rw t refl)

  ends : (n v b : ℕ) → n + 1 ≡ most → rule order (state n v) b ≡ then (number_with order n v b)
  ends n v b h = same n v b ∙ (let t : (n + 1 == most) ≡ true = grind (arith, nat_tests) in rw t refl)

  -- all of its nibbles
  pub stage_whole : (n v : ℕ) (d w : List ℕ) → n < most → n + length d ≡ most → from order (state n v) (d ++ w) ≡ after (then (value_from order n v d)) (λ t. from order t w) w
  stage_whole n v [] w h e = absurd (omega arith)
  stage_whole n v (b ∷ []) w h e = ap (λ (x : Next Partial StpPacket). after x (λ t. from order t w) w) (ends n v b (omega arith))
  stage_whole n v (b ∷ (c ∷ d)) w h e =
      ap (λ (x : Next Partial StpPacket). after x (λ t. from order t ((c ∷ d) ++ w)) ((c ∷ d) ++ w)) (goes n v b (omega arith))
      ∙ stage_whole (n + 1) (number_with order n v b) (c ∷ d) w (omega arith) (omega arith)

  -- fewer
  pub stage_within : (n v : ℕ) (d : List ℕ) → n + length d < most → from order (state n v) d ≡ Within (state (n + length d) (value_from order n v d))
  stage_within n v [] h = ap (λ (k : ℕ). Within (state k v)) (let e : n ≡ n + 0 = omega arith in e)
  stage_within n v (b ∷ d) h =
      ap (λ (x : Next Partial StpPacket). after x (λ t. from order t d) d) (goes n v b (omega arith))
      ∙ stage_within (n + 1) (number_with order n v b) d (omega arith)
      ∙ ap (λ (k : ℕ). Within (state k (value_from order (n + 1) (number_with order n v b) d))) (let e : n + 1 + length d ≡ n + suc (length d) = omega arith in e)

  pub stage_sound : (n v : ℕ) (r : List ℕ) (x : StpPacket) → n < most → from order (state n v) r ≡ Whole x →
      (d : List ℕ) × (w : List ℕ) × (n + length d ≡ most) × (r ≡ d ++ w) × (after (then (value_from order n v d)) (λ t. from order t w) w ≡ Whole x)
  stage_sound n v r x h e = elim (parts (most - n) r) [
    | inl m ↦ absurd (within_whole (state (n + length r) (value_from order n v r)) x (sym (stage_within n v r (omega arith)) ∙ e))
    | inr m ↦
        let l : n + length m.0 ≡ most = (let k = m.2 in omega arith) in
        (m.0, m.1, l, m.3, sym (stage_whole n v m.0 m.1 h l) ∙ ap (λ (z : List ℕ). from order (state n v) z) (sym m.3) ∙ e)
  ]
