-- The payload bytes of a packet by the rule: which lists are all of them, and what number they stand for.
use Rattle.std.proofs.Common.{◌≡◌, ℕ, suc, ◌+◌, ◌*◌, ◌^◌, ◌%◌, ◌<◌, ◌≤◌, List, [], ◌∷◌, length, Bool, true, false, refl, sym, ◌∙◌, ap, subst, ◌⊎◌, inl, inr, arith}
use Rattle.std.proofs.Math.Nat.{pow-suc, mul-add, mul_assoc, mul_comm}
use Rattle.std.specs.Prelude.{nat_lt, nat_le, ◌==◌, ◌&&◌}
use Rattle.std.proofs.lemmas.Bool.Decides.{nat_tests}
use Rattle.itm_grammar.specs.Names.{Next, Go, End, Fail, Walked, Whole, after, walk}
use Rattle.itm_grammar.specs.declared.packet.ItmPacket.{ItmPacket}
use Rattle.itm_grammar.specs.declared.header.Class.{Class}
use Rattle.itm_grammar.specs.declared.header.Class.TheVariants.{LocalLong, GlobalFirst as First, GlobalSecond as Second, Extension as Extended}
use Rattle.itm_grammar.specs.declared.partial.Partial.{Partial}
use Rattle.itm_grammar.specs.declared.partial.Partial.TheVariants.{Payload}
use Rattle.itm_grammar.specs.Spelling.{number, groups, IsContinued, IsExtended, extended}
use Rattle.itm_grammar.specs.Rule.{rule, payload_with, last, another_follows, digit, base_of, second_stamp}
use Rattle.itm_grammar.proofs.Headers.{chosen}

-- a list by the rule from a state on
abbrev pub from : Partial → List ℕ → Walked Partial ItmPacket
from s p = walk rule s p

-- what the rule says of the first byte, put in
pub says : (x y : Next Partial ItmPacket) (p : List ℕ) → x ≡ y → after x (λ t. from t p) p ≡ after y (λ t. from t p) p
says x y p e = ap (λ (n : Next Partial ItmPacket). after n (λ t. from t p) p) e

-- all payload bytes from a count on, where this test says whether another follows
abbrev pub Fills : (ℕ → ℕ → Bool) → ℕ → List ℕ → Type 0
Fills f n [] = ⊥
Fills f n (b ∷ []) = f n b ≡ false
Fills f n (b ∷ (d ∷ p)) = (f n b ≡ true) × Fills f (n + 1) (d ∷ p)

-- the number with them
abbrev pub value_from : (ℕ → ℕ → ℕ) → ℕ → ℕ → List ℕ → ℕ
value_from a n v [] = v
value_from a n v (b ∷ p) = value_from a (n + 1) (v + a n b) p

abbrev pub last_of : List ℕ → ℕ
last_of [] = 0
last_of (b ∷ []) = b
last_of (b ∷ (d ∷ p)) = last_of (d ∷ p)

-- what a byte adds
abbrev pub added : Class → ℕ → ℕ → ℕ
added c n b = digit c n b * base_of c ^ n

-- the last byte leaves no state
second_ends : (n v : ℕ) (t : Partial) → second_stamp n v ≡ Go t → ⊥
second_ends n v t e = elim (chosen (n == 4) e) [
  | inl m ↦ (let k = m.1 in cc)
  | inr m ↦ elim (chosen (n == 6) m.1) [ inl o ↦ (let k = o.1 in cc) | inr o ↦ (let k = o.1 in cc) ]
]

pub last_ends : (c : Class) (n v b : ℕ) (t : Partial) → last c n v b ≡ Go t → ⊥
last_ends (LocalLong lateness) n v b t e = elim (chosen (nat_lt b 128) e) [ inl m ↦ (let k = m.1 in cc) | inr m ↦ (let k = m.1 in cc) ]
last_ends First n v b t e = elim (chosen (nat_lt b 128) e) [ inl m ↦ (let k = m.1 in cc) | inr m ↦ (let k = m.1 in cc) ]
last_ends Second n v b t e = elim (chosen (nat_lt b 128) e) [ inl m ↦ second_ends n v t m.1 | inr m ↦ (let k = m.1 in cc) ]
last_ends x n v b t e = cc

ended_whole : (y : Next Partial ItmPacket) (k : Partial → Walked Partial ItmPacket) (p : List ℕ) (x : ItmPacket) → ((t : Partial) → y ≡ Go t → ⊥) → after y k p ≡ Whole x →
    (y ≡ End x) × (p ≡ [])
ended_whole (Go t) k p x n e = absurd (n t refl)
ended_whole (End z) k [] x n e = (let q : z ≡ x = cc in ap (λ (i : ItmPacket). (let y : Next Partial ItmPacket = End i in y)) q, refl)
ended_whole (End z) k (b ∷ p) x n e = cc
ended_whole (Fail f) k p x n e = cc

-- what a payload byte says, by the test
abbrev pub with_of : Class → ℕ → ℕ → ℕ → Next Partial ItmPacket
with_of c n v b = payload_with c n (v + added c n b) b

pub payload_cases : (c : Class) (n v b : ℕ) →
    ((another_follows c n b ≡ true) × (with_of c n v b ≡ Go (Payload c (n + 1) (v + added c n b))))
    ⊎ ((another_follows c n b ≡ false) × (with_of c n v b ≡ last c (n + 1) (v + added c n b) b))
payload_cases c n v b = decided (another_follows c n b) refl where
  decided : (t : Bool) → another_follows c n b ≡ t → ((another_follows c n b ≡ true) × (with_of c n v b ≡ Go (Payload c (n + 1) (v + added c n b)))) ⊎ ((another_follows c n b ≡ false) × (with_of c n v b ≡ last c (n + 1) (v + added c n b) b))
  decided true e = inl (e, rw e refl)
  decided false e = inr (e, rw e refl)

pub record Filled (c : Class) (n v : ℕ) (p : List ℕ) (x : ItmPacket) : Type 0 where
  pub fills : Fills (λ i b. another_follows c i b) n p
  pub ends : last c (n + length p) (value_from (λ i b. added c i b) n v p) (last_of p) ≡ End x

pub payload_sound : (c : Class) (n v : ℕ) (p : List ℕ) (x : ItmPacket) → from (Payload c n v) p ≡ Whole x → Filled c n v p x
payload_sound c n v [] x e = cc
payload_sound c n v (b ∷ []) x e = elim (payload_cases c n v b) [
  | inl m ↦ (let k = sym (says (with_of c n v b) (Go (Payload c (n + 1) (v + added c n b))) [] m.1) ∙ e in cc)
  | inr m ↦
      let k = ended_whole (last c (n + 1) (v + added c n b) b) (λ t. from t []) [] x (last_ends c (n + 1) (v + added c n b) b) (sym (says (with_of c n v b) (last c (n + 1) (v + added c n b) b) [] m.1) ∙ e) in
      record { fills = m.0; ends = k.0 }
]
payload_sound c n v (b ∷ (d ∷ p)) x e = elim (payload_cases c n v b) [
  | inl m ↦
      let w = v + added c n b in
      let k = payload_sound c (n + 1) w (d ∷ p) x (sym (says (with_of c n v b) (Go (Payload c (n + 1) w)) (d ∷ p) m.1) ∙ e) in
      let l : n + 1 + length (d ∷ p) ≡ n + length (b ∷ (d ∷ p)) = omega arith in
      record { fills = (m.0, k.fills); ends = subst (λ (i : ℕ). last c i (value_from (λ i b. added c i b) (n + 1) w (d ∷ p)) (last_of (d ∷ p)) ≡ End x) l k.ends }
  | inr m ↦
      let k = ended_whole (last c (n + 1) (v + added c n b) b) (λ t. from t (d ∷ p)) (d ∷ p) x (last_ends c (n + 1) (v + added c n b) b) (sym (says (with_of c n v b) (last c (n + 1) (v + added c n b) b) (d ∷ p) m.1) ∙ e) in
      let q : d ∷ p ≡ [] = k.1 in cc
]

pub payload_complete : (c : Class) (n v : ℕ) (p : List ℕ) (x : ItmPacket) → Filled c n v p x → from (Payload c n v) p ≡ Whole x
payload_complete c n v [] x f = absurd f.fills
payload_complete c n v (b ∷ []) x f = elim (payload_cases c n v b) [
  | inl m ↦ (let k = sym m.0 ∙ f.fills in cc)
  | inr m ↦ says (with_of c n v b) (End x) [] (m.1 ∙ f.ends)
]
payload_complete c n v (b ∷ (d ∷ p)) x f = elim (payload_cases c n v b) [
  | inl m ↦
      let w = v + added c n b in
      let l : n + length (b ∷ (d ∷ p)) ≡ n + 1 + length (d ∷ p) = omega arith in
      says (with_of c n v b) (Go (Payload c (n + 1) w)) (d ∷ p) m.1
      ∙ payload_complete c (n + 1) w (d ∷ p) x (record {
        fills = f.fills.1;
        ends = subst (λ (i : ℕ). last c i (value_from (λ i b. added c i b) (n + 1) w (d ∷ p)) (last_of (d ∷ p)) ≡ End x) l f.ends;
      })
  | inr m ↦ (let k = sym m.0 ∙ f.fills.0 in cc)
]

-- by the size: this many
abbrev pub counted : ℕ → ℕ → ℕ → Bool
counted most n b = nat_lt (n + 1) most

pub fills_count : (most n : ℕ) (p : List ℕ) → n < most → Fills (λ i b. counted most i b) n p → n + length p ≡ most
fills_count most n [] h f = absurd f
fills_count most n (b ∷ []) h f = let k : most ≤ n + 1 = grind (arith, nat_tests) in omega arith
fills_count most n (b ∷ (d ∷ p)) h f =
    let k : n + 1 < most = (let t = f.0 in grind (arith, nat_tests)) in
    let l = fills_count most (n + 1) (d ∷ p) k f.1 in omega arith

pub count_fills : (most n : ℕ) (p : List ℕ) → n < most → n + length p ≡ most → Fills (λ i b. counted most i b) n p
count_fills most n [] h f = absurd (omega arith)
count_fills most n (b ∷ []) h f = stops (omega arith) where
  stops : most ≤ n + 1 → counted most n b ≡ false
  stops k = grind (arith, nat_tests)
count_fills most n (b ∷ (d ∷ p)) h f = (goes (omega arith), count_fills most (n + 1) (d ∷ p) (omega arith) (omega arith)) where
  goes : n + 1 < most → counted most n b ≡ true
  goes k = grind (arith, nat_tests)

-- by bit 7: at most this many
abbrev pub longer : ℕ → ℕ → ℕ → Bool
longer most n b = nat_le 128 b && nat_lt (n + 1) most

pub fills_continued : (most n : ℕ) (p : List ℕ) → n < most → Fills (λ i b. longer most i b) n p → last_of p < 128 → IsContinued p × (n + length p ≤ most)
fills_continued most n [] h f l = absurd f
fills_continued most n (b ∷ []) h f l = (l, omega arith)
fills_continued most n (b ∷ (d ∷ p)) h f l =
    let k : (128 ≤ b) × (n + 1 < most) = (let t = f.0 in grind (arith, nat_tests)) in
    let m = fills_continued most (n + 1) (d ∷ p) k.1 f.1 l in
    ((k.0, m.0), (let e = m.1 in omega arith))

pub continued_fills : (most n : ℕ) (p : List ℕ) → IsContinued p → n + length p ≤ most → Fills (λ i b. longer most i b) n p × (last_of p < 128)
continued_fills most n [] h l = absurd h
continued_fills most n (b ∷ []) h l = (stops h, h) where
  stops : b < 128 → longer most n b ≡ false
  stops k = grind (arith, nat_tests)
continued_fills most n (b ∷ (d ∷ p)) h l =
    let m = continued_fills most (n + 1) (d ∷ p) h.1 (omega arith) in ((goes h.0 (omega arith), m.0), m.1)
  where
    goes : 128 ≤ b → n + 1 < most → longer most n b ≡ true
    goes k j = grind (arith, nat_tests)

-- the weights of one more byte and of those after it
weigh : (base value count b more : ℕ) → value + b * base ^ count + base ^ (count + 1) * more ≡ value + base ^ count * (b + base * more)
weigh base value count b more =
    let p : base ^ (count + 1) ≡ base ^ count * base = ap (λ (n : ℕ). base ^ n) (let e : count + 1 ≡ suc count = omega arith in e) ∙ pow-suc base count in
    let q : base ^ count * base * more ≡ base ^ count * (base * more) = mul_assoc (base ^ count) base more in
    let r : base ^ count * (b + base * more) ≡ base ^ count * b + base ^ count * (base * more) = mul-add (base ^ count) b (base * more) in
    let s : b * base ^ count ≡ base ^ count * b = mul_comm b (base ^ count) in
    rw p (omega arith)

pub value_number : (n v : ℕ) (p : List ℕ) → value_from (λ i b. b * 256 ^ i) n v p ≡ v + 256 ^ n * number p
value_number n v [] = omega arith
value_number n v (b ∷ p) = value_number (n + 1) (v + b * 256 ^ n) p ∙ weigh 256 v n b (number p)

pub value_groups : (n v : ℕ) (p : List ℕ) → value_from (λ i b. b % 128 * 128 ^ i) n v p ≡ v + 128 ^ n * groups p
value_groups n v [] = omega arith
value_groups n v (b ∷ p) = value_groups (n + 1) (v + b % 128 * 128 ^ n) p ∙ weigh 128 v n (b % 128) (groups p)

-- an extension packet's payload
ends_at : (b : ℕ) → (nat_le 128 b && true) ≡ false → b < 128
ends_at b e = grind (arith, nat_tests)

goes_at : (b : ℕ) → (nat_le 128 b && true) ≡ true → 128 ≤ b
goes_at b e = grind (arith, nat_tests)

no_more : (b : ℕ) → (nat_le 128 b && false) ≡ true → ⊥
no_more b e = grind (arith, nat_tests)

ended_by : (b : ℕ) → b < 128 → (nat_le 128 b && true) ≡ false
ended_by b h = grind (arith, nat_tests)

gone_by : (b : ℕ) → 128 ≤ b → (nat_le 128 b && true) ≡ true
gone_by b h = grind (arith, nat_tests)

stopped_by : (b : ℕ) → (nat_le 128 b && false) ≡ false
stopped_by b = grind (arith, nat_tests)

pub extension_filled : (p : List ℕ) → Fills (λ i b. longer 4 i b) 0 p → IsExtended p
extension_filled [] f = tt
extension_filled (a ∷ []) f = ends_at a f
extension_filled (a ∷ (b ∷ [])) f = (goes_at a f.0, ends_at b f.1)
extension_filled (a ∷ (b ∷ (c ∷ []))) f = (goes_at a f.0, goes_at b f.1.0, ends_at c f.1.1)
extension_filled (a ∷ (b ∷ (c ∷ (d ∷ [])))) f = (goes_at a f.0, goes_at b f.1.0, goes_at c f.1.1.0, refl)
extension_filled (a ∷ (b ∷ (c ∷ (d ∷ (e ∷ p))))) f = absurd (no_more d f.1.1.1.0)

pub extension_fills : (b : ℕ) (p : List ℕ) → IsExtended (b ∷ p) → Fills (λ i b. longer 4 i b) 0 (b ∷ p)
extension_fills a [] f = ended_by a f
extension_fills a (b ∷ []) f = (gone_by a f.0, ended_by b f.1)
extension_fills a (b ∷ (c ∷ [])) f = (gone_by a f.0, (gone_by b f.1, ended_by c f.2))
extension_fills a (b ∷ (c ∷ (d ∷ []))) f = (gone_by a f.0, (gone_by b f.1, (gone_by c f.2, stopped_by d)))
extension_fills a (b ∷ (c ∷ (d ∷ (e ∷ p)))) f = (let k : e ∷ p ≡ [] = f.3 in cc)

pub value_extended : (dwt : Bool) (low : ℕ) (p : List ℕ) → IsExtended p → value_from (λ i b. added (Extended true dwt low) i b) 0 0 p ≡ extended p
value_extended dwt low [] f = refl
value_extended dwt low (a ∷ []) f = omega arith
value_extended dwt low (a ∷ (b ∷ [])) f = omega arith
value_extended dwt low (a ∷ (b ∷ (c ∷ []))) f = omega arith
value_extended dwt low (a ∷ (b ∷ (c ∷ (d ∷ [])))) f = omega arith
value_extended dwt low (a ∷ (b ∷ (c ∷ (d ∷ (e ∷ p))))) f = (let k : e ∷ p ≡ [] = f.3 in cc)
