-- The text of bytes is read as these bytes, and no other text is.
use Rattle.std.proofs.Common.{◌≡◌, ℕ, ◌/◌, ◌%◌, ◌<◌, List, [], ◌∷◌, refl, sym, ◌∙◌, ap, arith, Bool, true, false, cond, not, ◌&&◌}
use Rattle.std.specs.Prelude.{◌==◌}
use Rattle.std.specs.List.{AllByRecursion}
use Rattle.std.proofs.lemmas.Bool.Decides.{nat_tests}
use Rattle.trace_values.specs.Hex.{misspelt, digit, byte_of, is_nothing, hex, character, text_of}

digit_read : (d : ℕ) → d < 16 → digit (character d) ≡ d
digit_read d h = grind (arith, nat_tests)

digit_small : (c : ℕ) → digit c < misspelt → digit c < 16
digit_small c h = grind (arith, nat_tests)

digit_told : (c : ℕ) → digit c < 16 → character (digit c) ≡ c
digit_told c h = grind (arith, nat_tests)

byte_read : (b : ℕ) → b < 256 → byte_of (character (b / 16)) (character (b % 16)) ≡ b
byte_read b h =
    let high = digit_read (b / 16) (omega arith) in
    let low = digit_read (b % 16) (omega arith) in
    omega arith

pub text_read : (bytes : List ℕ) → AllByRecursion (λ b. b < 256) bytes → hex (text_of bytes) ≡ bytes
text_read [] h = refl
text_read (b ∷ bytes) h = by bytes (text_read bytes h.1) where
  by : (l : List ℕ) → hex (text_of l) ≡ l →
      hex (character (b / 16) ∷ (character (b % 16) ∷ (cond (is_nothing l) [] (32 ∷ text_of l)))) ≡ b ∷ l
  by [] k = ap (λ (n : ℕ). n ∷ []) (byte_read b h.0)
  by (c ∷ l) k =
      ap (λ (n : ℕ). n ∷ hex (text_of (c ∷ l))) (byte_read b h.0) ∙ ap (λ (t : List ℕ). b ∷ t) k

-- what two characters are, where they are a byte
record IsPair (high low : ℕ) : Type 0 where
  first : character (byte_of high low / 16) ≡ high
  second : character (byte_of high low % 16) ≡ low

is_pair : (high low : ℕ) → byte_of high low < 256 → IsPair high low
is_pair high low h =
    let a : digit high < 16 = digit_small high (omega arith) in
    let b : digit low < 16 = digit_small low (omega arith) in
    let q : byte_of high low / 16 ≡ digit high = omega arith in
    let r : byte_of high low % 16 ≡ digit low = omega arith in
    record { first = ap character q ∙ digit_told high a; second = ap character r ∙ digit_told low b }

blank_is : (c : ℕ) → (c == 32) ≡ true → c ≡ 32
blank_is c h = grind (arith, nat_tests)

some_read : (c : ℕ) (text : List ℕ) → is_nothing (hex (c ∷ text)) ≡ false
some_read c [] = refl
some_read c (d ∷ []) = refl
some_read c (d ∷ (e ∷ text)) = refl

pub bytes_told : (text : List ℕ) → AllByRecursion (λ b. b < 256) (hex text) → text ≡ text_of (hex text)
bytes_told (high ∷ (low ∷ (between ∷ text))) h = by (between == 32) text refl h (bytes_told text h.1) where
  by : (t : Bool) (l : List ℕ) → (between == 32) ≡ t →
      AllByRecursion (λ b. b < 256) ((cond (t && not (is_nothing l)) (byte_of high low) misspelt) ∷ hex l) → l ≡ text_of (hex l) →
      high ∷ (low ∷ (between ∷ l)) ≡ text_of ((cond (t && not (is_nothing l)) (byte_of high low) misspelt) ∷ hex l)
  by false l e g k = absurd (let n = g.0 in omega arith)
  by true [] e g k = absurd (let n = g.0 in omega arith)
  by true (c ∷ l) e g k =
      let p = is_pair high low g.0 in
      ap (λ (x : ℕ). x ∷ (low ∷ (between ∷ (c ∷ l)))) (sym p.first)
      ∙ ap (λ (x : ℕ). character (byte_of high low / 16) ∷ (x ∷ (between ∷ (c ∷ l)))) (sym p.second)
      ∙ ap (λ (x : ℕ). character (byte_of high low / 16) ∷ (character (byte_of high low % 16) ∷ (x ∷ (c ∷ l)))) (blank_is between e)
      ∙ ap (λ (x : List ℕ). character (byte_of high low / 16) ∷ (character (byte_of high low % 16) ∷ (32 ∷ x))) k
      ∙ ap (λ (t : Bool). character (byte_of high low / 16) ∷ (character (byte_of high low % 16) ∷ (cond t [] (32 ∷ text_of (hex (c ∷ l))))))
      (sym (some_read c l))
bytes_told (high ∷ (low ∷ [])) h =
    let p = is_pair high low h.0 in
    ap (λ (x : ℕ). x ∷ (low ∷ [])) (sym p.first) ∙ ap (λ (x : ℕ). character (byte_of high low / 16) ∷ (x ∷ [])) (sym p.second)
bytes_told (high ∷ []) h = absurd (let n = h.0 in omega arith)
bytes_told [] h = refl
