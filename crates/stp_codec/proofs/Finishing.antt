-- Nibbles that end a packet, from each of its parts on.
use Rattle.std.proofs.Common.{◌≡◌, ℕ, suc, ◌+◌, ◌-◌, ◌<◌, ◌≤◌, List, [], ◌∷◌, ◌++◌, length, get_or, refl, sym, ◌∙◌}
use Rattle.std.proofs.Common.{ap, subst, arith, Bool, true, false, cond}
use Rattle.std.specs.Prelude.{nat_lt, ◌==◌, ◌&&◌, ◌^◌, Option, None, Some, IfSome}
use Rattle.std.proofs.lemmas.Bool.Decides.{nat_tests}
use Rattle.std.proofs.lemmas.List.{append-nil}
use Rattle.stp_codec.specs.Names.{Next, Go, End, Whole, after, walk, nibble_count, Order, Row, StpPacket, Stamped}
use Rattle.stp_codec.specs.Names.{Partial, Second, Third, Payload, Size, Word, line_of, row_at, Opening, rule}
use Rattle.stp_codec.specs.Names.{number_with, begin, after_payload, opened, size_with, is_sound, first_opening}
use Rattle.stp_codec.specs.Names.{second_opening, third_opening}
use Rattle.stp_grammar.specs.Opcodes.{Whole as Opened}
use Rattle.stp_grammar.proofs.Digits.{value_from, stage_whole}
use Rattle.stp_codec.specs.Wholes.{between, number_from, Ends}
use Rattle.stp_codec.proofs.Between.{between_first, between_parts, length-between}

pub number_push : (order : Order) (n v : ℕ) (d : List ℕ) (b : ℕ) → number_from order n v (d ++ b ∷ []) ≡ number_with order (n + length d) (number_from order n v d) b
number_push order n v [] b = ap (λ k. number_with order k v b) (let e : n ≡ n + 0 = omega arith in e)
number_push order n v (c ∷ d) b =
    number_push order (n + 1) (number_with order n v c) d b
    ∙ ap (λ k. number_with order k (number_from order (n + 1) (number_with order n v c) d) b) (let e : n + 1 + length d ≡ n + length (c ∷ d) = omega arith in e)

module _ (order : Order) where
  pub value_is : (n v : ℕ) (d : List ℕ) → value_from order n v d ≡ number_from order n v d
  value_is n v [] = refl
  value_is n v (b ∷ d) = value_is (n + 1) (number_with order n v b) d

  pub ends_word : (row : Row) (payload size n v : ℕ) (d : List ℕ) → n < nibble_count size → n + length d ≡ nibble_count size →
      Ends order (Go (Word row payload size n v)) d (Stamped row payload size (number_from order n v d))
  ends_word row payload size n v d h e =
      ap (walk (rule order) (Word row payload size n v)) (sym (append-nil d))
      ∙ stage_whole order (nibble_count size) (Word row payload size) (λ w. End (Stamped row payload size w)) (λ n v b. refl) n v d [] h e
      ∙ ap (λ w. Whole (Stamped row payload size w)) (value_is n v d)

  pub ends_payload : (row : Row) (n v : ℕ) (d w : List ℕ) (packet : StpPacket) → n < (line_of row).payload → n + length d ≡ (line_of row).payload →
      Ends order (after_payload row (number_from order n v d)) w packet → Ends order (Go (Payload row n v)) (d ++ w) packet
  ends_payload row n v d w packet h e k =
      stage_whole order (line_of row).payload (Payload row) (after_payload row) (λ n v b. refl) n v d w h e
      ∙ ap (λ z. after (after_payload row z) (λ t. walk (rule order) t w) w) (value_is n v d) ∙ k

  pub ends_begin : (row : Row) (d w : List ℕ) (packet : StpPacket) → length d ≡ (line_of row).payload →
      Ends order (after_payload row (number_from order 0 0 d)) w packet → Ends order (begin row) (d ++ w) packet
  ends_begin row [] w packet e k = ap (λ x. after x (λ t. walk (rule order) t w) w) (is_none row (let z : 0 ≡ (line_of row).payload = e in sym z)) ∙ k where
    is_none : (row : Row) → (line_of row).payload ≡ 0 → begin row ≡ after_payload row 0
    is_none row e = let t : ((line_of row).payload == 0) ≡ true = ap (λ n. n == 0) e in rw t refl
  ends_begin row (b ∷ d) w packet e k =
      ap (λ x. after x (λ t. walk (rule order) t ((b ∷ d) ++ w)) ((b ∷ d) ++ w)) (is_some row (length d) e)
      ∙ ends_payload row 0 0 (b ∷ d) w packet (let z : suc (length d) ≡ (line_of row).payload = e in omega (arith, z)) (let z : suc (length d) ≡ (line_of row).payload = e in omega (arith, z)) k
    where
      not_zero : (n m : ℕ) → suc n ≡ m → (m == 0) ≡ false
      not_zero n m e = grind (arith, nat_tests)

      is_some : (row : Row) (n : ℕ) → suc n ≡ (line_of row).payload → begin row ≡ Go (Payload row 0 0)
      is_some row n e = let t : ((line_of row).payload == 0) ≡ false = not_zero n (line_of row).payload e in rw t refl

  -- by the size nibble
  pub ends_size : (row : Row) (payload size : ℕ) (w : List ℕ) (packet : StpPacket) → 0 < size → size < 15 → Ends order (Go (Word row payload size 0 0)) w packet →
      Ends order (Go (Size row payload)) (size ∷ w) packet
  ends_size row payload size w packet h l k = ap (λ x. after x (λ t. walk (rule order) t w) w) (goes row payload size h l) ∙ k where
    is_lt : (n : ℕ) → n < 15 → nat_lt n 15 ≡ true
    is_lt n h = grind (arith, nat_tests)

    not_zero : (n : ℕ) → 0 < n → (n == 0) ≡ false
    not_zero n h = grind (arith, nat_tests)

    goes : (row : Row) (payload size : ℕ) → 0 < size → size < 15 → size_with row payload size ≡ Go (Word row payload size 0 0)
    goes row payload size h l = rw (is_lt size l) (rw (not_zero size h) refl)

  -- by the first nibbles
  pub first_is : (b : ℕ) → b < 15 → first_opening b ≡ Opened (row_at b)
  first_is b h = grind (arith, nat_tests)

  pub second_is : (b : ℕ) → 0 < b → b < 15 → second_opening b ≡ Opened (row_at (14 + b))
  second_is b h l = grind (arith, nat_tests)

  pub not_f : (b : ℕ) → b < 15 → (b == 15) ≡ false
  not_f b h = grind (arith, nat_tests)

  choose : (t : Bool) (x : Next Partial StpPacket) {y z : Next Partial StpPacket} → t ≡ false → y ≡ z → cond t x y ≡ z
  choose true x e f = cc
  choose false x e f = f

  pub second_opens : (b : ℕ) → 0 < b → b < 15 → rule order Second b ≡ begin (row_at (14 + b))
  second_opens b h l = choose (b == 15) _ (not_f b l) (ap (λ (z : Opening). opened z Third) (second_is b h l))

  pub ends_second : (b : ℕ) (w : List ℕ) (packet : StpPacket) → 0 < b → b < 15 → Ends order (begin (row_at (14 + b))) w packet → Ends order (Go Second) (b ∷ w) packet
  ends_second b w packet h l k = ap (λ x. after x (λ t. walk (rule order) t w) w) (second_opens b h l) ∙ k

  third_is : (c : ℕ) → c < 2 → third_opening c ≡ Opened (row_at (29 + c))
  third_is c h = grind (arith, nat_tests)

  late_third_is : (c : ℕ) → 6 ≤ c → c < 10 → third_opening c ≡ Opened (row_at (25 + c))
  late_third_is c h l = grind (arith, nat_tests)

  pub ends_third : (c : ℕ) (w : List ℕ) (packet : StpPacket) → c < 2 → Ends order (begin (row_at (29 + c))) w packet → Ends order (Go Third) (c ∷ w) packet
  ends_third c w packet h k = ap (λ (z : Opening). after (opened z Third) (λ t. walk (rule order) t w) w) (third_is c h) ∙ k

  pub ends_late_third : (c : ℕ) (w : List ℕ) (packet : StpPacket) → 6 ≤ c → c < 10 → Ends order (begin (row_at (25 + c))) w packet → Ends order (Go Third) (c ∷ w) packet
  ends_late_third c w packet h l k = ap (λ (z : Opening). after (opened z Third) (λ t. walk (rule order) t w) w) (late_third_is c h l) ∙ k

  -- a second nibble that goes on
  pub ends_second_zero : (w : List ℕ) (packet : StpPacket) → Ends order (Go Third) w packet → Ends order (Go Second) (0 ∷ w) packet
  ends_second_zero w packet k = k

  -- among the nibbles of bytes
  module _ (xs : List ℕ) (start end : ℕ) where
    parts_of : (n last : ℕ) → end ≡ start + n → end ≤ last → end ≤ length xs → (length (between xs start end) ≡ n) × (between xs start last ≡ between xs start end ++ between xs end last)
    parts_of n last e h l = (
      ap (λ k. length (between xs start k)) e ∙ length-between xs n start (omega (arith, e, l)),
      between_parts xs n start last (omega (arith, e, h)) (omega (arith, e, l)) ∙ ap (λ k. between xs start k ++ between xs k last) (sym e),
    )

    pub ends_word_at : (row : Row) (payload size n v word : ℕ) → n < nibble_count size → end ≡ start + (nibble_count size - n) → end ≤ length xs →
        word ≡ number_from order n v (between xs start end) → Ends order (Go (Word row payload size n v)) (between xs start end) (Stamped row payload size word)
    ends_word_at row payload size n v word h e l k =
        let p = parts_of (nibble_count size - n) end e (omega arith) l in
        ends_word row payload size n v (between xs start end) h (let q = p.0 in omega (arith, q, h)) ∙ ap (λ w. Whole (Stamped row payload size w)) (sym k)

    pub ends_begin_at : (row : Row) (value last : ℕ) (packet : StpPacket) → end ≡ start + ((line_of row).payload - 0) → end ≤ last → end ≤ length xs →
        value ≡ number_from order 0 0 (between xs start end) → Ends order (after_payload row value) (between xs end last) packet → Ends order (begin row) (between xs start last) packet
    ends_begin_at row value last packet e m l k r =
        let p = parts_of ((line_of row).payload - 0) last e m l in
        ap (λ z. after (begin row) (λ t. walk (rule order) t z) z) p.1
        ∙ ends_begin row (between xs start end) (between xs end last) packet (let q = p.0 in omega (arith, q)) (subst (λ z. Ends order (after_payload row z) (between xs end last) packet) k r)

  -- a nibble before them
  pub next_at : (s : Partial) (x : Next Partial StpPacket) (xs : List ℕ) (start end b : ℕ) (packet : StpPacket) → start < end → start < length xs → b ≡ get_or xs start 0 →
      (Ends order x (between xs (start + 1) end) packet → Ends order (Go s) (b ∷ between xs (start + 1) end) packet) → Ends order x (between xs (start + 1) end) packet → Ends order (Go s) (between xs start end) packet
  next_at s x xs start end b packet h l e step k =
      ap (walk (rule order) s) (between_first xs start end h l ∙ ap (λ c. c ∷ between xs (start + 1) end) (sym e)) ∙ step k

pub some_word : (size : ℕ) → 0 < size → 0 < nibble_count size
some_word size h = grind (arith, nat_tests)

-- two facts of the value, if there is one, give a third
pub both_some : {X : Type 0} (r : Option X) {P Q R : X → Type 0} → IfSome r P → IfSome r Q → ((x : X) → P x → Q x → R x) → IfSome r R
both_some None a b h = tt
both_some (Some x) a b h = h x a b
