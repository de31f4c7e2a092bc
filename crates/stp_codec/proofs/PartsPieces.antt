-- Nibbles that end a packet, read as numbers.
use Rattle.std.proofs.Common.{◌≡◌, ℕ, zero, suc, ◌+◌, ◌-◌, ◌*◌, ◌/◌, ◌%◌, ◌^◌, ◌⊎◌, inl, inr, ◌<◌, ◌≤◌, List, [], ◌∷◌}
use Rattle.std.proofs.Common.{length, get_or, refl, sym, ◌∙◌, ap, subst, arith, Bool, true, false, cond}
use Rattle.std.specs.Prelude.{◌==◌}
use Rattle.std.proofs.lemmas.Bool.Decides.{nat_tests}
use Rattle.stp_codec.specs.Names.{Next, Go, End, Fail, Whole, walk, nibble_count, Msn, Row, StpPacket, Stamped, Partial}
use Rattle.stp_codec.specs.Names.{Start, Second, Third, Size, Opening, row_at, rule, begin, opened}
use Rattle.stp_codec.specs.Wholes.{between, number_from, Ends, Leaves, left_after, left_by}
use Rattle.stp_codec.specs.declared.flat.TheConstants.{OPCODES}
use Rattle.stp_codec.proofs.Between.{between_first, between_none}
use Rattle.stp_codec.proofs.Finishing.{ends_size, ends_word_at, ends_second, ends_second_zero, ends_third}
use Rattle.stp_codec.proofs.Finishing.{ends_late_third, first_is, next_at, some_word}
use Rattle.stp_codec.proofs.RowTables.{goes, row_goes, number_of_one, number_of_two, number_of_three}

-- what is left of a packet's first nibble
pub leaves_is : (x : Next Partial StpPacket) (t : Partial) → Leaves x t → left_after x ≡ t
leaves_is (Go r) t h = h
leaves_is (End v) t h = sym h
leaves_is (Fail r) t h = absurd h

-- a timestamp's size and word
pub ends_stamp : (xs : List ℕ) (start size word : ℕ) (row : Row) (payload : ℕ) → start < length xs → size ≡ get_or xs start 0 → size < 15 →
    start + 1 + nibble_count size ≤ length xs → word ≡ number_from Msn 0 0 (between xs (start + 1) (start + 1 + nibble_count size)) →
    Ends Msn (Go (Size row payload)) (between xs start (start + 1 + nibble_count size)) (Stamped row payload size word)
ends_stamp xs start size word row payload here is small within value = by (size == 0) refl where
  first : (n : ℕ) → between xs start (start + 1 + n) ≡ size ∷ between xs (start + 1) (start + 1 + n)
  first n =
      between_first xs start (start + 1 + n) (omega arith) here
      ∙ ap (λ b. b ∷ between xs (start + 1) (start + 1 + n)) (sym is)

  by : (t : Bool) → (size == 0) ≡ t →
      Ends Msn (Go (Size row payload)) (between xs start (start + 1 + nibble_count size)) (Stamped row payload size word)
  by true e =
      let zero : size ≡ 0 = grind (arith, nat_tests) in
      let count : nibble_count size ≡ 0 = ap nibble_count zero in
      let none : between xs (start + 1) (start + 1 + nibble_count size) ≡ [] =
      ap (between xs (start + 1)) (let q : start + 1 + nibble_count size ≡ start + 1 = omega arith in q)
      ∙ between_none xs (start + 1) in
      let empty : word ≡ 0 = value ∙ ap (number_from Msn 0 0) none in
      let all : between xs start (start + 1 + nibble_count size) ≡ 0 ∷ [] =
      first (nibble_count size) ∙ ap (λ r. size ∷ r) none ∙ ap (λ n. n ∷ []) zero in
      ap (walk (rule Msn) (Size row payload)) all
      ∙ ap (λ n. Whole (Stamped row payload n 0)) (sym zero) ∙ ap (λ n. Whole (Stamped row payload size n)) (sym empty)
  by false e =
      let some : 0 < size = grind (arith, nat_tests) in
      ap (walk (rule Msn) (Size row payload)) (first (nibble_count size))
      ∙ ends_size Msn row payload size _ _ some small
      (ends_word_at Msn xs (start + 1) (start + 1 + nibble_count size) row payload size 0 0 word (some_word size some) (omega arith)
      within value)

left_goes : (x : Next Partial StpPacket) → goes x ≡ true → (w : List ℕ) (packet : StpPacket) → Ends Msn x w packet →
    Ends Msn (Go (left_after x)) w packet
left_goes (Go t) e w packet k = k
left_goes (End v) e w packet k = cc
left_goes (Fail r) e w packet k = cc

-- but for a NULL, the first nibble of a packet leaves some of it
first_begins : (b : ℕ) → b < 15 → rule Msn Start b ≡ begin (row_at b)
first_begins b h = ap (λ (o : Opening). opened o Second) (first_is Msn b h)

first_goes : (b : ℕ) → 0 < b → b < 16 → goes (rule Msn Start b) ≡ true
first_goes b some small = by (b == 15) refl where
  by : (t : Bool) → (b == 15) ≡ t → goes (rule Msn Start b) ≡ true
  by true e = ap (λ (i : ℕ). goes (rule Msn Start i)) (let q : b ≡ 15 = grind (arith, nat_tests) in q)
  by false e =
      let l : b < 15 = grind (arith, nat_tests) in
      ap goes (first_begins b l) ∙ row_goes b some l

-- an opcode by the table, of three nibbles, the first the least significant
module _ (v : ℕ) (r : List ℕ) (start end : ℕ) (packet : StpPacket) (room : start + 1 < length r)
    (second : v / 16 % 16 ≡ get_or r start 0) (third : v / 256 % 16 ≡ get_or r (start + 1) 0) where
  -- the number, where so many nibbles are before the opcode's last
  abbrev number_after : ℕ → ℕ
  number_after n = get_or OPCODES.now (16 * n + v / 2 ^ (4 * n) % 16) 0

  abbrev Opens : ℕ → Type 0
  Opens n = number_after n < 35 → start + (n + 1) ≤ end + 1 → Ends Msn (begin (row_at (number_after n))) (between r (start + (n + 1) - 1) end) packet →
      Ends Msn (rule Msn Start (v % 16)) (between r start end) packet

  moved : (n m i j : ℕ) → n ≡ m → i ≡ j → Ends Msn (begin (row_at n)) (between r i end) packet → Ends Msn (begin (row_at m)) (between r j end) packet
  moved n m i j a b k =
      subst (λ (x : ℕ). Ends Msn (begin (row_at m)) (between r x end) packet) b
      (subst (λ (x : ℕ). Ends Msn (begin (row_at x)) (between r i end) packet) a k)

  at_index : (n i : ℕ) → 16 * n + v / 2 ^ (4 * n) % 16 ≡ i → number_after n ≡ get_or OPCODES.now i 0
  at_index n i e = ap (λ (k : ℕ). get_or OPCODES.now k 0) e

  opens_one : v % 16 < 15 → Opens 0
  opens_one h small within k =
      let n = at_index 0 (v % 16) (omega arith) in
      subst (λ (x : Next Partial StpPacket). Ends Msn x (between r start end) packet) (sym (first_begins (v % 16) h))
      (moved (number_after 0) (v % 16) (start + (0 + 1) - 1) start (n ∙ number_of_one (v % 16) h) (omega arith) k)

  opens_two : v % 16 ≡ 15 → (v % 256 ≡ 15 → ⊥) → Opens 1
  opens_two f z small within k =
      let b = v / 16 % 16 in
      let n = at_index 1 (16 + b) (omega arith) in
      let some : 0 < b = omega (arith, f, z) in
      let t = number_of_two b some (omega arith) (subst (λ (x : ℕ). x < 35) n small) in
      subst (λ (i : ℕ). Ends Msn (rule Msn Start i) (between r start end) packet) (sym f)
      (next_at Msn Second (begin (row_at (14 + b))) r start end b packet (omega (arith, within)) (omega (arith, room)) second
      (λ q. ends_second Msn b _ packet some t.0 q)
      (moved (number_after 1) (14 + b) (start + (1 + 1) - 1) (start + 1) (n ∙ t.1) (omega arith) k))

  opens_three : v % 256 ≡ 15 → Opens 2
  opens_three f small within k =
      let n = at_index 2 (32 + v / 256 % 16) (omega arith) in
      let long : v % 16 ≡ 15 = omega (arith, f) in
      let zero : v / 16 % 16 ≡ 0 = omega (arith, f) in
      subst (λ (i : ℕ). Ends Msn (rule Msn Start i) (between r start end) packet) (sym long)
      (next_at Msn Second (Go Third) r start end 0 packet (omega (arith, within)) (omega (arith, room)) (sym zero ∙ second)
      (λ q. ends_second_zero Msn (between r (start + 1) end) packet q)
      (by (v / 256 % 16) refl (number_of_three (v / 256 % 16) (omega arith) (subst (λ (x : ℕ). x < 35) n small)) n))
    where
      by : (c : ℕ) → v / 256 % 16 ≡ c →
          ((c < 2) × (get_or OPCODES.now (32 + c) 0 ≡ 29 + c)) ⊎ ((6 ≤ c) × ((c < 10) × (get_or OPCODES.now (32 + c) 0 ≡ 25 + c))) →
          number_after 2 ≡ get_or OPCODES.now (32 + c) 0 → Ends Msn (Go Third) (between r (start + 1) end) packet
      by c e (inl t) n =
          next_at Msn Third (begin (row_at (29 + c))) r (start + 1) end c packet (omega (arith, within)) room (sym e ∙ third)
          (λ q. ends_third Msn c _ packet t.0 q)
          (moved (number_after 2) (29 + c) (start + (2 + 1) - 1) (start + 1 + 1) (n ∙ t.1) (omega arith) k)
      by c e (inr t) n =
          next_at Msn Third (begin (row_at (25 + c))) r (start + 1) end c packet (omega (arith, within)) room (sym e ∙ third)
          (λ q. ends_late_third Msn c _ packet t.0 t.1.0 q)
          (moved (number_after 2) (25 + c) (start + (2 + 1) - 1) (start + 1 + 1) (n ∙ t.1.1) (omega arith) k)

  pub opens : (two three : ℕ) → two ≡ cond (v % 16 == 15) 1 0 → three ≡ cond (v % 256 == 15) 1 0 → Opens (two + three)
  opens two three e f = by (v % 16 == 15) (v % 256 == 15) refl refl where
    sum : (s t : Bool) → (v % 16 == 15) ≡ s → (v % 256 == 15) ≡ t → two + three ≡ cond s 1 0 + cond t 1 0
    sum s t g h = ap (λ (n : ℕ). n + three) (e ∙ ap (λ (x : Bool). cond x 1 0) g) ∙ ap (λ (n : ℕ). cond s 1 0 + n) (f ∙ ap (λ (x : Bool). cond x 1 0) h)

    by : (s t : Bool) → (v % 16 == 15) ≡ s → (v % 256 == 15) ≡ t → Opens (two + three)
    by false false g h = subst Opens (sym (sum false false g h)) (opens_one (let m : v % 16 < 16 = omega arith in grind (arith, nat_tests)))
    by true false g h = subst Opens (sym (sum true false g h)) (opens_two (grind (arith, nat_tests)) (grind (arith, nat_tests)))
    by true true g h = subst Opens (sym (sum true true g h)) (opens_three (grind (arith, nat_tests)))
    by false true g h =
        let a : v % 256 ≡ 15 = grind (arith, nat_tests) in
        let b : v % 16 ≡ 15 = omega (arith, a) in
        absurd (grind (arith, nat_tests))

-- nothing ends a packet that goes on
pub some_nibbles : (t : Partial) (xs : List ℕ) (n : ℕ) (packet : StpPacket) → Ends Msn (Go t) (between xs 0 n) packet → 0 < n
some_nibbles t xs zero packet h = cc
some_nibbles t xs (suc n) packet h = omega arith

-- the first nibble of a packet, which is before the bytes or is their first one
module _ (first nibble start : ℕ) (xs : List ℕ) (n : ℕ) (packet : StpPacket) (nibble_is : nibble ≡ cond (first == 0) (get_or xs 0 0) first)
    (start_is : start ≡ cond (first == 0) 1 0) (within : start ≤ n) (some : 0 < length xs) where
  none_before : (first == 0) ≡ true → (start ≡ 1) × (nibble ≡ get_or xs 0 0)
  none_before e = (start_is ∙ ap (λ (t : Bool). cond t 1 0) e, nibble_is ∙ ap (λ (t : Bool). cond t (get_or xs 0 0) first) e)

  one_before : (first == 0) ≡ false → (start ≡ 0) × (nibble ≡ first)
  one_before e = (start_is ∙ ap (λ (t : Bool). cond t 1 0) e, nibble_is ∙ ap (λ (t : Bool). cond t (get_or xs 0 0) first) e)

  is_zero : (first == 0) ≡ true → first ≡ 0
  is_zero e = grind (arith, nat_tests)

  is_some : (first == 0) ≡ false → 0 < first
  is_some e = grind (arith, nat_tests)

  pub first_whole : nibble < 16 → Ends Msn (rule Msn Start nibble) (between xs start n) packet →
      Ends Msn (Go (left_by Msn first)) (between xs 0 n) packet
  first_whole small k = by (first == 0) refl where
    by : (t : Bool) → (first == 0) ≡ t → Ends Msn (Go (left_by Msn first)) (between xs 0 n) packet
    by true e =
        let z = none_before e in
        subst (λ (b : ℕ). Ends Msn (Go (left_by Msn b)) (between xs 0 n) packet) (sym (is_zero e))
        (next_at Msn Start (rule Msn Start nibble) xs 0 n nibble packet (omega (arith, z.0)) some z.1 (λ r. r)
        (subst (λ (i : ℕ). Ends Msn (rule Msn Start nibble) (between xs i n) packet) z.0 k))
    by false e =
        let z = one_before e in
        let b : first < 16 = (let q = z.1 in omega (arith, q, small)) in
        left_goes (rule Msn Start first) (first_goes first (is_some e) b) (between xs 0 n) packet
        (subst (λ (i : ℕ). Ends Msn (rule Msn Start first) (between xs i n) packet) z.0
        (subst (λ (i : ℕ). Ends Msn (rule Msn Start i) (between xs start n) packet) z.1 k))

-- where none is before the bytes, an opcode takes one nibble more of them
pub place_is : (first from n : ℕ) → from ≡ cond (first == 0) 0 1 → 0 < n → cond (first == 0) 1 0 + n - 1 ≡ n - from
place_is first from n e h = by (first == 0) e where
  by : (t : Bool) → from ≡ cond t 0 1 → cond t 1 0 + n - 1 ≡ n - from
  by true f = omega arith
  by false f = omega arith
