-- The shortest spelling of a packet spells it, and no spelling is shorter.
use Rattle.std.proofs.Common.{◌≡◌, ℕ, zero, suc, ◌+◌, ◌*◌, ◌/◌, ◌%◌, ◌^◌, ◌<◌, ◌≤◌, List, [], ◌∷◌, ◌++◌, length, length-append, replicate, All, true, refl, sym, ◌∙◌, ap, subst, arith}
use Rattle.std.specs.Prelude.{reverse, nat_lt}
use Rattle.std.specs.List.{list_all}
use Rattle.std.proofs.Math.Nat.{pow-suc, mul_assoc}
use Rattle.std.proofs.lemmas.Bool.Decides.{nat_tests}
use Rattle.std.proofs.lemmas.List.{length-replicate, length-reverse, reverse-append}
use Rattle.std.proofs.lemmas.List.Elements.{All-nil, All-cons, All-append}
use Rattle.stp_grammar.specs.Names.{nibble_count}
use Rattle.stp_grammar.specs.declared.packet.Order.{Order}
use Rattle.stp_grammar.specs.declared.packet.Order.TheVariants.{Msn, Lsn}
use Rattle.stp_grammar.specs.declared.packet.Row.{Row}
use Rattle.stp_grammar.specs.declared.packet.StpPacket.{StpPacket}
use Rattle.stp_grammar.specs.declared.packet.StpPacket.TheVariants.{Async, Plain, Stamped}
use Rattle.stp_grammar.specs.Opcodes.{line_of}
use Rattle.stp_grammar.specs.Spelling.{Spells, IsNumber, number}
use Rattle.stp_grammar.specs.Proper.{IsProper}
use Rattle.stp_grammar.specs.Shortest.{digits, nibbles_of_number, short, IsByRow, HasShortest}
use Rattle.stp_grammar.proofs.EachRow.{passed, each_test}

abbrev AreNibbles : List ℕ → Type 0
AreNibbles r = All (λ b. b < 16) r

all_nibbles : (r : List ℕ) → list_all (λ b. nat_lt b 16) r ≡ true → AreNibbles r
all_nibbles [] e = All-nil (λ b. b < 16)
all_nibbles (b ∷ r) e = let k = passed (nat_lt b 16) e in All-cons (λ b. b < 16) b r (under b k.0) (all_nibbles r k.1) where
  under : (b : ℕ) → nat_lt b 16 ≡ true → b < 16
  under b e = grind (arith, nat_tests)

opcode_nibbles : (row : Row) → AreNibbles (line_of row).opcode
opcode_nibbles row = all_nibbles (line_of row).opcode (each_test (λ row. list_all (λ b. nat_lt b 16) (line_of row).opcode) refl row)

-- the nibbles of a number, the least significant first
digits_len : (count value : ℕ) → length (digits count value) ≡ count
digits_len zero value = refl
digits_len (suc count) value = ap suc (digits_len count (value / 16))

digits_nibbles : (count value : ℕ) → AreNibbles (digits count value)
digits_nibbles zero value = All-nil (λ b. b < 16)
digits_nibbles (suc count) value = All-cons (λ b. b < 16) (value % 16) (digits count (value / 16)) (omega arith) (digits_nibbles count (value / 16))

digits_number : (count value : ℕ) → value < 16 ^ count → value ≡ number Lsn (digits count value)
digits_number zero value h = omega (arith, h)
digits_number (suc count) value h =
    let p = pow-suc 16 count in
    let k = digits_number count (value / 16) (omega (arith, h, p)) in
    omega (arith, k)

-- and the most significant first
msn_more : (r : List ℕ) (b : ℕ) → number Msn (r ++ b ∷ []) ≡ 16 * number Msn r + b
msn_more [] b = omega arith
msn_more (a ∷ r) b =
    let l : length (r ++ b ∷ []) ≡ suc (length r) = (let k = length-append r (b ∷ []) in omega (arith, k)) in
    let p : a * 16 ^ length (r ++ b ∷ []) ≡ a * 16 ^ length r * 16 =
    ap (λ (n : ℕ). a * 16 ^ n) l ∙ ap (λ (z : ℕ). a * z) (pow-suc 16 (length r)) ∙ sym (mul_assoc a (16 ^ length r) 16) in
    let k = msn_more r b in
    omega (arith, p, k)

msn_reverse : (r : List ℕ) → number Msn (reverse r) ≡ number Lsn r
msn_reverse [] = refl
msn_reverse (b ∷ r) = ap (number Msn) (reverse-append (b ∷ []) r) ∙ msn_more (reverse r) b ∙ (let k = msn_reverse r in omega (arith, k))

reverse_nibbles : (r : List ℕ) → AreNibbles r → AreNibbles (reverse r)
reverse_nibbles [] h = All-nil (λ b. b < 16)
reverse_nibbles (b ∷ r) h =
    subst AreNibbles (sym (reverse-append (b ∷ []) r))
    (All-append (λ b. b < 16) (reverse r) (b ∷ []) (reverse_nibbles r (λ k d l. h (suc k) d (omega arith))) (All-cons (λ b. b < 16) b [] (h 0 b (omega arith)) (All-nil (λ b. b < 16))))

pub number_spelled : (order : Order) (count value : ℕ) → value < 16 ^ count → IsNumber order count value (nibbles_of_number order count value)
number_spelled Lsn count value h = (digits_len count value, digits_number count value h)
number_spelled Msn count value h = (length-reverse (digits count value) ∙ digits_len count value, digits_number count value h ∙ sym (msn_reverse (digits count value)))

number_nibbles : (order : Order) (count value : ℕ) → AreNibbles (nibbles_of_number order count value)
number_nibbles Lsn count value = digits_nibbles count value
number_nibbles Msn count value = reverse_nibbles (digits count value) (digits_nibbles count value)

-- a packet
spelled : (order : Order) (packet : StpPacket) → IsProper packet → IsByRow packet → Spells order packet (short order packet)
spelled order Async h f = (21, omega arith, refl)
spelled order (Plain row payload) h f = (nibbles_of_number order (line_of row).payload payload, f, number_spelled order (line_of row).payload payload h, refl)
spelled order (Stamped row payload size word) h f = (
  nibbles_of_number order (line_of row).payload payload,
  nibbles_of_number order (nibble_count size) word,
  f,
  number_spelled order (line_of row).payload payload h.0,
  h.1.0,
  number_spelled order (nibble_count size) word h.1.1,
  refl,
)

nibbles_alone : (order : Order) (packet : StpPacket) → IsProper packet → AreNibbles (short order packet)
nibbles_alone order Async h = all_nibbles (replicate 21 15 ++ 0 ∷ []) refl
nibbles_alone order (Plain row payload) h = All-append (λ b. b < 16) (line_of row).opcode _ (opcode_nibbles row) (number_nibbles order (line_of row).payload payload)
nibbles_alone order (Stamped row payload size word) h =
    All-append (λ b. b < 16) (line_of row).opcode _ (opcode_nibbles row)
    (All-append (λ b. b < 16) (nibbles_of_number order (line_of row).payload payload) _ (number_nibbles order (line_of row).payload payload)
    (All-cons (λ b. b < 16) size (nibbles_of_number order (nibble_count size) word) (let k = h.1.0 in omega arith) (number_nibbles order (nibble_count size) word)))

number_len : (order : Order) (count value : ℕ) → length (nibbles_of_number order count value) ≡ count
number_len Lsn count value = digits_len count value
number_len Msn count value = length-reverse (digits count value) ∙ digits_len count value

least_of : (order : Order) (packet : StpPacket) (r : List ℕ) → Spells order packet r → length (short order packet) ≤ length r
least_of order Async r s =
    let l : length r ≡ s.0 + 1 = ap length s.2 ∙ length-append (replicate s.0 15) (0 ∷ []) ∙ ap (λ n. n + 1) (length-replicate {A = ℕ} s.0 15) in
    let h = s.1 in omega (arith, l, h)
least_of order (Plain row payload) r s =
    let l = ap length s.3 ∙ length-append (line_of row).opcode s.0 in
    let m = length-append (line_of row).opcode (nibbles_of_number order (line_of row).payload payload) in
    let n = number_len order (line_of row).payload payload in
    let k = s.2.0 in omega (arith, l, m, n, k)
least_of order (Stamped row payload size word) r s =
    let p = nibbles_of_number order (line_of row).payload payload in
    let w = nibbles_of_number order (nibble_count size) word in
    let l = ap length s.6 ∙ length-append (line_of row).opcode (s.0 ++ (size ∷ s.1)) in
    let l' = length-append s.0 (size ∷ s.1) in
    let m = length-append (line_of row).opcode (p ++ (size ∷ w)) in
    let m' = length-append p (size ∷ w) in
    let n = number_len order (line_of row).payload payload in
    let n' = number_len order (nibble_count size) word in
    let k = s.3.0 in
    let k' = s.5.0 in omega (arith, l, l', m, m', n, n', k, k')

pub shortest : (order : Order) (packet : StpPacket) → IsProper packet → IsByRow packet → HasShortest order packet
shortest order packet h f = record { spells = spelled order packet h f; nibbles = nibbles_alone order packet h; least = least_of order packet }

pub by_row : (order : Order) (packet : StpPacket) (r : List ℕ) → Spells order packet r → IsByRow packet
by_row order Async r s = tt
by_row order (Plain row payload) r s = s.1
by_row order (Stamped row payload size word) r s = s.2
