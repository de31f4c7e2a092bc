-- What nibbles spell has its numbers in their ranges.
use Rattle.std.proofs.Common.{◌≡◌, ℕ, suc, ◌*◌, ◌^◌, ◌<◌, ◌≤◌, List, [], ◌∷◌, ◌++◌, length, All, sym, subst, arith}
use Rattle.std.proofs.Math.Nat.{pow-suc, mul-le-mul_left, mul_comm}
use Rattle.std.proofs.Math.Seq.{drop-append_seam}
use Rattle.std.proofs.lemmas.List.Elements.{All-drop, All-cons}
use Rattle.stp_grammar.specs.Names.{nibble_count}
use Rattle.stp_grammar.specs.declared.packet.Order.{Order}
use Rattle.stp_grammar.specs.declared.packet.Order.TheVariants.{Msn, Lsn}
use Rattle.stp_grammar.specs.declared.packet.StpPacket.{StpPacket}
use Rattle.stp_grammar.specs.declared.packet.StpPacket.TheVariants.{Async, Plain, Stamped}
use Rattle.stp_grammar.specs.Opcodes.{line_of}
use Rattle.stp_grammar.specs.Spelling.{Spells, number}
use Rattle.stp_grammar.specs.Proper.{IsProper}

abbrev pub AreNibbles : List ℕ → Type 0
AreNibbles r = All (λ b. b < 16) r

first_is : (b : ℕ) (r : List ℕ) → AreNibbles (b ∷ r) → b < 16
first_is b r h = h 0 b (omega arith)

others_are : (b : ℕ) (r : List ℕ) → AreNibbles (b ∷ r) → AreNibbles r
others_are b r h = λ k d l. h (suc k) d (omega arith)

later_are : (q r : List ℕ) → AreNibbles (q ++ r) → AreNibbles r
later_are q r h = subst AreNibbles (drop-append_seam q r) (All-drop (λ b. b < 16) (length q) (q ++ r) h)

earlier_are : (q r : List ℕ) → AreNibbles (q ++ r) → AreNibbles q
earlier_are [] r h = λ k d l. absurd (omega arith)
earlier_are (b ∷ q) r h = All-cons (λ b. b < 16) b q (first_is b (q ++ r) h) (earlier_are q r (others_are b (q ++ r) h))

-- a number is under the power of its nibbles
number_lt : (order : Order) (r : List ℕ) → AreNibbles r → number order r < 16 ^ length r
number_lt Msn [] h = omega arith
number_lt Msn (b ∷ r) h =
    let n = number_lt Msn r (others_are b r h) in
    let f = first_is b r h in
    let p = pow-suc 16 (length r) in
    let q : 16 ^ length r * b ≤ 16 ^ length r * 15 = mul-le-mul_left (16 ^ length r) (omega arith) in
    let c : b * 16 ^ length r ≡ 16 ^ length r * b = mul_comm b (16 ^ length r) in
    omega (arith, n, p, q, c)
number_lt Lsn [] h = omega arith
number_lt Lsn (b ∷ r) h =
    let n = number_lt Lsn r (others_are b r h) in
    let f = first_is b r h in
    let p = pow-suc 16 (length r) in
    omega (arith, n, f, p)

is_under : (order : Order) (count value : ℕ) (r : List ℕ) → AreNibbles r → length r ≡ count → value ≡ number order r → value < 16 ^ count
is_under order count value r h l e = subst (λ n. value < 16 ^ n) l (subst (λ v. v < 16 ^ length r) (sym e) (number_lt order r h))

pub proper : (order : Order) (packet : StpPacket) (r : List ℕ) → Spells order packet r → AreNibbles r → IsProper packet
proper order Async r s h = tt
proper order (Plain row payload) r s h =
    is_under order (line_of row).payload payload s.0 (later_are (line_of row).opcode s.0 (subst AreNibbles s.3 h)) s.2.0 s.2.1
proper order (Stamped row payload size word) r s h =
    let p = s.0 in
    let w = s.1 in
    let after_opcode = later_are (line_of row).opcode (p ++ (size ∷ w)) (subst AreNibbles s.6 h) in (
      is_under order (line_of row).payload payload p (earlier_are p (size ∷ w) after_opcode) s.3.0 s.3.1,
      (s.4, is_under order (nibble_count size) word w (others_are size w (later_are p (size ∷ w) after_opcode)) s.5.0 s.5.1),
    )
