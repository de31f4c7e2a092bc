-- The rule decides the grammar.
use Rattle.std.proofs.Common.{◌≡◌, ℕ, zero, suc, ◌+◌, ◌-◌, ◌*◌, ◌^◌, ◌/◌, ◌%◌, ◌<◌, ◌≤◌, List, [], ◌∷◌, ◌++◌, length, length-append, replicate, Bool, true, false, cond, refl, sym, ◌∙◌, ap, subst, ◌⊎◌, inl, inr, arith}
use Rattle.std.proofs.lemmas.List.{length-replicate}
use Rattle.std.proofs.Math.Nat.{pow-suc}
use Rattle.std.specs.Prelude.{nat_lt, ◌==◌, ◌&&◌}
use Rattle.std.proofs.lemmas.Bool.Decides.{nat_tests}
use Rattle.std.proofs.lemmas.Bool.{eqb-true}
use Rattle.itm_grammar.specs.Names.{Reason, BadItmSync, LongStamp, ShortStamp, Next, Go, End, Fail, Walked, Within}
use Rattle.itm_grammar.specs.Names.{Whole, after, Decides}
use Rattle.trace_values.proofs.Walks as walks
use Rattle.itm_grammar.specs.declared.packet.Size.{Size}
use Rattle.itm_grammar.specs.declared.packet.Size.TheVariants.{One, Two, Four}
use Rattle.itm_grammar.specs.declared.packet.Lateness.{Lateness}
use Rattle.itm_grammar.specs.declared.packet.Lateness.TheVariants.{Exact}
use Rattle.itm_grammar.specs.declared.packet.ItmPacket.{ItmPacket}
use Rattle.itm_grammar.specs.declared.packet.ItmPacket.TheVariants.{Sync, Overflow, Software, Hardware, Local, GlobalFirst, GlobalSecond, Extension}
use Rattle.itm_grammar.specs.declared.header.Class.{Class}
use Rattle.itm_grammar.specs.declared.header.Class.TheVariants.{Zero, Overflow as Overflowed, Source, LocalShort, LocalLong, GlobalFirst as First, GlobalSecond as Second, Extension as Extended, Reserved}
use Rattle.itm_grammar.specs.declared.partial.Partial.{Partial}
use Rattle.itm_grammar.specs.declared.partial.Partial.TheVariants.{Header, Zeros, Payload}
use Rattle.itm_grammar.specs.Header.{class_of, is_proper_class}
use Rattle.itm_grammar.specs.Spelling.{Spells, SpellsSource, why, reason_of, byte_count, bit_of, number, groups, more_bit, IsContinued, IsExtended, extended}
use Rattle.itm_grammar.specs.Rule.{rule, begin, last, another_follows, most_bytes, source, second_stamp, count_of}
use Rattle.itm_grammar.proofs.Counting.{counts}
use Rattle.itm_grammar.proofs.Headers.{chosen, header_of, header_is, made}
use Rattle.itm_grammar.proofs.Payloads.{from, says, value_from, last_of, added, payload_cases, payload_sound, payload_complete, Fills, last_ends, fills_count, count_fills, longer, fills_continued, continued_fills, value_number, value_groups, extension_filled, extension_fills, value_extended}

stop_whole : (v w : ItmPacket) (k : Partial → Walked Partial ItmPacket) (p : List ℕ) → after (End v) k p ≡ Whole w → (w ≡ v) × (p ≡ [])
stop_whole v w k [] e = (cc, refl)
stop_whole v w k (b ∷ p) e = cc

-- a first global timestamp of this many bytes, whose groups are this number
abbrev pub first_stamp : ℕ → ℕ → ItmPacket
first_stamp count value = GlobalFirst count (value % 2 ^ 26) ((value / 2 ^ 26) % 2 == 1) ((value / 2 ^ 27) % 2 == 1)

-- bytes 00 and what ends them
abbrev pub zeros_with : ℕ → ℕ → Next Partial ItmPacket
zeros_with n b = rule (Zeros n) b

pub zeros_cases : (n b : ℕ) →
    ((b ≡ 0) × (zeros_with n b ≡ Go (Zeros (n + 1)))) ⊎ ((b ≡ 128) × (5 ≤ n) × (zeros_with n b ≡ End Sync)) ⊎ (zeros_with n b ≡ Fail BadItmSync)
zeros_cases n b = grind (arith, nat_tests)

zeros_stop : (n : ℕ) → 5 ≤ n → zeros_with n 128 ≡ End Sync
zeros_stop n h = grind (arith, nat_tests)

-- more bytes 00 are counted, and nothing else
pub walk_zeros : (k n : ℕ) (w : List ℕ) → from (Zeros n) (replicate k 0 ++ w) ≡ from (Zeros (n + k)) w
walk_zeros zero n w = ap (λ (m : ℕ). from (Zeros m) w) (let e : n ≡ n + 0 = omega arith in e)
walk_zeros (suc k) n w = walk_zeros k (n + 1) w ∙ ap (λ (m : ℕ). from (Zeros m) w) (let e : n + 1 + k ≡ n + suc k = omega arith in e)

zeros_end : (n : ℕ) → 5 ≤ n → from (Zeros n) (128 ∷ []) ≡ Whole Sync
zeros_end n h = says (zeros_with n 128) (End Sync) [] (zeros_stop n h)

zeros_complete : (k n : ℕ) → 5 ≤ n + k → from (Zeros n) (replicate k 0 ++ 128 ∷ []) ≡ Whole Sync
zeros_complete k n h = walk_zeros k n (128 ∷ []) ∙ zeros_end (n + k) h

zeros_sound : (n : ℕ) (p : List ℕ) (v : ItmPacket) → from (Zeros n) p ≡ Whole v → (v ≡ Sync) × (k : ℕ) × (5 ≤ n + k) × (p ≡ replicate k 0 ++ 128 ∷ [])
zeros_sound n [] v e = cc
zeros_sound n (b ∷ p) v e = elim (zeros_cases n b) [
  | inl m ↦
      let s = zeros_sound (n + 1) p v (sym (says (zeros_with n b) (Go (Zeros (n + 1))) p m.1) ∙ e) in
      (s.0, suc s.1, (let h = s.2 in omega arith), (let a : b ≡ 0 = m.0 in let q : p ≡ replicate s.1 0 ++ 128 ∷ [] = s.3 in cc))
  | inr m ↦ elim m [
    | inl o ↦
        let t = stop_whole Sync v (λ t. from t p) p (sym (says (zeros_with n b) (End Sync) p o.2) ∙ e) in
        (t.0, 0, (let h = o.1 in omega arith), (let a : b ≡ 128 = o.0 in let q : p ≡ [] = t.1 in cc))
    | inr o ↦ (let k = sym (says (zeros_with n b) (Fail BadItmSync) p o) ∙ e in cc)
  ]
]

some_count : (size : Size) → 0 < byte_count size
some_count One = omega arith
some_count Two = omega arith
some_count Four = omega arith

-- the parts of a first global timestamp, from its 28 bits and back
parts : (g : ℕ) → g < 2 ^ 28 → (g % 2 ^ 26 < 2 ^ 26) × (g ≡ g % 2 ^ 26 + 2 ^ 26 * bit_of ((g / 2 ^ 26) % 2 == 1) + 2 ^ 27 * bit_of ((g / 2 ^ 27) % 2 == 1))
parts g h =
    let a = bit_is (g / 2 ^ 26) in
    let b = bit_is (g / 2 ^ 27) in
    (omega arith, rw (a, b) (omega arith))
  where
    bit_is : (n : ℕ) → bit_of (n % 2 == 1) ≡ n % 2
    bit_is n = elim (two (n % 2) (omega arith)) [ inl m ↦ rw m refl | inr m ↦ rw m refl ] where
      two : (k : ℕ) → k < 2 → (k ≡ 0) ⊎ (k ≡ 1)
      two k h = grind arith

joined : (n g value : ℕ) (change wrap : Bool) → value < 2 ^ 26 → g ≡ value + 2 ^ 26 * bit_of change + 2 ^ 27 * bit_of wrap → first_stamp n g ≡ GlobalFirst n value change wrap
joined n g value change wrap h e =
    let a : g % 2 ^ 26 ≡ value = low change wrap e in
    let b = bits change wrap e in
    rw (a, b.0, b.1) refl
  where
    one : (k : ℕ) (b : Bool) → k ≡ bit_of b → (k == 1) ≡ b
    one k true e = rw e refl
    one k false e = rw e refl

    low : (change wrap : Bool) → g ≡ value + 2 ^ 26 * bit_of change + 2 ^ 27 * bit_of wrap → g % 2 ^ 26 ≡ value
    low true true e = omega arith
    low true false e = omega arith
    low false true e = omega arith
    low false false e = omega arith

    bits : (change wrap : Bool) → g ≡ value + 2 ^ 26 * bit_of change + 2 ^ 27 * bit_of wrap → (((g / 2 ^ 26) % 2 == 1) ≡ change) × (((g / 2 ^ 27) % 2 == 1) ≡ wrap)
    bits true true e = (one ((g / 2 ^ 26) % 2) true (omega arith), one ((g / 2 ^ 27) % 2) true (omega arith))
    bits true false e = (one ((g / 2 ^ 26) % 2) true (omega arith), one ((g / 2 ^ 27) % 2) false (omega arith))
    bits false true e = (one ((g / 2 ^ 26) % 2) false (omega arith), one ((g / 2 ^ 27) % 2) true (omega arith))
    bits false false e = (one ((g / 2 ^ 26) % 2) false (omega arith), one ((g / 2 ^ 27) % 2) false (omega arith))

-- groups of no more than this many bytes fit their bits
positive : (n : ℕ) → 0 < 128 ^ n
positive zero = omega arith
positive (suc n) = let k = positive n in let e : 128 ^ suc n ≡ 128 ^ n * 128 = pow-suc 128 n in rw e (omega arith)

pub fits_within : (p : List ℕ) (n : ℕ) → length p ≤ n → groups p < 128 ^ n
fits_within [] n h = positive n
fits_within (b ∷ p) zero h = absurd (omega arith)
fits_within (b ∷ p) (suc n) h =
    let k = fits_within p n (omega arith) in
    let e : 128 ^ suc n ≡ 128 ^ n * 128 = pow-suc 128 n in
    rw e (omega arith)

pub below : (n most : ℕ) → nat_lt n most ≡ true → n < most
below n most e = grind (arith, nat_tests)

is_below : (n most : ℕ) → n < most → nat_lt n most ≡ true
is_below n most h = grind (arith, nat_tests)

pub between : (n : ℕ) → (nat_lt 0 n && nat_lt n 7) ≡ true → (0 < n) × (n < 7)
between n e = grind (arith, nat_tests)

stopped : (x v : ItmPacket) → (let s : Next Partial ItmPacket = End x in s ≡ End v) → v ≡ x
stopped x v e = cc

-- whole are only spellings, class by class
source_sound : (h : ℕ) (hardware : Bool) (n : ℕ) (size : Size) (p : List ℕ) (v : ItmPacket) → class_of h ≡ Source hardware n size → from (Payload (Source hardware n size) 0 0) p ≡ Whole v →
    SpellsSource (bit_of hardware) n size (number p) (h ∷ p) × (v ≡ source hardware n size (number p))
source_sound h hardware n size p v k e =
    let c = Source hardware n size in
    let f = payload_sound c 0 0 p v e in
    let a = header_is h c k (λ e. cc) in
    let l : 0 + length p ≡ byte_count size = fills_count (byte_count size) 0 p (some_count size) f.fills in
    let w : value_from (λ i b. b * 256 ^ i) 0 0 p ≡ 0 + 256 ^ 0 * number p = value_number 0 0 p in
    let w' : value_from (λ i b. b * 256 ^ i) 0 0 p ≡ number p = omega arith in
    let s : (let x : Next Partial ItmPacket = End (source hardware n size (value_from (λ i b. b * 256 ^ i) 0 0 p)) in x ≡ End v) = f.ends in
    let q : source hardware n size (value_from (λ i b. b * 256 ^ i) 0 0 p) ≡ v = cc in
    ((p, below n 32 a.1, ap (λ (i : ℕ). i ∷ p) a.0, omega arith, refl), sym q ∙ ap (source hardware n size) w')

-- the number of a payload of seven bits a byte
groups_whole : (p : List ℕ) → value_from (λ i b. b % 128 * 128 ^ i) 0 0 p ≡ groups p
groups_whole p = let w = value_groups 0 0 p in omega arith

-- such a payload ends with its last byte, and what ends with it is said of its groups
stamped_whole : (most : ℕ) (p : List ℕ) (v : ItmPacket) (says : ℕ → ℕ → Next Partial ItmPacket) → 0 < most → Fills (λ i b. longer most i b) 0 p →
    cond (nat_lt (last_of p) 128) (says (0 + length p) (value_from (λ i b. b % 128 * 128 ^ i) 0 0 p)) (Fail LongStamp) ≡ End v →
    IsContinued p × (length p ≤ most) × (says (length p) (groups p) ≡ End v)
stamped_whole most p v says h f e = elim (chosen (nat_lt (last_of p) 128) e) [
  | inl m ↦
      let t = fills_continued most 0 p h f (below (last_of p) 128 m.0) in
      let z : length p ≡ 0 + length p = omega arith in
      (t.0, (let l = t.1 in omega arith), ap (says (length p)) (sym (groups_whole p)) ∙ ap (λ (n : ℕ). says n (value_from (λ i b. b % 128 * 128 ^ i) 0 0 p)) z ∙ m.1)
  | inr m ↦ (let s = m.1 in cc)
]

local_sound : (h : ℕ) (lateness : Lateness) (p : List ℕ) (v : ItmPacket) → class_of h ≡ LocalLong lateness → from (Payload (LocalLong lateness) 0 0) p ≡ Whole v → Spells v (h ∷ p)
local_sound h lateness p v k e =
    let f = payload_sound (LocalLong lateness) 0 0 p v e in
    let m = stamped_whole 4 p v (λ _ n. End (Local lateness n)) (omega arith) f.fills f.ends in
    subst (λ (x : ItmPacket). Spells x (h ∷ p)) (sym (stopped _ v m.2))
    (inr (p, ap (λ (i : ℕ). i ∷ p) (header_is h (LocalLong lateness) k (λ e. cc)).0, m.0, m.1, refl))

first_sound : (h : ℕ) (p : List ℕ) (v : ItmPacket) → class_of h ≡ First → from (Payload First 0 0) p ≡ Whole v → Spells v (h ∷ p)
first_sound h p v k e =
    let f = payload_sound First 0 0 p v e in
    let m = stamped_whole 4 p v (λ i n. End (first_stamp i n)) (omega arith) f.fills f.ends in
    let d = parts (groups p) (fits_within p 4 m.1) in
    subst (λ (x : ItmPacket). Spells x (h ∷ p)) (sym (stopped _ v m.2))
    (p, ap (λ (i : ℕ). i ∷ p) (header_is h First k (λ e. cc)).0, m.0, refl, m.1, d.0, d.1)

second_sound : (h : ℕ) (p : List ℕ) (v : ItmPacket) → class_of h ≡ Second → from (Payload Second 0 0) p ≡ Whole v → Spells v (h ∷ p)
second_sound h p v k e =
    let f = payload_sound Second 0 0 p v e in
    let m = stamped_whole 6 p v second_stamp (omega arith) f.fills f.ends in
    let a = header_is h Second k (λ e. cc) in
    elim (chosen (length p == 4) m.2) [
      | inl o ↦
          subst (λ (x : ItmPacket). Spells x (h ∷ p)) (sym (stopped _ v o.1)) (p, ap (λ (i : ℕ). i ∷ p) a.0, m.0, eqb-true (length p) 4 o.0, refl)
      | inr o ↦ elim (chosen (length p == 6) o.1) [
        | inl u ↦
            subst (λ (x : ItmPacket). Spells x (h ∷ p)) (sym (stopped _ v u.1)) (p, ap (λ (i : ℕ). i ∷ p) a.0, m.0, eqb-true (length p) 6 u.0, refl)
        | inr u ↦ (let s = u.1 in cc)
      ]
    ]

extension_sound : (h : ℕ) (dwt : Bool) (low : ℕ) (p : List ℕ) (v : ItmPacket) → class_of h ≡ Extended true dwt low → from (Payload (Extended true dwt low) 0 0) p ≡ Whole v → Spells v (h ∷ p)
extension_sound h dwt low [] v k e = cc
extension_sound h dwt low (b ∷ p) v k e =
    let c = Extended true dwt low in
    let f = payload_sound c 0 0 (b ∷ p) v e in
    let a = header_is h c k (λ e. cc) in
    let x = extension_filled (b ∷ p) f.fills in
    let w = value_extended dwt low (b ∷ p) x in
    let q : v ≡ Extension dwt (low + 8 * value_from (λ i b. added (Extended true dwt low) i b) 0 0 (b ∷ p)) = stopped _ v f.ends in
    let r : v ≡ Extension dwt (low + 8 * extended (b ∷ p)) = q ∙ ap (λ (n : ℕ). Extension dwt (low + 8 * n)) w in
    subst (λ (x : ItmPacket). Spells x (h ∷ (b ∷ p))) (sym r) (low, b ∷ p, below low 8 a.1, ap (λ (i : ℕ). i ∷ (b ∷ p)) a.0, x, refl)

-- whole are only spellings
class_sound : (c : Class) (h : ℕ) (p : List ℕ) (v : ItmPacket) → class_of h ≡ c → after (begin c) (λ t. from t p) p ≡ Whole v → Spells v (h ∷ p)
class_sound Zero h p v k e =
    let z = zeros_sound 1 p v e in
    let q : p ≡ replicate z.1 0 ++ 128 ∷ [] = z.3 in
    let a : h ≡ 0 = (header_is h Zero k (λ e. cc)).0 in
    let n : 5 ≤ 1 + z.1 = z.2 in
    subst (λ (x : ItmPacket). Spells x (h ∷ p)) (sym z.0) (suc z.1, omega arith, (let r : h ∷ p ≡ replicate (suc z.1) 0 ++ 128 ∷ [] = cc in r))
class_sound Overflowed h p v k e =
    let s = stop_whole Overflow v (λ t. from t p) p e in
    let a : h ≡ 112 = (header_is h Overflowed k (λ e. cc)).0 in
    let q : p ≡ [] = s.1 in
    subst (λ (x : ItmPacket). Spells x (h ∷ p)) (sym s.0) (let r : h ∷ p ≡ 112 ∷ [] = cc in r)
class_sound (Source true n size) h p v k e =
    let s = source_sound h true n size p v k e in subst (λ (x : ItmPacket). Spells x (h ∷ p)) (sym s.1) s.0
class_sound (Source false n size) h p v k e =
    let s = source_sound h false n size p v k e in subst (λ (x : ItmPacket). Spells x (h ∷ p)) (sym s.1) s.0
class_sound (LocalShort delta) h p v k e =
    let s = stop_whole (Local Exact delta) v (λ t. from t p) p e in
    let c = LocalShort delta in
    let a = header_is h c k (λ e. cc) in
    let b = between delta a.1 in
    let q : p ≡ [] = s.1 in
    subst (λ (x : ItmPacket). Spells x (h ∷ p)) (sym s.0) (inl (refl, b.0, b.1, (let g : h ≡ 16 * delta = a.0 in let r : h ∷ p ≡ (16 * delta) ∷ [] = cc in r)))
class_sound (LocalLong lateness) h p v k e = local_sound h lateness p v k e
class_sound First h p v k e = first_sound h p v k e
class_sound Second h p v k e = second_sound h p v k e
class_sound (Extended false dwt low) h p v k e =
    let s = stop_whole (Extension dwt low) v (λ t. from t p) p e in
    let c = Extended false dwt low in
    let a = header_is h c k (λ e. cc) in
    let q : p ≡ [] = s.1 in
    let n : low ≡ low + 8 * 0 = omega arith in
    subst (λ (x : ItmPacket). Spells x (h ∷ p)) (sym s.0)
    (low, [], below low 8 a.1, (let g : h ≡ 128 * 0 + 16 * low + 4 * bit_of dwt + 8 = a.0 in let r : h ∷ p ≡ (128 * 0 + 16 * low + 4 * bit_of dwt + 8) ∷ [] = cc in r), tt, n)
class_sound (Extended true dwt low) h p v k e = extension_sound h dwt low p v k e
class_sound Reserved h p v k e = cc

sound : (v : ItmPacket) (r : List ℕ) → from Header r ≡ Whole v → Spells v r
sound v [] e = cc
sound v (h ∷ p) e = class_sound (class_of h) h p v refl e

-- and all of them are: a header of a class, and what is whole after it
class_whole : (c : Class) (p : List ℕ) (v : ItmPacket) → is_proper_class c ≡ true → (c ≡ Reserved → ⊥) → after (begin c) (λ t. from t p) p ≡ Whole v → from Header (header_of c ∷ p) ≡ Whole v
class_whole c p v a n e = says (begin (class_of (header_of c))) (begin c) p (ap begin (made c a n)) ∙ e

source_complete : (hardware : Bool) (n : ℕ) (size : Size) (value : ℕ) (r : List ℕ) → SpellsSource (bit_of hardware) n size value r → from Header r ≡ Whole (source hardware n size value)
source_complete hardware n size value r s =
    let p = s.0 in
    let c = Source hardware n size in
    let w : value_from (λ i b. b * 256 ^ i) 0 0 p ≡ 0 + 256 ^ 0 * number p = value_number 0 0 p in
    let x : value_from (λ i b. b * 256 ^ i) 0 0 p ≡ value = (let e = s.4 in omega arith) in
    rw s.2 (class_whole c p (source hardware n size value) (is_below n 32 s.1) (λ e. cc)
    (payload_complete c 0 0 p (source hardware n size value) (record {
      fills = count_fills (byte_count size) 0 p (some_count size) (let l = s.3 in omega arith);
      ends = ap (λ (i : ℕ). (let y : Next Partial ItmPacket = End (source hardware n size i) in y)) x;
    })))

-- what a choice by a test gives where the test is true
taken : (t : Bool) (x y z : Next Partial ItmPacket) → t ≡ true → x ≡ z → cond t x y ≡ z
taken true x y z e h = h
taken false x y z e h = cc

-- and so a payload of seven bits a byte ends
stamped_complete : (most : ℕ) (p : List ℕ) (v : ItmPacket) (says : ℕ → ℕ → Next Partial ItmPacket) → IsContinued p → length p ≤ most → says (length p) (groups p) ≡ End v →
    Fills (λ i b. longer most i b) 0 p × (cond (nat_lt (last_of p) 128) (says (0 + length p) (value_from (λ i b. b % 128 * 128 ^ i) 0 0 p)) (Fail LongStamp) ≡ End v)
stamped_complete most p v says h l e =
    let m = continued_fills most 0 p h (omega arith) in
    let z : 0 + length p ≡ length p = omega arith in
    (m.0, taken (nat_lt (last_of p) 128) _ _ (End v) (is_below (last_of p) 128 m.1) (ap (says (0 + length p)) (groups_whole p) ∙ ap (λ (i : ℕ). says i (groups p)) z ∙ e))

local_complete : (lateness : Lateness) (p : List ℕ) → IsContinued p → length p ≤ 4 → from (Payload (LocalLong lateness) 0 0) p ≡ Whole (Local lateness (groups p))
local_complete lateness p h l =
    let m = stamped_complete 4 p (Local lateness (groups p)) (λ _ n. End (Local lateness n)) h l refl in
    payload_complete (LocalLong lateness) 0 0 p (Local lateness (groups p)) (record { fills = m.0; ends = m.1 })

first_complete : (p : List ℕ) → IsContinued p → length p ≤ 4 → from (Payload First 0 0) p ≡ Whole (first_stamp (length p) (groups p))
first_complete p h l =
    let m = stamped_complete 4 p (first_stamp (length p) (groups p)) (λ i n. End (first_stamp i n)) h l refl in
    payload_complete First 0 0 p (first_stamp (length p) (groups p)) (record { fills = m.0; ends = m.1 })

second_complete : (p : List ℕ) (x : ItmPacket) → IsContinued p → length p ≤ 6 → second_stamp (length p) (groups p) ≡ End x → from (Payload Second 0 0) p ≡ Whole x
second_complete p x h l e =
    let m = stamped_complete 6 p x second_stamp h l e in
    payload_complete Second 0 0 p x (record { fills = m.0; ends = m.1 })

second_of : (n g k : ℕ) (x : ItmPacket) → n ≡ k → second_stamp k g ≡ End x → second_stamp n g ≡ End x
second_of n g k x e h = rw e h

extension_complete : (dwt : Bool) (low : ℕ) (p : List ℕ) → low < 8 → IsExtended p → from Header ((128 * more_bit p + 16 * low + 4 * bit_of dwt + 8) ∷ p) ≡ Whole (Extension dwt (low + 8 * extended p))
extension_complete dwt low [] h x =
    let c = Extended false dwt low in
    let n : low ≡ low + 8 * 0 = omega arith in
    class_whole c [] (Extension dwt (low + 8 * 0)) (is_below low 8 h) (λ e. cc) (ap (λ (i : ℕ). (let y : Walked Partial ItmPacket = Whole (Extension dwt i) in y)) n)
extension_complete dwt low (b ∷ p) h x =
    let c = Extended true dwt low in
    let w = value_extended dwt low (b ∷ p) x in
    class_whole c (b ∷ p) (Extension dwt (low + 8 * extended (b ∷ p))) (is_below low 8 h) (λ e. cc)
    (payload_complete c 0 0 (b ∷ p) (Extension dwt (low + 8 * extended (b ∷ p))) (record {
      fills = extension_fills b p x;
      ends = ap (λ (i : ℕ). (let y : Next Partial ItmPacket = End (Extension dwt (low + 8 * i)) in y)) w;
    }))

whole_of : (v w : ItmPacket) (x : Walked Partial ItmPacket) → x ≡ Whole v → v ≡ w → x ≡ Whole w
whole_of v w x e h = e ∙ ap (λ (i : ItmPacket). (let y : Walked Partial ItmPacket = Whole i in y)) h

complete : (v : ItmPacket) (r : List ℕ) → Spells v r → from Header r ≡ Whole v
complete Sync r s = rw s.2 (zero_first s.0 s.1) where
  zero_first : (zeros : ℕ) → 5 ≤ zeros → from Header (replicate zeros 0 ++ 128 ∷ []) ≡ Whole Sync
  zero_first zero h = absurd (omega arith)
  zero_first (suc k) h = zeros_complete k 1 (omega arith)
complete Overflow r s = rw s refl
complete (Software port size value) r s = source_complete false port size value r s
complete (Hardware disc size value) r s = source_complete true disc size value r s
complete (Local lateness delta) r (inl s) =
    rw s.3 (whole_of (Local Exact delta) (Local lateness delta) (from Header ((16 * delta) ∷ []))
    (class_whole (LocalShort delta) [] (Local Exact delta) (within delta s.1 s.2) (λ e. cc) refl)
    (ap (λ (l : Lateness). Local l delta) (sym s.0)))
  where
    within : (n : ℕ) → 0 < n → n < 7 → (nat_lt 0 n && nat_lt n 7) ≡ true
    within n h k = grind (arith, nat_tests)
complete (Local lateness delta) r (inr s) =
    rw s.1 (whole_of (Local lateness (groups s.0)) (Local lateness delta) (from Header (header_of (LocalLong lateness) ∷ s.0))
    (class_whole (LocalLong lateness) s.0 (Local lateness (groups s.0)) refl (λ e. cc) (local_complete lateness s.0 s.2 s.3))
    (ap (Local lateness) (sym s.4)))
complete (GlobalFirst len value change wrap) r s =
    rw s.1 (whole_of (first_stamp (length s.0) (groups s.0)) (GlobalFirst len value change wrap) (from Header (148 ∷ s.0))
    (class_whole First s.0 (first_stamp (length s.0) (groups s.0)) refl (λ e. cc) (first_complete s.0 s.2 (let a = s.3 in let b = s.4 in omega arith)))
    (joined (length s.0) (groups s.0) value change wrap s.5 s.6 ∙ ap (λ (n : ℕ). GlobalFirst n value change wrap) s.3))
complete (GlobalSecond false value) r s =
    rw s.1 (whole_of (GlobalSecond false (groups s.0 % 2 ^ 22)) (GlobalSecond false value) (from Header (180 ∷ s.0))
    (class_whole Second s.0 (GlobalSecond false (groups s.0 % 2 ^ 22)) refl (λ e. cc)
    (second_complete s.0 (GlobalSecond false (groups s.0 % 2 ^ 22)) s.2 (let l = s.3 in omega arith) (second_of (length s.0) (groups s.0) 4 (GlobalSecond false (groups s.0 % 2 ^ 22)) s.3 refl)))
    (ap (GlobalSecond false) (sym s.4)))
complete (GlobalSecond true value) r s =
    rw s.1 (whole_of (GlobalSecond true (groups s.0 % 2 ^ 38)) (GlobalSecond true value) (from Header (180 ∷ s.0))
    (class_whole Second s.0 (GlobalSecond true (groups s.0 % 2 ^ 38)) refl (λ e. cc)
    (second_complete s.0 (GlobalSecond true (groups s.0 % 2 ^ 38)) s.2 (let l = s.3 in omega arith) (second_of (length s.0) (groups s.0) 6 (GlobalSecond true (groups s.0 % 2 ^ 38)) s.3 refl)))
    (ap (GlobalSecond true) (sym s.4)))
complete (Extension dwt value) r s =
    rw s.3 (whole_of (Extension dwt (s.0 + 8 * extended s.1)) (Extension dwt value) (from Header ((128 * more_bit s.1 + 16 * s.0 + 4 * bit_of dwt + 8) ∷ s.1))
    (extension_complete dwt s.0 s.1 s.2 s.4)
    (ap (Extension dwt) (sym s.5)))

-- what a state has of the header's class and of how many bytes are after the header
abbrev pub Belongs : Class → ℕ → Partial → Type 0
Belongs c n Header = ⊥
Belongs c n (Zeros count) = c ≡ Zero
Belongs c n (Payload d count value) = (d ≡ c) × (count ≡ n) × (count < most_bytes d)

began : (c : Class) (t : Partial) → begin c ≡ Go t → Belongs c 0 t
began Zero t e = (let k : t ≡ Zeros 1 = cc in subst (Belongs Zero 0) (sym k) refl)
began Overflowed t e = cc
began (Source hardware number size) t e =
    let c = Source hardware number size in
    let k : t ≡ Payload c 0 0 = cc in subst (Belongs c 0) (sym k) (refl, refl, some_count size)
began (LocalLong lateness) t e = let c = LocalLong lateness in let k : t ≡ Payload c 0 0 = cc in subst (Belongs c 0) (sym k) (refl, refl, omega arith)
began First t e = let k : t ≡ Payload First 0 0 = cc in subst (Belongs First 0) (sym k) (refl, refl, omega arith)
began Second t e = let k : t ≡ Payload Second 0 0 = cc in subst (Belongs Second 0) (sym k) (refl, refl, omega arith)
began (Extended true dwt low) t e = let c = Extended true dwt low in let k : t ≡ Payload c 0 0 = cc in subst (Belongs c 0) (sym k) (refl, refl, omega arith)
began x t e = cc

longer_under : (most n b : ℕ) → longer most n b ≡ true → n + 1 < most
longer_under most n b e = grind (arith, nat_tests)

pub goes_under : (c : Class) (n b : ℕ) → another_follows c n b ≡ true → n + 1 < most_bytes c
goes_under Zero n b e = longer_under 0 n b e
goes_under Overflowed n b e = longer_under 0 n b e
goes_under (Source hardware number size) n b e = lower (byte_count size) e where
  lower : (m : ℕ) → nat_lt (n + 1) m ≡ true → n + 1 < m
  lower m e = grind (arith, nat_tests)
goes_under (LocalShort delta) n b e = longer_under 0 n b e
goes_under (LocalLong lateness) n b e = longer_under 4 n b e
goes_under First n b e = longer_under 4 n b e
goes_under Second n b e = longer_under 6 n b e
goes_under (Extended true dwt low) n b e = longer_under 4 n b e
goes_under (Extended false dwt low) n b e = longer_under 0 n b e
goes_under Reserved n b e = longer_under 0 n b e

keeps : (c : Class) (n : ℕ) (s t : Partial) (b : ℕ) → Belongs c n s → rule s b ≡ Go t → Belongs c (n + 1) t
keeps c n Header t b h e = absurd h
keeps c n (Zeros count) t b h e = elim (zeros_cases count b) [
  | inl m ↦ (let k = m.1 in let q : t ≡ Zeros (count + 1) = cc in subst (Belongs c (n + 1)) (sym q) h)
  | inr m ↦ elim m [ inl o ↦ (let k = o.2 in cc) | inr o ↦ cc ]
]
keeps c n (Payload d count value) t b h e = elim (payload_cases d count value b) [
  | inl m ↦
      let k = m.1 in
      let q : t ≡ Payload d (count + 1) (value + added d count b) = cc in
      subst (Belongs c (n + 1)) (sym q) (h.0, ap (λ (i : ℕ). i + 1) h.1, goes_under d count b m.0)
  | inr m ↦ absurd (last_ends d (count + 1) (value + added d count b) b t (sym m.1 ∙ e))
]

-- a walk that goes on does so by its first byte
went_on : (x : Next Partial ItmPacket) (k : Partial → Walked Partial ItmPacket) (p : List ℕ) (t : Partial) → after x k p ≡ Within t →
    (u : Partial) × (x ≡ Go u) × (k u ≡ Within t)
went_on (Go u) k p t e = (u, refl, e)
went_on (End v) k [] t e = cc
went_on (End v) k (b ∷ p) t e = cc
went_on (Fail f) k p t e = cc

reached : (c : Class) (n : ℕ) (s t : Partial) (r : List ℕ) → Belongs c n s → from s r ≡ Within t → Belongs c (n + length r) t
reached c n s t [] h e =
    let z : n ≡ n + 0 = omega arith in
    subst (λ (i : ℕ). Belongs c i t) z (subst (Belongs c n) (let k : s ≡ t = cc in k) h)
reached c n s t (b ∷ p) h e =
    let m = went_on (rule s b) (λ u. from u p) p t e in
    let z : n + 1 + length p ≡ n + length (b ∷ p) = omega arith in
    subst (λ (i : ℕ). Belongs c i t) z (reached c (n + 1) m.0 t p (keeps c n s m.0 b h m.1) m.2)

pub behind_header : (h : ℕ) (p : List ℕ) (t : Partial) → from Header (h ∷ p) ≡ Within t → Belongs (class_of h) (length p) t
behind_header h p t e =
    let c = class_of h in
    let m = went_on (begin c) (λ u. from u p) p t e in
    let z : 0 + length p ≡ length p = omega arith in
    subst (λ (i : ℕ). Belongs c i t) z (reached c 0 m.0 t p (began c m.0 m.1) m.2)

-- so a state has as many bytes as it took
pub counted_bytes : (s t : Partial) (r : List ℕ) → from s r ≡ Within t → count_of t ≡ count_of s + length r
counted_bytes s t [] e = (let k : s ≡ t = cc in let n : count_of s ≡ count_of s + 0 = omega arith in cc)
counted_bytes s t (b ∷ p) e =
    let m = went_on (rule s b) (λ u. from u p) p t e in
    let more = counted_bytes m.0 t p m.2 in
    let one = counts s m.0 b m.1 in omega arith

-- and each state that is reached can be finished: with the payload bytes that are wanting, or five bytes 00 and 80
abbrev CanEnd : Partial → Type 0
CanEnd s = (v : ItmPacket) × (w : List ℕ) × (from s w ≡ Whole v)

on_and_on : (k : ℕ) → IsContinued (replicate k 128 ++ 0 ∷ [])
on_and_on zero = omega arith
on_and_on (suc zero) = (omega arith, omega arith)
on_and_on (suc (suc k)) = (omega arith, on_and_on (suc k))

second_ending : (count value : ℕ) → count < 6 → CanEnd (Payload Second count value)
second_ending count value h =
    let w = replicate (5 - count) 128 ++ 0 ∷ [] in
    let l : count + length w ≡ 6 = omega (arith, length-append {A = ℕ} (replicate (5 - count) 128) (0 ∷ []), length-replicate {A = ℕ} (5 - count) 128) in
    let m = continued_fills 6 count w (on_and_on (5 - count)) (omega arith) in
    let g = value_from (λ i b. added Second i b) count value w in
    let x = GlobalSecond true (g % 2 ^ 38) in (
      x,
      w,
      payload_complete Second count value w x (record {
        fills = m.0;
        ends = taken (nat_lt (last_of w) 128) (second_stamp (count + length w) g) (Fail LongStamp) (End x) (is_below (last_of w) 128 m.1) (second_of (count + length w) g 6 x l refl);
      }),
    )

source_ending : (hardware : Bool) (number : ℕ) (size : Size) (count value : ℕ) → count < byte_count size → CanEnd (Payload (Source hardware number size) count value)
source_ending hardware number size count value h =
    let c = Source hardware number size in
    let w = replicate (byte_count size - count) 0 in
    let x = source hardware number size (value_from (λ i b. added c i b) count value w) in (
      x,
      w,
      payload_complete c count value w x (record {
        fills = count_fills (byte_count size) count w h (omega (arith, length-replicate {A = ℕ} (byte_count size - count) 0));
        ends = refl;
      }),
    )

payload_ending : (c : Class) (count value : ℕ) → count < most_bytes c → CanEnd (Payload c count value)
payload_ending Zero count value h = absurd (omega arith)
payload_ending Overflowed count value h = absurd (omega arith)
payload_ending (Source hardware number size) count value h = source_ending hardware number size count value h
payload_ending (LocalShort delta) count value h = absurd (omega arith)
payload_ending (LocalLong lateness) count value h =
    let c = LocalLong lateness in
    let x = Local lateness (value + added c count 0) in
    (x, 0 ∷ [], payload_complete c count value (0 ∷ []) x (record { fills = refl; ends = refl }))
payload_ending First count value h =
    let x = first_stamp (count + 1) (value + added First count 0) in
    (x, 0 ∷ [], payload_complete First count value (0 ∷ []) x (record { fills = refl; ends = refl }))
payload_ending Second count value h = second_ending count value h
payload_ending (Extended true dwt low) count value h =
    let c = Extended true dwt low in
    let x = Extension dwt (low + 8 * (value + added c count 0)) in
    (x, 0 ∷ [], payload_complete c count value (0 ∷ []) x (record { fills = refl; ends = refl }))
payload_ending (Extended false dwt low) count value h = absurd (omega arith)
payload_ending Reserved count value h = absurd (omega arith)

ending : (s : Partial) (c : Class) (n : ℕ) → Belongs c n s → CanEnd s
ending Header c n h = absurd h
ending (Zeros count) c n h = (Sync, replicate 5 0 ++ 128 ∷ [], zeros_complete 5 count (omega arith))
ending (Payload d count value) c n h = payload_ending d count value h.2

finish : (s : Partial) (r : List ℕ) → from Header r ≡ Within s → CanEnd s
finish s [] e = subst CanEnd (let k : Header ≡ s = cc in k) (Overflow, 112 ∷ [], refl)
finish s (h ∷ p) e = ending s (class_of h) (length p) (behind_header h p s e)

-- each fault has its reason
begin_fails : (c : Class) (e : Reason) → begin c ≡ Fail e → e ≡ reason_of c 0
begin_fails (Extended true dwt low) e h = cc
begin_fails (Extended false dwt low) e h = cc
begin_fails x e h = cc

zeros_fail : (n b : ℕ) (e : Reason) → zeros_with n b ≡ Fail e → e ≡ BadItmSync
zeros_fail n b e h = elim (zeros_cases n b) [
  | inl m ↦ (let k = m.1 in cc)
  | inr m ↦ elim m [ inl o ↦ (let k = o.2 in cc) | inr o ↦ cc ]
]

stamp_fails : (n v b : ℕ) (x : Next Partial ItmPacket) (e : Reason) → ((f : Reason) → x ≡ Fail f → ⊥) → cond (nat_lt b 128) x (Fail LongStamp) ≡ Fail e → e ≡ LongStamp
stamp_fails n v b x e f h = elim (chosen (nat_lt b 128) h) [ inl m ↦ absurd (f e m.1) | inr m ↦ (let k = m.1 in cc) ]

second_fails : (n v b : ℕ) (e : Reason) → n < 6 → longer 6 n b ≡ false → last Second (n + 1) v b ≡ Fail e → e ≡ reason_of Second (n + 1)
second_fails n v b e l g h = elim (chosen (nat_lt b 128) h) [
  | inl m ↦ elim (chosen (n + 1 == 4) m.1) [
    | inl o ↦ (let k = o.1 in cc)
    | inr o ↦ elim (chosen (n + 1 == 6) o.1) [
      | inl u ↦ (let k = u.1 in cc)
      | inr u ↦ (let k = u.1 in let q : e ≡ ShortStamp = cc in rw u.0 q)
    ]
  ]
  | inr m ↦ (let k = m.1 in let q : e ≡ LongStamp = cc in rw (sixth m.0 g) q)
] where
  sixth : nat_lt b 128 ≡ false → longer 6 n b ≡ false → (n + 1 == 6) ≡ true
  sixth s g = grind (arith, nat_tests)

last_fails : (c : Class) (n v b : ℕ) (e : Reason) → n < most_bytes c → another_follows c n b ≡ false → last c (n + 1) v b ≡ Fail e → e ≡ reason_of c (n + 1)
last_fails Zero n v b e l g h = absurd (omega arith)
last_fails Overflowed n v b e l g h = absurd (omega arith)
last_fails (Source hardware number size) n v b e l g h = cc
last_fails (LocalShort delta) n v b e l g h = absurd (omega arith)
last_fails (LocalLong lateness) n v b e l g h = stamp_fails n v b (End (Local lateness v)) e (λ f k. cc) h
last_fails First n v b e l g h = stamp_fails n v b (End (first_stamp (n + 1) v)) e (λ f k. cc) h
last_fails Second n v b e l g h = second_fails n v b e l g h
last_fails (Extended more dwt low) n v b e l g h = cc
last_fails Reserved n v b e l g h = absurd (omega arith)

fails : (s : Partial) (c : Class) (n b : ℕ) (e : Reason) → Belongs c n s → rule s b ≡ Fail e → e ≡ reason_of c (n + 1)
fails Header c n b e m h = absurd m
fails (Zeros count) c n b e m h = subst (λ (d : Class). e ≡ reason_of d (n + 1)) (sym m) (zeros_fail count b e h)
fails (Payload d count value) c n b e m h = elim (payload_cases d count value b) [
  | inl o ↦ (let k = o.1 in cc)
  | inr o ↦
      let k = last_fails d count (value + added d count b) b e m.2 o.0 (sym o.1 ∙ h) in
      subst (λ (d : Class). e ≡ reason_of d (n + 1)) m.0 (subst (λ (i : ℕ). e ≡ reason_of d (i + 1)) m.1 k)
]

reason : (s : Partial) (r : List ℕ) (b : ℕ) (e : Reason) → from Header r ≡ Within s → rule s b ≡ Fail e → e ≡ why (r ++ b ∷ [])
reason s [] b e h f = begin_fails (class_of b) e (let k : Header ≡ s = cc in subst (λ (t : Partial). rule t b ≡ Fail e) (sym k) f)
reason s (h ∷ p) b e w f =
    let k = fails s (class_of h) (length p) b e (behind_header h p s w) f in
    let l : length p + 1 ≡ length (p ++ b ∷ []) = omega (arith, length-append p (b ∷ [])) in
    subst (λ (i : ℕ). e ≡ reason_of (class_of h) i) l k

pub decided : Decides Spells why rule Header
decided = walks.decides rule Spells why Header sound complete finish reason
