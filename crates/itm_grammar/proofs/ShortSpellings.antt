-- The shortest spellings are spellings, and none is shorter; what bytes spell is proper.
use Rattle.std.proofs.Common.{◌≡◌, ℕ, zero, suc, ◌+◌, ◌*◌, ◌^◌, ◌/◌, ◌%◌, ◌<◌, ◌≤◌, List, [], ◌∷◌, length, length-append, replicate, Bool, true, false, cond, refl, sym, ◌∙◌, ap, subst, ◌⊎◌, inl, inr, arith}
use Rattle.std.proofs.lemmas.List.{length-replicate}
use Rattle.std.proofs.Math.Nat.{pow-suc}
use Rattle.std.specs.Prelude.{nat_lt, ◌&&◌, All}
use Rattle.std.specs.List.{AllByRecursion as Each}
use Rattle.std.proofs.lemmas.List.Elements.{All-from_recursion, recursion_from_All}
use Rattle.std.proofs.lemmas.Bool.Decides.{nat_tests}
use Rattle.itm_grammar.specs.declared.packet.Size.{Size}
use Rattle.itm_grammar.specs.declared.packet.Size.TheVariants.{One, Two, Four}
use Rattle.itm_grammar.specs.declared.packet.Lateness.{Lateness}
use Rattle.itm_grammar.specs.declared.packet.Lateness.TheVariants.{Exact, StampLate, PacketLate, BothLate}
use Rattle.itm_grammar.specs.declared.packet.ItmPacket.{ItmPacket}
use Rattle.itm_grammar.specs.declared.packet.ItmPacket.TheVariants.{Sync, Overflow, Software, Hardware, Local, GlobalFirst, GlobalSecond, Extension}
use Rattle.itm_grammar.specs.Spelling.{Spells, SpellsSource, byte_count, size_bits, late_bits, bit_of, number, groups, more_bit, IsContinued, IsExtended, extended}
use Rattle.itm_grammar.specs.Proper.{IsProper}
use Rattle.itm_grammar.specs.Shortest.{bytes_of, groups_of, group_count, is_short, extension_bytes, short, shortest_len, IsClear, HasShortest}
use Rattle.itm_grammar.proofs.Deciding.{between, fits_within}

abbrev AllBytes : List ℕ → Type 0
AllBytes p = Each (λ b. b < 256) p

-- bytes of a number
record Bytes (n value : ℕ) (p : List ℕ) : Type 0 where
  len : length p ≡ n
  value_is : number p ≡ value
  bytes : AllBytes p

bytes_made : (n value : ℕ) → value < 256 ^ n → Bytes n value (bytes_of n value)
bytes_made zero value h = record { len = refl; value_is = (let k : 0 ≡ value = omega arith in k); bytes = tt }
bytes_made (suc n) value h =
    let e : 256 ^ suc n ≡ 256 ^ n * 256 = pow-suc 256 n in
    let k : value < 256 ^ n * 256 = rw e at h in
    let m = bytes_made n (value / 256) (omega arith) in
    record {
      len = ap (λ (i : ℕ). suc i) m.len;
      value_is = (let v = m.value_is in omega arith);
      bytes = (omega arith, m.bytes);
    }

-- groups of a number
record Groups (n value : ℕ) (p : List ℕ) : Type 0 where
  len : length p ≡ n
  value_is : groups p ≡ value
  continued : IsContinued p
  bytes : AllBytes p

pub continued_more : (b : ℕ) (p : List ℕ) → 128 ≤ b → IsContinued p → IsContinued (b ∷ p)
continued_more b [] h k = absurd k
continued_more b (c ∷ p) h k = (h, k)

groups_made : (n value : ℕ) → value < 128 ^ suc n → Groups (suc n) value (groups_of (suc n) value)
groups_made zero value h = record { len = refl; value_is = omega arith; continued = omega arith; bytes = (omega arith, tt) }
groups_made (suc n) value h =
    let e : 128 ^ suc (suc n) ≡ 128 ^ suc n * 128 = pow-suc 128 (suc n) in
    let k : value < 128 ^ suc n * 128 = rw e at h in
    let m = groups_made n (value / 128) (omega arith) in
    record {
      len = ap (λ (i : ℕ). suc i) m.len;
      value_is = (let v = m.value_is in omega arith);
      continued = continued_more (128 + value % 128) (groups_of (suc n) (value / 128)) (omega arith) m.continued;
      bytes = (omega arith, m.bytes);
    }

count_cases : (v : ℕ) →
    ((v < 128) × (group_count v ≡ 1)) ⊎ ((128 ≤ v) × (v < 2 ^ 14) × (group_count v ≡ 2)) ⊎ ((2 ^ 14 ≤ v) × (v < 2 ^ 21) × (group_count v ≡ 3)) ⊎ ((2 ^ 21 ≤ v) × (group_count v ≡ 4))
count_cases v = grind (arith, nat_tests)

fewest_made : (v : ℕ) → v < 2 ^ 28 → Groups (group_count v) v (groups_of (group_count v) v)
fewest_made v h = elim (count_cases v) [
  | inl m ↦ subst (λ (k : ℕ). Groups k v (groups_of k v)) (sym m.1) (groups_made 0 v (omega (arith, m.0)))
  | inr m ↦ elim m [
    | inl o ↦ subst (λ (k : ℕ). Groups k v (groups_of k v)) (sym o.2) (groups_made 1 v (omega (arith, o.1)))
    | inr o ↦ elim o [
      | inl u ↦ subst (λ (k : ℕ). Groups k v (groups_of k v)) (sym u.2) (groups_made 2 v (omega (arith, u.1)))
      | inr u ↦ subst (λ (k : ℕ). Groups k v (groups_of k v)) (sym u.1) (groups_made 3 v h)
    ]
  ]
]

-- and with fewer bytes they stand for less
at_most : (p : List ℕ) (n v : ℕ) → groups p ≡ v → 128 ^ n ≤ v → n < length p
at_most p n v e h = elim (ordered (length p) n) [
  | inl m ↦ absurd (let k = fits_within p n m in omega arith)
  | inr m ↦ m
] where
  ordered : (a b : ℕ) → (a ≤ b) ⊎ (b < a)
  ordered a b = grind arith

fewest : (p : List ℕ) (v : ℕ) → 0 < length p → groups p ≡ v → group_count v ≤ length p
fewest p v l e = elim (count_cases v) [
  | inl m ↦ (let k = m.1 in omega arith)
  | inr m ↦ elim m [
    | inl o ↦ (let k = o.2 in let g = at_most p 1 v e o.0 in omega arith)
    | inr o ↦ elim o [
      | inl u ↦ (let k = u.2 in let g = at_most p 2 v e u.0 in omega arith)
      | inr u ↦ (let k = u.1 in let g = at_most p 3 v e u.0 in omega arith)
    ]
  ]
]

-- a source packet
size_fits : (size : Size) → size_bits size < 4
size_fits One = omega arith
size_fits Two = omega arith
size_fits Four = omega arith

record SourceShort (bit_two n : ℕ) (size : Size) (value : ℕ) : Type 0 where
  spells : SpellsSource bit_two n size value ((8 * n + 4 * bit_two + size_bits size) ∷ bytes_of (byte_count size) value)
  bytes : AllBytes ((8 * n + 4 * bit_two + size_bits size) ∷ bytes_of (byte_count size) value)
  len : length ((8 * n + 4 * bit_two + size_bits size) ∷ bytes_of (byte_count size) value) ≡ 1 + byte_count size
  least : (r : List ℕ) → SpellsSource bit_two n size value r → length ((8 * n + 4 * bit_two + size_bits size) ∷ bytes_of (byte_count size) value) ≤ length r

source_short : (bit_two n : ℕ) (size : Size) (value : ℕ) → bit_two ≤ 1 → n < 32 → value < 256 ^ byte_count size → SourceShort bit_two n size value
source_short bit_two n size value b h k =
    let m = bytes_made (byte_count size) value k in
    let f = size_fits size in
    record {
      spells = (bytes_of (byte_count size) value, h, refl, m.len, sym m.value_is);
      bytes = (omega arith, m.bytes);
      len = (let l = m.len in omega arith);
      least = λ r s. (let l = m.len in let e : length r ≡ suc (length s.0) = ap length s.2 in let d = s.3 in omega arith);
    }

-- a local timestamp
late_fits : (lateness : Lateness) → late_bits lateness < 4
late_fits Exact = omega arith
late_fits StampLate = omega arith
late_fits PacketLate = omega arith
late_fits BothLate = omega arith

short_is : (lateness : Lateness) (delta : ℕ) → is_short lateness delta ≡ true → (lateness ≡ Exact) × (0 < delta) × (delta < 7)
short_is Exact delta e = let k = between delta e in (refl, k.0, k.1)
short_is StampLate delta e = cc
short_is x delta e = cc

not_short : (lateness : Lateness) (delta : ℕ) → is_short lateness delta ≡ false → lateness ≡ Exact → 0 < delta → delta < 7 → ⊥
not_short Exact delta e h k l = within delta e k l where
  within : (n : ℕ) → (nat_lt 0 n && nat_lt n 7) ≡ false → 0 < n → n < 7 → ⊥
  within n e k l = grind (arith, nat_tests)
not_short StampLate delta e h k l = cc
not_short x delta e h k l = cc

some_byte : (p : List ℕ) → IsContinued p → 0 < length p
some_byte [] h = absurd h
some_byte (b ∷ p) h = omega arith

-- what is to be shown, where the spelling is this list and the length this number
record Least (v : ItmPacket) (p : List ℕ) (n : ℕ) : Type 0 where
  spells : Spells v p
  bytes : AllBytes p
  len : length p ≡ n
  least : (r : List ℕ) → Spells v r → length p ≤ length r

some_spelling : (lateness : Lateness) (delta : ℕ) (r : List ℕ) → Spells (Local lateness delta) r → 1 ≤ length r
some_spelling lateness delta r (inl s) = let e = ap length s.3 in omega arith
some_spelling lateness delta r (inr s) = let e = ap length s.1 in omega arith

long_spelling : (lateness : Lateness) (delta : ℕ) (r : List ℕ) → is_short lateness delta ≡ false → Spells (Local lateness delta) r → 1 + group_count delta ≤ length r
long_spelling lateness delta r e (inl s) = absurd (not_short lateness delta e s.0 s.1 s.2)
long_spelling lateness delta r e (inr s) =
    let l = ap length s.1 in
    let k = fewest s.0 delta (some_byte s.0 s.2) (sym s.4) in omega arith

count_most : (v : ℕ) → group_count v ≤ 4
count_most v = grind (arith, nat_tests)

local_least : (lateness : Lateness) (delta : ℕ) (t : Bool) → is_short lateness delta ≡ t → delta < 2 ^ 28 →
    Least (Local lateness delta) (cond t ((16 * delta) ∷ []) ((192 + 16 * late_bits lateness) ∷ groups_of (group_count delta) delta)) (cond t 1 (1 + group_count delta))
local_least lateness delta true e h =
    let k = short_is lateness delta e in
    record {
      spells = inl (k.0, k.1, k.2, refl);
      bytes = ((let l = k.2 in omega arith), tt);
      len = refl;
      least = λ r s. some_spelling lateness delta r s;
    }
local_least lateness delta false e h =
    let m = fewest_made delta h in
    let f = late_fits lateness in
    let n = count_most delta in
    record {
      spells = inr (groups_of (group_count delta) delta, refl, m.continued, (let l = m.len in omega arith), sym m.value_is);
      bytes = (omega arith, m.bytes);
      len = (let l = m.len in omega arith);
      least = λ r s. (let l = m.len in let k = long_spelling lateness delta r e s in omega arith);
    }

-- global timestamps
stamp_under : (n value : ℕ) (change wrap : Bool) → IsProper (GlobalFirst (suc n) value change wrap) → (value < 2 ^ 26) × (value + 2 ^ 26 * bit_of change + 2 ^ 27 * bit_of wrap < 128 ^ suc n)
stamp_under zero value change wrap h =
    let k = h.3 (omega arith) in let v : value < 128 = h.2 in
    (omega arith, rw (k.0, k.1) (omega arith))
stamp_under (suc zero) value change wrap h =
    let k = h.3 (omega arith) in let v : value < 16384 = h.2 in
    (omega arith, rw (k.0, k.1) (omega arith))
stamp_under (suc (suc zero)) value change wrap h =
    let k = h.3 (omega arith) in let v : value < 2097152 = h.2 in
    (omega arith, rw (k.0, k.1) (omega arith))
stamp_under (suc (suc (suc zero))) value change wrap h =
    let v : value < 2 ^ 26 = h.2 in
    (v, both change wrap v)
  where
    both : (change wrap : Bool) → value < 2 ^ 26 → value + 2 ^ 26 * bit_of change + 2 ^ 27 * bit_of wrap < 128 ^ 4
    both true true v = omega arith
    both true false v = omega arith
    both false true v = omega arith
    both false false v = omega arith
stamp_under (suc (suc (suc (suc n)))) value change wrap h = absurd (let k = h.1 in omega arith)

first_least : (len value : ℕ) (change wrap : Bool) → IsProper (GlobalFirst len value change wrap) → Least (GlobalFirst len value change wrap) (short (GlobalFirst len value change wrap)) (1 + len)
first_least zero value change wrap h = absurd (let k = h.0 in omega arith)
first_least (suc n) value change wrap h =
    let k = stamp_under n value change wrap h in
    let m = groups_made n (value + 2 ^ 26 * bit_of change + 2 ^ 27 * bit_of wrap) k.1 in
    record {
      spells = (groups_of (suc n) (value + 2 ^ 26 * bit_of change + 2 ^ 27 * bit_of wrap), refl, m.continued, m.len, h.1, k.0, m.value_is);
      bytes = (omega arith, m.bytes);
      len = (let l = m.len in omega arith);
      least = λ r s. (let l = m.len in let e = ap length s.1 in let d = s.3 in omega arith);
    }

second_with : (wide : Bool) (n value : ℕ) → suc n ≡ cond wide 6 4 → value < 128 ^ suc n → value ≡ value % 2 ^ cond wide 38 22 → Least (GlobalSecond wide value) (0xB4 ∷ groups_of (suc n) value) (2 + n)
second_with wide n value e h k =
    let m = groups_made n value h in
    record {
      spells = (groups_of (suc n) value, refl, m.continued, m.len ∙ e, k ∙ ap (λ g. g % 2 ^ cond wide 38 22) (sym m.value_is));
      bytes = (omega arith, m.bytes);
      len = (let l = m.len in omega arith);
      least = λ r s. (let l = m.len in let i = ap length s.1 in let d = s.3 ∙ sym e in omega arith);
    }

second_least : (wide : Bool) (value : ℕ) → IsProper (GlobalSecond wide value) → Least (GlobalSecond wide value) (short (GlobalSecond wide value)) (cond wide 7 5)
second_least true value h = second_with true 5 value refl (omega arith) (omega arith)
second_least false value h = second_with false 3 value refl (omega arith) (omega arith)

-- an extension packet
record Extra (high : ℕ) (p : List ℕ) : Type 0 where
  value_is : extended p ≡ high
  proper : IsExtended p
  bytes : AllBytes p
  len : length p ≡ group_count high

-- up to three bytes it is as a timestamp
continued_extended : (p : List ℕ) → IsContinued p → length p ≤ 3 → IsExtended p
continued_extended [] h l = absurd h
continued_extended (a ∷ []) h l = h
continued_extended (a ∷ (b ∷ [])) h l = h
continued_extended (a ∷ (b ∷ (c ∷ []))) h l = (h.0, h.1.0, h.1.1)
continued_extended (a ∷ (b ∷ (c ∷ (d ∷ p)))) h l = absurd (omega arith)

extended_groups : (p : List ℕ) → length p ≤ 3 → extended p ≡ groups p
extended_groups [] l = refl
extended_groups (a ∷ []) l = omega arith
extended_groups (a ∷ (b ∷ [])) l = omega arith
extended_groups (a ∷ (b ∷ (c ∷ []))) l = omega arith
extended_groups (a ∷ (b ∷ (c ∷ (d ∷ p)))) l = absurd (omega arith)

count_small : (v : ℕ) → nat_lt v (2 ^ 21) ≡ true → (v < 2 ^ 28) × (group_count v ≤ 3)
count_small v e = (omega (arith, small v e), few v e) where
  small : (v : ℕ) → nat_lt v (2 ^ 21) ≡ true → v < 2 ^ 21
  small v e = grind (arith, nat_tests)

  few : (v : ℕ) → nat_lt v (2 ^ 21) ≡ true → group_count v ≤ 3
  few v e = grind (arith, nat_tests)

count_large : (v : ℕ) → nat_lt v (2 ^ 21) ≡ false → group_count v ≡ 4
count_large v e = grind (arith, nat_tests)

abbrev four_bytes : ℕ → List ℕ
four_bytes high = (128 + high % 128) ∷ ((128 + high / 128 % 128) ∷ ((128 + high / 128 / 128 % 128) ∷ ((high / 128 / 128 / 128) ∷ [])))

extra_by : (high : ℕ) (t : Bool) → nat_lt high (2 ^ 21) ≡ t → high < 2 ^ 29 → Extra high (cond t (groups_of (group_count high) high) (four_bytes high))
extra_by high true e h =
    let k = count_small high e in
    let m = fewest_made high k.0 in
    let l : length (groups_of (group_count high) high) ≤ 3 = (let l = m.len in let g = k.1 in omega arith) in
    record {
      value_is = extended_groups (groups_of (group_count high) high) l ∙ m.value_is;
      proper = continued_extended (groups_of (group_count high) high) m.continued l;
      bytes = m.bytes;
      len = m.len;
    }
extra_by high false e h = record {
  value_is = omega arith;
  proper = (omega arith, omega arith, omega arith, refl);
  bytes = (omega arith, (omega arith, (omega arith, (omega arith, tt))));
  len = sym (count_large high e);
}

extra_made : (high : ℕ) → high < 2 ^ 29 → Extra high (extension_bytes high)
extra_made high h = extra_by high (nat_lt high (2 ^ 21)) refl h

fewest_extended : (q : List ℕ) (w : ℕ) → extended q ≡ w → 0 < w → group_count w ≤ length q
fewest_extended [] w e h = absurd (omega arith)
fewest_extended (a ∷ q) w e h = elim (few_or_not (length (a ∷ q))) [
  | inl m ↦ fewest (a ∷ q) w (omega arith) (sym (extended_groups (a ∷ q) m) ∙ e)
  | inr m ↦ (let k = count_most w in omega arith)
] where
  few_or_not : (n : ℕ) → (n ≤ 3) ⊎ (3 < n)
  few_or_not n = grind arith

bit_most : (b : Bool) → bit_of b ≤ 1
bit_most true = omega arith
bit_most false = omega arith

more_most : (p : List ℕ) → more_bit p ≤ 1
more_most [] = omega arith
more_most (b ∷ p) = omega arith

abbrev extension_of : Bool → ℕ → List ℕ → List ℕ
extension_of dwt value p = (128 * more_bit p + 16 * (value % 8) + 4 * bit_of dwt + 8) ∷ p

extension_by : (dwt : Bool) (value : ℕ) (t : Bool) → nat_lt value 8 ≡ t → value < 2 ^ 32 →
    Least (Extension dwt value) (extension_of dwt value (cond t [] (extension_bytes (value / 8)))) (cond t 1 (1 + group_count (value / 8)))
extension_by dwt value true e h =
    let d = bit_most dwt in
    record {
      spells = (value % 8, [], omega arith, refl, tt, small value e);
      bytes = (omega arith, tt);
      len = refl;
      least = λ r s. (let k : length r ≡ suc (length s.1) = ap length s.3 in omega arith);
    }
  where
    small : (n : ℕ) → nat_lt n 8 ≡ true → n ≡ n % 8 + 8 * 0
    small n e = let k : n < 8 = grind (arith, nat_tests) in omega arith
extension_by dwt value false e h =
    let x = extra_made (value / 8) (omega arith) in
    let p = extension_bytes (value / 8) in
    let d = bit_most dwt in
    let b = more_most p in
    let v = x.value_is in
    let l = x.len in
    record {
      spells = (value % 8, p, omega arith, refl, x.proper, omega arith);
      bytes = (omega arith, x.bytes);
      len = omega arith;
      least = λ r s. (let k : length r ≡ suc (length s.1) = ap length s.3 in let a = s.2 in let w = s.5 in
          let f = fewest_extended s.1 (value / 8) (omega arith) (large value e) in omega arith);
    }
  where
    large : (n : ℕ) → nat_lt n 8 ≡ false → 0 < n / 8
    large n e = let k : 8 ≤ n = grind (arith, nat_tests) in omega arith

-- all of them
least_all : (p : ItmPacket) → IsProper p → Least p (short p) (shortest_len p)
least_all Sync h = record {
  spells = (5, omega arith, refl);
  bytes = (omega arith, (omega arith, (omega arith, (omega arith, (omega arith, (omega arith, tt))))));
  len = refl;
  least = λ r s. (let e = ap length s.2 in let k = s.1 in omega (arith, length-append {A = ℕ} (replicate s.0 0) (128 ∷ []), length-replicate {A = ℕ} s.0 0));
}
least_all Overflow h = record { spells = refl; bytes = (omega arith, tt); len = refl; least = λ r s. (let e = ap length s in omega arith) }
least_all (Software port size value) h =
    let m = source_short 0 port size value (omega arith) h.0 h.1 in record { spells = m.spells; bytes = m.bytes; len = m.len; least = λ r s. m.least r s }
least_all (Hardware disc size value) h =
    let m = source_short 1 disc size value (omega arith) h.0 h.1 in record { spells = m.spells; bytes = m.bytes; len = m.len; least = λ r s. m.least r s }
least_all (Local lateness delta) h = local_least lateness delta (is_short lateness delta) refl h
least_all (GlobalFirst len value change wrap) h = first_least len value change wrap h
least_all (GlobalSecond wide value) h = second_least wide value h
least_all (Extension dwt value) h = extension_by dwt value (nat_lt value 8) refl h

is_clear : (p : ItmPacket) → IsProper p → IsClear p (short p)
is_clear (GlobalSecond true value) h = (groups_of 6 value, refl, (groups_made 5 value (omega arith)).value_is)
is_clear (GlobalSecond false value) h = (groups_of 4 value, refl, (groups_made 3 value (omega arith)).value_is)
is_clear x h = tt

pub shortest : (p : ItmPacket) → IsProper p → HasShortest p
shortest p h =
    let m = least_all p h in
    record {
      spells = m.spells;
      bytes = All-from_recursion (λ b. b < 256) (short p) m.bytes;
      clear = is_clear p h;
      len = m.len;
      least = m.least;
    }

-- what bytes spell is proper
number_fits : (p : List ℕ) → AllBytes p → number p < 256 ^ length p
number_fits [] h = omega arith
number_fits (b ∷ p) h =
    let k = number_fits p h.1 in
    let a = h.0 in
    let e : 256 ^ suc (length p) ≡ 256 ^ length p * 256 = pow-suc 256 (length p) in
    rw e (omega arith)

source_proper : (bit_two n : ℕ) (size : Size) (value : ℕ) (r : List ℕ) → SpellsSource bit_two n size value r → AllBytes r → (n < 32) × (value < 256 ^ byte_count size)
source_proper bit_two n size value r s h =
    let k : AllBytes ((8 * n + 4 * bit_two + size_bits size) ∷ s.0) = subst (λ (l : List ℕ). AllBytes l) s.2 h in
    (s.1, subst (λ (v : ℕ). v < 256 ^ byte_count size) (sym s.4) (subst (λ (i : ℕ). number s.0 < 256 ^ i) s.3 (number_fits s.0 k.1)))

clear : (b : Bool) → bit_of b ≡ 0 → b ≡ false
clear true e = absurd (omega arith)
clear false e = refl

first_proper : (len g value : ℕ) (change wrap : Bool) → 0 < len → len ≤ 4 → g < 128 ^ len → value < 2 ^ 26 → g ≡ value + 2 ^ 26 * bit_of change + 2 ^ 27 * bit_of wrap →
    IsProper (GlobalFirst len value change wrap)
first_proper zero g value change wrap a b c d e = absurd (omega arith)
first_proper (suc zero) g value change wrap a b c d e = (a, b, omega arith, λ k. (clear change (omega arith), clear wrap (omega arith)))
first_proper (suc (suc zero)) g value change wrap a b c d e = (a, b, omega arith, λ k. (clear change (omega arith), clear wrap (omega arith)))
first_proper (suc (suc (suc zero))) g value change wrap a b c d e = (a, b, omega arith, λ k. (clear change (omega arith), clear wrap (omega arith)))
first_proper (suc (suc (suc (suc zero)))) g value change wrap a b c d e = (a, b, d, λ k. absurd (omega arith))
first_proper (suc (suc (suc (suc (suc n))))) g value change wrap a b c d e = absurd (omega arith)

extended_fits : (q : List ℕ) → IsExtended q → AllBytes q → extended q < 2 ^ 29
extended_fits [] h k = omega arith
extended_fits (a ∷ []) h k = omega arith
extended_fits (a ∷ (b ∷ [])) h k = omega arith
extended_fits (a ∷ (b ∷ (c ∷ []))) h k = omega arith
extended_fits (a ∷ (b ∷ (c ∷ (d ∷ q)))) h k = let l = k.1.1.1.0 in omega arith

proper_by : (p : ItmPacket) (r : List ℕ) → Spells p r → AllBytes r → IsProper p
proper_by Sync r s h = tt
proper_by Overflow r s h = tt
proper_by (Software port size value) r s h = source_proper 0 port size value r s h
proper_by (Hardware disc size value) r s h = source_proper 1 disc size value r s h
proper_by (Local lateness delta) r (inl s) h = (let k = s.2 in omega arith)
proper_by (Local lateness delta) r (inr s) h = (let k = fits_within s.0 4 s.3 in let e = s.4 in omega arith)
proper_by (GlobalFirst len value change wrap) r s h =
    let e = s.3 in
    let n = some_byte s.0 s.2 in
    first_proper len (groups s.0) value change wrap (omega arith) s.4 (fits_within s.0 len (omega arith)) s.5 s.6
proper_by (GlobalSecond false value) r s h = (let e = s.4 in omega arith)
proper_by (GlobalSecond true value) r s h = (let e = s.4 in omega arith)
proper_by (Extension dwt value) r s h =
    let k : AllBytes ((128 * more_bit s.1 + 16 * s.0 + 4 * bit_of dwt + 8) ∷ s.1) = subst (λ (l : List ℕ). AllBytes l) s.3 h in
    let f = extended_fits s.1 s.4 k.1 in
    let a = s.2 in let e = s.5 in omega arith

pub proper : (p : ItmPacket) (r : List ℕ) → Spells p r → All (λ b. b < 256) r → IsProper p
proper p r s h = proper_by p r s (recursion_from_All (λ b. b < 256) r h)
