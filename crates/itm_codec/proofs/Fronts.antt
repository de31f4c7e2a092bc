-- Bytes that are within a packet, as a word of eight bytes tells.
use Rattle.std.proofs.Common.{◌≡◌, ℕ, zero, suc, ◌+◌, ◌-◌, ◌*◌, ◌%◌, ◌^◌, ◌<◌, ◌≤◌, List, slice_index, [], ◌∷◌, ◌++◌, length, length-append, take, drop, inl, inr, replicate, get_or, bit_and, true, refl, sym, ◌∙◌, ap, subst, arith}
use Rattle.std.specs.Int.{w64, from_le_bytes}
use Rattle.std.proofs.lemmas.Bool.{cases_lt}
use Rattle.std.proofs.lemmas.List.{length-take}
use Rattle.std.proofs.lemmas.Nat.{and_mask}
use Rattle.itm_grammar.proofs.ShortSpellings.{continued_more}
use Rattle.itm_codec.specs.Names.{Within, walk, ItmPacket, GlobalSecond, Partial, Header, rule, Spells, IsContinued}
use Rattle.itm_codec.specs.Names.{groups, number}
use Rattle.itm_grammar.proofs.Deciding.{decided}
use Rattle.itm_codec.specs.Lengths.{first_clear}
use Rattle.itm_codec.specs.Reached.{reached}
use Rattle.itm_codec.specs.Windows.{IsFrontOf}
use Rattle.itm_codec.proofs.Places.{place_here, place_later}
use Rattle.itm_codec.proofs.Zeros.{word_is, zeros_in}
use Rattle.itm_codec.proofs.Waiting.{longer, front_within, reached_is}

-- these bytes are within a packet
abbrev Front : List ℕ → Type 0
Front l = walk rule Header l ≡ Within (reached Header l)

-- the front of a packet
front_of : (l : List ℕ) (b : ℕ) (more : List ℕ) (p : ItmPacket) → Spells p (l ++ (b ∷ more)) → Front l
front_of l b more p s =
    let found : (r : Partial) × (walk rule Header l ≡ Within r) = front_within rule Header l b more p (decided.complete p _ s) in
    found.1 ∙ ap Within (sym (reached_is Header found.0 l found.1))

pub cut_front : (window : List ℕ) (count bytes : ℕ) (p : ItmPacket) → count < bytes → bytes ≤ length window → Spells p (take bytes window) → IsFrontOf window count
cut_front window count bytes p h l s =
    let more = longer count bytes window h l in
    front_of (take count window) more.0 more.1 p (subst (λ (x : List ℕ). Spells p x) more.2 s)

-- what holds of each number up to 7
up_to_seven : (P : ℕ → Type 0) → P 0 × P 1 × P 2 × P 3 × P 4 × P 5 × P 6 × P 7 → (n : ℕ) → n ≤ 7 → P n
up_to_seven P p zero h = p.0
up_to_seven P p (suc zero) h = p.1
up_to_seven P p (suc (suc zero)) h = p.2
up_to_seven P p (suc (suc (suc zero))) h = p.3
up_to_seven P p (suc (suc (suc (suc zero)))) h = p.4
up_to_seven P p (suc (suc (suc (suc (suc zero))))) h = p.5
up_to_seven P p (suc (suc (suc (suc (suc (suc zero)))))) h = p.6
up_to_seven P p (suc (suc (suc (suc (suc (suc (suc zero))))))) h = p.7
up_to_seven P p (suc (suc (suc (suc (suc (suc (suc (suc n)))))))) h = absurd (omega arith)

-- all bits of the first bytes
pub bits_are : (n : ℕ) → n ≤ 7 → 1 * 2 ^ (8 * n) % 18446744073709551616 - 1 ≡ 256 ^ n - 1
bits_are = up_to_seven (λ n. 1 * 2 ^ (8 * n) % 18446744073709551616 - 1 ≡ 256 ^ n - 1) (refl, refl, refl, refl, refl, refl, refl, refl)

pub low_bits : (word n : ℕ) → n ≤ 7 → bit_and word (256 ^ n - 1) ≡ word % 256 ^ n
low_bits word =
    let mask = and_mask word in
    up_to_seven (λ n. bit_and word (256 ^ n - 1) ≡ word % 256 ^ n) (mask 0, mask 8, mask 16, mask 24, mask 32, mask 40, mask 48, mask 56)

-- bytes 00 are within a synchronisation
zeros_front : (n : ℕ) → n ≤ 7 → Front (replicate n 0)
zeros_front = up_to_seven (λ n. Front (replicate n 0)) (refl, refl, refl, refl, refl, refl, refl, refl)

pub zero_front : (window : List ℕ) (word bits n : ℕ) → length window ≡ 8 → ((i : ℕ) → get_or window i 0 < 256) → word ≡ from_le_bytes w64 window → n ≤ 7 → bits ≡ 256 ^ n - 1 →
    bit_and word bits ≡ 0 → IsFrontOf window n
zero_front window word bits n l small e h b z =
    let clear : number window % 256 ^ n ≡ 0 =
    ap (λ (x : ℕ). x % 256 ^ n) (sym (word_is window word l e)) ∙ sym (low_bits word n h) ∙ ap (bit_and word) (sym b) ∙ z in
    subst Front (sym (zeros_in n window small (omega arith) clear)) (zeros_front n h)

-- each of these bytes says that another follows
abbrev EachContinues : List ℕ → Type 0
EachContinues [] = Unit {0}
EachContinues (b ∷ l) = (128 ≤ b) × EachContinues l

-- a payload goes on after them
goes_on : (p q : List ℕ) → EachContinues p → IsContinued q → IsContinued (p ++ q)
goes_on [] q a k = k
goes_on (b ∷ p) q a k = continued_more b (p ++ q) a.0 (goes_on p q a.1 k)

-- so many of them, and a last byte
filled : ℕ → List ℕ
filled zero = 0 ∷ []
filled (suc n) = 128 ∷ filled n

filled_continued : (n : ℕ) → IsContinued (filled n)
unfolding filled
filled_continued zero = omega arith
filled_continued (suc n) = continued_more 128 (filled n) (omega arith) (filled_continued n)

filled_length : (n : ℕ) → length (filled n) ≡ n + 1
unfolding filled
filled_length zero = refl
filled_length (suc n) = (let e = filled_length n in omega (arith, e))

filled_front : (l : List ℕ) (n : ℕ) (p : ItmPacket) → Spells p (l ++ filled n) → Front l
unfolding filled
filled_front l zero p s = front_of l 0 [] p s
filled_front l (suc n) p s = front_of l 128 (filled n) p s

-- bytes within a second global timestamp
stamp : (p : List ℕ) → EachContinues p → length p ≤ 5 → Front (180 ∷ p)
stamp p a h =
    let n : ℕ = 5 - length p in
    let all : List ℕ = p ++ filled n in
    filled_front (180 ∷ p) n (GlobalSecond true (groups all % 2 ^ 38))
    (all, refl, goes_on p (filled n) a (filled_continued n), (let e = length-append p (filled n) in let k = filled_length n in omega (arith, e, k)), refl)

-- which those before the place of the first that says that none follows do
before : (n : ℕ) (l : List ℕ) → n ≤ first_clear l → EachContinues (take n l)
before zero l h = tt
before (suc n) [] h = absurd (omega (arith, h))
before (suc n) (b ∷ l) h = elim (cases_lt b 128) [
  | inl low ↦ absurd (let e = place_here b l low in omega (arith, e, h))
  | inr high ↦ (high, before n l (let e = place_later b l high in omega (arith, e, h)))
]

pub stamp_front : (window : List ℕ) (n : ℕ) → slice_index window 0 ≡ 180 → n ≤ 6 → n ≤ 1 + first_clear (drop 1 window) → IsFrontOf window n
stamp_front window zero header h l = refl
stamp_front [] (suc n) header h l = absurd (omega (arith, header))
stamp_front (b ∷ bytes) (suc n) header h l =
    subst (λ (x : ℕ). Front (x ∷ take n bytes)) (sym header)
    (stamp (take n bytes) (before n bytes (omega (arith, l))) (let k = length-take n bytes in omega (arith, h, k)))
