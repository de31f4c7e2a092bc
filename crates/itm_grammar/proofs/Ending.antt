-- A packet that ends with a payload byte has its numbers in their ranges.
use Rattle.std.proofs.Common.{◌≡◌, ℕ, zero, suc, ◌+◌, ◌*◌, ◌/◌, ◌%◌, ◌^◌, ◌<◌, Bool, true, false, cond, refl, arith}
use Rattle.std.specs.Prelude.{nat_lt, ◌==◌}
use Rattle.std.proofs.lemmas.Bool.{and_parts}
use Rattle.itm_grammar.specs.Names.{Next}
use Rattle.itm_grammar.specs.declared.packet.Size.{Size}
use Rattle.itm_grammar.specs.declared.packet.Size.TheVariants.{One, Two, Four}
use Rattle.itm_grammar.specs.declared.packet.ItmPacket.{ItmPacket}
use Rattle.itm_grammar.specs.declared.header.Class.{Class}
use Rattle.itm_grammar.specs.declared.header.Class.TheVariants.{Zero, Overflow as Overflowed, Source, LocalShort, LocalLong, GlobalFirst as First, GlobalSecond as Second, Extension as Extended, Reserved}
use Rattle.itm_grammar.specs.declared.partial.Partial.{Partial}
use Rattle.itm_grammar.specs.declared.partial.Partial.TheVariants.{Payload}
use Rattle.itm_grammar.specs.Header.{is_proper_class}
use Rattle.itm_grammar.specs.Spelling.{byte_count}
use Rattle.itm_grammar.specs.Proper.{IsProper}
use Rattle.itm_grammar.specs.Rule.{rule, last, source, another_follows, digit, base_of, is_sound_payload, is_sound, StopsProperly}
use Rattle.itm_grammar.proofs.Deciding.{below, first_stamp}
use Rattle.itm_grammar.proofs.Fitting.{parts, more_bytes, more_groups, fits_last}

-- a choice by a test
either : (t : Bool) (x y : Next Partial ItmPacket) → StopsProperly x → StopsProperly y → StopsProperly (cond t x y)
either true x y h k = h
either false x y h k = k

-- the bytes of a value fit its size
value_fits : (size : Size) (n v b : ℕ) → b < 256 → n < byte_count size → v < 256 ^ n → v + b * 256 ^ n < 256 ^ byte_count size
value_fits One zero v b h k l = omega arith
value_fits One (suc n) v b h k l = absurd (omega arith)
value_fits Two zero v b h k l = omega arith
value_fits Two (suc zero) v b h k l = omega arith
value_fits Two (suc (suc n)) v b h k l = absurd (omega arith)
value_fits Four n v b h k l = (more_bytes n v b k l h).1

-- a first global timestamp of under four bytes has no bits above those of the time
no_bit : (n : ℕ) → n < 2 ^ 26 → ((n / 2 ^ 26) % 2 == 1) ≡ false
no_bit n h = let k : n / 2 ^ 26 ≡ 0 = omega arith in rw k refl

no_higher_bit : (n : ℕ) → n < 2 ^ 26 → ((n / 2 ^ 27) % 2 == 1) ≡ false
no_higher_bit n h = let k : n / 2 ^ 27 ≡ 0 = omega arith in rw k refl

stamp_fits : (n v : ℕ) → n < 4 → v < 128 ^ (n + 1) → IsProper (first_stamp (n + 1) v)
stamp_fits zero v h k = (omega arith, omega arith, omega arith, λ l. (no_bit v (omega arith), no_higher_bit v (omega arith)))
stamp_fits (suc zero) v h k = (omega arith, omega arith, omega arith, λ l. (no_bit v (omega arith), no_higher_bit v (omega arith)))
stamp_fits (suc (suc zero)) v h k = (omega arith, omega arith, omega arith, λ l. (no_bit v (omega arith), no_higher_bit v (omega arith)))
stamp_fits (suc (suc (suc zero))) v h k = (omega arith, omega arith, omega arith, λ l. absurd (omega arith))
stamp_fits (suc (suc (suc (suc n)))) v h k = absurd (omega arith)

source_fits : (hardware : Bool) (number : ℕ) (size : Size) (value : ℕ) → number < 32 → value < 256 ^ byte_count size → IsProper (source hardware number size value)
source_fits true number size value h k = (h, k)
source_fits false number size value h k = (h, k)

-- the last byte of a payload
last_stops : (c : Class) (n v b : ℕ) → b < 256 → is_proper_class c ≡ true → is_sound_payload c n v ≡ true → StopsProperly (last c (n + 1) (v + digit c n b * base_of c ^ n) b)
last_stops Zero n v b h p s = tt
last_stops Overflowed n v b h p s = tt
last_stops (Source hardware number size) n v b h p s =
    let k = parts n (byte_count size) v (256 ^ n) s in
    source_fits hardware number size (v + b * 256 ^ n) (below number 32 p) (value_fits size n v b h k.0 k.1)
last_stops (LocalShort delta) n v b h p s = tt
last_stops (LocalLong lateness) n v b h p s = either (nat_lt b 128) _ _ (fits_last (LocalLong lateness) n v b h p s) tt
last_stops First n v b h p s =
    let k = parts n 4 v (128 ^ n) s in
    either (nat_lt b 128) _ _ (stamp_fits n (v + b % 128 * 128 ^ n) k.0 (more_groups n v (b % 128) (omega arith) k.1 (omega arith)).0) tt
last_stops Second n v b h p s =
    let w = v + b % 128 * 128 ^ n in
    let narrow : w % 2 ^ 22 < 2 ^ 22 = omega arith in
    let wide : w % 2 ^ 38 < 2 ^ 38 = omega arith in
    either (nat_lt b 128) _ _ (either (n + 1 == 4) _ _ narrow (either (n + 1 == 6) _ _ wide tt)) tt
last_stops (Extended more dwt low) n v b h p s = let k = fits_last (Extended more dwt low) n v b h p s in omega arith
last_stops Reserved n v b h p s = tt

-- one more payload byte
pub payload_stops : (c : Class) (n v b : ℕ) → b < 256 → is_sound (Payload c n v) ≡ true → StopsProperly (rule (Payload c n v) b)
payload_stops c n v b h s =
    let k = and_parts (is_proper_class c) (is_sound_payload c n v) s in
    either (another_follows c n b) _ _ tt (last_stops c n v b h k.0 k.1)
