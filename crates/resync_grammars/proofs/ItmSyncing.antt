-- 00 00 00 00 00 80 ends a synchronisation packet or is a fault, whatever comes before it.
use Rattle.std.proofs.Common.{◌≡◌, ℕ, suc, ◌+◌, ◌<◌, ◌≤◌, List, refl, sym, subst, ◌⊎◌, inl, inr, arith, true}
use Rattle.std.proofs.lemmas.Bool.Decides.{nat_tests}
use Rattle.itm_grammar.proofs.Fitting.{at_most_four}
use Rattle.resync_grammars.specs.Names.{Next, Go, End, Fail, units_of, InUnits, by_unit, EndsWith, pattern_of}
use Rattle.resync_grammars.specs.Names.{ItmPacket, Sync, Header, Zeros, Payload, EndsOrFails, Syncs}
use Rattle.itm_grammar.specs.declared.header.Class.{Class}
use Rattle.itm_grammar.specs.declared.header.Class.TheVariants.{Zero, Overflow as Overflowed, Source, LocalShort, LocalLong, GlobalFirst as First, GlobalSecond as Second, Extension as Extended, Reserved}
use Rattle.itm_grammar.specs.declared.partial.Partial.{Partial}
use Rattle.itm_grammar.specs.Spelling.{Spells, why, byte_count}
use Rattle.itm_grammar.specs.Rule.{rule, last, another_follows}
use Rattle.itm_grammar.proofs.Deciding.{decided, zeros_cases}
use Rattle.itm_grammar.proofs.Payloads.{last_ends, added, payload_cases}
use Rattle.itm_codec.specs.Reading.{pattern}
use Rattle.resync_rules.proofs.Running as running

-- k bytes 00 end a payload of this class after this many bytes: at least one of them is in it, unless k is 0 and the
-- payload goes on
abbrev Room : ℕ → Class → ℕ → Type 0
Room k (Source hardware number size) count = (byte_count size ≤ count + k) × ((1 ≤ k) ⊎ (count < byte_count size))
Room k class count = 1 ≤ k

abbrev Leads : ℕ → Partial → Type 0
Leads k Header = Unit {0}
Leads k (Zeros n) = Unit {0}
Leads k (Payload class count value) = Room k class count

abbrev Says : ℕ → Next Partial ItmPacket → Type 0
Says = running.Says rule Header pattern Sync Leads

-- four do so after any
leads_in_four : (s : Partial) → Leads 4 s
leads_in_four Header = tt
leads_in_four (Zeros n) = tt
leads_in_four (Payload (Source hardware number size) count value) = ((let m = at_most_four size in omega arith), inl (omega arith))
leads_in_four (Payload Zero count value) = omega arith
leads_in_four (Payload Overflowed count value) = omega arith
leads_in_four (Payload (LocalShort delta) count value) = omega arith
leads_in_four (Payload (LocalLong lateness) count value) = omega arith
leads_in_four (Payload First count value) = omega arith
leads_in_four (Payload Second count value) = omega arith
leads_in_four (Payload (Extended more dwt low) count value) = omega arith
leads_in_four (Payload Reserved count value) = omega arith

no_room : (c : Class) (count : ℕ) → Room 0 c count → ⊥
no_room (Source hardware number size) count (a, inl b) = omega (arith, b)
no_room (Source hardware number size) count (a, inr b) = omega (arith, a, b)
no_room Zero count h = omega (arith, h)
no_room Overflowed count h = omega (arith, h)
no_room (LocalShort delta) count h = omega (arith, h)
no_room (LocalLong lateness) count h = omega (arith, h)
no_room First count h = omega (arith, h)
no_room Second count h = omega (arith, h)
no_room (Extended more dwt low) count h = omega (arith, h)
no_room Reserved count h = omega (arith, h)

ended : (k : ℕ) (n : Next Partial ItmPacket) → ((t : Partial) → n ≡ Go t → ⊥) → Says k n
ended k (Go t) h = absurd (h t refl)
ended k (End v) h = tt
ended k (Fail e) h = tt

zeros_say : (k n b : ℕ) → Says k (rule (Zeros n) b)
zeros_say k n b = elim (zeros_cases n b) [
  | inl m ↦ subst (λ (x : Next Partial ItmPacket). Says k x) (sym m.1) tt
  | inr m ↦ elim m [
    | inl o ↦ subst (λ (x : Next Partial ItmPacket). Says k x) (sym o.2) tt
    | inr o ↦ subst (λ (x : Next Partial ItmPacket). Says k x) (sym o) tt
  ]
]

-- where another byte follows a byte 00, it is in a source packet
room_left : (k count : ℕ) (c : Class) → another_follows c count 0 ≡ true → Room (suc k) c count → Room k c (count + 1)
room_left k count (Source hardware number size) e h =
    let l : count + 1 < byte_count size = grind (arith, nat_tests) in ((let g = h.0 in omega arith), inr l)
room_left k count Zero e h = cc
room_left k count x e h = cc

less : (k : ℕ) (s : Partial) → Leads (suc k) s → Says k (rule s 0)
less k Header h = tt
less k (Zeros n) h = zeros_say k n 0
less k (Payload c count value) h = elim (payload_cases c count value 0) [
  | inl m ↦ subst (λ (x : Next Partial ItmPacket). Says k x) (sym m.1) (room_left k count c m.0 h)
  | inr m ↦ subst (λ (x : Next Partial ItmPacket). Says k x) (sym m.1) (ended k (last c (count + 1) (value + added c count 0) 0) (last_ends c (count + 1) (value + added c count 0) 0))
]

stays : (s : Partial) → Leads 0 s → Says 0 (rule s 0)
stays Header h = tt
stays (Zeros n) h = zeros_say 0 n 0
stays (Payload c count value) h = absurd (no_room c count h)

-- the byte 80
ends : (s : Partial) → Leads 0 s → EndsOrFails Sync (rule s 128)
ends Header h = tt
ends (Zeros n) h = elim (zeros_cases n 128) [
  | inl m ↦ absurd (let e = m.0 in omega (arith, e))
  | inr m ↦ elim m [
    | inl o ↦ subst (λ (x : Next Partial ItmPacket). EndsOrFails Sync x) (sym o.2) refl
    | inr o ↦ subst (λ (x : Next Partial ItmPacket). EndsOrFails Sync x) (sym o) tt
  ]
]
ends (Payload c count value) h = absurd (no_room c count h)

closes : (r : List ℕ) → Spells Sync r → EndsWith (pattern_of pattern) r
closes r (zeros, h, e) = subst (λ (l : List ℕ). EndsWith (pattern_of pattern) l) (sym e) (running.run_closes pattern zeros h)

pub itm_syncs : Syncs (InUnits Spells) (λ r. why (units_of r)) (by_unit rule) Header pattern Sync
itm_syncs = running.syncs_run rule Header pattern Sync Leads less stays ends Spells why decided (λ e. omega (arith, e)) (5, omega arith, refl) closes 4 (omega arith) (λ s r w. leads_in_four s)
