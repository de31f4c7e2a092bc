-- A state counts the bytes of the unfinished packet.
use Rattle.std.proofs.Common.{◌≡◌, ℕ, ◌+◌, ◌==◌, ◌&&◌, nat_le, Bool, true, false, cond, refl}
use Rattle.itm_grammar.specs.Names.{BadItmSync, Next, Go, End, Fail, Placed}
use Rattle.itm_grammar.specs.declared.packet.ItmPacket.{ItmPacket}
use Rattle.itm_grammar.specs.declared.packet.ItmPacket.TheVariants.{Sync}
use Rattle.itm_grammar.specs.declared.header.Class.{Class}
use Rattle.itm_grammar.specs.declared.header.Class.TheVariants.{Overflow as Overflowed, LocalShort, Extension as Extended, Reserved}
use Rattle.itm_grammar.specs.declared.partial.Partial.{Partial}
use Rattle.itm_grammar.specs.declared.partial.Partial.TheVariants.{Header, Zeros, Payload}
use Rattle.itm_grammar.specs.Header.{class_of}
use Rattle.itm_grammar.specs.Rule.{rule, begin, payload_with, last, another_follows, count_of}
use Rattle.itm_grammar.proofs.Payloads.{last_ends, added}

-- a step that goes on counts one more
abbrev CountsOn : ℕ → Next Partial ItmPacket → Type 0
CountsOn n (Go t) = count_of t ≡ n + 1
CountsOn n (End v) = Unit {0}
CountsOn n (Fail e) = Unit {0}

either : (n : ℕ) (b : Bool) (x y : Next Partial ItmPacket) → CountsOn n x → CountsOn n y → CountsOn n (cond b x y)
either n true x y p q = p
either n false x y p q = q

begun : (c : Class) → CountsOn 0 (begin c)
begun Overflowed = tt
begun (LocalShort delta) = tt
begun (Extended false dwt low) = tt
begun Reserved = tt
begun x = refl

ends_none : (n : ℕ) (x : Next Partial ItmPacket) → ((t : Partial) → x ≡ Go t → ⊥) → CountsOn n x
ends_none n (Go t) h = absurd (h t refl)
ends_none n (End v) h = tt
ends_none n (Fail e) h = tt

paid : (c : Class) (count value b : ℕ) → CountsOn (count + 1) (payload_with c count value b)
paid c count value b =
    either (count + 1) (another_follows c count b) (Go (Payload c (count + 1) value)) (last c (count + 1) value b) refl
    (ends_none (count + 1) (last c (count + 1) value b) (last_ends c (count + 1) value b))

all_count : (s : Partial) (b : ℕ) → CountsOn (count_of s) (rule s b)
all_count Header b = begun (class_of b)
all_count (Zeros count) b =
    either count (b == 0) (Go (Zeros (count + 1))) (cond (b == 128 && nat_le 5 count) (End Sync) (Fail BadItmSync)) refl (either count (b == 128 && nat_le 5 count) (End Sync) (Fail BadItmSync) tt tt)
all_count (Payload class count value) b = paid class count (value + added class count b) b

of_step : (n : ℕ) (x : Next Partial ItmPacket) (t : Partial) → x ≡ Go t → CountsOn n x → count_of t ≡ n + 1
of_step n (Go s) t e h = let k : s ≡ t = cc in cc
of_step n (End v) t e h = cc
of_step n (Fail f) t e h = cc

pub counts : (s t : Partial) (b : ℕ) → rule s b ≡ Go t → count_of t ≡ count_of s + 1
counts s t b e = of_step (count_of s) (rule s b) t e (all_count s b)

pub counts_placed : (s t : Partial) (b : Placed) → rule s b.unit ≡ Go t → count_of t ≡ count_of s + 1
counts_placed s t b e = counts s t b.unit e
