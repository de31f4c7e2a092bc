-- How a value dump grows with packets.
use Rattle.std.proofs.Common.{◌≡◌, ℕ, List, [], ◌∷◌, ◌++◌, sym, ◌∙◌, ap, append_assoc, append-nil, Option, cond}
use Rattle.std.proofs.lemmas.Grind.{flat_map-append}
use Rattle.value_dump.specs.Names.{Event, ItmPacket, Packet, is_of, itm_packet, itm_packets}
use Rattle.value_dump.specs.Dump.{lines_after, packet_lines}

-- the lines of two lists of packets, one after the other
pub lines_append : (hz : Option ℕ) (before xs ys : List ItmPacket) →
    lines_after hz before (xs ++ ys) ≡ lines_after hz before xs ++ lines_after hz (before ++ xs) ys
lines_append hz before [] ys = ap (λ (l : List ItmPacket). lines_after hz l ys) (sym (append-nil before))
lines_append hz before (x ∷ xs) ys =
    ap (λ (l : List ℕ). packet_lines hz before x ++ l) (lines_append hz (before ++ x ∷ []) xs ys)
    ∙ sym (append_assoc (packet_lines hz before x) (lines_after hz (before ++ x ∷ []) xs)
    (lines_after hz ((before ++ x ∷ []) ++ xs) ys))
    ∙ ap (λ (l : List ItmPacket). (packet_lines hz before x ++ lines_after hz (before ++ x ∷ []) xs)
    ++ lines_after hz l ys)
    (append_assoc before (x ∷ []) xs)

-- the packets of a source among two lists of events
pub packets_append : (source : Option ℕ) (xs ys : List (Event Packet)) →
    itm_packets source (xs ++ ys) ≡ itm_packets source xs ++ itm_packets source ys
packets_append source xs ys =
    flat_map-append (λ (e : Event Packet). cond (is_of source e.source) (itm_packet e.what) []) xs ys
