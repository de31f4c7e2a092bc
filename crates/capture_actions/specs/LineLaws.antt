-- The lines of events that follow others.
use Rattle.std.proofs.Common.{◌≡◌, ℕ, List, [], ◌∷◌, ◌++◌, sym, ◌∙◌, ap, append_assoc, append-nil, Option, cond}
use Rattle.std.proofs.lemmas.Grind.{flat_map-append}
use Rattle.capture_actions.specs.Names.{ItmPacket, Event, Packet, is_of}
use Rattle.capture_actions.specs.declared.list_plan.ListPlan.{ListPlan}
use Rattle.capture_actions.specs.Listing.{itm_packet, itm_packets, line_by, lines_after, lines_from}

pub lines_more : (p : ListPlan) (clocked seen xs ys : List (Event Packet)) →
    lines_from p clocked seen (xs ++ ys) ≡ lines_from p clocked seen xs ++ lines_from p (clocked ++ xs) (seen ++ xs) ys
lines_more p clocked seen [] ys =
    ap (λ (l : List (Event Packet)). lines_from p l seen ys) (sym (append-nil clocked))
    ∙ ap (λ (l : List (Event Packet)). lines_from p (clocked ++ []) l ys) (sym (append-nil seen))
lines_more p clocked seen (x ∷ xs) ys =
    let line = line_by p clocked seen x in
    let next = clocked ++ x ∷ [] in
    let later = seen ++ x ∷ [] in
    let front = line ++ lines_from p next later xs in
    ap (λ (l : List ℕ). line ++ l) (lines_more p next later xs ys)
    ∙ sym (append_assoc line (lines_from p next later xs) (lines_from p (next ++ xs) (later ++ xs) ys))
    ∙ ap (λ (l : List (Event Packet)). front ++ lines_from p l (later ++ xs) ys) (append_assoc clocked (x ∷ []) xs)
    ∙ ap (λ (l : List (Event Packet)). front ++ lines_from p (clocked ++ x ∷ xs) l ys)
    (append_assoc seen (x ∷ []) xs)

pub lines_append : (p : ListPlan) (before xs ys : List (Event Packet)) →
    lines_after p before (xs ++ ys) ≡ lines_after p before xs ++ lines_after p (before ++ xs) ys
lines_append p before xs ys = lines_more p before before xs ys

pub packets_push : (source : Option ℕ) (es : List (Event Packet)) (e : Event Packet) →
    itm_packets source (es ++ e ∷ []) ≡ itm_packets source es ++ cond (is_of source e.source) (itm_packet e.what) []
packets_push source es e =
    flat_map-append (λ (x : Event Packet). cond (is_of source x.source) (itm_packet x.what) []) es (e ∷ [])
    ∙ ap (λ (l : List ItmPacket). itm_packets source es ++ l)
    (append-nil (cond (is_of source e.source) (itm_packet e.what) []))
