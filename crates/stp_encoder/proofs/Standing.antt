-- What an encoder stands for, with more packets and with one item more.
use Rattle.std.proofs.Common.{◌≡◌, ℕ, List, [], ◌∷◌, ◌++◌, refl, sym, ◌∙◌, ap, subst, append_assoc, append-nil, replicate, Option, None, Some}
use Rattle.std.specs.Option.{option_to_list}
use Rattle.std.proofs.lemmas.List.Concat.{flat_map-append}
use Rattle.stp_encoder.specs.Names.{Order, StpPacket, StpItem, short}
use Rattle.stp_grammar.specs.Attributed as attributed
use Rattle.stp_encoder.specs.declared.encoder.StpEncoder.{StpEncoder}
use Rattle.stp_encoder.specs.Puts.{Put, Of, Flush, items_in, unmarked}
use Rattle.stp_encoder.specs.Packets.{packets_with, packets_after, packets_for}
use Rattle.stp_encoder.specs.Bytes.{joined, odd_nibble, filled, spelled, nibbles_after, nibbles_for, written, encoded, put_bytes, end_bytes, kept_nibble}
use Rattle.stp_encoder.specs.Encoder.{IsAt, Stands}
use Rattle.stp_encoder.proofs.Joining.{filled_is, filled_append, joined_append, odd_append, joined_kept}

pub spelled_append : (order : Order) (a b : List StpPacket) → spelled order (a ++ b) ≡ spelled order a ++ spelled order b
spelled_append order a b = flat_map-append (short order) a b

module _ (encoder : StpEncoder) (bytes : List ℕ) (order : Order) (packets : List StpPacket) (n : List ℕ) where
  pub at_one : (packet : StpPacket) → IsAt encoder bytes (packets ++ packet ∷ []) (n ++ short order packet) →
      IsAt encoder bytes (packets ++ packet ∷ []) (n ++ spelled order (packet ∷ []))
  at_one packet h = subst (λ (l : List ℕ). IsAt encoder bytes (packets ++ packet ∷ []) (n ++ l)) (sym (append-nil (short order packet))) h

  pub at_both : (a b : List StpPacket) → IsAt encoder bytes ((packets ++ a) ++ b) ((n ++ spelled order a) ++ spelled order b) →
      IsAt encoder bytes (packets ++ (a ++ b)) (n ++ spelled order (a ++ b))
  at_both a b h =
      subst (λ (l : List ℕ). IsAt encoder bytes (packets ++ (a ++ b)) l)
      (append_assoc n (spelled order a) (spelled order b) ∙ ap (λ (l : List ℕ). n ++ l) (sym (spelled_append order a b)))
      (subst (λ (l : List StpPacket). IsAt encoder bytes l ((n ++ spelled order a) ++ spelled order b)) (append_assoc packets a b) h)

pub packets_then : (before : List StpPacket) (items more : List StpItem) → packets_after before (items ++ more) ≡ packets_after (packets_after before items) more
packets_then before [] more = refl
packets_then before (item ∷ items) more = packets_then (before ++ packets_with before item) items more

-- the items of more puts, and of items alone
pub items_append : (puts more : List Put) → items_in (puts ++ more) ≡ items_in puts ++ items_in more
items_append [] more = refl
items_append (Of item ∷ puts) more = ap (λ (l : List StpItem). item ∷ l) (items_append puts more)
items_append (Flush ∷ puts) more = items_append puts more

pub items_unmarked : (items : List StpItem) → items_in (unmarked items) ≡ items
items_unmarked [] = refl
items_unmarked (item ∷ items) = ap (λ (l : List StpItem). item ∷ l) (items_unmarked items)

-- packets for more items are after the others
pub packets_front : (before : List StpPacket) (items : List StpItem) → (rest : List StpPacket) × (packets_after before items ≡ before ++ rest)
packets_front before [] = ([], sym (append-nil before))
packets_front before (item ∷ items) =
    let more = packets_front (before ++ packets_with before item) items in
    (packets_with before item ++ more.0, more.1 ∙ append_assoc before (packets_with before item) more.0)

nibbles_then : (order : Order) (before : List StpPacket) (n : List ℕ) (puts more : List Put) →
    nibbles_after order before n (puts ++ more) ≡ nibbles_after order (packets_after before (items_in puts)) (nibbles_after order before n puts) more
nibbles_then order before n [] more = refl
nibbles_then order before n (Of item ∷ puts) more = nibbles_then order (before ++ packets_with before item) (n ++ spelled order (packets_with before item)) puts more
nibbles_then order before n (Flush ∷ puts) more = nibbles_then order before (filled n) puts more

nibbles_stay : (order : Order) (before : List StpPacket) (n : List ℕ) (puts : List Put) → (rest : List ℕ) × (nibbles_after order before n puts ≡ n ++ rest)
nibbles_stay order before n [] = ([], sym (append-nil n))
nibbles_stay order before n (Of item ∷ puts) =
    let new = spelled order (packets_with before item) in
    let more = nibbles_stay order (before ++ packets_with before item) (n ++ new) puts in
    (new ++ more.0, more.1 ∙ append_assoc n new more.0)
nibbles_stay order before n (Flush ∷ puts) =
    let fill = filled_is n in
    let more = nibbles_stay order before (filled n) puts in
    (replicate fill.0 0 ++ more.0, more.1 ∙ ap (λ (l : List ℕ). l ++ more.0) fill.1 ∙ append_assoc n (replicate fill.0 0) more.0)

pub nibbles_front : (order : Order) (puts more : List Put) → (rest : List ℕ) × (nibbles_for order (puts ++ more) ≡ nibbles_for order puts ++ rest)
unfolding nibbles_for
nibbles_front order puts more =
    let rest = nibbles_stay order (packets_after [] (items_in puts)) (nibbles_for order puts) more in
    (rest.0, nibbles_then order [] [] puts more ∙ rest.1)

pub written_front : (order : Order) (puts more : List Put) → (rest : List ℕ) × (encoded order (puts ++ more) ≡ written order puts ++ rest)
written_front order puts more =
    let n = nibbles_for order puts in
    let rest = nibbles_front order puts more in
    let fill = filled_is (nibbles_for order (puts ++ more)) in (
      joined (kept_nibble order puts ++ (rest.0 ++ replicate fill.0 0)),
      ap joined (fill.1 ∙ ap (λ (l : List ℕ). l ++ replicate fill.0 0) rest.1 ∙ append_assoc n rest.0 (replicate fill.0 0))
          ∙ joined_append n (rest.0 ++ replicate fill.0 0),
    )

-- the packets and the nibbles for one item more
pub packets_more : (items : List StpItem) (item : StpItem) → packets_for (items ++ item ∷ []) ≡ packets_for items ++ packets_with (packets_for items) item
unfolding packets_for
packets_more items item = packets_then [] items (item ∷ [])

pub nibbles_more : (order : Order) (puts : List Put) (item : StpItem) →
    nibbles_for order (puts ++ Of item ∷ []) ≡ nibbles_for order puts ++ spelled order (packets_with (packets_for (items_in puts)) item)
unfolding nibbles_for packets_for
nibbles_more order puts item = nibbles_then order [] [] puts (Of item ∷ [])

pub written_more : (order : Order) (puts : List Put) (item : StpItem) → written order (puts ++ Of item ∷ []) ≡ written order puts ++ put_bytes order puts item
written_more order puts item =
    ap joined (nibbles_more order puts item) ∙ joined_append (nibbles_for order puts) (spelled order (packets_with (packets_for (items_in puts)) item))

-- and for a flush
pub nibbles_flush : (order : Order) (puts : List Put) → nibbles_for order (puts ++ Flush ∷ []) ≡ filled (nibbles_for order puts)
unfolding nibbles_for
nibbles_flush order puts = nibbles_then order [] [] puts (Flush ∷ [])

pub written_flush : (order : Order) (puts : List Put) → written order (puts ++ Flush ∷ []) ≡ written order puts ++ end_bytes order puts
written_flush order puts = ap joined (nibbles_flush order puts) ∙ filled_append (nibbles_for order puts)

odd_kept : (o : Option ℕ) → odd_nibble (option_to_list o) ≡ o
odd_kept None = refl
odd_kept (Some b) = refl

-- before a put: the kept nibble is all that there is
pub at_start : (encoder : StpEncoder) (puts : List Put) → Stands encoder puts → IsAt encoder [] (packets_for (items_in puts)) (kept_nibble encoder.order puts)
at_start encoder puts s =
    let o = odd_nibble (nibbles_for encoder.order puts) in
    (s.attribution, (sym (joined_kept o), s.nibble ∙ sym (odd_kept o)))

-- and after it
pub stands_more : (old new : StpEncoder) (bytes : List ℕ) (puts : List Put) (item : StpItem) → new.order ≡ old.order →
    IsAt new bytes (packets_for (items_in puts) ++ packets_with (packets_for (items_in puts)) item) (kept_nibble old.order puts ++ spelled old.order (packets_with (packets_for (items_in puts)) item)) →
    Stands new (puts ++ Of item ∷ [])
stands_more old new bytes puts item e h = record {
  attribution = subst (λ p. attributed.Stands new.attribution p) (sym (ap packets_for (items_append puts (Of item ∷ [])) ∙ packets_more (items_in puts) item)) h.0;
  nibble = h.1.1
      ∙ sym (odd_append (nibbles_for old.order puts) (spelled old.order (packets_with (packets_for (items_in puts)) item)))
      ∙ ap odd_nibble (sym (nibbles_more old.order puts item))
      ∙ ap (λ (o : Order). odd_nibble (nibbles_for o (puts ++ Of item ∷ []))) (sym e);
}

-- and after a flush
pub stands_flush : (old new : StpEncoder) (puts : List Put) → new.attribution ≡ old.attribution → new.joiner.low ≡ None → Stands old puts → Stands new (puts ++ Flush ∷ [])
stands_flush old new puts e f s = record {
  attribution = subst (λ p. attributed.Stands new.attribution p) (sym (ap packets_for (items_append puts (Flush ∷ []) ∙ append-nil (items_in puts))))
      (subst (λ a. attributed.Stands a (packets_for (items_in puts))) (sym e) s.attribution);
  nibble = f ∙ (filled_is (nibbles_for new.order puts)).2 ∙ ap odd_nibble (sym (nibbles_flush new.order puts));
}
