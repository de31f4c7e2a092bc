-- What a packet of a row says.
use Rattle.std.proofs.Common.{◌≡◌, ℕ, ◌<◌, List, ◌∷◌, [], ◌++◌, Bool, true, false, cond, Option, Some, refl, ◌∙◌, ap, subst, arith}
use Rattle.std.specs.Prelude.{◌==◌}
use Rattle.std.proofs.lemmas.Bool.Decides.{nat_tests}
use Rattle.stp_grammar.specs.declared.packet.Row.{Row}
use Rattle.stp_grammar.specs.declared.packet.StpPacket.{StpPacket}
use Rattle.stp_grammar.specs.declared.packet.StpPacket.TheVariants.{Async, Plain, Stamped}
use Rattle.stp_grammar.specs.declared.item.Place.{Place}
use Rattle.stp_grammar.specs.declared.item.Stamp.{Stamp}
use Rattle.stp_grammar.specs.declared.item.Stamp.TheVariants.{None as NoStamp}
use Rattle.stp_grammar.specs.declared.item.StpItem.{StpItem}
use Rattle.stp_grammar.specs.declared.item.StpItem.TheVariants.{Async as AsyncItem}
use Rattle.stp_grammar.specs.declared.attribution.Attribution.{Attribution}
use Rattle.std.specs.Option.{ForSome}
use Rattle.stp_grammar.specs.Opcodes.{line_of, row_at}
use Rattle.stp_grammar.specs.Proper.{IsProper, IsProperItem}
use Rattle.stp_grammar.specs.Attribution.{item_with, item_of, place_of, stamp_by}
use Rattle.stp_grammar.proofs.Told.{stamp_of}
use Rattle.stp_grammar.specs.Attributed.{Stands, kept_place}
use Rattle.stp_grammar.specs.declared.said.Said.{Said}
use Rattle.stp_grammar.specs.Said.{packet_at, row_packet, said_item, IsProperSaid}
use Rattle.stp_grammar.specs.NextState.{Keeps}
use Rattle.stp_grammar.proofs.Attributing.{place_is, stamp_is, stands_as}
use Rattle.stp_grammar.proofs.Items.{row_fits}

module _ (row : Row) (v size word : ℕ) where
  -- its packet, with a timestamp or without
  abbrev pub packet_by : Bool → StpPacket
  packet_by stamped = cond stamped (Stamped row v size word) (Plain row v)

  pub plain_of : (stamped : Bool) → stamped ≡ false → packet_by stamped ≡ Plain row v
  plain_of stamped e = ap packet_by e

  pub stamped_of : (stamped : Bool) → stamped ≡ true → packet_by stamped ≡ Stamped row v size word
  stamped_of stamped e = ap packet_by e

  by_packet : (stamped : Bool) (all : List StpPacket) →
      item_with (place_of all) (cond stamped (stamp_of all size word) NoStamp) row v ≡ item_of all (packet_by stamped)
  by_packet true all = refl
  by_packet false all = refl

  stamp_said : (stamped : Bool) (kept : Attribution) (all : List StpPacket) → Stands kept all →
      cond stamped (stamp_by kept.version kept.last size word) NoStamp ≡ cond stamped (stamp_of all size word) NoStamp
  stamp_said true kept all s = stamp_is kept all size word s
  stamp_said false kept all s = refl

  -- what it says has its item
  pub item_said : (stamped : Bool) (kept : Attribution) (all : List StpPacket) (place : Place) (stamp : Stamp) → Stands kept all →
      place ≡ kept_place kept → stamp ≡ cond stamped (stamp_by kept.version kept.last size word) NoStamp →
      item_with place stamp row v ≡ item_of all (packet_by stamped)
  item_said stamped kept all place stamp s e f =
      ap (λ z. item_with z stamp row v) (e ∙ place_is kept all s)
      ∙ ap (λ z. item_with (place_of all) z row v) (f ∙ stamp_said stamped kept all s)
      ∙ by_packet stamped all

-- the packet of a row's number
pub of_row : (n v size word : ℕ) → n < 35 → packet_at n v size word ≡ row_packet n v size word
of_row n v size word l =
    ap (λ (t : Bool). cond t Async (row_packet n v size word)) (let e : (n == 35) ≡ false = grind (arith, nat_tests) in e)

-- what is kept after a packet without a timestamp, which may be an ASYNC
pub noted : (n v size word : ℕ) (old new : Attribution) (packets : List StpPacket) → n < 36 →
    (line_of (row_at n)).stamped ≡ false → IsProper (packet_at n v size word) → Stands old packets →
    Keeps old new (Plain (row_at n) v) → Stands new (packets ++ packet_at n v size word ∷ [])
noted n v size word old new packets l none proper s k = by (n == 35) refl where
  by : (t : Bool) → (n == 35) ≡ t → Stands new (packets ++ packet_at n v size word ∷ [])
  by true h =
      stands_as old new packets (packet_at n v size word) Async (ap (λ (t : Bool). cond t Async (row_packet n v size word)) h) proper s
      (subst (λ (m : ℕ). Keeps old new (Plain (row_at m) v)) (let q : n ≡ 35 = grind (arith, nat_tests) in q) k)
  by false h =
      stands_as old new packets (packet_at n v size word) (Plain (row_at n) v)
      (of_row n v size word (grind (arith, nat_tests)) ∙ plain_of (row_at n) v size word (line_of (row_at n)).stamped none) proper s k

-- what an ASYNC says is its item, too
pub number_said : (t : Bool) (all : List StpPacket) (o : Option StpItem) (p : StpPacket) → o ≡ item_of all p →
    cond t (Some AsyncItem) o ≡ item_of all (cond t Async p)
number_said true all o p e = refl
number_said false all o p e = e

-- the numbers of an item are in their ranges where those of what is said are
pub said_fits : (said : Said) → IsProperSaid said → ForSome (said_item said) (λ item. IsProperItem item)
unfolding said_item
said_fits said p = by (said.number == 35) where
  by : (t : Bool) → ForSome (cond t (Some AsyncItem) (item_with said.place said.stamp (row_at said.number) said.payload)) (λ item. IsProperItem item)
  by true = λ x e. subst (λ (y : StpItem). IsProperItem y) (let q : AsyncItem ≡ x = cc in q) tt
  by false = row_fits said.place said.stamp (row_at said.number) said.payload p.place p.stamp p.payload
