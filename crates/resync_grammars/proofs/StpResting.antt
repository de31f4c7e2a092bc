-- The items of the rest of a source of STP packets.
use Rattle.std.proofs.Common.{◌≡◌, ℕ, List, [], ◌∷◌, ◌++◌, refl, ◌∙◌, ap, subst, inl, inr, Bool, true, false, None}
use Rattle.std.specs.Prelude.{Option, Some}
use Rattle.std.specs.List.{AllByRecursion}
use Rattle.resync_grammars.specs.Names.{InUnits, Place, Placed, units_of, Stream, Said, Kept, kept, by_unit, kept_if}
use Rattle.resync_grammars.specs.Names.{decorate, carried, decorated, Order, Row, StpPacket, Async, Plain, Stamped}
use Rattle.resync_grammars.specs.Names.{Start, None as NoStamp, StpItem, line_of, version_in, place_of}
use Rattle.stp_grammar.proofs.Told.{stamp_of}
use Rattle.resync_grammars.specs.Names.{item_with, item_of, attribute, Locks, IsRest}
use Rattle.trace_values.proofs.Decorating.{decorate_append}
use Rattle.stp_grammar.specs.declared.packet.Row.TheVariants.{Null, Master8, Channel8, Master16, Channel16, Version}
use Rattle.stp_grammar.specs.declared.item.Place.{Place as Origin}
use Rattle.stp_grammar.specs.declared.item.Stamp.{Stamp}
use Rattle.stp_grammar.specs.Shortest.{IsByRow}
use Rattle.stp_grammar.specs.Spelling.{Spells, why}
use Rattle.stp_grammar.specs.Rule.{rule}
use Rattle.stp_grammar.proofs.ShortSpellings.{by_row}
use Rattle.stp_codec.specs.Reading.{pattern, packets_in, items_at}
use Rattle.resync_rules.proofs.Resting as resting
use Rattle.resync_grammars.specs.Stp.{hunting, items_after, HasNoVersion, is_version, ItemsAgree, ItemsLock, IsItemsRest}
use Rattle.resync_grammars.proofs.StpSyncing.{stp_syncs}
use Rattle.resync_grammars.proofs.StpItems.{split, parted}

-- only a VERSION gives the item of one
abbrev pub NoVersionIn : Option StpItem → Type 0
NoVersionIn None = Unit {0}
NoVersionIn (Some item) = (let s : Said StpItem = Kept item in is_version s ≡ false)

plain_none : (o : Origin) (row : Row) (v : ℕ) → version_in (Plain row v) ≡ None → NoVersionIn (item_with o NoStamp row v)
plain_none o Null v e = tt
plain_none o Master8 v e = tt
plain_none o Channel8 v e = tt
plain_none o Master16 v e = tt
plain_none o Channel16 v e = tt
plain_none o Version v e = cc
plain_none o x v e = refl

pub stamped_none : (o : Origin) (s : Stamp) (row : Row) (v : ℕ) → (line_of row).stamped ≡ true → NoVersionIn (item_with o s row v)
stamped_none o s Null v e = tt
stamped_none o s Master8 v e = tt
stamped_none o s Channel8 v e = tt
stamped_none o s Master16 v e = tt
stamped_none o s Channel16 v e = tt
stamped_none o s Version v e = (let k : false ≡ true = e in cc)
stamped_none o s x v e = refl

item_none : (ps : List StpPacket) (p : StpPacket) → IsByRow p → version_in p ≡ None → NoVersionIn (item_of ps p)
item_none ps Async r e = refl
item_none ps (Plain row v) r e = plain_none (place_of ps) row v e
item_none ps (Stamped row v size word) r e = stamped_none (place_of ps) (stamp_of ps size word) row v r

abbrev NoneIn : List (Said StpItem × Place) → Type 0
NoneIn given = AllByRecursion (λ x. is_version x.0 ≡ false) given

kept_none : (o : Option StpItem) (place : Place) (others : List (Said StpItem × Place)) → NoVersionIn o → NoneIn others → NoneIn (kept_if o place others)
kept_none None place others h a = a
kept_none (Some item) place others h a = (h, a)

none_in : (packets : List (StpPacket × Place)) (before : List StpPacket) → AllByRecursion (λ x. IsByRow x.0) packets → HasNoVersion packets → NoneIn (items_after before packets)
none_in [] before r v = tt
none_in ((p, place) ∷ packets) before r v =
    kept_none (item_of (before ++ p ∷ []) p) place (items_after (before ++ p ∷ []) packets) (item_none (before ++ p ∷ []) p r.0 v.0) (none_in packets (before ++ p ∷ []) r.1 v.1)

first_rows : (xs ys : List (StpPacket × Place)) → AllByRecursion (λ x. IsByRow x.0) (xs ++ ys) → AllByRecursion (λ x. IsByRow x.0) xs
first_rows [] ys a = tt
first_rows (x ∷ xs) ys a = (a.0, first_rows xs ys a.1)

module _ (order : Order) where
  abbrev IsSpelled : Said StpPacket → Type 0
  IsSpelled = resting.IsSpelled (InUnits (Spells order)) (λ r. why (units_of r)) (by_unit (rule order)) Start pattern Async (stp_syncs order)

  rows_of : (packets : List (StpPacket × Place)) → AllByRecursion (λ g. IsSpelled g.0) (kept packets) → AllByRecursion (λ x. IsByRow x.0) packets
  rows_of [] a = tt
  rows_of (x ∷ packets) a = (by_row order x.0 (units_of a.0.0) a.0.1, rows_of packets a.1)

  module _ (hunts : Bool) (lost rest front : List Placed) (l : Locks (hunting order hunts) lost rest front) where
    abbrev before : List StpPacket
    before = carried attribute [] l.early

    abbrev at : Place
    at = l.last.place

    by_rows : (more : List Placed) → AllByRecursion (λ x. IsByRow x.0) (l.later more)
    by_rows more =
        let all = resting.all_spelled (InUnits (Spells order)) (λ r. why (units_of r)) (by_unit (rule order)) Start pattern Async (stp_syncs order) true (front ++ more) in
        rows_of (l.later more) (subst (λ (s : Stream StpPacket). AllByRecursion (λ g. IsSpelled g.0) s.given) (l.rest_on more) all).1.1

    agree : (more : List Placed) → ItemsAgree before at (l.later more) (items_after before ((Async, at) ∷ l.later more)) (items_after [] ((Async, at) ∷ l.later more))
    agree more =
        let s = split (l.later more) in
        record {
          split = s;
          whole_items = ap (λ z. items_after before ((Async, at) ∷ z)) s.parts ∙ parted before at s.until s.from s.version;
          rest_items = ap (λ z. items_after [] ((Async, at) ∷ z)) s.parts ∙ parted [] at s.until s.from s.version;
          none_earlier = none_in ((Async, at) ∷ s.until) []
              (tt, first_rows s.until s.from (subst (λ z. AllByRecursion (λ x. IsByRow x.0) z) s.parts (by_rows more)))
              (refl, s.no_version);
        }

    pub locked : ItemsLock order hunts lost rest front
    locked = record {
      packets = l;
      whole_later = λ more. items_after before ((Async, at) ∷ l.later more);
      rest_later = λ more. items_after [] ((Async, at) ∷ l.later more);
      whole_on = λ more. ap (decorate attribute []) (l.whole_on more) ∙ decorate_append attribute l.early ((Kept Async, at) ∷ kept (l.later more)) [];
      rest_on = λ more. ap (decorated attribute []) (l.rest_on more);
      agree = agree;
    }

  pub is_rest : (hunts : Bool) (lost rest : List Placed) → (packets_in order hunts (lost ++ rest)).fault ≡ None → IsRest (hunting order hunts) lost rest
  is_rest hunts lost rest e = resting.is_rest (InUnits (Spells order)) (λ r. why (units_of r)) (by_unit (rule order)) Start pattern Async (stp_syncs order) hunts lost rest e

  pub is_items_rest : (hunts : Bool) (lost rest : List Placed) → (items_at order hunts (lost ++ rest)).fault ≡ None → IsItemsRest order hunts lost rest
  is_items_rest hunts lost rest e = elim (is_rest hunts lost rest e) [
    | inl m ↦ inl (m.0, ap (decorated attribute []) m.1)
    | inr m ↦ inr (m.0, locked hunts lost rest m.0 m.1)
  ]
