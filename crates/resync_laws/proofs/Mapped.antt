-- The mapped sources of a plan, whose fronts may be lost.
use Rattle.std.proofs.Common.{◌≡◌, ℕ, List, [], ◌∷◌, ◌++◌, map, refl, sym, ◌∙◌, ap, subst, inl, inr, Bool, true, false, cond}
use Rattle.std.specs.Prelude.{Option, None, Some, ◌==◌, ◌||◌}
use Rattle.std.specs.Option.{is_some}
use Rattle.std.specs.List.{list_any}
use Rattle.trace_values.proofs.NibbleModes.{nibbles_append}
use Rattle.resync_laws.specs.Names.{Place, Placed, units_of, nibbles_of, Said, Notice, Kept, packets_hunt, Sync}
use Rattle.resync_laws.specs.Names.{None as NoStamp, StpItem, Packet, Plan, SourceKind, Itm, Stp, given_as, mapped_ids}
use Rattle.resync_laws.specs.Names.{stream_of, sources_by, Mapped, items_of, point_of, point_in, AllFrom}
use Rattle.trace_values.specs.Grammar.{InUnits}
use Rattle.itm_grammar.specs.declared.partial.Partial.TheVariants.{Header}
use Rattle.itm_grammar.specs.Spelling as itm
use Rattle.itm_grammar.specs.Rule as itm_rule
use Rattle.itm_codec.specs.Reading as itm_reading
use Rattle.stp_grammar.specs.declared.packet.Row.{Row}
use Rattle.stp_grammar.specs.declared.packet.Row.TheVariants.{Null, Master8, Channel8, Master16, Channel16}
use Rattle.stp_grammar.specs.declared.packet.StpPacket.{StpPacket}
use Rattle.stp_grammar.specs.declared.packet.StpPacket.TheVariants.{Async, Plain, Stamped}
use Rattle.stp_grammar.specs.declared.partial.Partial.TheVariants.{Start}
use Rattle.stp_grammar.specs.declared.item.Place.{Place as Origin}
use Rattle.stp_grammar.specs.Shortest.{IsByRow}
use Rattle.stp_grammar.specs.Spelling as stp
use Rattle.stp_grammar.specs.Rule as stp_rule
use Rattle.stp_grammar.specs.Attribution.{begins_master, place_of, item_with, attribute}
use Rattle.stp_grammar.proofs.Told.{stamp_of}
use Rattle.stp_grammar.proofs.ShortSpellings.{by_row}
use Rattle.stp_codec.specs.Reading as stp_reading
use Rattle.source_events.specs.declared.packet.Packet.TheVariants.{Itm as ItmPacket, Stp as StpPacketOf}
use Rattle.source_events.proofs.Merges.{test_same}
use Rattle.source_events.proofs.Lawful.{itm_lawful, stp_lawful}
use Rattle.resync_grammars.proofs.ItmSyncing.{itm_syncs}
use Rattle.resync_grammars.proofs.StpSyncing.{stp_syncs}
use Rattle.resync_grammars.proofs.StpItems.{Alike, alike_push, alike_anew, item_alike, version_cases}
use Rattle.resync_grammars.proofs.Captures.{itm_rest}
use Rattle.resync_grammars.proofs.StpResting.{NoVersionIn, is_items_rest, stamped_none}
use Rattle.resync_rules.proofs.ItemTerms.{first_item, IsMarked, BeginsAnew}
use Rattle.resync_laws.specs.Resumed.{wholes, rests, CanResume, CanAll, IsQuiet, IsQuietAt}
use Rattle.resync_laws.proofs.ReportTerms.{AllRead}
use Rattle.resync_laws.proofs.PlanTerms.{is_version_item, is_version, resumed_by, sources_of, unit_reads}
use Rattle.resync_laws.specs.Report.{rest_plan}
use Rattle.resync_laws.proofs.Lifting.{can_as}
use Rattle.resync_laws.proofs.Nibbling.{nibbles_rise, nibbles_shift}
use Rattle.resync_laws.proofs.Recipe as recipe
use Rattle.resync_laws.proofs.Recipe.{AreUnits}

-- the units of a source's bytes: the bytes themselves, or their nibbles
bytes_are : AreUnits (λ u. u)
bytes_are = record { append = λ u w. refl; rising = λ u a r. r; shifts = λ c u. refl }

nibbles_are : AreUnits nibbles_of
nibbles_are = record { append = nibbles_append; rising = nibbles_rise; shifts = nibbles_shift }

-- a point is where it was
pub point_as : {V W : Type 0} (f : V → W) (g : List (Said V × Place)) → point_in (given_as f g) ≡ point_in g
point_as f [] = refl
point_as f ((Notice n, at) ∷ g) = refl
point_as f ((Kept v, at) ∷ g) = point_as f g

version_as : (item : StpItem) → is_version (StpPacketOf item) ≡ is_version_item item
version_as (Rattle.stp_grammar.specs.declared.item.StpItem.TheVariants.Version v) = refl
version_as item = refl

first_as : (g : List (Said StpItem × Place)) → first_item is_version (given_as StpPacketOf g) ≡ first_item is_version_item g
first_as [] = refl
first_as ((Notice n, at) ∷ g) = first_as g
first_as ((Kept item, at) ∷ g) =
    ap (λ (o : Option Place). cond (is_version (StpPacketOf item)) (Some at) o) (first_as g)
    ∙ ap (λ (t : Bool). cond t (Some at) (first_item is_version_item g)) (version_as item)

-- a VERSION begins attribution anew, and alone gives the item of one
abbrev Marked : Bool → Option StpItem → Type 0
Marked t o = IsMarked is_version_item t o

row_marked : (o : Origin) (row : Row) (v : ℕ) → Marked (begins_master (Plain row v)) (item_with o NoStamp row v)
row_marked o Null v = tt
row_marked o Master8 v = tt
row_marked o Channel8 v = tt
row_marked o Master16 v = tt
row_marked o Channel16 v = tt
row_marked o x v = refl

unmarked : (o : Option StpItem) → NoVersionIn o → Marked false o
unmarked None h = tt
unmarked (Some (Rattle.stp_grammar.specs.declared.item.StpItem.TheVariants.Version v)) h = h
unmarked (Some item) h = refl

marked : (ps : List StpPacket) (p : StpPacket) → IsByRow p → Marked (begins_master p) (attribute ps p).0
marked ps Async r = refl
marked ps (Plain row v) r = row_marked (place_of (ps ++ Plain row v ∷ [])) row v
marked ps (Stamped row v size word) r =
    unmarked _ (stamped_none (place_of (ps ++ Stamped row v size word ∷ [])) (stamp_of (ps ++ Stamped row v size word ∷ []) size word) row v r)

begins_anew : BeginsAnew attribute IsByRow begins_master is_version_item Alike
begins_anew = record {
  marked = marked;
  anew = λ ps qs p e. anew ps qs p e;
  on = λ ps qs p a. (item_alike (ps ++ p ∷ []) (qs ++ p ∷ []) p (alike_push ps qs p a), alike_push ps qs p a);
} where
  anew : (ps qs : List StpPacket) (p : StpPacket) → begins_master p ≡ true → ((attribute ps p).0 ≡ (attribute qs p).0) × Alike (attribute ps p).1 (attribute qs p).1
  anew ps qs p e = elim (version_cases p) [
    | inl n ↦ absurd (let k : false ≡ true = ap is_some (sym n) ∙ e in cc)
    | inr v ↦
        let a : Alike (ps ++ p ∷ []) (qs ++ p ∷ []) = subst (λ (x : StpPacket). Alike (ps ++ x ∷ []) (qs ++ x ∷ [])) (sym v.1) (alike_anew ps qs v.0) in
        (item_alike (ps ++ p ∷ []) (qs ++ p ∷ []) p a, a)
  ]

module _ (plan : Plan) where
  abbrev h : Bool
  h = packets_hunt plan.packets

  can_itm : (id : ℕ) → CanResume (resumed_by plan (id, Itm))
  can_itm id =
      can_as ItmPacket (λ k. k) (λ s. point_of s) (recipe.source (InUnits itm.Spells) (λ r. itm.why (units_of r)) itm_rule.rule Header itm_reading.pattern Sync itm_syncs (λ u. u) bytes_are Itm h id)
      (λ s. point_as ItmPacket s.given)
      (recipe.can (InUnits itm.Spells) (λ r. itm.why (units_of r)) itm_rule.rule Header itm_reading.pattern Sync itm_syncs (λ u. u) bytes_are Itm h id itm_lawful)

  can_stp : (id : ℕ) → CanResume (resumed_by plan (id, Stp))
  can_stp id =
      can_as StpPacketOf (λ k. k) (λ s. first_item is_version s.given) _ (λ s. first_as s.given)
      (recipe.can_items (InUnits (stp.Spells plan.order)) (λ r. stp.why (units_of r)) (stp_rule.rule plan.order) Start stp_reading.pattern Async (stp_syncs plan.order) nibbles_of nibbles_are
      attribute IsByRow begins_master is_version_item Alike begins_anew (λ p r s. by_row plan.order p (units_of r) s) [] Stp h id (stp_lawful plan.order))

  pub can_one : (s : ℕ × SourceKind) → CanResume (resumed_by plan s)
  can_one (id, Itm) = can_itm id
  can_one (id, Stp) = can_stp id

  can_each : (ids : List (ℕ × SourceKind)) → CanAll (map (λ s. resumed_by plan s) ids)
  can_each [] = tt
  can_each (s ∷ ids) = (can_one s, can_each ids)

  pub can_all : CanAll (sources_of plan)
  can_all = can_each (mapped_ids plan)

  read_one : (s : ℕ × SourceKind) (u w : List Placed) → ((resumed_by plan s).whole (u ++ w)).fault ≡ None → unit_reads plan (resumed_by plan s).kind u w
  read_one (id, Itm) u w e = itm_rest h u w e
  read_one (id, Stp) u w e = is_items_rest plan.order h u w e

  read_each : (ids : List (ℕ × SourceKind)) → AllRead (unit_reads plan) (map (λ s. resumed_by plan s) ids)
  read_each [] = tt
  read_each (s ∷ ids) = (read_one s, read_each ids)

  pub all_read : AllRead (unit_reads plan) (sources_of plan)
  all_read = read_each (mapped_ids plan)

  -- they are the plan's, and in the rest those of the plan that reads it
  whole_one : (s : ℕ × SourceKind) → (let m : Mapped Packet = record { id = (resumed_by plan s).id; stream = λ u. (resumed_by plan s).whole ((resumed_by plan s).units u) } in m ≡ record { id = s.0; stream = stream_of plan s.1 })
  whole_one (id, Itm) = refl
  whole_one (id, Stp) = refl

  wholes_each : (ids : List (ℕ × SourceKind)) → wholes (map (λ s. resumed_by plan s) ids) ≡ map (λ s. record { id = s.0; stream = stream_of plan s.1 }) ids
  wholes_each [] = refl
  wholes_each (s ∷ ids) =
      ap (λ (m : Mapped Packet). m ∷ wholes (map (λ s. resumed_by plan s) ids)) (whole_one s)
      ∙ ap (λ (l : List (Mapped Packet)). record { id = s.0; stream = stream_of plan s.1 } ∷ l) (wholes_each ids)

  pub wholes_are : wholes (sources_of plan) ≡ sources_by plan
  wholes_are = wholes_each (mapped_ids plan)

  rest_one : (s : ℕ × SourceKind) → (let m : Mapped Packet = record { id = (resumed_by plan s).id; stream = λ u. (resumed_by plan s).rest ((resumed_by plan s).units u) } in m ≡ record { id = s.0; stream = stream_of (rest_plan plan) s.1 })
  rest_one (id, Itm) = refl
  rest_one (id, Stp) = refl

  rests_each : (ids : List (ℕ × SourceKind)) → rests (map (λ s. resumed_by plan s) ids) ≡ map (λ s. record { id = s.0; stream = stream_of (rest_plan plan) s.1 }) ids
  rests_each [] = refl
  rests_each (s ∷ ids) =
      ap (λ (m : Mapped Packet). m ∷ rests (map (λ s. resumed_by plan s) ids)) (rest_one s)
      ∙ ap (λ (l : List (Mapped Packet)). record { id = s.0; stream = stream_of (rest_plan plan) s.1 } ∷ l) (rests_each ids)

  pub rests_are : rests (sources_of plan) ≡ sources_by (rest_plan plan)
  rests_are = rests_each (mapped_ids plan)

  -- an ITM source of the rest gives nothing before its point
  quiet_as : (o : Option Place) (g : List (Said _ × Place)) → AllFrom o (items_of g) → AllFrom o (items_of (given_as ItmPacket g))
  quiet_as o [] a = tt
  quiet_as o ((Notice n, at) ∷ g) a = quiet_as o g a
  quiet_as o ((Kept v, at) ∷ g) a = (a.0, quiet_as o g a.1)

  quiet_itm : (id : ℕ) → IsQuiet (resumed_by plan (id, Itm))
  quiet_itm id w rising sound =
      subst (λ (o : Option Place). AllFrom o (items_of (given_as ItmPacket (itm_reading.packets_in true w).given))) (sym (point_as ItmPacket (itm_reading.packets_in true w).given))
      (quiet_as (point_of (itm_reading.packets_in true w)) (itm_reading.packets_in true w).given
      (recipe.quiet (InUnits itm.Spells) (λ r. itm.why (units_of r)) itm_rule.rule Header itm_reading.pattern Sync itm_syncs (λ u. u) bytes_are Itm h id w rising sound))

  quiet_stps : (x : ℕ) (ids : List ℕ) → list_any (λ y. y == x) ids ≡ false → IsQuietAt (map (λ s. resumed_by plan s) (map (λ y. (y, Stp)) ids)) x
  quiet_stps x [] e = tt
  quiet_stps x (y ∷ ids) e = by (y == x) refl e (λ f. quiet_stps x ids f) where
    by : (t : Bool) → (y == x) ≡ t → (t || list_any (λ y. y == x) ids) ≡ false → (list_any (λ y. y == x) ids ≡ false → IsQuietAt (map (λ s. resumed_by plan s) (map (λ y. (y, Stp)) ids)) x) → (x ≡ y → IsQuiet (resumed_by plan (y, Stp))) × IsQuietAt (map (λ s. resumed_by plan s) (map (λ y. (y, Stp)) ids)) x
    by true k f more = (let q : true ≡ false = f in cc)
    by false k f more = ((λ i. absurd (not_other x y k i)), more f) where
      not_other : (x y : ℕ) → (y == x) ≡ false → x ≡ y → ⊥
      not_other x y k i = (let q : true ≡ false = sym (test_same y x (sym i)) ∙ k in cc)

  quiet_itms : (x : ℕ) (itms : List ℕ) (more : List (ℕ × SourceKind)) → IsQuietAt (map (λ s. resumed_by plan s) more) x → IsQuietAt (map (λ s. resumed_by plan s) (map (λ y. (y, Itm)) itms ++ more)) x
  quiet_itms x [] more q = q
  quiet_itms x (y ∷ itms) more q = ((λ i. quiet_itm y), quiet_itms x itms more q)

  pub quiet_at : (x : ℕ) → list_any (λ y. y == x) plan.stp ≡ false → IsQuietAt (sources_of plan) x
  quiet_at x e = quiet_itms x plan.itm (map (λ y. (y, Stp)) plan.stp) (quiet_stps x plan.stp e)
