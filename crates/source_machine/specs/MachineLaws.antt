-- The laws of the machine of a source, by those of its decoder.
use Rattle.std.specs.Prelude.{◌≡◌, ℕ, ◌+◌, ◌<◌, ◌≤◌, List, [], ◌∷◌, ◌++◌, length, refl, None, is_none, false}
use Rattle.std.proofs.Common.{ap}
use Rattle.source_machine.specs.Names.{Placed, byte_at, Shows, Settled, Rises, Holds, by_unit, Sync, Header, rule}
use Rattle.source_machine.specs.Names.{count_of, pattern, Async, Start, attribute, Itm as ItmPacket, Stp as StpPacket}
use Rattle.source_machine.specs.Names.{given_as}
use Rattle.trace_values.proofs.Modes as modes
use Rattle.trace_values.proofs.Falls as falling
use Rattle.itm_grammar.proofs.Counting as counting
use Rattle.itm_codec.specs.Decoder as itm
use Rattle.trace_values.proofs.NibbleModes as nibbles
use Rattle.stp_grammar.specs.Rule.{rule as stp_rule, count_of as stp_count}
use Rattle.stp_grammar.proofs.Counting as stp_counting
use Rattle.stp_codec.specs.Reading.{pattern as stp_pattern}
use Rattle.stp_codec.specs.Decoder as stp
use Rattle.stp_codec.specs.FallingLaws as stp_falling
use Rattle.source_events.proofs.Lawful.{rises_as, settled_as}
use Rattle.source_machine.specs.SeenLaws.{shows_as, holds_as}
use Rattle.source_machine.specs.declared.machine.SourceMachine.{SourceMachine}
use Rattle.source_machine.specs.declared.machine.SourceMachine.TheVariants.{Itm, Stp}
use Rattle.source_machine.specs.Machine.{reading_of, Stands, is_live, has_locked, held_of, skipped_by, units_by}

pub shows : (m : SourceMachine) (u : List Placed) → Stands m u →
    Shows (is_live m) (has_locked m) (held_of m) (skipped_by m) (length u) (reading_of m u)
shows (Itm d) u s =
    shows_as ItmPacket _ _ _ _ _ _
    (modes.shows pattern Sync (by_unit rule) Header count_of refl counting.counts_placed d.mode d.live
    (itm.partial_of d) u s)
shows (Stp d) u s =
    shows_as StpPacket _ _ _ _ _ _
    (nibbles.shows stp_pattern Async (by_unit (stp_rule d.order)) Start attribute [] stp_count refl
    (stp_counting.counts_placed d.order) d.mode d.live (stp.partial_of d) u s.0)

pub begins : (m : SourceMachine) → ((reading_of m []).given ≡ []) × ((reading_of m []).fault ≡ None)
begins (Itm d) =
    let k = modes.begins pattern Sync (by_unit rule) Header (itm.is_hunter d) in (ap (given_as ItmPacket) k.0, k.1)
begins (Stp d) =
    let k = nibbles.begins stp_pattern Async (by_unit (stp_rule d.order)) Start attribute [] (stp.is_hunter d) in
    (ap (given_as StpPacket) k.0, k.1)

pub settles : (m : SourceMachine) (u w : List Placed) → is_none (reading_of m u).fault ≡ false →
    Settled (reading_of m u) (reading_of m (u ++ w))
settles (Itm d) u w e =
    settled_as ItmPacket _ _ (modes.settles pattern Sync (by_unit rule) Header (itm.is_hunter d) u w e)
settles (Stp d) u w e =
    settled_as StpPacket _ _
    (nibbles.settles stp_pattern Async (by_unit (stp_rule d.order)) Start attribute [] (stp.is_hunter d) u w e)

pub rises : (m : SourceMachine) (u : List Placed) (at byte : ℕ) →
    Rises (reading_of m u) (reading_of m (u ++ byte_at at byte ∷ [])) at
rises (Itm d) u at byte =
    rises_as ItmPacket _ _ at (modes.rises pattern Sync (by_unit rule) Header (itm.is_hunter d) u at byte)
rises (Stp d) u at byte =
    rises_as StpPacket _ _ at
    (nibbles.rises stp_pattern Async (by_unit (stp_rule d.order)) Start attribute [] (stp.is_hunter d) u at byte)

pub falls : (m : SourceMachine) (u : List Placed) (at byte : ℕ) →
    is_none (reading_of m (u ++ byte_at at byte ∷ [])).fault ≡ false →
    Holds (units_by m) (reading_of m u) (reading_of m (u ++ byte_at at byte ∷ []))
falls (Itm d) u at byte f =
    holds_as ItmPacket 1 _ _ (falling.holds pattern Sync (by_unit rule) Header (itm.is_hunter d) u (byte_at at byte) f)
falls (Stp d) u at byte f =
    holds_as StpPacket 2 _ _
    (nibbles.falls stp_pattern Async (by_unit (stp_rule d.order)) Start attribute [] (stp_falling.begins d.order)
    (stp.is_hunter d) u at byte f)

pub keeps : (m : SourceMachine) (u : List Placed) (at byte : ℕ) → Stands m (u ++ byte_at at byte ∷ []) →
    is_live m ≡ false → (reading_of m u).fault ≡ None →
    ((reading_of m u).held ≤ held_of m) × (held_of m < (reading_of m u).held + units_by m)
keeps (Itm d) u at byte s l f =
    falling.keeps_one pattern Sync (by_unit rule) Header count_of refl counting.counts_placed d.mode d.live
    (itm.partial_of d) u (byte_at at byte) s l f
keeps (Stp d) u at byte s l f =
    nibbles.keeps stp_pattern Async (by_unit (stp_rule d.order)) Start attribute []
    (stp_falling.begins d.order) stp_count refl
    (stp_counting.counts_placed d.order) d.mode d.live (stp.partial_of d) u at byte s.0 l f
