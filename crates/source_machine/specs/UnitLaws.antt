-- The laws of the machine of a source over its units.
use Rattle.std.proofs.Common.{◌≡◌, ◌+◌, ◌≤◌, List, [], ◌∷◌, ◌++◌, length, refl, sym, ◌∙◌, ap, arith}
use Rattle.std.proofs.Common.{true, false, None}
use Rattle.source_machine.specs.Names.{Placed}
use Rattle.source_machine.specs.Names.{by_unit, Sync, Header, rule}
use Rattle.source_machine.specs.Names.{count_of, pattern, packets_in, ItmDecoder, Async, Start, attribute}
use Rattle.source_machine.specs.Names.{items_at, StpDecoder, Itm as ItmPacketOf, Stp as StpPacketOf}
use Rattle.source_machine.specs.Names.{given_as}
use Rattle.trace_values.proofs.Modes as modes
use Rattle.trace_values.proofs.Falls as falling
use Rattle.trace_values.proofs.Quiet as quieting
use Rattle.trace_values.specs.Decorated.{decorate}
use Rattle.trace_values.proofs.Standings.{none_of}
use Rattle.itm_grammar.proofs.Counting as counting
use Rattle.itm_codec.specs.Decoder as itm
use Rattle.stp_grammar.specs.Rule.{rule as stp_rule, count_of as stp_count}
use Rattle.stp_grammar.proofs.Counting as stp_counting
use Rattle.stp_codec.specs.Reading.{pattern as stp_pattern}
use Rattle.stp_codec.specs.Decoder as stp
use Rattle.source_machine.specs.Machine.{is_live, has_locked, held_of, skipped_by}
use Rattle.source_machine.specs.Units.{reads_on, reading_on, StandsOn, Falls}
use Rattle.source_machine.specs.declared.machine.SourceMachine.{SourceMachine}
use Rattle.source_machine.specs.declared.machine.SourceMachine.TheVariants.{Itm, Stp}

-- of one decoder: after a fault at the last unit
itm_falls : (d : ItmDecoder) (w : List Placed) (b : Placed) → itm.Stands d (w ++ b ∷ []) → itm.is_live d ≡ false →
    (packets_in (itm.is_hunter d) w).fault ≡ None →
    (itm.skipped_by d ≡ (packets_in (itm.is_hunter d) (w ++ b ∷ [])).skipped)
    × (itm.held_of d + 1 ≡ (packets_in (itm.is_hunter d) (w ++ b ∷ [])).held)
itm_falls d w b s l f =
    let shown = modes.shows pattern Sync (by_unit rule) Header count_of refl counting.counts_placed d.mode d.live
    (itm.partial_of d) (w ++ b ∷ []) s in
    let k = falling.keeps pattern Sync (by_unit rule) Header count_of refl counting.counts_placed d.mode d.live
    (itm.partial_of d) w b s l f in
    let h = falling.holds pattern Sync (by_unit rule) Header (itm.is_hunter d) w b (sym shown.live_is ∙ l) in
    (shown.skipped_is, (let j = h.held in omega (arith, k, j)))

stp_falls : (d : StpDecoder) (w : List Placed) (b : Placed) → stp.StandsAt d (w ++ b ∷ []) → stp.is_live d ≡ false →
    (items_at (stp.order_of d) (stp.is_hunter d) w).fault ≡ None →
    (stp.skipped_by d ≡ (items_at (stp.order_of d) (stp.is_hunter d) (w ++ b ∷ [])).skipped)
    × (stp.held_of d + 1 ≡ (items_at (stp.order_of d) (stp.is_hunter d) (w ++ b ∷ [])).held)
stp_falls d w b s l f =
    let shown = modes.shows stp_pattern Async (by_unit (stp_rule d.order)) Start stp_count refl
    (stp_counting.counts_placed d.order) d.mode d.live (stp.partial_of d) (w ++ b ∷ []) s.0 in
    let k = falling.keeps stp_pattern Async (by_unit (stp_rule d.order)) Start stp_count refl
    (stp_counting.counts_placed d.order) d.mode d.live (stp.partial_of d) w b s.0 l f in
    let h = falling.holds stp_pattern Async (by_unit (stp_rule d.order)) Start (stp.is_hunter d) w b
    (sym shown.live_is ∙ l) in
    (shown.skipped_is, (let j = h.held in omega (arith, k, j)))

-- after a fault at the last of these units
pub falls : (m : SourceMachine) (w : List Placed) (b : Placed) → StandsOn m (w ++ b ∷ []) → is_live m ≡ false →
    (reading_on m w).fault ≡ None → Falls m (reading_on m) w (w ++ b ∷ [])
falls (Itm d) w b s l f = let k = itm_falls d w b s l f in record { skipped = k.0; held = k.1 }
falls (Stp d) w b s l f = let k = stp_falls d w b s l f in record { skipped = k.0; held = k.1 }

-- while it is live, what it shows
pub shows_units : (m : SourceMachine) (n : List Placed) → StandsOn m n → is_live m ≡ true →
    ((reading_on m n).fault ≡ None) × (skipped_by m ≡ (reading_on m n).skipped) × (held_of m ≡ (reading_on m n).held)
shows_units (Itm d) n s l =
    let k = modes.shows pattern Sync (by_unit rule) Header count_of refl counting.counts_placed d.mode d.live
    (itm.partial_of d) n s in
    (none_of _ (sym l ∙ k.live_is), k.skipped_is, k.held_is l)
shows_units (Stp d) n s l =
    let k = modes.shows stp_pattern Async (by_unit (stp_rule d.order)) Start stp_count refl
    (stp_counting.counts_placed d.order) d.mode d.live (stp.partial_of d) n s.0 in
    (none_of _ (sym l ∙ k.live_is), k.skipped_is, k.held_is l)

-- whether its reading has begun
pub locks_units : (m : SourceMachine) (n : List Placed) → StandsOn m n → has_locked m ≡ (reading_on m n).locked
locks_units (Itm d) n s =
    (modes.shows pattern Sync (by_unit rule) Header count_of refl counting.counts_placed d.mode d.live
    (itm.partial_of d) n s).locked_is
locks_units (Stp d) n s =
    (modes.shows stp_pattern Async (by_unit (stp_rule d.order)) Start stp_count refl
    (stp_counting.counts_placed d.order) d.mode d.live (stp.partial_of d) n s.0).locked_is

-- a hunt over at most two units has given nothing
pub quiet : (m : SourceMachine) (w : List Placed) → length w ≤ 2 →
    ((reads_on m true w).given ≡ []) × ((reads_on m true w).fault ≡ None)
quiet (Itm d) w l =
    let k = quieting.quiet pattern Sync (by_unit rule) Header w (omega (arith, l)) in
    (ap (given_as ItmPacketOf) k.given, k.fault)
quiet (Stp d) w l =
    let k = quieting.quiet stp_pattern Async (by_unit (stp_rule d.order)) Start w (omega (arith, l)) in
    (ap (given_as StpPacketOf) (ap (decorate attribute []) k.given), k.fault)
