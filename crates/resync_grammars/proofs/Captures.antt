-- Sources inside a capture.
use Rattle.std.proofs.Common.{◌≡◌, ℕ, List, ◌++◌, sym, ◌∙◌, ap, Bool, None}
use Rattle.trace_values.proofs.NibbleModes.{nibbles_append}
use Rattle.resync_grammars.specs.Names.{InUnits, nibbles_of, Placed, units_of, by_unit, FramesMode, Header, Sync, Order}
use Rattle.resync_grammars.specs.Names.{items_at, items_in, port_reading, IsRest}
use Rattle.itm_grammar.specs.Spelling.{Spells, why}
use Rattle.itm_grammar.specs.Rule.{rule}
use Rattle.itm_codec.specs.Reading.{pattern, packets_in}
use Rattle.resync_rules.proofs.Resting as resting
use Rattle.resync_grammars.specs.Port.{rest_mode}
use Rattle.resync_grammars.proofs.Modes.{bytes_rest}
use Rattle.resync_grammars.specs.Itm as itm
use Rattle.resync_grammars.specs.Stp.{IsItemsRest}
use Rattle.resync_grammars.specs.Capture.{source_bytes}
use Rattle.resync_grammars.proofs.ItmSyncing.{itm_syncs}
use Rattle.resync_grammars.proofs.StpResting.{is_items_rest}

pub itm_rest : (hunts : Bool) (lost rest : List Placed) → (packets_in hunts (lost ++ rest)).fault ≡ None → IsRest (itm.hunting hunts) lost rest
itm_rest hunts lost rest e = resting.is_rest (InUnits Spells) (λ r. why (units_of r)) (by_unit rule) Header pattern Sync itm_syncs hunts lost rest e

pub itm_capture : (mode : FramesMode) (hunts : Bool) (id : ℕ) (lost rest : List Placed) → (port_reading mode (lost ++ rest)).fault ≡ None →
    (packets_in hunts (source_bytes mode id (lost ++ rest))).fault ≡ None →
    (early : List Placed) × (source_bytes mode id (lost ++ rest) ≡ early ++ source_bytes (rest_mode mode) id rest)
    × IsRest (itm.hunting hunts) early (source_bytes (rest_mode mode) id rest)
itm_capture mode hunts id lost rest e f =
    let b = bytes_rest mode id lost rest e in
    (b.0, b.1, itm_rest hunts b.0 (source_bytes (rest_mode mode) id rest) (ap (λ l. (packets_in hunts l).fault) (sym b.1) ∙ f))

pub stp_capture : (order : Order) (mode : FramesMode) (hunts : Bool) (id : ℕ) (lost rest : List Placed) → (port_reading mode (lost ++ rest)).fault ≡ None →
    (items_in order hunts (source_bytes mode id (lost ++ rest))).fault ≡ None →
    (early : List Placed) × (source_bytes mode id (lost ++ rest) ≡ early ++ source_bytes (rest_mode mode) id rest)
    × IsItemsRest order hunts (nibbles_of early) (nibbles_of (source_bytes (rest_mode mode) id rest))
stp_capture order mode hunts id lost rest e f =
    let b = bytes_rest mode id lost rest e in (
      b.0,
      b.1,
      is_items_rest order hunts (nibbles_of b.0) (nibbles_of (source_bytes (rest_mode mode) id rest))
          (ap (λ l. (items_at order hunts l).fault) (sym (nibbles_append b.0 (source_bytes (rest_mode mode) id rest))) ∙ ap (λ l. (items_in order hunts l).fault) (sym b.1) ∙ f),
    )
