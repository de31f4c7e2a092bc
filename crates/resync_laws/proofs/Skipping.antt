-- How many units of a mapped source the rest of a capture skips.
use Rattle.std.proofs.Common.{◌≡◌, ℕ, List, length, map, sym, ◌∙◌, ap, subst, inl, inr, Bool, true}
use Rattle.resync_laws.specs.Names.{Placed, placed, nibbles_of, Stream, packets_hunt, StpItem, items_at, PortReading}
use Rattle.resync_laws.specs.Names.{port_reading, Packet, Plan, SourceKind, Itm, Stp, stream_of, runs_in, list_of}
use Rattle.resync_laws.specs.Names.{Hunting, IsRest, later, rest_mode, source_bytes, hunting, IsItemsRest}
use Rattle.stp_grammar.specs.declared.packet.Order.{Order}
use Rattle.source_events.specs.Tails.{tail_of}
use Rattle.resync_laws.specs.Moved.{later_reading}
use Rattle.resync_laws.proofs.MovedReport.{all_later, list_later}
use Rattle.resync_laws.specs.Report.{rest_plan, left_bytes, left_reading, reads, Skips, skips}
use Rattle.resync_laws.proofs.PlanTerms.{resumed_by}
use Rattle.resync_laws.proofs.Mapped.{can_one}
use Rattle.resync_laws.proofs.Looking.{bytes_are}

-- by the law on rests
rest_skips : {V : Type 0} (h : Hunting V) (lost rest : List Placed) → IsRest h lost rest → Skips h lost rest (h.rest rest).skipped
rest_skips {V} h lost rest r = elim r [
  | inl none ↦ inl (none.0, ap (λ (s : Stream V). s.skipped) none.1)
  | inr found ↦ inr (
    found.0,
    found.1.first,
    ap (λ (u : List Placed). (h.rest u).skipped) found.1.first.is_sync.parts
        ∙ ap (λ (s : Stream V). s.skipped) (found.1.rest_on found.1.first.is_sync.more),
  )
]

items_skip : (order : Order) (hunts : Bool) (lost rest : List Placed) → IsItemsRest order hunts lost rest →
    Skips (hunting order hunts) lost rest (items_at order true rest).skipped
items_skip order hunts lost rest r = elim r [
  | inl none ↦ inl (none.0, ap (λ (s : Stream StpItem). s.skipped) none.1)
  | inr found ↦ inr (
    found.0,
    found.1.packets.first,
    ap (λ (u : List Placed). (items_at order true u).skipped) found.1.packets.first.is_sync.parts
        ∙ ap (λ (s : Stream StpItem). s.skipped) (found.1.rest_on found.1.packets.first.is_sync.more),
  )
]

kind_skips : (plan : Plan) (kind : SourceKind) (early rest : List Placed) → reads plan kind early rest →
    skips plan kind early rest (stream_of (rest_plan plan) kind rest).skipped
kind_skips plan Itm early rest r = rest_skips _ early rest r
kind_skips plan Stp early rest r = items_skip plan.order (packets_hunt plan.packets) (nibbles_of early) (nibbles_of rest) r

-- at any offsets
kind_later : (plan : Plan) (kind : SourceKind) (c : ℕ) (u : List Placed) →
    (stream_of (rest_plan plan) kind (map (λ b. later c b) u)).skipped ≡ (stream_of (rest_plan plan) kind u).skipped
kind_later plan Itm c u = ap (λ (s : Stream Packet). s.skipped) ((can_one plan (0, Itm)).moves c u)
kind_later plan Stp c u =
    ap (λ (n : List Placed). ((resumed_by plan (0, Stp)).rest n).skipped) ((can_one plan (0, Stp)).shifts c u)
    ∙ ap (λ (s : Stream Packet). s.skipped) ((can_one plan (0, Stp)).moves c (nibbles_of u))

module _ (plan : Plan) (lost left : List ℕ)
    (moved : left_reading plan lost left ≡ later_reading (length lost) (port_reading (rest_mode plan.frames) (placed left))) where
  -- the bytes of a source in the rest, at offsets from 0 on and at those in the whole
  bytes_later : (x : ℕ) → source_bytes (rest_mode plan.frames) x (left_bytes lost left)
      ≡ map (λ b. later (length lost) b) (list_of x (runs_in (port_reading (rest_mode plan.frames) (placed left))))
  bytes_later x =
      let c = length lost in
      let r = port_reading (rest_mode plan.frames) (placed left) in
      sym (bytes_are (rest_mode plan.frames) (left_bytes lost left) x)
      ∙ ap (λ (q : PortReading). list_of x (runs_in q)) moved
      ∙ ap (list_of x) (all_later c r.frames) ∙ list_later c x (runs_in r)

  pub tail_skips : (x : ℕ) (kind : SourceKind) (early : List Placed) →
      reads plan kind early (source_bytes (rest_mode plan.frames) x (left_bytes lost left)) →
      skips plan kind early (source_bytes (rest_mode plan.frames) x (left_bytes lost left))
      (tail_of (rest_plan plan) (port_reading (rest_mode plan.frames) (placed left)) x kind).skipped
  tail_skips x kind early r =
      let rest = source_bytes (rest_mode plan.frames) x (left_bytes lost left) in
      subst (λ (n : ℕ). skips plan kind early rest n)
      (ap (λ (u : List Placed). (stream_of (rest_plan plan) kind u).skipped) (bytes_later x)
      ∙ kind_later plan kind (length lost) (list_of x (runs_in (port_reading (rest_mode plan.frames) (placed left)))))
      (kind_skips plan kind early rest r)
