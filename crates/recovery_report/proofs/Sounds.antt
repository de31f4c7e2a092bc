-- What is taken again is without a fault, and a fault ends a reading.
use Rattle.std.proofs.Common.{◌≡◌, [], ◌∷◌, ◌++◌, refl, sym, ◌∙◌, ap, arith, Option, None, Bool, true, false}
use Rattle.std.specs.Prelude.{is_none}
use Rattle.trace_values.specs.Placed.{Placed}
use Rattle.trace_values.specs.Walk.{by_unit}
use Rattle.trace_values.specs.Hunted.{Found, hunt, hunted_by}
use Rattle.trace_values.proofs.Modes as modes
use Rattle.trace_values.proofs.Quiet as quieting
use Rattle.frame_grammar.specs.Port.{PortItem, Full, State, start, rule as port_rule}
use Rattle.port_sync.specs.Hunting.{pattern as port_pattern}
use Rattle.deformatter.specs.Resume.{taken_again}
use Rattle.deformatter.proofs.BeforeFaults.{seeked}
use Rattle.itm_grammar.specs.declared.packet.ItmPacket.TheVariants.{Sync}
use Rattle.itm_grammar.specs.declared.partial.Partial.TheVariants.{Header}
use Rattle.itm_grammar.specs.Rule.{rule}
use Rattle.itm_codec.specs.Reading.{pattern}
use Rattle.stp_grammar.specs.declared.packet.Order.{Order}
use Rattle.stp_grammar.specs.declared.packet.StpPacket.TheVariants.{Async}
use Rattle.stp_grammar.specs.declared.partial.Partial.TheVariants.{Start}
use Rattle.stp_grammar.specs.Rule.{rule as stp_rule}
use Rattle.stp_codec.specs.Reading.{pattern as stp_pattern}
use Rattle.source_events.specs.declared.plan.Plan.{Plan}
use Rattle.source_events.specs.declared.plan.SourceKind.{SourceKind}
use Rattle.source_events.specs.declared.plan.SourceKind.TheVariants.{Itm, Stp}
use Rattle.source_machine.specs.Units.{reads_by}
use Rattle.stretch_readings.specs.Stretches.{from_fault}
use Rattle.stretch_readings.specs.Words.{IsSound, IsSettling}
use Rattle.stretch_readings.proofs.Feeding.{last_unit}
use Rattle.recovering_machines.specs.Port.{items_by, from_halfword}
use Rattle.recovering_machines.proofs.Feeding.{same}
pub use Rattle.recovering_machines.proofs.Going.{sources_settle}

one_sound : (order : Order) (kind : SourceKind) (b : Placed) → (reads_by order kind true (b ∷ [])).fault ≡ None
one_sound order Itm b = (quieting.quiet pattern Sync (by_unit rule) Header (b ∷ []) (omega arith)).fault
one_sound order Stp b = (quieting.quiet stp_pattern Async (by_unit (stp_rule order)) Start (b ∷ []) (omega arith)).fault

pub sources_sound : (order : Order) (kind : SourceKind) → IsSound (reads_by order kind) from_fault
sources_sound order kind = λ h u b e k. ap (λ w. (reads_by order kind true w).fault) (last_unit u b)
    ∙ one_sound order kind b

-- no unit is no fault
pub sources_begin : (order : Order) (kind : SourceKind) (h : Bool) → (reads_by order kind h []).fault ≡ None
sources_begin order Itm false = refl
sources_begin order Itm true = refl
sources_begin order Stp false = refl
sources_begin order Stp true = refl

-- and says nothing
pub quiet : (plan : Plan) (kind : SourceKind) (h : Bool) → (reads_by plan.order kind h []).given ≡ []
quiet plan Itm false = refl
quiet plan Itm true = refl
quiet plan Stp false = refl
quiet plan Stp true = refl

pub port_begins : (h : Bool) → (items_by h []).fault ≡ None
port_begins false = refl
port_begins true = refl

pub port_sound : IsSound items_by from_halfword
port_sound = λ h u b e k.
    let none = (seeked h u b (sym (same h u).0 ∙ e) (ap is_none (sym (same h (u ++ b ∷ [])).0) ∙ k)).none in
    ap (λ (o : Option (Found State PortItem)).
    (hunted_by (hunt port_pattern Full port_rule start (taken_again h (u ++ b ∷ []))).units o).fault) none

pub port_settles : IsSettling items_by
port_settles = λ h u w e. modes.settles port_pattern Full port_rule start h u w e
