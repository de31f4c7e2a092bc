use Rattle.std.proofs.Common.{◌≡◌, ℕ, List, sym, ap, subst}
use Rattle.source_events.specs.declared.port_mode.PortMode.{PortMode}
use Rattle.source_events.specs.declared.tails.SourceTail.{SourceTail}
use Rattle.source_events.specs.declared.tails.Tails.{Tails}
use Rattle.recovery_report.specs.Port.{recovered}
use Rattle.recovery_report.specs.Report.{parts_in}
use Rattle.recovery_engine.specs.Slots.{StandFor}
use Rattle.recovery_engine.proofs.engine.Recovery.finish.Goals as goal

same_tails : (b k s z t v u w : ℕ) (m n : PortMode) (x y : List SourceTail) → b ≡ k → m ≡ n → s ≡ z → t ≡ v →
    u ≡ w → x ≡ y →
    (let a : Tails = record { bytes = b; mode = m; skipped = s; tail = t; unattributed = u; sources = x } in
    let d : Tails = record { bytes = k; mode = n; skipped = z; tail = v; unattributed = w; sources = y } in a ≡ d)
same_tails b k s z t v u w m n x y e f g h i j = cc

pub returns : goal.returns
returns c = λ u k.
    let self = c.args.self.now in
    let r = recovered self.plan.frames u in
    let port = c.port_end-port.ensures u k.port in
    same_tails self.count _ _ _ _ _ _ _ _ _ _ _ k.count (ap (λ e. e.mode) port) (ap (λ e. e.skipped) port)
    (ap (λ e. e.tail) port) (c.unattributed.ensures u k)
    (c.source_tails.ensures self.guesses (parts_in r)
    (subst (λ l. StandFor self.guesses self.plan (parts_in r) l) (sym c.as_slice.ensures.value) k.sources))
