-- What the receiver of `text` is given adds up: proofs that its `impl` cites.
use Rattle.std.proofs.Common.{◌∙◌, ℕ, ◌++◌, [], List, sym, ap, append_assoc, append-nil, refl}
use Rattle.capture_actions.specs.Names.{Event, Packet}
use Rattle.capture_actions.specs.declared.port_values.PortValues.{PortValues}
use Rattle.capture_actions.specs.PortText.{values_in}
use Rattle.capture_actions.specs.PortTextLaws.{values_append}
use Rattle.capture_actions.specs.PortValues.{gets}
use Rattle.recovering_machines.specs.Hearing.{AddsUp}

gets_none : (s : PortValues × List ℕ) → gets s [] s
gets_none s = (refl, sym (append-nil s.1))

gets_more : (a b c : PortValues × List ℕ) (es fs : List (Event Packet)) → gets a es b → gets b fs c →
    gets a (es ++ fs) c
gets_more a b c es fs g h =
    let values : PortValues → List (Event Packet) → List ℕ = λ p. values_in p.source p.port in (
      h.0 ∙ g.0,
      h.1 ∙ ap (λ (p : PortValues). b.1 ++ values p fs) g.0
          ∙ ap (λ (l : List ℕ). l ++ values a.0 fs) g.1
          ∙ append_assoc a.1 (values a.0 es) (values a.0 fs)
          ∙ ap (λ (l : List ℕ). a.1 ++ l) (sym (values_append a.0.source a.0.port es fs)),
    )

pub adds_up : AddsUp gets
adds_up = record { none = gets_none; more = gets_more }
