use Rattle.std.proofs.Common.{◌∙◌, ◌++◌, ℕ, List, ap, append_assoc, get_or}
use Rattle.capture_actions.specs.KindCounts.{number_at}
use Rattle.capture_actions.specs.Kinds.{kinds_text, none}
use Rattle.capture_actions.specs.Summary.{source_text}
use Rattle.capture_actions.specs.Words.{number_of}
use Rattle.capture_actions.proofs.kind_lines.KindLines.put_lines.Goals as goal

pub returns : goal.returns
returns c =
    let self = c.args.self.now in
    let id = c.args.id in
    let out = c.args.outlet.now in
    let kinds : List ℕ = kinds_text c.args.plan.now id (λ word. number_at c.args.kinds.now id (number_of word)) in
    let source : List ℕ = source_text id (get_or self.counts id none) in
    c.put_kinds.ensures.text
    ∙ ap (λ (l : List ℕ). l ++ kinds)
    (c.put_source_line.ensures.text
    ∙ ap (λ (i : ℕ). out ++ source_text id (get_or self.counts i none)) (c.from.ensures ∙ c.number.ensures.value))
    ∙ append_assoc out source kinds
