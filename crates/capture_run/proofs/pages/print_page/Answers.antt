use Rattle.std.proofs.Common.{◌∙◌, List, ℕ, subst}
use Rattle.std.proofs.lemmas.Result.{IfOk-at_ok}
use Rattle.std.specs.Io.KnownBytes.{Appends}
use Rattle.trace_io.specs.Bytes.{AppendsPrefix}
use Rattle.capture_run.specs.Pages.{page_text}
use Rattle.capture_run.proofs.Printed.{made_whole, made_front}
use Rattle.capture_run.proofs.pages.print_page.Goals as goal

pub returns-in-Ok-clause-made : goal.returns-in-Ok-clause-made
returns-in-Ok-clause-made g c = λ left.
    let now = g.O.Sink.held c.write_whole.new.sink in
    made_whole (page_text c.args.page) left _ _ _ _
    (subst (λ (l : List ℕ). Appends (g.O.Sink.held c.args.output.now) now l) (c.as_bytes.ensures.value ∙ c.text_of.ensures)
    (IfOk-at_ok _ c.in-Ok.is c.write_whole.ensures.whole))

pub returns-in-Err-clause-made : goal.returns-in-Err-clause-made
returns-in-Err-clause-made g c = λ left.
    let now = g.O.Sink.held c.write_whole.new.sink in
    made_front (page_text c.args.page) left _ _ _ _ _ _
    (subst (λ (l : List ℕ). AppendsPrefix (g.O.Sink.held c.args.output.now) now l)
    (c.as_bytes.ensures.value ∙ c.text_of.ensures) c.write_whole.ensures.front) c.note.ensures.noted
