use Rattle.std.proofs.Common.{◌∙◌, ap, sym}
use Rattle.capture_run.specs.Pages.{page_text}
use Rattle.capture_run.proofs.Printed.{help_is}
use Rattle.capture_run.proofs.pages.text_of.Goals as goal

pub returns-in-Help : goal.returns-in-Help
returns-in-Help c = help_is ∙ ap page_text (sym c.in-Help.is)
