use Rattle.std.proofs.Common.{◌∙◌, ap}
use Rattle.script_text.specs.Words.{texts}
use Rattle.script_text.specs.Shapes.{Rows, first_row}
use Rattle.script_text.proofs.FirstWords.{found}
use Rattle.script_text.proofs.shapes.shape_after.Goals as goal

pub returns : goal.returns
returns c =
    let words = texts c.args.words.now in
    c.first_fitting.ensures ∙ ap (λ (rows : Rows). first_row rows words) c.rows_in.ensures
    ∙ found c.args.word.now words
