use Rattle.frame_grammar.proofs.Items.{cells_of_items-append, id_of_items-append}
use Rattle.frame_grammar.proofs.laws.items_law.Goals as goal

pub returns : goal.returns
returns c = record { cells = λ id xs ys. cells_of_items-append id xs ys; id = λ id xs ys. id_of_items-append id xs ys }
