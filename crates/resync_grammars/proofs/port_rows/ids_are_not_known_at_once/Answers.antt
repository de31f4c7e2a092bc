use Rattle.std.proofs.Common.{◌≡◌, List, refl, sym, ◌∙◌, ap, Bool, true, false}
use Rattle.std.specs.Prelude.{◌||◌, drop, take, is_none}
use Rattle.std.specs.List.{list_any}
use Rattle.std.proofs.lemmas.List.Folds.{list_any-append}
use Rattle.resync_grammars.specs.Names.{Cell, Placed, placed, Hunt, port_reading, cells_of}
use Rattle.resync_grammars.specs.PortRows.{two_frames, whole}
use Rattle.resync_grammars.proofs.port_rows.ids_are_not_known_at_once.Goals as goal

abbrev lost : List Placed
lost = take 10 (placed two_frames)

abbrev rest : List Placed
rest = drop 10 (placed two_frames)

abbrev unknown : List Cell → Bool
unknown cells = list_any (λ c. is_none c.id) cells

or : (t : Bool) → (t || true) ≡ true
or true = refl
or false = refl

in_whole : unknown (cells_of (whole two_frames)) ≡ false
in_whole = refl

in_rest : unknown (cells_of (port_reading Hunt rest)) ≡ true
in_rest = refl

pub returns-clause-law : goal.returns-clause-law
returns-clause-law c = λ law.
    let a = law lost rest refl in
    let all : unknown (cells_of (whole two_frames)) ≡ true =
    ap unknown a.1 ∙ list_any-append (λ (x : Cell). is_none x.id) a.0 (cells_of (port_reading Hunt rest)) ∙ ap (λ (t : Bool). unknown a.0 || t) in_rest ∙ or (unknown a.0) in
    let e : false ≡ true = sym in_whole ∙ all in cc
