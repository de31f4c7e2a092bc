use Rattle.std.proofs.Common.{◌≡◌, List, refl, sym, ◌∙◌, ap, Bool, true, false}
use Rattle.std.specs.Prelude.{◌||◌, drop, take}
use Rattle.std.specs.List.{list_any}
use Rattle.std.proofs.lemmas.List.Folds.{list_any-append}
use Rattle.resync_grammars.specs.Names.{hex, Place, Placed, placed, Said, Msn, StpItem, items_in}
use Rattle.stp_grammar.specs.Attribution.{version_of, master_of, channel_of, last_word_of}
use Rattle.resync_grammars.specs.SourceRows.{two_versions, stp_whole, has_no_master}
use Rattle.resync_grammars.proofs.source_rows.places_are_not_known_at_once.Goals as goal

abbrev lost : List Placed
lost = take 4 (placed (hex two_versions))

abbrev rest : List Placed
rest = drop 4 (placed (hex two_versions))

abbrev unknown : List (Said StpItem × Place) → Bool
unknown given = list_any has_no_master given

or : (t : Bool) → (t || true) ≡ true
or true = refl
or false = refl

in_whole : unknown (stp_whole Msn two_versions).given ≡ false
unfolding version_of master_of channel_of last_word_of
in_whole = refl

in_rest : unknown (drop 1 (items_in Msn true rest).given) ≡ true
unfolding version_of master_of channel_of last_word_of
in_rest = refl

pub returns-clause-law : goal.returns-clause-law
returns-clause-law c = λ law.
    let a = law lost rest refl in
    let all : unknown (stp_whole Msn two_versions).given ≡ true =
    ap unknown a.1 ∙ list_any-append has_no_master a.0 (drop 1 (items_in Msn true rest).given) ∙ ap (λ (t : Bool). unknown a.0 || t) in_rest ∙ or (unknown a.0) in
    let e : false ≡ true = sym in_whole ∙ all in cc
