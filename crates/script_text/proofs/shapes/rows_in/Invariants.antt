use Rattle.std.proofs.Common.{◌≡◌, drop, map}
use Rattle.script_text.specs.Shapes.{rows_in, texts_seen}
use Rattle.script_text.proofs.shapes.rows_in.Given as goal

-- the texts so far do not begin with the word
abbrev pub invariant-loop-texts : goal.invariant-loop-texts
invariant-loop-texts l =
    rows_in (map texts_seen l.all) l.word ≡ rows_in (map texts_seen (drop l.texts-index l.all)) l.word
