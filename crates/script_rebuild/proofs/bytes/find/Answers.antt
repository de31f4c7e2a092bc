use Rattle.std.proofs.Common.{rules, tests, ◌==◌}
use Rattle.std.proofs.lemmas.Iterator.{YieldsList-from_slice}
use Rattle.std.proofs.lemmas.Iterator.Search.{position_from_yields_List}
use Rattle.script_rebuild.specs.declared.encoders.SourceEncoder.{SourceEncoder}
use Rattle.script_rebuild.proofs.bytes.find.Goals as goal

pub returns : goal.returns
returns c =
    position_from_yields_List (λ (e : SourceEncoder). e.id == c.args.id) _ _ _ c.position.ensures.ran
    (YieldsList-from_slice c.args.encoders.now cc) (λ x b q k. search (rules, tests))
