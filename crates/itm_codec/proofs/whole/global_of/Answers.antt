use Rattle.std.proofs.Common.{sym, ◌∙◌, rules}
use Rattle.itm_codec.proofs.Told.{stamp_told}
use Rattle.itm_codec.proofs.whole.global_of.Goals as goal

pub second_global-requires-clause-header : goal.second_global-requires-clause-header
second_global-requires-clause-header c =
    sym c.requires.header ∙ stamp_told c.args.window.now c.args.bytes c.args.header (search rules) (search rules) c.requires.header c.requires.told c.requires.kind c.if-header-eq148.false
