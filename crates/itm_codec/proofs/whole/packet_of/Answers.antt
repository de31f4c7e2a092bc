use Rattle.std.proofs.Common.{◌∷◌, slice_index, refl, sym, subst, rules}
use Rattle.itm_codec.specs.Windows.{IsFound, four_bytes}
use Rattle.itm_codec.specs.declared.whole.InWindow.TheVariants.{Packet}
use Rattle.itm_codec.proofs.Told.{source_told}
use Rattle.itm_codec.proofs.Windows.{found_front}
use Rattle.itm_codec.proofs.whole.packet_of.Goals as goal

pub returns-else-header-eq0 : goal.returns-else-header-eq0
returns-else-header-eq0 c =
    let e = source_told c.args.window.now c.args.bytes (slice_index c.args.window.now 0) (search rules) (search rules) refl c.requires.told (search rules) in
    found_front c.args.window.now (slice_index c.args.window.now 0) c.four_in.result (Packet c.args.bytes c.source_in.result) (search rules) refl c.four_in.ensures
    (subst (λ n. IsFound (slice_index c.args.window.now 0 ∷ four_bytes c.four_in.result) (Packet n c.source_in.result)) (sym e) c.source_in.ensures)
