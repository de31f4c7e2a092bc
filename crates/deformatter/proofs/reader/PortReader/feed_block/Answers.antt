use Rattle.std.proofs.Common.{arith, rules, ◌≡◌, ◌++◌, true, false, cond, refl, ◌∙◌, ap, Bool, List, [], ◌∷◌, take}
use Rattle.deformatter.specs.Names.{Cell, placed_from}
use Rattle.deformatter.specs.Deformatter as deformatter
use Rattle.deformatter.specs.Modes.{is_bare}
use Rattle.deformatter.proofs.ReaderFeeding.{has_formatter, port_of, is_of_port, reading_fed, bare_taken, few_more}
use Rattle.deformatter.proofs.reader.PortReader.feed_block.Goals as goal

pub returns-in-Hunt : goal.returns-in-Hunt
returns-in-Hunt c =
    let mode = c.args.self.now.mode in
    let old = c.args.self.now.port in
    let new = c.feed_block.new.self in
    let bytes = take c.feed_block.result.bytes c.args.piece.now in
    let e : is_bare mode ≡ false = has_formatter mode c.in-Hunt.is in
    record {
      same = refl;
      bytes = c.feed_block.ensures.bytes;
      stops = c.feed_block.ensures.stops;
      list = λ u s. is_of_port mode new (u ++ placed_from c.args.at bytes) e (c.feed_block.ensures.takes u (port_of mode old u e s)).list;
      fed = λ u s.
          let port = port_of mode old u e s in
          reading_fed mode e (deformatter.is_hunter old) c.args.self.now.moded u c.args.at bytes c.feed_block.result.step c.feed_block.new.out.items
          (c.feed_block.ensures.takes u port).fed (c.feed_block.ensures.takes u port).cells;
      live = ap (λ (b : Bool). cond b true (deformatter.is_live new)) e ∙ c.feed_block.ensures.live;
      few = few_more (is_bare mode) (deformatter.tail_of new) (deformatter.skipped_by new) (deformatter.tail_of old) (deformatter.skipped_by old) c.feed_block.result.bytes e c.feed_block.ensures.few;
    }

pub returns-in-Bare : goal.returns-in-Bare
returns-in-Bare c = record {
  same = refl;
  bytes = (omega arith, c.requires.some);
  stops = λ q. cc;
  list = search rules;
  fed = λ u s. bare_taken c.args.self.now.mode c.in-Bare.is u c.args.at c.args.piece.now _ c.requires.some
      (c.push.ensures.items ∙ ap (λ (l : List Cell). l ++ c.bare_cell_of.result ∷ []) c.requires.out ∙ ap (λ (x : Cell). x ∷ []) c.bare_cell_of.ensures);
  live = search rules;
  few = search rules;
}
