use Rattle.std.proofs.Common.{◌≡◌, ◌∷◌, [], ◌++◌, true, false, cond, refl, ◌∙◌, ap, Bool}
use Rattle.deformatter.specs.Names.{byte_at}
use Rattle.deformatter.specs.Deformatter as deformatter
use Rattle.deformatter.specs.Modes.{is_bare}
use Rattle.deformatter.proofs.ReaderFeeding.{has_formatter, port_of, is_of_port, reading_grows, few_more}
use Rattle.deformatter.proofs.reader.PortReader.feed.Goals as goal

pub returns-in-Hunt : goal.returns-in-Hunt
returns-in-Hunt c =
    let mode = c.args.self.now.mode in
    let old = c.args.self.now.port in
    let new = c.feed.new.self in
    let e : is_bare mode ≡ false = has_formatter mode c.in-Hunt.is in
    record {
      same = refl;
      list = λ u s. is_of_port mode new (u ++ byte_at c.args.at c.args.byte ∷ []) e (c.feed.ensures.list u (port_of mode old u e s));
      step = λ u s.
          let port = port_of mode old u e s in
          reading_grows mode e (deformatter.is_hunter old) c.args.self.now.moded u (u ++ byte_at c.args.at c.args.byte ∷ []) c.args.at c.feed.result c.feed.new.out.items
          (c.feed.ensures.step u port) (c.feed.ensures.cells u port);
      live = ap (λ (b : Bool). cond b true (deformatter.is_live new)) e ∙ c.feed.ensures.live;
      few = few_more (is_bare mode) (deformatter.tail_of new) (deformatter.skipped_by new) (deformatter.tail_of old) (deformatter.skipped_by old) 1 e c.feed.ensures.few;
    }
