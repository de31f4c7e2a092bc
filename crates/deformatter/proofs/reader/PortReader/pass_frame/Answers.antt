use Rattle.std.proofs.Common.{◌≡◌, ◌++◌, true, false, cond, ◌∙◌, ap, Bool, ℕ, ◌+◌}
use Rattle.deformatter.specs.Names.{placed_from, units_of, cells, offsets_of}
use Rattle.deformatter.specs.Deformatter as deformatter
use Rattle.deformatter.specs.Modes.{is_bare}
use Rattle.deformatter.proofs.ReaderFeeding.{port_of, is_of_port, reading_frame, reading_fed_frame}
use Rattle.deformatter.proofs.reader.PortReader.pass_frame.Goals as goal

same_sum : (b : Bool) (x y z w : ℕ) → b ≡ false → x + y ≡ z + w → cond b 0 x + cond b 0 y ≡ cond b 0 z + cond b 0 w
same_sum true x y z w e h = absurd (let k : true ≡ false = e in cc)
same_sum false x y z w e h = h

pub returns-clause-list : goal.returns-clause-list
returns-clause-list c = λ u w f halves s q after.
    let mode = c.args.self.now.mode in
    let e = c.requires.between.0 in
    is_of_port mode c.pass_frame.new.self (u ++ w) e (c.pass_frame.ensures.list u w f halves (port_of mode c.args.self.now.port u e s) q after)

pub returns-clause-grows : goal.returns-clause-grows
returns-clause-grows c = λ u w f halves s q.
    let mode = c.args.self.now.mode in
    let old = c.args.self.now.port in
    let e = c.requires.between.0 in
    reading_frame mode e (deformatter.is_hunter old) c.args.self.now.moded u w f halves (deformatter.id_of old) (c.pass_frame.ensures.grows u w f halves (port_of mode old u e s) q)

pub returns-clause-live : goal.returns-clause-live
returns-clause-live c = ap (λ (b : Bool). cond b true (deformatter.is_live c.pass_frame.new.self)) c.requires.between.0 ∙ c.pass_frame.ensures.live

pub returns-clause-few : goal.returns-clause-few
returns-clause-few c =
    same_sum (is_bare c.args.self.now.mode) (deformatter.tail_of c.pass_frame.new.self) (deformatter.skipped_by c.pass_frame.new.self) (deformatter.tail_of c.args.self.now.port) (deformatter.skipped_by c.args.self.now.port)
    c.requires.between.0 c.pass_frame.ensures.few

pub returns-clause-fed : goal.returns-clause-fed
returns-clause-fed c = λ u f halves at bytes s q.
    let mode = c.args.self.now.mode in
    let old = c.args.self.now.port in
    let e = c.requires.between.0 in
    let port = port_of mode old u e s in
    reading_fed_frame mode e (deformatter.is_hunter old) c.args.self.now.moded u at bytes (cells (units_of f) (offsets_of f) (deformatter.id_of old))
    (c.pass_frame.ensures.fed u f halves at bytes port q) (c.pass_frame.ensures.grows u (placed_from at bytes) f halves port q).cells
