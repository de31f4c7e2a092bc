use Rattle.std.proofs.Common.{◌<◌, ◌+◌, ◌∙◌, ◌++◌, sym, ap, take, get_or, length, arith}
use Rattle.std.proofs.lemmas.List.{take_more}
use Rattle.script_rebuild.specs.Writer as writers
use Rattle.script_rebuild.specs.declared.writer.LineWriter.{LineWriter}
use Rattle.script_rebuild.proofs.Taking.{none_if, all_taken, byte_taken}
use Rattle.script_rebuild.proofs.rebuild.Rebuild.feed_open.Goals as goal

pub returns-then-len-piece-clause-fed : goal.returns-then-len-piece-clause-fed
returns-then-len-piece-clause-fed c =
    let f = c.add_front-len.ensures in
    all_taken c.args.self.now c.add_front-len.new.self (take c.add_front-len.result c.args.piece.now) c.args.outlet.now f.moved.same f.live.sound f.live.reading f.writer c.requires.ready.paid f.reads f.read

pub take_byte-is_faulty-requires-clause-ready : goal.take_byte-is_faulty-requires-clause-ready
take_byte-is_faulty-requires-clause-ready c =
    let f = c.add_front-len.ensures in
    let less : c.add_front-len.result < length c.args.piece.now = omega arith in
    record {
      live = f.live;
      paid = ap (λ (w : LineWriter). writers.debt_of w) f.writer ∙ c.requires.ready.paid;
      count = omega (arith, f.moved.count, less, c.requires.ready.count);
      room = c.requires.ready.room;
    }

pub returns-clause-fed : goal.returns-clause-fed
returns-clause-fed c =
    let f = c.add_front-len.ensures in
    let last = c.take_byte-is_faulty in
    let t = last.ensures in
    let n = c.add_front-len.result in
    let piece = c.args.piece.now in
    let less : n < length piece = omega arith in
    record {
      same = t.moved.same ∙ f.moved.same;
      reading = t.reading;
      live = λ e. none_if last.new.self.fault (sym t.fault ∙ e);
      fed = λ seen s.
          byte_taken c.add_front-len.new.self last.new.self c.args.self.now.plan seen (take n piece) (take (n + 1) piece) (get_or piece n 0) c.args.outlet.now last.new.outlet f.moved.same t.moved.same f.live.sound
          (take_more piece n 0 less) (f.reads seen s) (f.read seen s) (t.taken (seen ++ take n piece) (f.reads seen s)) last.result t.fault;
    }
