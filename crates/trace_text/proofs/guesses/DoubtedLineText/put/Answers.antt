use Rattle.std.proofs.Common.{arith}
use Rattle.trace_text.proofs.Doubting.{line_end, marked}
use Rattle.trace_text.proofs.guesses.DoubtedLineText.put.Goals as goal

pub put_bytes-requires : goal.put_bytes-requires
put_bytes-requires g c =
    let room = c.args.room.now in
    let line = g.T.Text.text c.args.self.now.line.now in
    let end = line_end room c.put-end.new.room line c.args.from c.put-end.result c.requires.room c.put-end.ensures.same
    c.put-end.ensures.bound c.put-end.ensures.text in
    let fits = c.requires.fits.1 in
    omega (arith, end, fits.0, fits.1, c.requires.room, c.put-end.ensures.same)

pub returns-clause-text : goal.returns-clause-text
returns-clause-text g c =
    let line = g.T.Text.text c.args.self.now.line.now in
    marked c.args.room.now c.put-end.new.room line c.args.from c.put-end.result c.requires.room c.put-end.ensures.same
    c.put-end.ensures.bound c.put-end.ensures.text c.put_bytes.new.room c.put_bytes.result c.requires.fits.1.0
    c.put_bytes.ensures

pub returns-clause-bound : goal.returns-clause-bound
returns-clause-bound g c =
    let line = g.T.Text.text c.args.self.now.line.now in
    let end = line_end c.args.room.now c.put-end.new.room line c.args.from c.put-end.result c.requires.room
    c.put-end.ensures.same c.put-end.ensures.bound c.put-end.ensures.text in
    let fits = c.requires.fits.1 in
    let to = c.put_bytes.ensures.end in
    omega (arith, end, fits.0, fits.1, to)
