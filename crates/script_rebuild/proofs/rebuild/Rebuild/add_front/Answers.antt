use Rattle.std.proofs.Common.{◌≤◌, ◌++◌, sym, refl, length, length-append, take, arith}
use Rattle.std.proofs.lemmas.List.{length-take-le}
use Rattle.script_rebuild.proofs.Taking.{front_is, front_reads}
use Rattle.script_rebuild.proofs.rebuild.Rebuild.add_front.Goals as goal

pub returns-clause-reads : goal.returns-clause-reads
returns-clause-reads c = λ seen s.
    let r = c.args.self.now in
    let n = c.plain_len-len.result in
    let front = take n c.args.piece.now in
    let count = length-take-le n c.args.piece.now c.plain_len-len.ensures.bound in
    let few : length (r.line.items ++ front) ≤ 256 = omega (arith, length-append r.line.items front, count, c.len.ensures.value, c.plain_len-len.ensures.few) in
    front_reads r _ seen front n refl refl refl refl refl refl (sym count) c.append.ensures c.requires.live.sound few c.plain_len-len.ensures.plain s

pub returns-clause-read : goal.returns-clause-read
returns-clause-read c = λ seen s.
    let r = c.args.self.now in
    let n = c.plain_len-len.result in
    let front = take n c.args.piece.now in
    let few : length (r.line.items ++ front) ≤ 256 =
    omega (arith, length-append r.line.items front, length-take-le n c.args.piece.now c.plain_len-len.ensures.bound, c.len.ensures.value, c.plain_len-len.ensures.few) in
    front_is r seen front s c.requires.live.sound few c.plain_len-len.ensures.plain
