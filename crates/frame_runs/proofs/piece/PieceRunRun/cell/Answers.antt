use Rattle.std.proofs.Common.{get_or, ℕ, ◌+◌, ◌∙◌, Some, sym, ap, arith}
use Rattle.frame_runs.proofs.PieceCells.{piece_length, cells_at}
use Rattle.frame_runs.proofs.piece.PieceRunRun.cell.Goals as goal

pub overflow_add-result : goal.overflow_add-result
overflow_add-result c =
    (let l = piece_length c.args.self.now in let i = c.requires in let n = c.args.self.now.near in omega (arith, l, i, n))

pub bounds-self-index : goal.bounds-self-index
bounds-self-index c =
    (let l = piece_length c.args.self.now in let i = c.requires in let t = c.args.self.now.there in omega (arith, l, i, t))

pub returns : goal.returns
returns c =
    let run = c.args.self.now in
    ap (λ (x : ℕ). record { at = run.at + c.args.index; id = Some x; run = 0; byte = get_or run.ahead.now c.args.index 0 }) c.bare_source.ensures
    ∙ sym (cells_at run.at run.ahead.now c.args.index run.count _
    (let l = piece_length run in let i = c.requires in omega (arith, l, i)) (let t = run.there in omega (arith, t)))
