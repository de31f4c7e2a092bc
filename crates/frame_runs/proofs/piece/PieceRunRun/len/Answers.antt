use Rattle.std.proofs.Common.{sym}
use Rattle.frame_runs.proofs.PieceCells.{piece_length}
use Rattle.frame_runs.proofs.piece.PieceRunRun.len.Goals as goal

pub returns : goal.returns
returns c = sym (piece_length c.args.self.now)
