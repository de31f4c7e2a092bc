use Rattle.std.proofs.Common.{arith}
use Rattle.frame_runs.proofs.PieceCells.{piece_length, piece_bytes}
use Rattle.frame_runs.proofs.piece.PieceRunRun.ahead.Goals as goal

pub returns-clause-bytes : goal.returns-clause-bytes
returns-clause-bytes c = piece_bytes c.args.self.now

pub returns-clause-room : goal.returns-clause-room
returns-clause-room c = (let l = piece_length c.args.self.now in let t = c.args.self.now.there in omega (arith, l, t))
