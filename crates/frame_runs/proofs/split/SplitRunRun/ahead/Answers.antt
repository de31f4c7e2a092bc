use Rattle.std.proofs.Common.{ℕ, List, length, take, ap, ◌∙◌, arith}
use Rattle.std.proofs.lemmas.List.{length-drop}
use Rattle.frame_runs.specs.Split.{run_in}
use Rattle.frame_runs.proofs.RunCells.{run_length, run_bytes}
use Rattle.frame_runs.proofs.split.SplitRunRun.ahead.Goals as goal

pub returns-clause-bytes : goal.returns-clause-bytes
returns-clause-bytes c =
    ap (λ (l : List ℕ). take (length (run_in c.args.self.now)) l) c.bytes_from.ensures ∙ run_bytes c.args.self.now

pub returns-clause-room : goal.returns-clause-room
returns-clause-room c =
    let run = c.args.self.now in
    let a = run_length run in
    let b = ap length c.bytes_from.ensures in
    let d = length-drop run.from run.placed.now.bytes in
    let s = run.placed.now.sized in
    let w = run.within in
    omega (arith, a, b, d, s, w)
