use Rattle.capture_words.specs.declared.job.Task.TheVariants.{Check, Show, Text, Vcd}
use Rattle.capture_run.proofs.Running.{same_task}
use Rattle.capture_run.proofs.jobs.run_task.Goals as goal

pub returns-in-Show-clause-ran : goal.returns-in-Show-clause-ran
returns-in-Show-clause-ran g c =
    let t = c.in-Show in
    same_task c.args.task (Show t.plan t.only t.window t.recover) c.args.limit _ _ _ t.is c.run_reading.ensures.ran

pub returns-in-Text-clause-ran : goal.returns-in-Text-clause-ran
returns-in-Text-clause-ran g c =
    let t = c.in-Text in
    same_task c.args.task (Text t.plan t.port t.recover) c.args.limit _ _ _ t.is c.run_reading-in-Text.ensures.ran

pub returns-in-Vcd-clause-ran : goal.returns-in-Vcd-clause-ran
returns-in-Vcd-clause-ran g c =
    let t = c.in-Vcd in
    same_task c.args.task (Vcd t.plan t.hz t.recover) c.args.limit _ _ _ t.is c.run_reading-in-Vcd.ensures.ran

pub returns-in-Check-clause-ran : goal.returns-in-Check-clause-ran
returns-in-Check-clause-ran g c =
    let t = c.in-Check in
    same_task c.args.task (Check t.plan t.recover t.kinds) c.args.limit _ _ _ t.is c.run_check.ensures.ran
