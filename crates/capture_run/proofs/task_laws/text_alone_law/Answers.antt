use Rattle.capture_exercise.specs.Summary.{exercise_summary}
use Rattle.capture_run.specs.Pages.{page_text}
use Rattle.capture_run.proofs.Tasks.{made_only}
use Rattle.capture_run.proofs.task_laws.text_alone_law.Goals as goal

pub returns-clause-exercise : goal.returns-clause-exercise
returns-clause-exercise c = λ items lose limit old new made. made_only (exercise_summary items lose) old new made

pub returns-clause-page : goal.returns-clause-page
returns-clause-page c = λ page limit old new made. made_only (page_text page) old new made
