use Rattle.recovery_report.proofs.PartLaws as laws
use Rattle.recovery_report.proofs.laws.source_law.Goals as goal

pub returns-clause-own : goal.returns-clause-own
returns-clause-own c = λ guesses plan kind x parts run k i. laws.own guesses plan kind x parts run k i

pub returns-clause-other : goal.returns-clause-other
returns-clause-other c = λ plan kind x parts run e. laws.other plan kind x parts run e

pub returns-clause-lock : goal.returns-clause-lock
returns-clause-lock c = λ plan kind x parts skipped place. laws.lock plan kind x parts skipped place

pub returns-clause-cut : goal.returns-clause-cut
returns-clause-cut c = λ plan kind x parts reason place. laws.cut plan kind x parts reason place
