use Rattle.capture_words.proofs.Calls as calls
use Rattle.capture_words.proofs.laws.calls_law.Goals as goal

pub returns : goal.returns
returns c = record {
  either = calls.either;
  not_both = calls.not_both;
  one_job = calls.one_job;
  one_fault = calls.one_fault;
}
