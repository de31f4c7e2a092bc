use Rattle.std.proofs.Common.{◌≡◌, List, ℕ, None, subst}
use Rattle.source_merge.specs.Answering.{fault_of}
use Rattle.trace_values.specs.Placed.{placed}
use Rattle.capture_run.specs.Rings.{kept_of}
use Rattle.capture_run.proofs.laws.ring_rest_law.Goals as goal

pub returns : goal.returns
returns c = λ size whole some sound.
    let law = c.ring_law.ensures.whole size whole some in
    let same = subst (λ (l : List ℕ). fault_of c.args.plan.now (placed l) ≡ None) law.2 sound in
    record {
      lost = law.0;
      parts = law.2;
      count = law.1;
      sound = same;
      follows = c.report_rest_law.ensures law.0 (kept_of size whole) same;
    }
