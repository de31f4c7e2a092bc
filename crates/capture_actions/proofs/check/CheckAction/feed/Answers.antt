use Rattle.std.proofs.Common.{◌≡◌, ◌++◌, ℕ, [], List, refl, sym, subst, append-nil, take, arith, false}
use Rattle.capture_actions.specs.Names.{FaultAfter, Plan}
use Rattle.capture_actions.specs.CaptureReading.{Stands}
use Rattle.capture_actions.specs.Faulty.{IsFaulty}
use Rattle.capture_actions.proofs.Feeding.{sound_here}
use Rattle.capture_actions.proofs.check.CheckAction.feed.Goals as goal

pub returns-then-bytes-gt0-clause-fed : goal.returns-then-bytes-gt0-clause-fed
returns-then-bytes-gt0-clause-fed c = λ seen s.
    let one = c.count_frames-bytes in
    let next = seen ++ take one.result c.args.piece.now in
    let stands = one.ensures.read seen s in
    record {
      read = stands;
      more = [];
      grown = refl;
      gained = sym (append-nil c.args._outlet.now);
      fault = subst (λ (p : Plan). FaultAfter (IsFaulty p) next false) one.ensures.same
          (sound_here one.new.self next one.ensures.live stands);
    }

pub returns-clause-fed : goal.returns-clause-fed
returns-clause-fed c = λ seen s.
    let none = c.count_frames-bytes in
    let mid = none.new.self in
    let one = c.take in
    let front = take one.result.bytes c.args.piece.now in
    let zero : none.result ≡ 0 = (let z = c.if-bytes-gt0.false in omega arith) in
    let here = subst (λ (n : ℕ). Stands mid (seen ++ take n c.args.piece.now)) zero (none.ensures.read seen s) in
    let grew = one.ensures.reads.2 seen (subst (λ (l : List ℕ). Stands mid l) (append-nil seen) here) in
    record {
      read = grew.stands;
      more = [];
      grown = refl;
      gained = sym (append-nil c.args._outlet.now);
      fault = subst (λ (p : Plan). FaultAfter (IsFaulty p) (seen ++ front) one.result.is_faulty) none.ensures.same grew.fault;
    }
