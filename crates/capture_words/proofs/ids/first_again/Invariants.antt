use Rattle.std.proofs.Common.{◌≡◌, [], take, drop}
use Rattle.capture_words.specs.Jobs.{again_after}
use Rattle.capture_words.proofs.ids.first_again.Given as goal

-- none stands among those before it, so far
abbrev pub invariant-loop-place : goal.invariant-loop-place
invariant-loop-place l = again_after [] l.ids ≡ again_after (take l.place l.ids) (drop l.place l.ids)
