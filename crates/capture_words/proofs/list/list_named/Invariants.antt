use Rattle.std.proofs.Common.{◌≤◌, ◌+◌, length}
use Rattle.capture_words.proofs.CommaLists.{Reads}
use Rattle.capture_words.proofs.list.list_named.Given as goal

-- the items are those that the first part and the parts so far name
abbrev pub invariant-loop-part : goal.invariant-loop-part
invariant-loop-part g l = Reads g.L.Listed.named l.text (length l.yielded + 1) (g.L.Listed.items l.list)
    × (length (g.L.Listed.items l.list) ≤ g.L.Listed.MOST)
