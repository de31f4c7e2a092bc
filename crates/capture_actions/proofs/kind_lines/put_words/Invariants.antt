use Rattle.std.proofs.Common.{◌≡◌, ◌+◌, ◌*◌, ◌≤◌, ◌++◌, length, take}
use Rattle.capture_actions.specs.Kinds.{words_text}
use Rattle.capture_actions.specs.KindCounts.{number_at}
use Rattle.capture_actions.specs.Words.{number_of}
use Rattle.capture_actions.specs.declared.kind_lines.TheConstants.{KIND_ROOM}
use Rattle.capture_actions.proofs.kind_lines.put_words.Given as goal

abbrev pub invariant-loop-word : goal.invariant-loop-word
invariant-loop-word l = record {
  text : l.outlet ≡ l.fn.outlet ++
      words_text l.id (λ word. number_at l.kinds l.id (number_of word)) (take l.word-index l.word-items);
  bound : length l.outlet ≤ length l.fn.outlet + l.word-index * KIND_ROOM;
}
