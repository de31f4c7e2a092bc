use Rattle.std.proofs.Common.{◌<◌, length, rules}
use Rattle.capture_actions.proofs.Tallies.{counted_after, few_words}
use Rattle.capture_actions.proofs.kind_counts.KindCounts.add.Goals as goal

pub returns : goal.returns
returns c = λ es event source what h.
    let numbers = c.args.self.now.numbers in
    let place = c.place_of-place.result in
    let within : place < length numbers = search rules in
    counted_after c.args.self.now es event h c.args.id c.args.word place c.saturating_add.result
    c.place_of-place.ensures.place within (few_words c.args.word) c.saturating_add.ensures source what
