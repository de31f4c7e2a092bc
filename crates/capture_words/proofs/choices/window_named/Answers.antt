use Rattle.std.proofs.Common.{rules, ◌≡◌, ◌==◌, length}
use Rattle.std.specs.List.{position_or_len}
use Rattle.capture_words.proofs.Windows.{no_window}
use Rattle.capture_words.proofs.choices.window_named.Goals as goal

pub returns-in-None : goal.returns-in-None
returns-in-None c =
    let text = c.args.text.now in
    let none : position_or_len (λ b. b == 44) text ≡ length text = search rules in
    no_window text none
