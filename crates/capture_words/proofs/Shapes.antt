-- The command is one whose words clap states whole.
use Rattle.std.proofs.Common.{◌≡◌, true, refl}
use Rattle.clap.specs.Words.{is_simple, is_simple_and_free}
use Rattle.clap.proofs.OnLiterals.{clap_on_literals}
use Rattle.capture_words.specs.Command.{trace_app}

pub trace_app_is_simple : is_simple trace_app ≡ true
unfolding trace_app clap_on_literals
trace_app_is_simple = refl

pub trace_app_is_free : is_simple_and_free trace_app ≡ true
unfolding trace_app clap_on_literals
trace_app_is_free = refl
