use Rattle.std.proofs.Common.{◌≡◌, codes, drop}
use Rattle.clap.specs.Words.{app_of, new_app, with_rule}
use Rattle.capture_words.specs.Command.{with_options, action_rule}
use Rattle.capture_words.specs.declared.option.TheConstants.{ALL_OPTIONS}
use Rattle.capture_words.proofs.command.trace_command.Given as goal

-- the command has the options so far, and with the others it is whole
abbrev pub invariant-loop-option : goal.invariant-loop-option
invariant-loop-option l = with_options (drop l.option-index ALL_OPTIONS) (app_of l.command)
    ≡ with_options ALL_OPTIONS (with_rule (new_app (codes "lipparoy")) action_rule)
