use Rattle.std.proofs.Common.{◌≡◌, drop}
use Rattle.clap.specs.Words.{rows_of, found_of}
use Rattle.capture_words.specs.Settings.{all_given, defaults}
use Rattle.capture_words.specs.declared.option.TheConstants.{ALL_OPTIONS}
use Rattle.capture_words.proofs.settings.settings_in.Given as goal

-- with the other options the settings so far are what all say
abbrev pub invariant-loop-option : goal.invariant-loop-option
invariant-loop-option l = all_given (rows_of (found_of l.matches)) (drop l.option-index ALL_OPTIONS) l.settings
    ≡ all_given (rows_of (found_of l.matches)) ALL_OPTIONS defaults
