use Rattle.std.proofs.Common.{rules, ◌≡◌, Some, None, ◌∙◌, ap, sym, arith, suc, ◌+◌, drop, drop-cons, get_or}
use Rattle.std.specs.Prelude.{ok_or, Option}
use Rattle.clap.specs.Words.{rows_of, found_of, first_of}
use Rattle.capture_words.specs.Command.{option_name}
use Rattle.capture_words.specs.Settings.{◌>>=◌, all_given, given}
use Rattle.capture_words.specs.declared.option.CommandOption.TheVariants.{Frames}
use Rattle.capture_words.specs.declared.option.TheConstants.{ALL_OPTIONS}
use Rattle.capture_words.specs.declared.settings.Settings.{Settings}
use Rattle.capture_words.specs.declared.usage.UsageFault.TheVariants.{BadValue}
use Rattle.capture_words.proofs.settings.settings_in.Goals as goal

pub returns-then-not-take : goal.returns-then-not-take
returns-then-not-take c =
    let rows = rows_of (found_of c.args.matches.now) in
    let i = c.loop-option.option-index in
    let s = c.loop-option.settings in
    let option = get_or ALL_OPTIONS i Frames in
    let none : given s option (first_of (option_name option) rows) ≡ None = c.take.ensures.none (search rules) in
    sym (sym c.loop-option.invariant
    ∙ ap (λ options. all_given rows options s) (drop-cons ALL_OPTIONS i Frames c.loop-option-test.true)
    ∙ ap (λ (r : Option Settings). ok_or r (BadValue option) >>= all_given rows (drop (suc i) ALL_OPTIONS)) none)

pub loop-option-preserved : goal.loop-option-preserved
loop-option-preserved c =
    let rows = rows_of (found_of c.args.matches.now) in
    let i = c.loop-option.option-index in
    let s = c.loop-option.settings in
    let t = c.take.new.self in
    let option = get_or ALL_OPTIONS i Frames in
    let some : given s option (first_of (option_name option) rows) ≡ Some t = c.take.ensures.some (search rules) in
    let next : i + 1 ≡ suc i = omega arith in
    ap (λ n. all_given rows (drop n ALL_OPTIONS) t) next
    ∙ sym (ap (λ (r : Option Settings). ok_or r (BadValue option) >>= all_given rows (drop (suc i) ALL_OPTIONS)) some)
    ∙ sym (ap (λ options. all_given rows options s) (drop-cons ALL_OPTIONS i Frames c.loop-option-test.true))
    ∙ c.loop-option.invariant
