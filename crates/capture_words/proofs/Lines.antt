-- The longest line of a fault.
use Rattle.std.proofs.Common.{◌≡◌, ◌≤◌, ℕ, length, refl, arith, lit≤}
use Rattle.std.specs.Fmt.{decimal}
use Rattle.std.proofs.lemmas.Fmt.{length-decimal-le}
use Rattle.std.proofs.lemmas.Grind.{common_steps}
use Rattle.capture_words.specs.Command.{option_name}
use Rattle.capture_words.specs.Texts.{usage_line, IsFault}
use Rattle.capture_words.specs.declared.option.CommandOption.{CommandOption}
use Rattle.capture_words.specs.declared.option.CommandOption.TheVariants.{Frames}
use Rattle.capture_words.specs.declared.usage.TheConstants.{LINE_ROOM}
use Rattle.capture_words.specs.declared.usage.UsageFault.{UsageFault}
use Rattle.capture_words.specs.declared.usage.UsageFault.TheVariants.{BadValue, MappedTwice, OrderedTwice}
use Rattle.capture_words.specs.declared.usage.UsageFault.TheVariants.{PointerNotUnderSize}

-- the name of an option
pub short_name : (option : CommandOption) → length (option_name option) ≤ 9
short_name Frames = lit≤ tt
short_name option = lit≤ tt

short_id : (id : ℕ) → id ≤ 126 → length (decimal id) ≤ 3
short_id id is = length-decimal-le 3 id (omega arith) (omega (arith, is)) (omega (arith, is))

pub fits : (fault : UsageFault) → IsFault fault → length (usage_line fault) ≤ LINE_ROOM
fits (BadValue Frames) is = lit≤ tt
fits (BadValue option) is = lit≤ tt
fits (MappedTwice id) is = let number = short_id id (omega (arith, is)) in grind (arith, common_steps, number)
fits (OrderedTwice id) is = let number = short_id id is in grind (arith, common_steps, number)
fits fault is = lit≤ tt

pub tight : (fault : UsageFault) × (length (usage_line fault) ≡ LINE_ROOM)
tight = (PointerNotUnderSize, refl)
