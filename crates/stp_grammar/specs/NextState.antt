-- What version, master, channel and last word become with one more packet (this project's profile).
use Rattle.std.specs.Prelude.{◌≡◌, ℕ, ◌+◌, ◌*◌, ◌/◌, Bool, Option, None, Some, option_map, if◌then◌else◌}
use Rattle.std.specs.Option.{option_or}
use Rattle.stp_grammar.specs.Names.{SizedWord, next_word}
use Rattle.stp_grammar.specs.declared.packet.StpPacket.{StpPacket}
use Rattle.stp_grammar.specs.declared.attribution.Attribution.{Attribution}
use Rattle.stp_grammar.specs.Attribution.{version_in, master8_in, master16_in, channel8_in, channel16_in, stamp_in}
use Rattle.stp_grammar.specs.Attribution.{begins_master, begins_channel, keeps_word}

-- VERSION tells the version
abbrev pub next_version : Option ℕ → StpPacket → Option ℕ
next_version old p = option_or (version_in p) old

-- all 16 bits of a number, or the low 8 of a known one
abbrev pub next_number : Option ℕ → Option ℕ → Option ℕ → Option ℕ
next_number old (Some whole) low = Some whole
next_number old None (Some low) = option_map (λ n. n / 256 * 256 + low) old
next_number old None None = old

-- VERSION makes the master 0, M16 tells it, and M8 the low 8 bits of a known one
abbrev pub next_master : Option ℕ → StpPacket → Option ℕ
next_master old p = if begins_master p then Some 0 else next_number old (master16_in p) (master8_in p)

-- VERSION, M8 and M16 make the channel 0, C16 tells it, and C8 the low 8 bits of a known one
abbrev pub next_channel : Option ℕ → StpPacket → Option ℕ
next_channel old p = if begins_channel p then Some 0 else next_number old (channel16_in p) (channel8_in p)

-- a timestamp's word replaces the low nibbles of the last word, where the version keeps one
abbrev pub word_with_stamp : Bool → ℕ → Option SizedWord → ℕ
word_with_stamp keeps old None = old
word_with_stamp keeps old (Some stamp) = if keeps then next_word old stamp else old

-- VERSION makes the last word 0
abbrev pub next_last : Option ℕ → ℕ → StpPacket → ℕ
next_last version old p = if begins_master p then 0 else word_with_stamp (keeps_word version) old (stamp_in p)

-- what is kept after one more packet, by what was kept before it
abbrev pub Keeps : Attribution → Attribution → StpPacket → Type 0
Keeps old new packet = record {
  version : new.version ≡ next_version old.version packet;
  master : new.master ≡ next_master old.master packet;
  channel : new.channel ≡ next_channel old.channel packet;
  last : new.last ≡ next_last old.version old.last packet;
}
