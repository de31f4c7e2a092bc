-- What is kept of the packets so far.
use Rattle.std.specs.Prelude.{◌≡◌, ℕ, List, Option}
use Rattle.stp_grammar.specs.declared.packet.StpPacket.{StpPacket}
use Rattle.stp_grammar.specs.declared.item.Place.{Place}
use Rattle.stp_grammar.specs.declared.attribution.Attribution.{Attribution}
use Rattle.stp_grammar.specs.Attribution.{version_of, master_of, channel_of, last_word_of}

-- the version, the place and the last word that are kept
abbrev pub kept_version : Attribution → Option ℕ
kept_version kept = kept.version

abbrev pub kept_place : Attribution → Place
kept_place kept = record { master = kept.master; channel = kept.channel }

abbrev pub kept_word : Attribution → ℕ
kept_word kept = kept.last

-- they are those of these packets
pub record Stands (kept : Attribution) (packets : List StpPacket) : Type 0 where
  pub version : kept.version ≡ version_of packets
  pub master : kept.master ≡ master_of packets
  pub channel : kept.channel ≡ channel_of packets
  pub last : kept.last ≡ last_word_of packets
