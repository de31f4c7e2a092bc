-- The global time, by the list of all global timestamps so far (ARMv7-M Architecture Reference Manual, Arm DDI 0403E,
-- appendix D4 'Debug ITM and DWT Packet Protocol', section D4.2 'Packet descriptions', 'Global timestamp packets':
-- GTS1, whose Wrap says that the high bits changed, and GTS2, which has them). What the time is between them is this
-- project's profile.
use Rattle.std.specs.Prelude.{◌≡◌, ℕ, ◌+◌, ◌*◌, ◌^◌, ◌<◌, ◌≤◌, List, Bool, true, false, ◌==◌, nat_lt, if◌then◌else◌}
use Rattle.std.specs.Prelude.{Option, None, Some, option_map, unwrap_or}
use Rattle.std.specs.List.{list_any, filter_map, last_or}
use Rattle.std.specs.Int.{bit_at, sum_through}

-- a global timestamp packet: a first one of len payload bytes, whose wrap says that the bits from 26 on
-- changed, or a second one
pub data GlobalStamp : Type 0 where
  First : (len value : ℕ) → (wrap : Bool) → GlobalStamp
  Second : (value : ℕ) → GlobalStamp

-- how many bits of the time, from bit 0 on, a first timestamp of len payload bytes carries
abbrev pub first_bits : ℕ → ℕ
first_bits len = if len == 4 then 26 else 7 * len

-- how many, from bit 26 on, a second one carries
abbrev pub second_bits : Bool → ℕ
second_bits wide = if wide then 38 else 22

-- a first timestamp has one to four payload bytes, and room for clock change and wrap in the fourth only
abbrev pub IsProperFirst : ℕ → ℕ → Bool → Bool → Type 0
IsProperFirst len value change wrap = (0 < len) × (len ≤ 4) × (value < 2 ^ first_bits len) ×
    (len < 4 → (change ≡ false) × (wrap ≡ false))

-- a first timestamp that carries all of its bits
abbrev pub is_whole : GlobalStamp → Bool
is_whole (First len value wrap) = len == 4
is_whole (Second value) = false

-- the value of a first timestamp that carries this bit of the time
abbrev pub carried : ℕ → GlobalStamp → Option ℕ
carried bit (First len value wrap) = if nat_lt bit (first_bits len) then Some value else None
carried bit (Second value) = None

-- what a timestamp says of the bits from 26 on: a wrap that they are unknown, and a second one which they are
abbrev pub high_said : GlobalStamp → Option (Option ℕ)
high_said (First len value true) = Some None
high_said (First len value false) = None
high_said (Second value) = Some (Some value)

-- bits 0 to 25 of the time, as a number: each is that of the last first timestamp that carries it, or 0 where there is
-- none
unfoldable pub low_part : List GlobalStamp → ℕ
low_part stamps =
    sum_through (λ bit. bit_at (unwrap_or (last_or None (filter_map (carried bit) stamps)) 0) bit * 2 ^ bit) 25

-- the same, where a whole first timestamp has come
abbrev pub known_low : List GlobalStamp → Option ℕ
known_low stamps = if list_any is_whole stamps then Some (low_part stamps) else None

-- the bits from 26 on, as a number, by the last timestamp that says something of them
unfoldable pub high_part : List GlobalStamp → Option ℕ
high_part stamps = unwrap_or (last_or None (filter_map high_said stamps)) None

-- the time, which is unknown before the first whole first timestamp, and from the start or a wrap to the next
-- second one
abbrev pub global_time : List GlobalStamp → Option ℕ
global_time stamps =
    if list_any is_whole stamps then option_map (λ high. low_part stamps + 2 ^ 26 * high) (high_part stamps) else None
