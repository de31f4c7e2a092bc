-- Worked rows of captures and their rests, in text.
use Rattle.std.specs.Prelude.{ℕ, List, ◌++◌, codes, drop, map, Bool, Option, option_map}
use Rattle.resync_grammars.specs.Names.{Reason, hex, placed, Hunt, Aligned, PortReading, port_reading}

-- a full synchronisation and a frame that names ID 1 at once, and the same with a frame that names ID 2 at its index 4
abbrev pub two_frames : List ℕ
two_frames = hex (codes "FF FF FF 7F 03 41 00 00 00 00 00 00 00 00 00 00 00 00 00 00")
    ++ hex (codes "FF FF FF 7F 42 43 44 45 05 46 00 00 00 00 00 00 00 00 00 00")

-- a full synchronisation, a half one, and a full one
abbrev pub three_synchronisations : List ℕ
three_synchronisations = hex (codes "FF FF FF 7F FF 7F FF FF FF 7F")

-- two full synchronisations, each with a frame after it, with packets of source 1 that go on from frame to frame
abbrev pub packets_in_frames : List ℕ
packets_in_frames = hex (codes "FF FF FF 7F 03 00 00 00 00 00 80 03 00 00 00 00 00 00 00 00")
    ++ hex (codes "FF FF FF 7F 03 00 00 80 00 41 00 00 00 00 00 80 01 00 00 04")

-- what a capture reads as in frames, from its first byte on
abbrev pub whole : List ℕ → PortReading
whole capture = port_reading Aligned (placed capture)

-- what a hunt in it reads without its first bytes; its offsets are those of the whole capture
abbrev pub left : ℕ → List ℕ → PortReading
left bytes capture = port_reading Hunt (drop bytes (placed capture))

-- the cells of each frame: the offset, the ID, the run and the byte of each
abbrev pub frames_of : PortReading → List (List (ℕ × Option ℕ × ℕ × ℕ))
frames_of r = map (λ frame. map (λ c. (c.at, c.id, c.run, c.byte)) frame) r.frames

-- how many full and half synchronisations there are
abbrev pub syncs_of : PortReading → ℕ × ℕ
syncs_of r = (r.fulls, r.halves)

-- whether it reads, how many bytes it skipped, how many are left over, and the fault with its offset
abbrev pub end_of : PortReading → Bool × ℕ × ℕ × Option (ℕ × Reason)
end_of r = (r.locked, r.skipped, r.tail, option_map (λ f. (f.0.at, f.1)) r.fault)
