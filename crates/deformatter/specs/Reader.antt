-- What a port reader stands for, and what it shows.
use Rattle.std.specs.Prelude.{◌≡◌, ℕ, List, Bool, true, false, if◌then◌else◌, Option}
use Rattle.deformatter.specs.Names.{Placed, FramesMode, Hunt, Aligned, Bare}
use Rattle.deformatter.specs.Deformatter as deformatter
use Rattle.deformatter.specs.Frames as frames
use Rattle.deformatter.specs.declared.deformatter.Deformatter.{Deformatter}
use Rattle.deformatter.specs.Modes.{is_bare}
use Rattle.deformatter.specs.declared.reader.PortReader.{PortReader}

abbrev pub mode_of : PortReader → FramesMode
mode_of r = r.mode

-- it has met no fault
abbrev pub is_live : PortReader → Bool
is_live r = if is_bare r.mode then true else deformatter.is_live r.port

-- its reading has begun
abbrev pub has_locked : PortReader → Bool
has_locked r = if is_bare r.mode then true else deformatter.has_locked r.port

-- how many bytes are after the last whole frame or synchronisation
abbrev pub tail_of : PortReader → ℕ
tail_of r = if is_bare r.mode then 0 else deformatter.tail_of r.port

-- how many bytes are before its reading
abbrev pub skipped_by : PortReader → ℕ
skipped_by r = if is_bare r.mode then 0 else deformatter.skipped_by r.port

-- of a port with a formatter its deformatter stands for the list; of a bare one nothing is kept
abbrev pub StandsByMode : FramesMode → Deformatter → List Placed → Type 0
StandsByMode Hunt port u = deformatter.Stands port u
StandsByMode Aligned port u = deformatter.Stands port u
StandsByMode Bare port u = Unit {0}

abbrev pub Stands : PortReader → List Placed → Type 0
Stands r u = StandsByMode r.mode r.port u

-- it has a formatter, it reads, and nothing of a frame or a synchronisation is there
abbrev pub IsBetween : PortReader → Type 0
IsBetween r = (is_bare r.mode ≡ false) × frames.IsBetween r.port

-- the ID in force
abbrev pub id_of : PortReader → Option ℕ
id_of r = deformatter.id_of r.port
