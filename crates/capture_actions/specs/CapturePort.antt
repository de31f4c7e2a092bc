-- What the reading of a capture's port stands for.
use Rattle.std.specs.Prelude.{◌≡◌, ℕ, List, length, true, option_map, Option}
use Rattle.capture_actions.specs.Names.{placed, FramesMode, mode_of, told}
use Rattle.deformatter.specs.Reader as reader
use Rattle.deformatter.specs.Reader.{is_live}
use Rattle.capture_actions.specs.Port.{port_of}
use Rattle.capture_actions.specs.declared.port.CapturePort.{CapturePort}

-- how it is read
abbrev pub frames_mode : CapturePort → FramesMode
frames_mode port = mode_of port.reader

-- how many bytes it took
abbrev pub count_of : CapturePort → ℕ
count_of port = port.count

-- it has met no fault
abbrev pub IsLive : CapturePort → Type 0
IsLive port = is_live port.reader ≡ true

-- its reader stands for these bytes, it has counted them, and it keeps the fault of their reading
pub record Stands (port : CapturePort) (seen : List ℕ) : Type 0 where
  pub reader : reader.Stands port.reader (placed seen)
  pub count : port.count ≡ length seen
  pub fault : option_map told port.fault ≡ (port_of (frames_mode port) seen).fault

-- it has a formatter, it reads, and nothing of a frame or a synchronisation is there
abbrev pub IsBetween : CapturePort → Type 0
IsBetween port = reader.IsBetween port.reader

-- the ID in force
abbrev pub id_of : CapturePort → Option ℕ
id_of port = reader.id_of port.reader
