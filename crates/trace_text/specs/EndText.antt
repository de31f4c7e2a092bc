-- The lines at the end.
use Rattle.std.specs.Prelude.{ℕ, List, ◌++◌, codes, decimal, flat_map}
use Rattle.source_events.specs.declared.plan.SourceKind.{SourceKind}
use Rattle.source_events.specs.declared.plan.SourceKind.TheVariants.{Itm, Stp}
use Rattle.source_events.specs.declared.port_mode.PortMode.{PortMode}
use Rattle.source_events.specs.declared.port_mode.PortMode.TheVariants.{Bare, Aligned, Locked, Hunting}
use Rattle.source_events.specs.declared.tails.SourceTail.{SourceTail}
use Rattle.source_events.specs.declared.tails.Tails.{Tails}

abbrev pub mode_text : PortMode → List ℕ
mode_text Bare = codes "bare"
mode_text Aligned = codes "aligned"
mode_text Locked = codes "locked"
mode_text Hunting = codes "hunting"

-- what a mapped source sends
abbrev pub kind_text : SourceKind → List ℕ
kind_text Itm = codes "itm"
kind_text Stp = codes "stp"

-- ` skipped S tail T`
abbrev pub rest_text : ℕ → ℕ → List ℕ
rest_text skipped tail = codes " skipped " ++ (decimal skipped ++ (codes " tail " ++ decimal tail))

-- `port MODE skipped S tail T unattributed U`
abbrev pub port_line : PortMode → ℕ → ℕ → ℕ → List ℕ
port_line mode skipped tail unattributed =
    codes "port " ++ (mode_text mode ++ (rest_text skipped tail
    ++ (codes " unattributed " ++ (decimal unattributed ++ codes "\n"))))

-- `ID KIND MODE skipped S tail T`: of a mapped source
abbrev pub source_line : SourceTail → List ℕ
source_line s =
    decimal s.id ++ (codes " " ++ (kind_text s.kind ++ (codes " " ++ (mode_text s.mode
    ++ (rest_text s.skipped s.tail ++ codes "\n")))))

-- all lines at the end of a capture: `end N`, how many bytes were read, and those of the port and its sources
abbrev pub tails_text : Tails → List ℕ
tails_text t =
    (codes "end " ++ (decimal t.bytes ++ codes "\n"))
    ++ (port_line t.mode t.skipped t.tail t.unattributed ++ flat_map source_line t.sources)
