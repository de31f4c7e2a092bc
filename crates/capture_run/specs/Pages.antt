-- The texts that `help` and `version` write.
use Rattle.std.specs.Prelude.{ℕ, List, [], ◌∷◌, ◌++◌, codes, flat_map}
use Rattle.capture_words.specs.declared.page.Page.{Page}
use Rattle.capture_words.specs.declared.page.Page.TheVariants.{Help, Version}

-- the program's name and its version
abbrev pub version_text : List ℕ
version_text = codes "lipparoy 1.0.0\n"

-- one screen, line by line
unfoldable pub help_lines : List (List ℕ)
help_lines =
    codes "Usage: lipparoy ACTION [OPTIONS] < CAPTURE"
    ∷ codes ""
    ∷ codes "Read and write CoreSight software trace: ITM and STP packets, in the frames of"
    ∷ codes "a trace port or without."
    ∷ codes ""
    ∷ codes "Read a capture:"
    ∷ codes "  show      List its events, one on a line"
    ∷ codes "  split     Write the bytes of one source"
    ∷ codes "  check     Count frames, synchronisations, and each source's bytes and items"
    ∷ codes "  text      Write what software printed to a stimulus port"
    ∷ codes "  vcd       Write values and exceptions over time, for waveform viewers"
    ∷ codes ""
    ∷ codes "Write the capture of a script:"
    ∷ codes "  rebuild   Put the script's items into frames"
    ∷ codes "  funnel    Pass them through a funnel of several sources first"
    ∷ codes ""
    ∷ codes "Bits and memory:"
    ∷ codes "  realign   Restore whole bytes where a line lost bits"
    ∷ codes "  ring      Write the memory of a trace buffer that took a capture"
    ∷ codes "  unring    Put such a memory in order, its oldest byte first"
    ∷ codes ""
    ∷ codes "Others, which read nothing:"
    ∷ codes "  exercise  Make a capture, lose any front of it, and count the rest"
    ∷ codes "  help      Print this help"
    ∷ codes "  version   Print the version"
    ∷ codes ""
    ∷ codes "Common calls, for the bytes of one core's SWO pin and for a trace port:"
    ∷ codes "  lipparoy show --frames bare --packets aligned --recover near --itm 1 < CAPTURE"
    ∷ codes "  lipparoy text --frames bare --packets aligned --recover near --itm 1 < CAPTURE"
    ∷ codes "  lipparoy check < CAPTURE"
    ∷ codes ""
    ∷ codes "`lipparoy --help` lists the options. Read on in docs/start.md; docs/command.md"
    ∷ codes "has every action, option, line and status."
    ∷ []

abbrev pub page_text : Page → List ℕ
page_text Help = flat_map (λ line. line ++ codes "\n") help_lines
page_text Version = version_text
