-- The lines of counts.
use Rattle.std.specs.Prelude.{ℕ, List, ◌++◌, codes, decimal}

-- `full N`, `half N` and `frames N`: full and half synchronisations, and frames
abbrev pub port_counts_text : ℕ → ℕ → ℕ → List ℕ
port_counts_text fulls halves frames =
    codes "full " ++ (decimal fulls ++ (codes "\nhalf " ++ (decimal halves
    ++ (codes "\nframes " ++ (decimal frames ++ codes "\n")))))

-- `faults N`: faults of a recovering report
abbrev pub faults_line : ℕ → List ℕ
faults_line faults = codes "faults " ++ (decimal faults ++ codes "\n")

-- `items N` and `capture N`: the items of an exercise, and the bytes of its capture
abbrev pub exercise_lines : ℕ → ℕ → List ℕ
exercise_lines items capture =
    codes "items " ++ (decimal items ++ (codes "\ncapture " ++ (decimal capture ++ codes "\n")))

-- `ID bytes B items I`
abbrev pub source_counts_line : ℕ → ℕ → ℕ → List ℕ
source_counts_line id bytes items =
    decimal id ++ (codes " bytes " ++ (decimal bytes ++ (codes " items " ++ (decimal items ++ codes "\n"))))
