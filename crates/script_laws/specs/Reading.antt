-- How the lines of a script are read: each text after the lines before it, up to the first with a fault.
use Rattle.std.specs.Prelude.{◌≡◌, ℕ, ◌+◌, ◌<◌, ◌≤◌, List, [], length, take, slice_index_or, Option, None, Some, Result}
use Rattle.std.specs.Prelude.{Ok, Err}
use Rattle.script_laws.specs.Names.{Plan, Nothing, Line2, One, LineFault, Unknown, says, version_then}

-- the text, and the line, of this number, from 0 on
abbrev pub text_at : List (List ℕ) → ℕ → List ℕ
text_at texts k = slice_index_or texts k []

abbrev pub line_at : List Line2 → ℕ → Line2
line_at lines k = slice_index_or lines k (One Nothing)

-- what the text of this number says after lines, where the texts before it tell the version
abbrev pub says_at : Plan → List (List ℕ) → List Line2 → ℕ → Result Line2 LineFault
says_at plan texts before k = says plan (version_then Unknown (take k texts)) before (text_at texts k)

-- each of these lines is what the text of its number says after the lines before it
abbrev pub AreLinesOf : Plan → List (List ℕ) → List Line2 → Type 0
AreLinesOf plan texts lines =
    (k : ℕ) → k < length lines → says_at plan texts (take k lines) k ≡ Ok (line_at lines k)

-- without a fault there are as many lines as texts; with one, it is that of the text after the lines, and has its
-- number, from 1 on
abbrev pub EndsWith : Plan → List (List ℕ) → List Line2 → Option (ℕ × LineFault) → Type 0
EndsWith plan texts lines None = length lines ≡ length texts
EndsWith plan texts lines (Some found) =
    (found.0 ≡ length lines + 1) × (found.0 ≤ length texts)
    × (says_at plan texts lines (length lines) ≡ Err found.1)
