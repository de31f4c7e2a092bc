-- The reading of more lines.
use Rattle.std.proofs.Common.{◌≡◌, ℕ, ◌+◌, List, [], ◌∷◌, ◌++◌, refl, sym, ◌∙◌, ap, Bool, true, false, Option, Some}
use Rattle.std.proofs.Common.{None, Result, Ok, Err, append-nil, append_assoc, length, length-append, arith, nat_lt}
use Rattle.std.proofs.Common.{is_some, if◌then◌else◌, bytes_eq}
use Rattle.std.proofs.lemmas.Bool.Decides.{nat_tests}
use Rattle.std.proofs.lemmas.Slice.Eq.{bytes_eq-Decides}
use Rattle.script_rebuild.specs.Names.{Plan, Line, Line2, One, Nothing, LineFault, LongLine, BadLine, line_of, as_one}
use Rattle.script_rebuild.specs.Names.{line_of_words}
use Rattle.script_text.specs.Shapes.{shape_named}
use Rattle.script_text.proofs.NewLines.{same_line}
use Rattle.script_text.specs.Lines.{◌>>=◌}
use Rattle.script_rebuild.specs.declared.version.Version.{Version}
use Rattle.script_rebuild.specs.declared.version.Version.TheVariants.{Unknown, First, Second}
use Rattle.script_rebuild.specs.Versions.{Reading, header, version_after, version_then, says, says_one, fitting}
use Rattle.script_rebuild.specs.Versions.{read_in, read_on}

-- what one line's answer makes of the lines after it
abbrev pub with_answer : Plan → Version → List Line2 → List (List ℕ) → Result Line2 LineFault → Reading
with_answer plan version before texts answer =
    read_on (λ line. read_in plan version (before ++ line ∷ []) texts) before answer

pub read_first : (plan : Plan) (version : Version) (before : List Line2) (text : List ℕ) (texts : List (List ℕ))
    (answer : Result Line2 LineFault) → says plan version before text ≡ answer →
    read_in plan version before (text ∷ texts) ≡ with_answer plan (version_after version text) before texts answer
read_first plan version before text texts answer e =
    ap (λ r. with_answer plan (version_after version text) before texts r) e

-- the reading goes on where it has no fault
abbrev pub go_on : Plan → Version → Reading → List (List ℕ) → Option (ℕ × LineFault) → Reading
go_on plan version r texts None = read_in plan version r.lines texts
go_on plan version r texts (Some fault) = r

pub read_append : (plan : Plan) (version : Version) (before : List Line2) (front texts : List (List ℕ)) →
    read_in plan version before (front ++ texts)
    ≡ go_on plan (version_then version front) (read_in plan version before front) texts
    (read_in plan version before front).fault
read_append plan version before [] texts = refl
read_append plan version before (text ∷ front) texts =
    by (says plan version before text) (λ line. read_append plan next (before ++ line ∷ []) front texts)
  where
    next : Version
    next = version_after version text

    by : (answer : Result Line2 LineFault) →
        ((line : Line2) → read_in plan next (before ++ line ∷ []) (front ++ texts)
        ≡ go_on plan (version_then next front) (read_in plan next (before ++ line ∷ []) front) texts
        (read_in plan next (before ++ line ∷ []) front).fault) →
        with_answer plan next before (front ++ texts) answer
        ≡ go_on plan (version_then next front) (with_answer plan next before front answer) texts
        (with_answer plan next before front answer).fault
    by (Ok line) more = more line
    by (Err fault) more = refl

-- lines are only added
pub record Extends (old new : List Line2) : Type 0 where
  pub more : List Line2
  pub all : new ≡ old ++ more

pub read_extends : (plan : Plan) (version : Version) (before : List Line2) (texts : List (List ℕ)) →
    Extends before (read_in plan version before texts).lines
read_extends plan version before [] = record { more = []; all = sym (append-nil before) }
read_extends plan version before (text ∷ texts) =
    by (says plan version before text) (λ line. read_extends plan next (before ++ line ∷ []) texts)
  where
    next : Version
    next = version_after version text

    by : (answer : Result Line2 LineFault) →
        ((line : Line2) → Extends (before ++ line ∷ []) (read_in plan next (before ++ line ∷ []) texts).lines) →
        Extends before (with_answer plan next before texts answer).lines
    by (Ok line) more = record {
      more = line ∷ (more line).more;
      all =
          (more line).all ∙ append_assoc before (line ∷ []) (more line).more;
    }
    by (Err fault) more = record { more = []; all = sym (append-nil before) }

pub goes_extends : (plan : Plan) (version : Version) (r : Reading) (texts : List (List ℕ))
    (fault : Option (ℕ × LineFault)) → Extends r.lines (go_on plan version r texts fault).lines
goes_extends plan version r texts None = read_extends plan version r.lines texts
goes_extends plan version r texts (Some fault) = record { more = []; all = sym (append-nil r.lines) }

pub stuck : (plan : Plan) (version : Version) (r : Reading) (texts : List (List ℕ)) (fault : Option (ℕ × LineFault)) →
    is_some fault ≡ true → go_on plan version r texts fault ≡ r
stuck plan version r texts None h = cc
stuck plan version r texts (Some fault) h = refl

-- the header is no line of version 1
header_bad : (plan : Plan) → line_of plan header ≡ Err BadLine
unfolding line_of line_of_words shape_named
header_bad plan = refl

pub not_header : (plan : Plan) (text : List ℕ) → (line_of plan text ≡ Err BadLine → ⊥) → bytes_eq header text ≡ false
not_header plan text other = by (bytes_eq header text) refl
  where
    by : (v : Bool) → bytes_eq header text ≡ v → v ≡ false
    by false e = refl
    by true e =
        absurd (other (ap (line_of plan) (sym ((bytes_eq-Decides header text).0 e)) ∙ header_bad plan))

-- what a text says in each version where it has another fault there than BadLine
abbrev cause_of : Result Line LineFault → LineFault
cause_of (Ok line) = LongLine
cause_of (Err fault) = fault

pub says_fault : (plan : Plan) (version : Version) (lines : List Line2) (text : List ℕ) (fault : LineFault) →
    line_of plan text ≡ Err fault → (fault ≡ BadLine → ⊥) → says plan version lines text ≡ Err fault
says_fault plan Unknown lines text fault e other =
    ap (λ (v : Bool). if v then Ok (One Nothing) else says_one plan lines text)
    (not_header plan text (λ h. other (ap cause_of (sym e ∙ h)))) ∙ ap (λ r. as_one r >>= fitting lines) e
says_fault plan First lines text fault e other = ap (λ r. as_one r >>= fitting lines) e
says_fault plan Second lines text fault e other =
    ap (λ r. r >>= fitting lines) (same_line plan text (Err fault) e (λ h. other (ap cause_of h)))

-- a line of over 256 bytes
long_line : (plan : Plan) (line : List ℕ) → nat_lt 256 (length line) ≡ true → line_of plan line ≡ Err LongLine
unfolding line_of
long_line plan line h = rw h refl

pub long_more : (front back : List ℕ) → nat_lt 256 (length front) ≡ true → nat_lt 256 (length (front ++ back)) ≡ true
long_more front back h = let len = length-append front back in grind (arith, nat_tests)

pub says_long : (plan : Plan) (version : Version) (before : List Line2) (line : List ℕ) →
    nat_lt 256 (length line) ≡ true → says plan version before line ≡ Err LongLine
says_long plan version before line h = says_fault plan version before line LongLine (long_line plan line h) (λ e. cc)

read_long : (plan : Plan) (version : Version) (before : List Line2) (line : List ℕ) (lines : List (List ℕ)) →
    nat_lt 256 (length line) ≡ true →
    read_in plan version before (line ∷ lines) ≡ record { lines = before; fault = Some (length before + 1, LongLine) }
read_long plan version before line lines h =
    read_first plan version before line lines (Err LongLine) (says_long plan version before line h)

-- after the same lines one such line is as another, whatever follows
pub same_long : (plan : Plan) (version : Version) (front : List (List ℕ)) (line other : List ℕ)
    (lines others : List (List ℕ)) → nat_lt 256 (length line) ≡ true → nat_lt 256 (length other) ≡ true →
    read_in plan version [] (front ++ line ∷ lines) ≡ read_in plan version [] (front ++ other ∷ others)
same_long plan version front line other lines others h k =
    read_append plan version [] front (line ∷ lines)
    ∙ by (read_in plan version [] front).fault
    ∙ sym (read_append plan version [] front (other ∷ others))
  where
    next : Version
    next = version_then version front

    by : (fault : Option (ℕ × LineFault)) →
        go_on plan next (read_in plan version [] front) (line ∷ lines) fault
        ≡ go_on plan next (read_in plan version [] front) (other ∷ others) fault
    by None = let before = (read_in plan version [] front).lines in read_long plan next before line lines h
        ∙ sym (read_long plan next before other others k)
    by (Some fault) = refl
