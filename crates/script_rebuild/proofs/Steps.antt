-- One more byte of a script.
use Rattle.std.proofs.Common.{◌≡◌, ◌≢◌, ℕ, ◌+◌, ◌≤◌, List, [], ◌∷◌, ◌++◌, refl, sym, ◌∙◌, ap, true, false, None, Some}
use Rattle.std.proofs.Common.{Result, Ok, Err, append-nil, length, length-append, arith, All, nat_lt, ◌==◌}
use Rattle.std.proofs.Common.{if◌then◌else◌}
use Rattle.std.proofs.lemmas.Bool.Decides.{nat_tests}
use Rattle.script_rebuild.specs.Names.{Plan, all_but_last, Line2, LineFault, LongLine}
use Rattle.script_rebuild.specs.declared.version.Version.{Version}
use Rattle.script_rebuild.specs.declared.version.Version.TheVariants.{Unknown}
use Rattle.script_rebuild.specs.Versions.{lines_in, Reading, read_texts, says, version_after, version_then, script_of}
use Rattle.script_rebuild.specs.Rebuilt.{open_line, too_long, certain_lines, read_so_far}
use Rattle.script_rebuild.specs.SplitLaws.{plain_ended, plain_open, fed_ended, fed_open, lines_open}
use Rattle.script_rebuild.specs.ReadingLaws.{with_answer, read_first, go_on, read_append, says_long}

not_long : (line : List ℕ) → length line ≤ 256 → nat_lt 256 (length line) ≡ false
not_long line h = grind (arith, nat_tests)

short : (line : List ℕ) → length line ≤ 256 → too_long line ≡ []
short line h = ap (λ v. if v then line ∷ [] else []) (not_long line h)

short_certain : (seen : List ℕ) → length (open_line seen) ≤ 256 → certain_lines seen ≡ all_but_last (lines_in seen)
short_certain seen h = ap (λ l. all_but_last (lines_in seen) ++ l) (short (open_line seen) h) ∙ append-nil (all_but_last (lines_in seen))

-- bytes without a line feed change nothing while the line is not too long
pub front_read : (plan : Plan) (seen front : List ℕ) → All (λ b. (b == 10) ≡ false) front → length (open_line seen ++ front) ≤ 256 →
    read_so_far plan (seen ++ front) ≡ read_so_far plan seen
front_read plan seen front plain h =
    let here : length (open_line seen) ≤ 256 = omega (arith, length-append (open_line seen) front) in
    let there : length (open_line (seen ++ front)) ≤ 256 = omega (arith, ap length (plain_open seen front plain)) in
    ap (read_texts plan) (short_certain (seen ++ front) there ∙ plain_ended seen front plain ∙ sym (short_certain seen here))

-- what is known of the version at the open line
abbrev pub version_now : List ℕ → Version
version_now seen = version_then Unknown (all_but_last (lines_in seen))

-- what is read with one line after those that ended
abbrev pub answered : List Line2 → Result Line2 LineFault → Reading
answered before (Ok line) = record { lines = before ++ line ∷ []; fault = None }
answered before (Err fault) = record { lines = before; fault = Some (length before + 1, fault) }

abbrev pub read_with : Plan → List ℕ → Result Line2 LineFault → Reading
read_with plan seen answer = answered (read_so_far plan seen).lines answer

none_after : (plan : Plan) (version : Version) (before : List Line2) (answer : Result Line2 LineFault) →
    with_answer plan version before [] answer ≡ answered before answer
none_after plan version before (Ok line) = refl
none_after plan version before (Err fault) = refl

text_read : (plan : Plan) (seen text : List ℕ) (answer : Result Line2 LineFault) → (read_so_far plan seen).fault ≡ None →
    length (open_line seen) ≤ 256 → says plan (version_now seen) (read_so_far plan seen).lines text ≡ answer →
    read_texts plan (all_but_last (lines_in seen) ++ text ∷ []) ≡ read_with plan seen answer
text_read plan seen text answer none h e =
    read_append plan Unknown [] (all_but_last (lines_in seen)) (text ∷ [])
    ∙ ap (λ l. go_on plan (version_now seen) (read_texts plan l) (text ∷ []) (read_texts plan l).fault) (sym (short_certain seen h))
    ∙ ap (go_on plan (version_now seen) (read_so_far plan seen) (text ∷ [])) none
    ∙ read_first plan (version_now seen) (read_so_far plan seen).lines text [] answer e
    ∙ none_after plan (version_after (version_now seen) text) (read_so_far plan seen).lines answer

-- the open line is at its end with a line feed
fed_certain : (seen : List ℕ) → certain_lines (seen ++ 10 ∷ []) ≡ all_but_last (lines_in seen) ++ open_line seen ∷ []
fed_certain seen =
    ap (λ l. l ++ too_long (open_line (seen ++ 10 ∷ []))) (fed_ended seen)
    ∙ ap (λ l. (all_but_last (lines_in seen) ++ open_line seen ∷ []) ++ too_long l) (fed_open seen)
    ∙ append-nil (all_but_last (lines_in seen) ++ open_line seen ∷ [])

pub fed_read : (plan : Plan) (seen : List ℕ) (answer : Result Line2 LineFault) → (read_so_far plan seen).fault ≡ None →
    length (open_line seen) ≤ 256 → says plan (version_now seen) (read_so_far plan seen).lines (open_line seen) ≡ answer →
    read_so_far plan (seen ++ 10 ∷ []) ≡ read_with plan seen answer
fed_read plan seen answer none h e = ap (read_texts plan) (fed_certain seen) ∙ text_read plan seen (open_line seen) answer none h e

-- and at the end of the script
pub end_read : (plan : Plan) (seen : List ℕ) (answer : Result Line2 LineFault) → (read_so_far plan seen).fault ≡ None →
    length (open_line seen) ≤ 256 → says plan (version_now seen) (read_so_far plan seen).lines (open_line seen) ≡ answer →
    script_of plan seen ≡ read_with plan seen answer
end_read plan seen answer none h e = ap (read_texts plan) (lines_open seen) ∙ text_read plan seen (open_line seen) answer none h e

no_feed : (b : ℕ) → b ≢ 10 → (b == 10) ≡ false
no_feed b h = grind (arith, nat_tests)

pub one_plain : (b : ℕ) → b ≢ 10 → All (λ x. (x == 10) ≡ false) (b ∷ [])
one_plain b h = let no = no_feed b h in grind (arith, no)

-- with its 257th byte the open line is too long
pub long_read : (plan : Plan) (seen : List ℕ) (b : ℕ) → (read_so_far plan seen).fault ≡ None → length (open_line seen) ≡ 256 → b ≢ 10 →
    read_so_far plan (seen ++ b ∷ []) ≡ read_with plan seen (Err LongLine)
long_read plan seen b none full other =
    let plain = one_plain b other in
    let init = all_but_last (lines_in seen) in
    let line = open_line seen ++ b ∷ [] in
    let count : length line ≡ 257 = omega (arith, length-append (open_line seen) (b ∷ [])) in
    let over : nat_lt 256 (length line) ≡ true = ap (λ n. nat_lt 256 n) count in
    let certain : certain_lines (seen ++ b ∷ []) ≡ init ++ line ∷ [] =
    ap (λ l. l ++ too_long (open_line (seen ++ b ∷ []))) (plain_ended seen (b ∷ []) plain)
    ∙ ap (λ l. init ++ too_long l) (plain_open seen (b ∷ []) plain)
    ∙ ap (λ v. init ++ (if v then line ∷ [] else [])) over in
    ap (read_texts plan) certain
    ∙ text_read plan seen line (Err LongLine) none (omega arith)
    (says_long plan (version_now seen) (read_so_far plan seen).lines line over)

-- the version, with bytes that end no line, and with a line feed
then_one : (version : Version) (texts : List (List ℕ)) (text : List ℕ) →
    version_then version (texts ++ text ∷ []) ≡ version_after (version_then version texts) text
then_one version [] text = refl
then_one version (first ∷ texts) text = then_one (version_after version first) texts text

pub front_version : (seen front : List ℕ) → All (λ b. (b == 10) ≡ false) front → version_now (seen ++ front) ≡ version_now seen
front_version seen front plain = ap (version_then Unknown) (plain_ended seen front plain)

pub fed_version : (seen : List ℕ) → version_now (seen ++ 10 ∷ []) ≡ version_after (version_now seen) (open_line seen)
fed_version seen =
    ap (version_then Unknown) (fed_ended seen) ∙ then_one Unknown (all_but_last (lines_in seen)) (open_line seen)
