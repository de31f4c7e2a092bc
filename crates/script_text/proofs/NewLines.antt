-- The lines of version 2 beside those of version 1.
use Rattle.std.proofs.Common.{◌≡◌, ℕ, suc, arith, List, [], ◌∷◌, length, refl, sym, ◌∙◌, ap, subst, Bool, true, false}
use Rattle.std.proofs.Common.{nat_lt, Result, Ok, Err, ◌==◌, ◌&&◌, if◌then◌else◌, codes, IfOk, bytes_eq}
use Rattle.std.proofs.lemmas.Slice.Eq.{bytes_eq-Decides}
use Rattle.std.proofs.lemmas.Bool.Decides.{nat_tests}
use Rattle.script_text.specs.Names.{Plan}
use Rattle.script_text.specs.declared.lines.Line.{Line}
use Rattle.script_text.specs.declared.lines.Line.TheVariants.{Nothing}
use Rattle.script_text.specs.declared.version_two.Line2.{Line2}
use Rattle.script_text.specs.declared.version_two.Line2.TheVariants.{One, Flush, Trigger}
use Rattle.script_text.specs.declared.line_fault.LineFault.{LineFault}
use Rattle.script_text.specs.declared.line_fault.LineFault.TheVariants.{LongLine, BadLine}
use Rattle.script_text.specs.Words.{are_printable, words_in, are_words}
use Rattle.script_text.specs.Shapes.{shape_named}
use Rattle.script_text.specs.Lines.{line_of_words, line_of, is_nothing}
use Rattle.script_text.specs.VersionTwo.{flush_line, is_trigger, trigger_said, trigger_of, as_one, line2_of, IsSaid2}
use Rattle.script_text.specs.VersionTwo.{IsNew}

-- a line of version 1, by the tests on it: too long, empty or a remark, printable, of words; and what the words say
abbrev one_by : Bool → Bool → Bool → Bool → Result Line LineFault → Result Line LineFault
one_by long nothing printable words said =
    if long then Err LongLine
    else if nothing then Ok Nothing
    else if printable then (if words then said else Err BadLine)
    else Err BadLine

-- and a line of version 2, by the tests whether it is `flush`, and whether its words are a trigger's
abbrev pub two_by : Bool → Bool → Bool → Bool → Bool → Bool → Result Line LineFault → Result Line2 LineFault → Result Line2 LineFault
two_by long flush nothing printable words trigger said new =
    if long then Err LongLine
    else if flush then Ok Flush
    else if nothing then Ok (One Nothing)
    else if printable then (if words then (if trigger then new else as_one said) else Err BadLine)
    else Err BadLine

-- where version 1 has another answer than BadLine, version 2 has the same
same_by : (long flush nothing printable words trigger : Bool) (said answer : Result Line LineFault) (new : Result Line2 LineFault) →
    one_by long nothing printable words said ≡ answer → (answer ≡ Err BadLine → ⊥) →
    (flush ≡ true → answer ≡ Err BadLine) → (trigger ≡ true → said ≡ Err BadLine) →
    two_by long flush nothing printable words trigger said new ≡ as_one answer
same_by true flush nothing printable words trigger said answer new e other f t = ap as_one e
same_by false true nothing printable words trigger said answer new e other f t = absurd (other (f refl))
same_by false false true printable words trigger said answer new e other f t = ap as_one e
same_by false false false false words trigger said answer new e other f t = absurd (other (sym e))
same_by false false false true false trigger said answer new e other f t = absurd (other (sym e))
same_by false false false true true true said answer new e other f t = absurd (other (sym e ∙ t refl))
same_by false false false true true false said answer new e other f t = ap as_one e

-- and where it has BadLine, version 2 has one of its own lines, or BadLine
new_by : (long flush nothing printable words trigger : Bool) (said : Result Line LineFault) (new : Result Line2 LineFault) →
    one_by long nothing printable words said ≡ Err BadLine →
    two_by long flush nothing printable words trigger said new
    ≡ (if flush then Ok Flush else if printable && words then (if trigger then new else Err BadLine) else Err BadLine)
new_by true flush nothing printable words trigger said new e = cc
new_by false false true printable words trigger said new e = cc
new_by false false false true true false said new e = ap as_one e
new_by long flush nothing printable words trigger said new e = refl

pub too_many : (n : ℕ) (v : Bool) → (suc (suc (suc (suc n))) == 3 && v) ≡ true → ⊥
too_many n v h = grind (arith, nat_tests)

-- the words of a trigger are those of no line of version 1
trigger_bad : (plan : Plan) (words : List (List ℕ)) → is_trigger words ≡ true → line_of_words plan words ≡ Err BadLine
unfolding line_of_words shape_named
trigger_bad plan (id ∷ (word ∷ (code ∷ []))) h =
    subst (λ (w : List ℕ). line_of_words plan (id ∷ (w ∷ (code ∷ []))) ≡ Err BadLine)
    ((bytes_eq-Decides (codes "trigger") word).0 h) refl
trigger_bad plan (id ∷ (word ∷ (code ∷ (more ∷ words)))) h =
    absurd (too_many (length words) (bytes_eq (codes "trigger") word) h)
trigger_bad plan words h = cc

-- `flush` is no line of version 1
flush_bad : (plan : Plan) (line : List ℕ) → bytes_eq flush_line line ≡ true → line_of plan line ≡ Err BadLine
unfolding line_of line_of_words shape_named
flush_bad plan line h =
    subst (λ (l : List ℕ). line_of plan l ≡ Err BadLine) ((bytes_eq-Decides flush_line line).0 h) refl

pub same_line : (plan : Plan) (line : List ℕ) (answer : Result Line LineFault) → line_of plan line ≡ answer →
    (answer ≡ Err BadLine → ⊥) → line2_of plan line ≡ as_one answer
unfolding line_of line2_of
same_line plan line answer e other =
    same_by (nat_lt 256 (length line)) (bytes_eq flush_line line) (is_nothing line) (are_printable line)
    (are_words 0 (words_in line)) (is_trigger (words_in line)) (line_of_words plan (words_in line)) answer
    (trigger_said (words_in line)) e other (λ h. sym e ∙ flush_bad plan line h) (trigger_bad plan (words_in line))

pub new_line : (plan : Plan) (line : List ℕ) → line_of plan line ≡ Err BadLine →
    line2_of plan line ≡ (if bytes_eq flush_line line then Ok Flush
    else if are_printable line && are_words 0 (words_in line) then trigger_of (words_in line) else Err BadLine)
unfolding line_of line2_of
new_line plan line e =
    new_by (nat_lt 256 (length line)) (bytes_eq flush_line line) (is_nothing line) (are_printable line)
    (are_words 0 (words_in line)) (is_trigger (words_in line)) (line_of_words plan (words_in line))
    (trigger_said (words_in line)) e

-- and so what is read of such a line
module _ (plan : Plan) (line : List ℕ) (bad : line_of plan line ≡ Err BadLine) where
  by_tests : (flush words : Bool) → bytes_eq flush_line line ≡ flush →
      (are_printable line && are_words 0 (words_in line)) ≡ words →
      line2_of plan line ≡ (if flush then Ok Flush else if words then trigger_of (words_in line) else Err BadLine)
  by_tests flush words e f =
      new_line plan line bad
      ∙ ap (λ (v : Bool). if v then Ok Flush else if are_printable line && are_words 0 (words_in line)
      then trigger_of (words_in line) else Err BadLine) e
      ∙ ap (λ (v : Bool). if flush then Ok Flush else if v then trigger_of (words_in line) else Err BadLine) f

  pub flush_read : bytes_eq flush_line line ≡ true → Ok Flush ≡ line2_of plan line
  flush_read e = sym (by_tests true (are_printable line && are_words 0 (words_in line)) e refl)

  pub no_words_read : bytes_eq flush_line line ≡ false → (are_printable line && are_words 0 (words_in line)) ≡ false →
      Err BadLine ≡ line2_of plan line
  no_words_read e f = sym (by_tests false false e f)

  pub words_read : bytes_eq flush_line line ≡ false → (are_printable line && are_words 0 (words_in line)) ≡ true →
      trigger_of (words_in line) ≡ line2_of plan line
  words_read e f = sym (by_tests false true e f)

-- and what version 2 alone says is in its ranges
pub new_is_said : (plan : Plan) (r : Result Line2 LineFault) → IfOk r IsNew → IfOk r (IsSaid2 plan)
new_is_said plan (Ok (One line)) h = absurd h
new_is_said plan (Ok Flush) h = tt
new_is_said plan (Ok (Trigger byte)) h = h
new_is_said plan (Err fault) h = tt
