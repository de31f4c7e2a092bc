-- A line of version 2 that says a trigger is the text of that trigger, with its digits in lower case.
use Rattle.std.proofs.Common.{◌≡◌, ℕ, ◌<◌, List, [], ◌∷◌, ◌++◌, length, map, refl, sym, ◌∙◌, ap, arith, Bool, true}
use Rattle.std.proofs.Common.{false, Option, Some, None, Result, Ok, Err, ◌==◌, codes, decimal, nat_lt, if◌then◌else◌}
use Rattle.std.proofs.Common.{ok_or, bytes_eq}
use Rattle.std.specs.Fmt.{digits}
use Rattle.std.proofs.lemmas.Slice.Eq.{bytes_eq-Decides}
use Rattle.std.proofs.lemmas.List.Splits.{join_with_byte-slice_split}
use Rattle.hex.specs.Hex.{encode_lower, encode_with}
use Rattle.script_laws.specs.Names.{number_named, Plan, Line, Nothing, Line2, One, Trigger, LineFault, LongLine}
use Rattle.script_laws.specs.Names.{BadLine, BadId, BadNumber, Mixed, are_printable, words_in, are_words, word_of}
use Rattle.script_laws.specs.Names.{hexadecimal_named, hexadecimal_at, line_of_words, line_of, is_nothing, flush_line}
use Rattle.script_laws.specs.Names.{is_trigger, trigger_said, as_one, line2_of}
use Rattle.script_text.specs.Lines.{◌>>=◌}
use Rattle.script_text.proofs.Hexadecimals.{hexadecimal_small}
use Rattle.script_text.proofs.NewLines.{two_by, too_many}
use Rattle.script_laws.specs.Lowered.{lowered}
use Rattle.script_laws.proofs.Digits.{below, below_holds, same_number}
use Rattle.script_laws.proofs.Joining.{joined}
use Rattle.script_laws.proofs.Items.{byte_is}
use Rattle.script_laws.proofs.Lowering.{number_lowered, hexadecimal_lowered}
use Rattle.script_laws.proofs.Fields.{low}
use Rattle.script_laws.proofs.LineLaw.{joined_low}

-- each trigger is read: all 256 of them
abbrev says_trigger : Result Line2 LineFault → ℕ → Bool
says_trigger (Ok (Trigger found)) byte = found == byte
says_trigger answer byte = false

says_so : (r : Result Line2 LineFault) (byte : ℕ) → says_trigger r byte ≡ true → r ≡ Ok (Trigger byte)
says_so (Ok (Trigger found)) byte h = ap (λ (b : ℕ). Ok (Trigger b)) (same_number found byte h)
says_so answer byte h = cc

abbrev trigger_text : ℕ → List ℕ
trigger_text byte = codes "125 trigger " ++ encode_lower (byte ∷ [])

all_read : (plan : Plan) → below (λ byte. says_trigger (line2_of plan (trigger_text byte)) byte) 256 ≡ true
unfolding below line2_of trigger_said hexadecimal_named encode_with digits
all_read plan = refl

pub trigger_reads : (plan : Plan) (byte : ℕ) → byte < 256 → line2_of plan (trigger_text byte) ≡ Ok (Trigger byte)
trigger_reads plan byte h =
    says_so (line2_of plan (trigger_text byte)) byte
    (below_holds (λ byte. says_trigger (line2_of plan (trigger_text byte)) byte) 256 byte (all_read plan) h)

-- the words of a trigger
record AreTrigger (words : List (List ℕ)) (byte : ℕ) : Type 0 where
  pub id : List ℕ
  pub code : List ℕ
  pub words_are : words ≡ id ∷ (codes "trigger" ∷ (code ∷ []))
  pub numbered : number_named 1 126 id ≡ Some 125
  pub named : hexadecimal_named 2 code ≡ Some byte

said_parts : (words : List (List ℕ)) (byte : ℕ) → trigger_said words ≡ Ok (Trigger byte) →
    (number_named 1 126 (word_of words 0) ≡ Some 125) × (hexadecimal_at 2 words 2 ≡ Some byte)
unfolding trigger_said
said_parts words byte e = by (number_named 1 126 (word_of words 0)) (hexadecimal_at 2 words 2) e
  where
    last : (v : Bool) (n b : ℕ) → (n == 125) ≡ v → (if v then Ok (Trigger b) else Err Mixed) ≡ Ok (Trigger byte) →
        (n ≡ 125) × (b ≡ byte)
    last true n b h e = (same_number n 125 h, cc)
    last false n b h e = cc

    by : (n b : Option ℕ) → (ok_or n BadId >>= λ number. ok_or b BadNumber >>= λ byte.
        if number == 125 then Ok (Trigger byte) else Err Mixed) ≡ Ok (Trigger byte) → (n ≡ Some 125) × (b ≡ Some byte)
    by None b e = cc
    by (Some n) None e = cc
    by (Some n) (Some b) e = (let k = last (n == 125) n b refl e in (ap Some k.0, ap Some k.1))

trigger_parts : (words : List (List ℕ)) (byte : ℕ) → is_trigger words ≡ true → trigger_said words ≡ Ok (Trigger byte) →
    AreTrigger words byte
trigger_parts (id ∷ (word ∷ (code ∷ []))) byte h e =
    let parts = said_parts (id ∷ (word ∷ (code ∷ []))) byte e in
    record {
      id = id;
      code = code;
      words_are = ap (λ (w : List ℕ). id ∷ (w ∷ (code ∷ []))) (sym ((bytes_eq-Decides (codes "trigger") word).0 h));
      numbered = parts.0;
      named = parts.1;
    }
trigger_parts (id ∷ (word ∷ (code ∷ (more ∷ words)))) byte h e =
    absurd (too_many (length words) (bytes_eq (codes "trigger") word) h)
trigger_parts words byte h e = cc

-- what a line of version 2 that is good can be
no_one : (said : Result Line LineFault) (byte : ℕ) → as_one said ≡ Ok (Trigger byte) → ⊥
no_one (Ok line) byte e = cc
no_one (Err fault) byte e = cc

trigger_by : (long flush nothing printable words trigger : Bool) (said : Result Line LineFault)
    (new : Result Line2 LineFault) (byte : ℕ) →
    two_by long flush nothing printable words trigger said new ≡ Ok (Trigger byte) →
    (trigger ≡ true) × (new ≡ Ok (Trigger byte))
trigger_by false false false true true true said new byte e = (refl, e)
trigger_by false false false true true false said new byte e = absurd (no_one said byte e)
trigger_by long flush nothing printable words trigger said new byte e = cc

trigger_line : (plan : Plan) (line : List ℕ) (byte : ℕ) → line2_of plan line ≡ Ok (Trigger byte) →
    (is_trigger (words_in line) ≡ true) × (trigger_said (words_in line) ≡ Ok (Trigger byte))
unfolding line2_of
trigger_line plan line byte e =
    trigger_by (nat_lt 256 (length line)) (bytes_eq flush_line line) (is_nothing line) (are_printable line)
    (are_words 0 (words_in line)) (is_trigger (words_in line)) (line_of_words plan (words_in line))
    (trigger_said (words_in line)) byte e

decimal_is : (text : List ℕ) → joined (decimal 125 ∷ (codes "trigger" ∷ (text ∷ []))) ≡ codes "125 trigger " ++ text
unfolding digits
decimal_is text = refl

pub trigger_small : (plan : Plan) (line : List ℕ) (byte : ℕ) → line2_of plan line ≡ Ok (Trigger byte) → byte < 256
trigger_small plan line byte e =
    let t = trigger_line plan line byte e in
    hexadecimal_small 2 (word_of (words_in line) 2) byte (said_parts (words_in line) byte t.1).1

pub trigger_only : (plan : Plan) (line : List ℕ) (byte : ℕ) → line2_of plan line ≡ Ok (Trigger byte) →
    map lowered line ≡ trigger_text byte
trigger_only plan line byte e =
    let small = trigger_small plan line byte e in
    let t = trigger_line plan line byte e in
    let w = trigger_parts (words_in line) byte t.0 t.1 in
    ap (map lowered) (sym (join_with_byte-slice_split 32 line))
    ∙ joined_low (words_in line)
    ∙ ap (λ (l : List (List ℕ)). joined (low l)) w.words_are
    ∙ ap (λ (l : List ℕ). joined (l ∷ (codes "trigger" ∷ (map lowered w.code ∷ []))))
    (number_lowered 1 126 125 w.id (omega arith) w.numbered)
    ∙ ap (λ (l : List ℕ). joined (decimal 125 ∷ (codes "trigger" ∷ (l ∷ []))))
    (hexadecimal_lowered 2 byte w.code w.named ∙ sym (byte_is byte small))
    ∙ decimal_is (encode_lower (byte ∷ []))

-- and the lines that are of version 1 too, and `flush`
one_by : (long flush nothing printable words trigger : Bool) (said : Result Line LineFault)
    (new : Result Line2 LineFault) (line : Line) → ((l : Line) → new ≡ Ok (One l) → ⊥) →
    two_by long flush nothing printable words trigger said new ≡ Ok (One line) →
    (if long then Err LongLine else if nothing then Ok Nothing else if printable then (if words then said else Err BadLine) else Err BadLine) ≡ Ok line
one_by false false false true true true said new line none e = absurd (none line e)
one_by false false false true true false (Ok found) new line none e = cc
one_by long flush nothing printable words trigger said new line none e = cc

no_one_said : (words : List (List ℕ)) (line : Line) → trigger_said words ≡ Ok (One line) → ⊥
unfolding trigger_said
no_one_said words line e = by (number_named 1 126 (word_of words 0)) (hexadecimal_at 2 words 2) e
  where
    last : (v : Bool) (b : ℕ) → (if v then Ok (Trigger b) else Err Mixed) ≡ Ok (One line) → ⊥
    last true b e = cc
    last false b e = cc

    by : (n b : Option ℕ) → (ok_or n BadId >>= λ number. ok_or b BadNumber >>= λ byte.
        if number == 125 then Ok (Trigger byte) else Err Mixed) ≡ Ok (One line) → ⊥
    by None b e = cc
    by (Some n) None e = cc
    by (Some n) (Some b) e = last (n == 125) b e

pub one_only : (plan : Plan) (line : List ℕ) (said : Line) → line2_of plan line ≡ Ok (One said) → line_of plan line ≡ Ok said
unfolding line_of line2_of
one_only plan line said e =
    one_by (nat_lt 256 (length line)) (bytes_eq flush_line line) (is_nothing line) (are_printable line)
    (are_words 0 (words_in line)) (is_trigger (words_in line)) (line_of_words plan (words_in line))
    (trigger_said (words_in line)) said (no_one_said (words_in line)) e
