use Rattle.std.proofs.Common.{◌≡◌, ℕ, ◌^◌, ◌<◌, List, [], ◌∷◌, ◌++◌, length, All, refl, sym, ◌∙◌, ap, arith, ◌≤◌}
use Rattle.std.proofs.Common.{append_assoc, append-nil, Bool, true, false, cond, Option, None, Some}
use Rattle.std.specs.List.{AllByRecursion}
use Rattle.std.specs.Option.{ForSome}
use Rattle.std.specs.Prelude.{nat_lt}
use Rattle.std.proofs.lemmas.Bool.Decides.{nat_tests}
use Rattle.std.proofs.lemmas.List.Elements.{All-head, All-tail}
use Rattle.value_dump.specs.Names.{ItmPacket, IsProper, local_after}
use Rattle.value_dump.specs.Dump.{lines_after, packet_lines, packets_shown, packets_until, pending, stamp_lines}
use Rattle.value_dump.specs.Dump.{up_to_stamp}
use Rattle.value_dump.specs.Header.{header}
use Rattle.value_dump.specs.Lines.{code_of, nanoseconds}
use Rattle.value_dump.specs.Signals.{is_local, value_after}
use Rattle.value_dump.specs.Reading.{Said, Nothing, code_in, said_in, time_in, time_read, value_in, value_read}
use Rattle.value_dump.specs.Reading.{said_until, value_shown, value_with}
use Rattle.value_dump.proofs.Fits.{unknown_at_stamp}
use Rattle.value_dump.proofs.ReadAt.{late_at, ticks, time_of, until_at, until_header, until_lines, value_until}
use Rattle.value_dump.proofs.ReadBack.{code_after, code_append, code_at, says_at, says_lines, says_packet}
use Rattle.value_dump.proofs.ReadBack.{said_after, said_at, said_by_packet, time_append, time_at, value_append}
use Rattle.value_dump.proofs.ReadBack.{value_at, value_read_after}
use Rattle.value_dump.proofs.ReadHeader.{header_read, name_of, said_by_header, says_header}
use Rattle.value_dump.proofs.ReadLines.{Says, says_more}
use Rattle.value_dump.proofs.laws.reading_law.Goals as goal

each_proper : (packets : List ItmPacket) → All IsProper packets → AllByRecursion IsProper packets
each_proper [] h = tt
each_proper (packet ∷ packets) h =
    (All-head IsProper packet packets h, each_proper packets (All-tail IsProper packet packets h))

-- a text that says this, and after its last line nothing
whole : (text : List ℕ) (said : List Said) → Says text said → said_in text ≡ said ++ Nothing ∷ []
whole text said h = ap said_in (sym (append-nil text)) ∙ h.all []

-- what is read of the header, and of more that declares no variable
module _ (number : ℕ) (within : number < 40) where
  read_after : (text : List ℕ) (said : List Said) → Says text (said_by_header ++ said) →
      ((code : Option (List ℕ)) → code_in (name_of number) code said ≡ code) →
      value_read (name_of number) text ≡ value_in (code_of number ∷ []) (value_after [] number) said
  read_after text said h none =
      ap (λ (l : List Said). value_with (code_in (name_of number) None l) l) (whole text (said_by_header ++ said) h)
      ∙ ap (λ (c : Option (List ℕ)). value_with c ((said_by_header ++ said) ++ Nothing ∷ [])) code
      ∙ value_append (code_of number ∷ []) None (said_by_header ++ said) (Nothing ∷ [])
      ∙ value_append (code_of number ∷ []) None said_by_header said
      ∙ ap (λ (v : Option ℕ). value_in (code_of number ∷ []) v said) (header_read number within).1 where
        code : code_in (name_of number) None ((said_by_header ++ said) ++ Nothing ∷ []) ≡ Some (code_of number ∷ [])
        code =
            code_append (name_of number) None (said_by_header ++ said) (Nothing ∷ [])
            ∙ code_append (name_of number) None said_by_header said
            ∙ none (code_in (name_of number) None said_by_header) ∙ (header_read number within).0

module _ (hz : Option ℕ) (packets : List ItmPacket) (proper : AllByRecursion IsProper packets) where
  says_stamped : Says (header hz ++ lines_after hz [] packets) (said_by_header ++ said_after hz [] packets)
  says_stamped =
      says_more (header hz) (lines_after hz [] packets) said_by_header (said_after hz [] packets) (says_header hz)
      (says_lines hz [] packets tt proper)

  stamped : (number : ℕ) → number < 40 →
      value_read (name_of number) (header hz ++ lines_after hz [] packets) ≡ value_after (up_to_stamp packets) number
  stamped number within =
      read_after number within (header hz ++ lines_after hz [] packets) (said_after hz [] packets) says_stamped
      (λ code. code_after (name_of number) code hz [] packets)
      ∙ value_read_after number hz [] packets within tt proper

  says_ended : Says (header hz ++ (lines_after hz [] packets ++ pending hz packets))
      (said_by_header ++ (said_after hz [] packets ++ said_at hz packets packets))
  says_ended =
      says_more (header hz) (lines_after hz [] packets ++ pending hz packets) said_by_header
      (said_after hz [] packets ++ said_at hz packets packets) (says_header hz)
      (says_more (lines_after hz [] packets) (pending hz packets) (said_after hz [] packets)
      (said_at hz packets packets) (says_lines hz [] packets tt proper) (says_at hz packets packets proper))

  ended : (number : ℕ) → number < 40 →
      value_read (name_of number) (header hz ++ (lines_after hz [] packets ++ pending hz packets))
      ≡ value_after packets number
  ended number within =
      read_after number within (header hz ++ (lines_after hz [] packets ++ pending hz packets))
      (said_after hz [] packets ++ said_at hz packets packets) says_ended
      (λ code.
      code_append (name_of number) code (said_after hz [] packets) (said_at hz packets packets)
      ∙ ap (λ (c : Option (List ℕ)). code_in (name_of number) c (said_at hz packets packets))
      (code_after (name_of number) code hz [] packets)
      ∙ code_at (name_of number) code hz packets packets)
      ∙ value_append (code_of number ∷ []) (value_after [] number) (said_after hz [] packets)
      (said_at hz packets packets)
      ∙ ap (λ (v : Option ℕ). value_in (code_of number ∷ []) v (said_at hz packets packets))
      (value_read_after number hz [] packets within tt proper)
      ∙ value_at number hz packets packets within proper (unknown_at_stamp packets number)

  time_of_packet : (packet : ItmPacket) (t : Option ℕ) → 0 < length (packet_lines hz packets packet) →
      time_in t (said_by_packet hz packets packet) ≡ Some (nanoseconds hz (local_after (packets ++ packet ∷ [])))
  time_of_packet packet t = by (is_local packet) where
    by : (b : Bool) → 0 < length (cond b (stamp_lines hz packets (packets ++ packet ∷ [])) []) →
        time_in t (cond b (said_at hz packets (packets ++ packet ∷ [])) [])
        ≡ Some (nanoseconds hz (local_after (packets ++ packet ∷ [])))
    by true h = time_at hz packets (packets ++ packet ∷ []) t h
    by false h = absurd (omega arith)

  timed : (packet : ItmPacket) → IsProper packet → 0 < length (packet_lines hz packets packet) →
      time_read (header hz ++ (lines_after hz [] packets ++ packet_lines hz packets packet))
      ≡ Some (nanoseconds hz (local_after (packets ++ packet ∷ [])))
  timed packet h some =
      let before = said_by_header ++ said_after hz [] packets in
      let new = said_by_packet hz packets packet in
      ap (time_in None)
      (ap said_in (sym (append_assoc (header hz) (lines_after hz [] packets) (packet_lines hz packets packet)))
      ∙ whole ((header hz ++ lines_after hz [] packets) ++ packet_lines hz packets packet) (before ++ new)
      (says_more (header hz ++ lines_after hz [] packets) (packet_lines hz packets packet) before new says_stamped
      (says_packet hz packets packet proper h)))
      ∙ time_append None (before ++ new) (Nothing ∷ []) ∙ time_append None before new
      ∙ time_of_packet packet (time_in None before) some

pub returns-clause-stamped : goal.returns-clause-stamped
returns-clause-stamped c = λ hz packets number h within.
    stamped hz packets (each_proper packets h) number within

pub returns-clause-ended : goal.returns-clause-ended
returns-clause-ended c = λ hz packets number h within. ended hz packets (each_proper packets h) number within

pub returns-clause-time : goal.returns-clause-time
returns-clause-time c = λ hz packets packet h k some. timed hz packets (each_proper packets h) packet k some

-- at a time
module _ (hz : Option ℕ) (packets : List ItmPacket) (proper : AllByRecursion IsProper packets) (number time : ℕ)
    (within : number < 40) (some : ForSome hz (λ n. 0 < n)) (few : ticks packets < 2 ^ 64) where
  abbrev dumped : List ℕ
  dumped = header hz ++ (lines_after hz [] packets ++ pending hz packets)

  abbrev tail : List Said
  tail = said_at hz packets packets ++ Nothing ∷ []

  said_dumped : said_in dumped ≡ said_by_header ++ (said_after hz [] packets ++ tail)
  said_dumped =
      whole dumped (said_by_header ++ (said_after hz [] packets ++ said_at hz packets packets))
      (says_ended hz packets proper)
      ∙ append_assoc said_by_header (said_after hz [] packets ++ said_at hz packets packets) (Nothing ∷ [])
      ∙ ap (λ (l : List Said). said_by_header ++ l)
      (append_assoc (said_after hz [] packets) (said_at hz packets packets) (Nothing ∷ []))

  code_dumped : code_in (name_of number) None (said_in dumped) ≡ Some (code_of number ∷ [])
  code_dumped =
      ap (code_in (name_of number) None) said_dumped
      ∙ code_append (name_of number) None said_by_header (said_after hz [] packets ++ tail)
      ∙ ap (λ (c : Option (List ℕ)). code_in (name_of number) c (said_after hz [] packets ++ tail))
      (header_read number within).0
      ∙ code_append (name_of number) (Some (code_of number ∷ [])) (said_after hz [] packets) tail
      ∙ ap (λ (c : Option (List ℕ)). code_in (name_of number) c tail)
      (code_after (name_of number) (Some (code_of number ∷ [])) hz [] packets)
      ∙ code_append (name_of number) (Some (code_of number ∷ [])) (said_at hz packets packets) (Nothing ∷ [])
      ∙ code_at (name_of number) (Some (code_of number ∷ [])) hz packets packets

  value_dumped : value_shown (name_of number) time dumped
      ≡ value_in (code_of number ∷ []) (value_after [] number) (said_until time (said_after hz [] packets ++ tail))
  value_dumped =
      ap (λ (c : Option (List ℕ)). value_with c (said_until time (said_in dumped))) code_dumped
      ∙ ap (λ (l : List Said). value_in (code_of number ∷ []) None (said_until time l)) said_dumped
      ∙ ap (value_in (code_of number ∷ []) None) (until_header time (said_after hz [] packets ++ tail))
      ∙ value_append (code_of number ∷ []) None said_by_header (said_until time (said_after hz [] packets ++ tail))
      ∙ ap (λ (v : Option ℕ).
      value_in (code_of number ∷ []) v (said_until time (said_after hz [] packets ++ tail)))
      (header_read number within).1

  shown : value_shown (name_of number) time dumped ≡ value_after (packets_shown hz time packets) number
  shown = value_dumped ∙ by (nat_lt time (time_of hz packets)) refl where
    by : (t : Bool) → t ≡ nat_lt time (time_of hz packets) →
        value_in (code_of number ∷ []) (value_after [] number) (said_until time (said_after hz [] packets ++ tail))
        ≡ value_after (cond t (up_to_stamp (packets_until hz time [] packets)) packets) number
    by true e =
        value_until number time within hz some tail
        (λ v. late_at time (code_of number ∷ []) v hz packets packets (Nothing ∷ []) proper (sym e) refl) [] packets tt
        proper few
    by false e =
        ap (value_in (code_of number ∷ []) (value_after [] number))
        (until_lines time hz [] packets tail some few
        (let n : time_of hz packets ≤ time = grind (arith, nat_tests, e) in n)
        ∙ ap (λ (l : List Said). said_after hz [] packets ++ l)
        (until_at time hz packets packets (Nothing ∷ []) (sym e)))
        ∙ value_append (code_of number ∷ []) (value_after [] number) (said_after hz [] packets) tail
        ∙ ap (λ (v : Option ℕ). value_in (code_of number ∷ []) v tail)
        (value_read_after number hz [] packets within tt proper)
        ∙ value_append (code_of number ∷ []) (value_after (up_to_stamp packets) number) (said_at hz packets packets)
        (Nothing ∷ [])
        ∙ value_at number hz packets packets within proper (unknown_at_stamp packets number)

pub returns-clause-shown : goal.returns-clause-shown
returns-clause-shown c = λ hz packets number time some h few within.
    shown hz packets (each_proper packets h) number time within some few
