-- A value dump reads back: what its lines say, and which values a reader has after them.
use Rattle.std.proofs.Common.{◌≡◌, ℕ, zero, suc, ◌+◌, ◌*◌, ◌^◌, ◌<◌, ◌≤◌, List, [], ◌∷◌, ◌++◌, refl, sym, ◌∙◌, ap}
use Rattle.std.proofs.Common.{arith, append_assoc, append-nil, Bool, true, false, cond, Option, None, Some}
use Rattle.std.proofs.Common.{inl, inr, length}
use Rattle.std.specs.Prelude.{◌==◌, ◌&&◌}
use Rattle.std.specs.List.{AllByRecursion}
use Rattle.std.specs.Str.{bytes_eq}
use Rattle.std.proofs.lemmas.Bool.{cases_eq}
use Rattle.std.proofs.lemmas.Bool.Decides.{nat_tests}
use Rattle.std.proofs.Math.Nat.{div-le_self}
use Rattle.value_dump.specs.Names.{ItmPacket, IsProper, Local, local_after}
use Rattle.value_dump.specs.Dump.{change, changes, changes_of, has_value, lines_after, packet_lines}
use Rattle.value_dump.specs.Dump.{stamp_lines, up_to_stamp}
use Rattle.value_dump.specs.Lines.{binary, code_of, nanoseconds, timed, value_line}
use Rattle.value_dump.specs.Signals.{is_local, value_after}
use Rattle.value_dump.specs.Reading.{Said, Time, Value, Variable, Nothing, code_in, number_of, time_in, value_in}
use Rattle.value_dump.proofs.Fits.{Fits, fits_after, unknown_at_stamp}
use Rattle.value_dump.proofs.Packets.{stamp_local, stamp_other, value_stamp}
use Rattle.value_dump.proofs.ReadLines.{Says, Told, below_bound, bound, number_read, says_more, says_none, says_time}
use Rattle.value_dump.proofs.ReadLines.{says_value}

-- what is said of one list, and then of another
pub value_append : (code : List ℕ) (value : Option ℕ) (xs ys : List Said) →
    value_in code value (xs ++ ys) ≡ value_in code (value_in code value xs) ys
value_append code value [] ys = refl
value_append code value (Time time ∷ xs) ys = value_append code value xs ys
value_append code value (Value other new ∷ xs) ys =
    value_append code (cond (bytes_eq other code) (number_of new) value) xs ys
value_append code value (Variable other name ∷ xs) ys = value_append code value xs ys
value_append code value (Nothing ∷ xs) ys = value_append code value xs ys

pub time_append : (time : Option ℕ) (xs ys : List Said) → time_in time (xs ++ ys) ≡ time_in (time_in time xs) ys
time_append time [] ys = refl
time_append time (Time new ∷ xs) ys = time_append (Some new) xs ys
time_append time (Value other new ∷ xs) ys = time_append time xs ys
time_append time (Variable other name ∷ xs) ys = time_append time xs ys
time_append time (Nothing ∷ xs) ys = time_append time xs ys

pub code_append : (name : List ℕ) (code : Option (List ℕ)) (xs ys : List Said) →
    code_in name code (xs ++ ys) ≡ code_in name (code_in name code xs) ys
code_append name code [] ys = refl
code_append name code (Time time ∷ xs) ys = code_append name code xs ys
code_append name code (Value other new ∷ xs) ys = code_append name code xs ys
code_append name code (Variable new other ∷ xs) ys =
    code_append name (cond (bytes_eq other name) (Some new) code) xs ys
code_append name code (Nothing ∷ xs) ys = code_append name code xs ys

-- What the line of a change says, that of all changes, and those with their time.
abbrev pub said_of : ℕ → Option ℕ → Option ℕ → List Said
said_of number old None = []
said_of number old (Some value) = cond (has_value old value) [] (Told number value ∷ [])

abbrev pub said_of_all : ℕ → (ℕ → Option ℕ) → (ℕ → Option ℕ) → List Said
said_of_all zero old new = []
said_of_all (suc n) old new = said_of_all n old new ++ said_of n (old n) (new n)

abbrev pub said_timed : ℕ → List ℕ → List Said → List Said
said_timed time [] said = said
said_timed time (byte ∷ lines) said = Time time ∷ said

says_change : (number : ℕ) (old new : Option ℕ) → Fits number new →
    Says (change number old new) (said_of number old new)
says_change number old None h = says_none
says_change number old (Some value) h = by (has_value old value) where
  by : (t : Bool) → Says (cond t [] (value_line number value)) (cond t [] (Told number value ∷ []))
  by true = says_none
  by false = says_value number value h

pub says_changes : (count : ℕ) (old new : ℕ → Option ℕ) → ((n : ℕ) → Fits n (new n)) →
    Says (changes_of count old new) (said_of_all count old new)
says_changes zero old new h = says_none
says_changes (suc n) old new h =
    says_more (changes_of n old new) (change n (old n) (new n)) (said_of_all n old new) (said_of n (old n) (new n))
    (says_changes n old new h) (says_change n (old n) (new n) (h n))

says_timed : (time : ℕ) (lines : List ℕ) (said : List Said) → time < 10 ^ 64 → Says lines said →
    Says (timed time lines) (said_timed time lines said)
says_timed time [] said h k = k
says_timed time (byte ∷ lines) said h k = says_more _ (byte ∷ lines) (Time time ∷ []) said (says_time time h) k

-- times are never so long that their digits do not tell them
time_fits : (hz : Option ℕ) (ticks : ℕ) → ticks < 2 ^ 64 → nanoseconds hz ticks < 10 ^ 64
time_fits None ticks h = omega (arith, h)
time_fits (Some hz) ticks h =
    let d = div-le_self (ticks * 10 ^ 9) hz in
    omega (arith, h, d)

local_fits : (packets : List ItmPacket) → local_after packets < 2 ^ 64
local_fits packets = omega arith

-- what the lines say that are put for packets
abbrev pub said_at : Option ℕ → List ItmPacket → List ItmPacket → List Said
said_at hz before packets =
    said_timed (nanoseconds hz (local_after packets)) (changes (value_after (up_to_stamp before)) (value_after packets))
    (said_of_all 40 (value_after (up_to_stamp before)) (value_after packets))

abbrev pub said_by_packet : Option ℕ → List ItmPacket → ItmPacket → List Said
said_by_packet hz before packet = cond (is_local packet) (said_at hz before (before ++ packet ∷ [])) []

abbrev pub said_after : Option ℕ → List ItmPacket → List ItmPacket → List Said
said_after hz before [] = []
said_after hz before (packet ∷ packets) =
    said_by_packet hz before packet ++ said_after hz (before ++ packet ∷ []) packets

pub says_at : (hz : Option ℕ) (before packets : List ItmPacket) → AllByRecursion IsProper packets →
    Says (stamp_lines hz before packets) (said_at hz before packets)
unfolding changes
says_at hz before packets h =
    says_timed (nanoseconds hz (local_after packets)) (changes (value_after (up_to_stamp before)) (value_after packets))
    (said_of_all 40 (value_after (up_to_stamp before)) (value_after packets))
    (time_fits hz (local_after packets) (local_fits packets))
    (says_changes 40 (value_after (up_to_stamp before)) (value_after packets) (fits_after packets h))

pub proper_more : (xs ys : List ItmPacket) → AllByRecursion IsProper xs → AllByRecursion IsProper ys →
    AllByRecursion IsProper (xs ++ ys)
proper_more [] ys h k = k
proper_more (x ∷ xs) ys h k = (h.0, proper_more xs ys h.1 k)

pub says_packet : (hz : Option ℕ) (before : List ItmPacket) (packet : ItmPacket) → AllByRecursion IsProper before →
    IsProper packet → Says (packet_lines hz before packet) (said_by_packet hz before packet)
says_packet hz before packet h k = by (is_local packet) where
  by : (t : Bool) → Says (cond t (stamp_lines hz before (before ++ packet ∷ [])) [])
      (cond t (said_at hz before (before ++ packet ∷ [])) [])
  by true = says_at hz before (before ++ packet ∷ []) (proper_more before (packet ∷ []) h (k, tt))
  by false = says_none

pub says_lines : (hz : Option ℕ) (before packets : List ItmPacket) → AllByRecursion IsProper before →
    AllByRecursion IsProper packets → Says (lines_after hz before packets) (said_after hz before packets)
says_lines hz before [] h k = says_none
says_lines hz before (packet ∷ packets) h k =
    says_more (packet_lines hz before packet) (lines_after hz (before ++ packet ∷ []) packets)
    (said_by_packet hz before packet) (said_after hz (before ++ packet ∷ []) packets)
    (says_packet hz before packet h k.0)
    (says_lines hz (before ++ packet ∷ []) packets (proper_more before (packet ∷ []) h (k.0, tt)) k.1)

-- the codes of two signals
same_code : (one other : ℕ) → bytes_eq (code_of one ∷ []) (code_of other ∷ []) ≡ (one == other)
same_code one other = elim (cases_eq one other) [
  | inl e ↦ (
      ap (λ (t : Bool). t && true) (let k : (33 + one == 33 + other) ≡ true = grind (arith, nat_tests) in k)
      ∙ (let k : true ≡ (one == other) = grind (arith, nat_tests) in k)
      )
  | inr d ↦ (
      ap (λ (t : Bool). t && true) (let k : (33 + one == 33 + other) ≡ false = grind (arith, nat_tests) in k)
      ∙ (let k : false ≡ (one == other) = grind (arith, nat_tests) in k)
      )
]

-- one signal, by its code
module _ (number : ℕ) where
  abbrev code : List ℕ
  code = code_of number ∷ []

  told_other : (other value : ℕ) (v : Option ℕ) → (other ≡ number → ⊥) →
      value_in (code_of number ∷ []) v (Told other value ∷ []) ≡ v
  told_other other value v d =
      ap (λ (t : Bool). cond t (number_of (binary value)) v)
      (same_code other number ∙ (let k : (other == number) ≡ false = grind (arith, nat_tests) in k))

  told_own : (value : ℕ) (v : Option ℕ) → value < bound number →
      value_in (code_of number ∷ []) v (Told number value ∷ []) ≡ Some value
  told_own value v h =
      ap (λ (t : Bool). cond t (number_of (binary value)) v)
      (same_code number number ∙ (let k : (number == number) ≡ true = grind (arith, nat_tests) in k))
      ∙ number_read value (below_bound number value h)

  change_other : (other : ℕ) (old new v : Option ℕ) → (other ≡ number → ⊥) →
      value_in (code_of number ∷ []) v (said_of other old new) ≡ v
  change_other other old None v d = refl
  change_other other old (Some value) v d = by (has_value old value) where
    by : (t : Bool) → value_in (code_of number ∷ []) v (cond t [] (Told other value ∷ [])) ≡ v
    by true = refl
    by false = told_other other value v d

  change_own : (old new : Option ℕ) → Fits number new → (new ≡ None → old ≡ None) →
      value_in (code_of number ∷ []) old (said_of number old new) ≡ new
  change_own old None h k = k refl
  change_own None (Some value) h k = told_own value None h
  change_own (Some known) (Some value) h k = elim (cases_eq known value) [
    | inl e ↦ (
        ap (λ (t : Bool). value_in (code_of number ∷ []) (Some known) (cond t [] (Told number value ∷ [])))
        (let f : (known == value) ≡ true = grind (arith, nat_tests) in f)
        ∙ ap (λ (n : ℕ). Some n) e
        )
    | inr d ↦ (
        ap (λ (t : Bool). value_in (code_of number ∷ []) (Some known) (cond t [] (Told number value ∷ [])))
        (let f : (known == value) ≡ false = grind (arith, nat_tests) in f)
        ∙ told_own value (Some known) h
        )
  ]

  module _ (old new : ℕ → Option ℕ) where
    changes_before : (count : ℕ) (v : Option ℕ) → count ≤ number →
        value_in (code_of number ∷ []) v (said_of_all count old new) ≡ v
    changes_before zero v h = refl
    changes_before (suc n) v h =
        value_append (code_of number ∷ []) v (said_of_all n old new) (said_of n (old n) (new n))
        ∙ ap (λ (u : Option ℕ). value_in (code_of number ∷ []) u (said_of n (old n) (new n)))
        (changes_before n v (omega (arith, h)))
        ∙ change_other n (old n) (new n) v (λ e. omega (arith, h, e))

    changes_through : (count : ℕ) → number < count → Fits number (new number) →
        (new number ≡ None → old number ≡ None) →
        value_in (code_of number ∷ []) (old number) (said_of_all count old new) ≡ new number
    changes_through zero h fits keeps = absurd (omega (arith, h))
    changes_through (suc n) h fits keeps =
        value_append (code_of number ∷ []) (old number) (said_of_all n old new) (said_of n (old n) (new n))
        ∙ elim (cases_eq n number) [
          | inl e ↦ (
              ap (λ (u : Option ℕ). value_in (code_of number ∷ []) u (said_of n (old n) (new n)))
              (changes_before n (old number) (omega (arith, e)))
              ∙ ap (λ (m : ℕ). value_in (code_of number ∷ []) (old number) (said_of m (old m) (new m))) e
              ∙ change_own (old number) (new number) fits keeps
              )
          | inr d ↦ (
              ap (λ (u : Option ℕ). value_in (code_of number ∷ []) u (said_of n (old n) (new n)))
              (changes_through n (omega (arith, h, d)) fits keeps)
              ∙ change_other n (old n) (new n) (new number) d
              )
        ]

  value_timed : (time : ℕ) (lines : List ℕ) (said : List Said) (v : Option ℕ) →
      value_in (code_of number ∷ []) v (said_timed time lines said) ≡ value_in (code_of number ∷ []) v said
  value_timed time [] said v = refl
  value_timed time (byte ∷ lines) said v = refl

  -- what is put after some packets brings the reader from the last local timestamp before to them
  pub value_at : (hz : Option ℕ) (before packets : List ItmPacket) → number < 40 → AllByRecursion IsProper packets →
      (value_after packets number ≡ None → value_after (up_to_stamp before) number ≡ None) →
      value_in (code_of number ∷ []) (value_after (up_to_stamp before) number) (said_at hz before packets)
      ≡ value_after packets number
  value_at hz before packets within h keeps =
      value_timed (nanoseconds hz (local_after packets))
      (changes (value_after (up_to_stamp before)) (value_after packets))
      (said_of_all 40 (value_after (up_to_stamp before)) (value_after packets))
      (value_after (up_to_stamp before) number)
      ∙ changes_through (value_after (up_to_stamp before)) (value_after packets) 40 within (fits_after packets h number)
      keeps

  pub value_by_packet : (hz : Option ℕ) (before : List ItmPacket) (packet : ItmPacket) → number < 40 →
      AllByRecursion IsProper before → IsProper packet →
      value_in (code_of number ∷ []) (value_after (up_to_stamp before) number) (said_by_packet hz before packet)
      ≡ value_after (up_to_stamp (before ++ packet ∷ [])) number
  value_by_packet hz before (Local lateness delta) within h k =
      value_at hz before (before ++ Local lateness delta ∷ []) within
      (proper_more before (Local lateness delta ∷ []) h (k, tt))
      (λ e. unknown_at_stamp before number (sym (value_stamp before lateness delta number) ∙ e))
      ∙ sym (ap (λ (l : List ItmPacket). value_after l number) (stamp_local before (Local lateness delta) refl))
  value_by_packet hz before packet within h k =
      sym (ap (λ (l : List ItmPacket). value_after l number) (stamp_other before packet refl))

  pub value_read_after : (hz : Option ℕ) (before packets : List ItmPacket) → number < 40 →
      AllByRecursion IsProper before → AllByRecursion IsProper packets →
      value_in (code_of number ∷ []) (value_after (up_to_stamp before) number) (said_after hz before packets)
      ≡ value_after (up_to_stamp (before ++ packets)) number
  value_read_after hz before [] within h k =
      ap (λ (l : List ItmPacket). value_after (up_to_stamp l) number) (sym (append-nil before))
  value_read_after hz before (packet ∷ packets) within h k =
      value_append (code_of number ∷ []) (value_after (up_to_stamp before) number) (said_by_packet hz before packet)
      (said_after hz (before ++ packet ∷ []) packets)
      ∙ ap (λ (v : Option ℕ). value_in (code_of number ∷ []) v (said_after hz (before ++ packet ∷ []) packets))
      (value_by_packet hz before packet within h k.0)
      ∙ value_read_after hz (before ++ packet ∷ []) packets within (proper_more before (packet ∷ []) h (k.0, tt)) k.1
      ∙ ap (λ (l : List ItmPacket). value_after (up_to_stamp l) number) (append_assoc before (packet ∷ []) packets)

-- no line but those of the header declares a variable
module _ (name : List ℕ) (c : Option (List ℕ)) where
  code_of_change : (number : ℕ) (old new : Option ℕ) → code_in name c (said_of number old new) ≡ c
  code_of_change number old None = refl
  code_of_change number old (Some value) = by (has_value old value) where
    by : (t : Bool) → code_in name c (cond t [] (Told number value ∷ [])) ≡ c
    by true = refl
    by false = refl

  code_of_changes : (count : ℕ) (old new : ℕ → Option ℕ) → code_in name c (said_of_all count old new) ≡ c
  code_of_changes zero old new = refl
  code_of_changes (suc n) old new =
      code_append name c (said_of_all n old new) (said_of n (old n) (new n))
      ∙ ap (λ (d : Option (List ℕ)). code_in name d (said_of n (old n) (new n))) (code_of_changes n old new)
      ∙ code_of_change n (old n) (new n)

  code_timed : (time : ℕ) (lines : List ℕ) (said : List Said) → code_in name c said ≡ c →
      code_in name c (said_timed time lines said) ≡ c
  code_timed time [] said h = h
  code_timed time (byte ∷ lines) said h = h

  pub code_at : (hz : Option ℕ) (before packets : List ItmPacket) → code_in name c (said_at hz before packets) ≡ c
  code_at hz before packets =
      code_timed (nanoseconds hz (local_after packets))
      (changes (value_after (up_to_stamp before)) (value_after packets))
      (said_of_all 40 (value_after (up_to_stamp before)) (value_after packets))
      (code_of_changes 40 (value_after (up_to_stamp before)) (value_after packets))

  code_by_packet : (hz : Option ℕ) (before : List ItmPacket) (packet : ItmPacket) →
      code_in name c (said_by_packet hz before packet) ≡ c
  code_by_packet hz before packet = by (is_local packet) where
    by : (t : Bool) → code_in name c (cond t (said_at hz before (before ++ packet ∷ [])) []) ≡ c
    by true = code_at hz before (before ++ packet ∷ [])
    by false = refl

  pub code_after : (hz : Option ℕ) (before packets : List ItmPacket) → code_in name c (said_after hz before packets) ≡ c
  code_after hz before [] = refl
  code_after hz before (packet ∷ packets) =
      code_append name c (said_by_packet hz before packet) (said_after hz (before ++ packet ∷ []) packets)
      ∙ ap (λ (d : Option (List ℕ)). code_in name d (said_after hz (before ++ packet ∷ []) packets))
      (code_by_packet hz before packet)
      ∙ code_after hz (before ++ packet ∷ []) packets

-- the time after the lines of a timestamp, where there are any
time_of_changes : (count : ℕ) (old new : ℕ → Option ℕ) (t : Option ℕ) → time_in t (said_of_all count old new) ≡ t
time_of_changes zero old new t = refl
time_of_changes (suc n) old new t =
    time_append t (said_of_all n old new) (said_of n (old n) (new n))
    ∙ ap (λ (u : Option ℕ). time_in u (said_of n (old n) (new n))) (time_of_changes n old new t)
    ∙ one n (old n) (new n) where
      one : (number : ℕ) (old new : Option ℕ) → time_in t (said_of number old new) ≡ t
      one number old None = refl
      one number old (Some value) = by (has_value old value) where
        by : (b : Bool) → time_in t (cond b [] (Told number value ∷ [])) ≡ t
        by true = refl
        by false = refl

pub time_at : (hz : Option ℕ) (before packets : List ItmPacket) (t : Option ℕ) →
    0 < length (stamp_lines hz before packets) →
    time_in t (said_at hz before packets) ≡ Some (nanoseconds hz (local_after packets))
time_at hz before packets t = by (changes (value_after (up_to_stamp before)) (value_after packets)) where
  by : (lines : List ℕ) → 0 < length (timed (nanoseconds hz (local_after packets)) lines) →
      time_in t (said_timed (nanoseconds hz (local_after packets)) lines
      (said_of_all 40 (value_after (up_to_stamp before)) (value_after packets)))
      ≡ Some (nanoseconds hz (local_after packets))
  by [] h = absurd (omega arith)
  by (byte ∷ lines) h =
      time_of_changes 40 (value_after (up_to_stamp before)) (value_after packets)
      (Some (nanoseconds hz (local_after packets)))
