-- What a reader of a value dump has at a time.
use Rattle.std.proofs.Common.{◌≡◌, ℕ, zero, suc, ◌+◌, ◌/◌, ◌*◌, ◌^◌, ◌<◌, ◌≤◌, List, [], ◌∷◌, ◌++◌, length, refl, sym}
use Rattle.std.proofs.Common.{◌∙◌, ap, arith, subst, append_assoc, append-nil, length-append, Bool, true, false, cond}
use Rattle.std.proofs.Common.{Option, None, Some, flat_map}
use Rattle.std.specs.Prelude.{◌&&◌, nat_lt, sum}
use Rattle.std.specs.List.{AllByRecursion}
use Rattle.std.specs.Option.{ForSome}
use Rattle.std.specs.Fmt.{digits}
use Rattle.std.proofs.lemmas.Bool.Decides.{nat_tests}
use Rattle.std.proofs.lemmas.Grind.{flat_map-append}
use Rattle.std.proofs.lemmas.List.Sums.{sum_by-append}
use Rattle.std.proofs.lemmas.Nat.{le-div}
use Rattle.std.proofs.Math.Nat.{div-mul-le_self}
use Rattle.value_dump.specs.Names.{ItmPacket, IsProper, deltas_in, local_after}
use Rattle.value_dump.specs.Dump.{changes, has_value, packets_until, up_to_stamp}
use Rattle.value_dump.specs.Header.{declarations}
use Rattle.value_dump.specs.Lines.{binary, code_of, nanoseconds}
use Rattle.value_dump.specs.Signals.{is_local, value_after}
use Rattle.value_dump.specs.Reading.{Said, Time, Nothing, said_until, value_in}
use Rattle.value_dump.proofs.Fits.{fits_after}
use Rattle.value_dump.proofs.ReadBack.{proper_more, said_after, said_at, said_by_packet, said_of, said_of_all}
use Rattle.value_dump.proofs.ReadBack.{said_timed, says_changes, value_append, value_by_packet}
use Rattle.value_dump.proofs.ReadHeader.{said_by_header}
use Rattle.value_dump.proofs.ReadLines.{Says, Told}

-- the ticks of some packets, and the time after them
abbrev pub ticks : List ItmPacket → ℕ
ticks packets = sum (flat_map deltas_in packets)

ticks_more : (xs ys : List ItmPacket) → ticks (xs ++ ys) ≡ ticks xs + ticks ys
ticks_more xs ys =
    ap sum (flat_map-append deltas_in xs ys)
    ∙ sum_by-append (λ (n : ℕ). n) (flat_map deltas_in xs) (flat_map deltas_in ys)

abbrev pub time_of : Option ℕ → List ItmPacket → ℕ
time_of hz packets = nanoseconds hz (local_after packets)

nanoseconds_rise : (hz : Option ℕ) (less more : ℕ) → ForSome hz (λ n. 0 < n) → less ≤ more →
    nanoseconds hz less ≤ nanoseconds hz more
nanoseconds_rise None less more some le = le
nanoseconds_rise (Some hz) less more some le =
    let h : less * 10 ^ 9 / hz * hz ≤ less * 10 ^ 9 = div-mul-le_self (less * 10 ^ 9) hz in
    let all : less * 10 ^ 9 / hz * hz ≤ more * 10 ^ 9 = omega (arith, h, le) in
    le-div (less * 10 ^ 9 / hz) (more * 10 ^ 9) hz (some hz refl) all

time_rises : (hz : Option ℕ) (xs ys : List ItmPacket) → ForSome hz (λ n. 0 < n) → ticks (xs ++ ys) < 2 ^ 64 →
    time_of hz xs ≤ time_of hz (xs ++ ys)
time_rises hz xs ys some h =
    let e = ticks_more xs ys in
    let one : local_after xs ≡ ticks xs = omega (arith, e, h) in
    let both : local_after (xs ++ ys) ≡ ticks (xs ++ ys) = omega (arith, h) in
    nanoseconds_rise hz (local_after xs) (local_after (xs ++ ys)) some (omega (arith, one, both, e))

-- Where nothing is put, nothing is said.
none_said : (said : List Said) → Says [] said → said ≡ []
none_said [] h = refl
none_said (s ∷ said) h = absurd (
    let e = ap (λ (l : List Said). length l) (h.all []) in
    let k = length-append said (Nothing ∷ []) in
    omega (arith, e, k))

module _ (time : ℕ) where
  -- values are said at the time that is in force
  until_change : (number : ℕ) (old new : Option ℕ) (more : List Said) →
      said_until time (said_of number old new ++ more) ≡ said_of number old new ++ said_until time more
  until_change number old None more = refl
  until_change number old (Some value) more = by (has_value old value) where
    by : (t : Bool) → said_until time (cond t [] (Told number value ∷ []) ++ more)
        ≡ cond t [] (Told number value ∷ []) ++ said_until time more
    by true = refl
    by false = refl

  until_changes : (count : ℕ) (old new : ℕ → Option ℕ) (more : List Said) →
      said_until time (said_of_all count old new ++ more) ≡ said_of_all count old new ++ said_until time more
  until_changes zero old new more = refl
  until_changes (suc n) old new more =
      ap (said_until time) (append_assoc (said_of_all n old new) (said_of n (old n) (new n)) more)
      ∙ until_changes n old new (said_of n (old n) (new n) ++ more)
      ∙ ap (λ (l : List Said). said_of_all n old new ++ l) (until_change n (old n) (new n) more)
      ∙ sym (append_assoc (said_of_all n old new) (said_of n (old n) (new n)) (said_until time more))

  until_timed : (t : ℕ) (lines : List ℕ) (said more : List Said) → nat_lt time t ≡ false →
      said_until time (said ++ more) ≡ said ++ said_until time more →
      said_until time (said_timed t lines said ++ more) ≡ said_timed t lines said ++ said_until time more
  until_timed t [] said more h k = k
  until_timed t (byte ∷ lines) said more h k =
      ap (λ (b : Bool). cond b [] (Time t ∷ said_until time (said ++ more))) h
      ∙ ap (λ (l : List Said). Time t ∷ l) k

  pub until_at : (hz : Option ℕ) (before packets : List ItmPacket) (more : List Said) →
      nat_lt time (time_of hz packets) ≡ false →
      said_until time (said_at hz before packets ++ more) ≡ said_at hz before packets ++ said_until time more
  until_at hz before packets more h =
      until_timed (time_of hz packets) (changes (value_after (up_to_stamp before)) (value_after packets))
      (said_of_all 40 (value_after (up_to_stamp before)) (value_after packets)) more h
      (until_changes 40 (value_after (up_to_stamp before)) (value_after packets) more)

  -- what is said later does not count
  module _ (code : List ℕ) (v : Option ℕ) where
    late_timed : (t : ℕ) (lines : List ℕ) (said more : List Said) → nat_lt time t ≡ true → (lines ≡ [] → said ≡ []) →
        value_in code v (said_until time more) ≡ v →
        value_in code v (said_until time (said_timed t lines said ++ more)) ≡ v
    late_timed t [] said more h k rest =
        ap (λ (l : List Said). value_in code v (said_until time (l ++ more))) (k refl) ∙ rest
    late_timed t (byte ∷ lines) said more h k rest =
        ap (λ (b : Bool). value_in code v (cond b [] (Time t ∷ said_until time (said ++ more)))) h

    pub late_at : (hz : Option ℕ) (before packets : List ItmPacket) (more : List Said) →
        AllByRecursion IsProper packets → nat_lt time (time_of hz packets) ≡ true →
        value_in code v (said_until time more) ≡ v →
        value_in code v (said_until time (said_at hz before packets ++ more)) ≡ v
    unfolding changes
    late_at hz before packets more proper h rest =
        late_timed (time_of hz packets) (changes (value_after (up_to_stamp before)) (value_after packets))
        (said_of_all 40 (value_after (up_to_stamp before)) (value_after packets)) more h
        (λ e. none_said (said_of_all 40 (value_after (up_to_stamp before)) (value_after packets))
        (subst (λ (l : List ℕ). Says l (said_of_all 40 (value_after (up_to_stamp before)) (value_after packets))) e
        (says_changes 40 (value_after (up_to_stamp before)) (value_after packets) (fits_after packets proper)))) rest

    late : (hz : Option ℕ) (before packets : List ItmPacket) → ForSome hz (λ n. 0 < n) →
        AllByRecursion IsProper before → AllByRecursion IsProper packets → ticks (before ++ packets) < 2 ^ 64 →
        time < time_of hz before → (tail : List Said) → value_in code v (said_until time tail) ≡ v →
        value_in code v (said_until time (said_after hz before packets ++ tail)) ≡ v
    late hz before [] some h k few after tail rest = rest
    late hz before (packet ∷ packets) some h k few after tail rest =
        let all : ticks ((before ++ packet ∷ []) ++ packets) < 2 ^ 64 =
        subst (λ (l : List ItmPacket). ticks l < 2 ^ 64) (sym (append_assoc before (packet ∷ []) packets)) few in
        let e = ticks_more (before ++ packet ∷ []) packets in
        let rise = time_rises hz before (packet ∷ []) some (omega (arith, all, e)) in
        let later : time < time_of hz (before ++ packet ∷ []) = omega (arith, rise, after) in
        let proper = proper_more before (packet ∷ []) h (k.0, tt) in
        ap (λ (l : List Said). value_in code v (said_until time l))
        (append_assoc (said_by_packet hz before packet) (said_after hz (before ++ packet ∷ []) packets) tail)
        ∙ by (is_local packet) proper (let n : nat_lt time (time_of hz (before ++ packet ∷ [])) ≡ true =
        grind (arith, nat_tests) in n)
        (late hz (before ++ packet ∷ []) packets some proper k.1 all later tail rest) where
          by : (t : Bool) → AllByRecursion IsProper (before ++ packet ∷ []) →
              nat_lt time (time_of hz (before ++ packet ∷ [])) ≡ true →
              value_in code v (said_until time (said_after hz (before ++ packet ∷ []) packets ++ tail)) ≡ v →
              value_in code v (said_until time (cond t (said_at hz before (before ++ packet ∷ [])) []
              ++ (said_after hz (before ++ packet ∷ []) packets ++ tail))) ≡ v
          by true proper h next =
              late_at hz before (before ++ packet ∷ [])
              (said_after hz (before ++ packet ∷ []) packets ++ tail) proper h next
          by false proper h next = next

-- one signal, by its code, where what follows the lines is later, or says nothing of it
module _ (number time : ℕ) (within : number < 40) (hz : Option ℕ) (some : ForSome hz (λ n. 0 < n)) (tail : List Said)
    (rest : (v : Option ℕ) → value_in (code_of number ∷ []) v (said_until time tail) ≡ v) where
  pub value_until : (before packets : List ItmPacket) → AllByRecursion IsProper before →
      AllByRecursion IsProper packets → ticks (before ++ packets) < 2 ^ 64 →
      value_in (code_of number ∷ []) (value_after (up_to_stamp before) number)
      (said_until time (said_after hz before packets ++ tail))
      ≡ value_after (up_to_stamp (before ++ packets_until hz time before packets)) number
  value_until before [] h k few =
      rest (value_after (up_to_stamp before) number)
      ∙ ap (λ (l : List ItmPacket). value_after (up_to_stamp l) number) (sym (append-nil before))
  value_until before (packet ∷ packets) h k few =
      let all : ticks ((before ++ packet ∷ []) ++ packets) < 2 ^ 64 =
      subst (λ (l : List ItmPacket). ticks l < 2 ^ 64) (sym (append_assoc before (packet ∷ []) packets)) few in
      let proper = proper_more before (packet ∷ []) h (k.0, tt) in
      ap (λ (l : List Said).
      value_in (code_of number ∷ []) (value_after (up_to_stamp before) number) (said_until time l))
      (append_assoc (said_by_packet hz before packet) (said_after hz (before ++ packet ∷ []) packets) tail)
      ∙ by (is_local packet) (nat_lt time (time_of hz (before ++ packet ∷ []))) refl proper
      (value_by_packet number hz before packet within h k.0)
      (value_until (before ++ packet ∷ []) packets proper k.1 all)
      (λ after. late time (code_of number ∷ []) (value_after (up_to_stamp before) number) hz (before ++ packet ∷ [])
      packets some proper k.1 all after tail (rest (value_after (up_to_stamp before) number))) where
        by : (t b : Bool) → b ≡ nat_lt time (time_of hz (before ++ packet ∷ [])) →
            AllByRecursion IsProper (before ++ packet ∷ []) →
            value_in (code_of number ∷ []) (value_after (up_to_stamp before) number)
            (cond t (said_at hz before (before ++ packet ∷ [])) [])
            ≡ value_after (up_to_stamp (before ++ packet ∷ [])) number →
            value_in (code_of number ∷ []) (value_after (up_to_stamp (before ++ packet ∷ [])) number)
            (said_until time (said_after hz (before ++ packet ∷ []) packets ++ tail))
            ≡ value_after
            (up_to_stamp ((before ++ packet ∷ []) ++ packets_until hz time (before ++ packet ∷ []) packets)) number →
            (time < time_of hz (before ++ packet ∷ []) →
            value_in (code_of number ∷ []) (value_after (up_to_stamp before) number)
            (said_until time (said_after hz (before ++ packet ∷ []) packets ++ tail))
            ≡ value_after (up_to_stamp before) number) →
            value_in (code_of number ∷ []) (value_after (up_to_stamp before) number)
            (said_until time (cond t (said_at hz before (before ++ packet ∷ [])) []
            ++ (said_after hz (before ++ packet ∷ []) packets ++ tail)))
            ≡ value_after (up_to_stamp (before ++ cond (t && b) []
            (packet ∷ packets_until hz time (before ++ packet ∷ []) packets))) number
        by true true e proper here next after =
            late_at time (code_of number ∷ []) (value_after (up_to_stamp before) number) hz before
            (before ++ packet ∷ []) (said_after hz (before ++ packet ∷ []) packets ++ tail) proper (sym e)
            (after (let n : time < time_of hz (before ++ packet ∷ []) = grind (arith, nat_tests, e) in n))
            ∙ ap (λ (l : List ItmPacket). value_after (up_to_stamp l) number) (sym (append-nil before))
        by true false e proper here next after =
            ap (value_in (code_of number ∷ []) (value_after (up_to_stamp before) number))
            (until_at time hz before (before ++ packet ∷ [])
            (said_after hz (before ++ packet ∷ []) packets ++ tail) (sym e))
            ∙ value_append (code_of number ∷ []) (value_after (up_to_stamp before) number)
            (said_at hz before (before ++ packet ∷ []))
            (said_until time (said_after hz (before ++ packet ∷ []) packets ++ tail))
            ∙ ap (λ (v : Option ℕ). value_in (code_of number ∷ []) v
            (said_until time (said_after hz (before ++ packet ∷ []) packets ++ tail))) here
            ∙ next
            ∙ ap (λ (l : List ItmPacket). value_after (up_to_stamp l) number)
            (append_assoc before (packet ∷ []) (packets_until hz time (before ++ packet ∷ []) packets))
        by false b e proper here next after =
            ap (λ (v : Option ℕ). value_in (code_of number ∷ []) v
            (said_until time (said_after hz (before ++ packet ∷ []) packets ++ tail))) here
            ∙ next
            ∙ ap (λ (l : List ItmPacket). value_after (up_to_stamp l) number)
            (append_assoc before (packet ∷ []) (packets_until hz time (before ++ packet ∷ []) packets))

-- all lines are read, where none is later
pub until_lines : (time : ℕ) (hz : Option ℕ) (before packets : List ItmPacket) (more : List Said) →
    ForSome hz (λ n. 0 < n) → ticks (before ++ packets) < 2 ^ 64 → time_of hz (before ++ packets) ≤ time →
    said_until time (said_after hz before packets ++ more) ≡ said_after hz before packets ++ said_until time more
until_lines time hz before [] more some few early = refl
until_lines time hz before (packet ∷ packets) more some few early =
    let same = sym (append_assoc before (packet ∷ []) packets) in
    let all : ticks ((before ++ packet ∷ []) ++ packets) < 2 ^ 64 =
    subst (λ (l : List ItmPacket). ticks l < 2 ^ 64) same few in
    let last : time_of hz ((before ++ packet ∷ []) ++ packets) ≤ time =
    subst (λ (l : List ItmPacket). time_of hz l ≤ time) same early in
    let rise = time_rises hz (before ++ packet ∷ []) packets some all in
    let here : time_of hz (before ++ packet ∷ []) ≤ time = omega (arith, rise, last) in
    ap (said_until time)
    (append_assoc (said_by_packet hz before packet) (said_after hz (before ++ packet ∷ []) packets) more)
    ∙ by (is_local packet)
    (let n : nat_lt time (time_of hz (before ++ packet ∷ [])) ≡ false = grind (arith, nat_tests) in n)
    (until_lines time hz (before ++ packet ∷ []) packets more some all last)
    ∙ sym
    (append_assoc (said_by_packet hz before packet) (said_after hz (before ++ packet ∷ []) packets)
    (said_until time more)) where
      by : (t : Bool) → nat_lt time (time_of hz (before ++ packet ∷ [])) ≡ false →
          said_until time (said_after hz (before ++ packet ∷ []) packets ++ more)
          ≡ said_after hz (before ++ packet ∷ []) packets ++ said_until time more →
          said_until time (cond t (said_at hz before (before ++ packet ∷ [])) []
          ++ (said_after hz (before ++ packet ∷ []) packets ++ more))
          ≡ cond t (said_at hz before (before ++ packet ∷ [])) []
          ++ (said_after hz (before ++ packet ∷ []) packets ++ said_until time more)
      by true h next =
          until_at time hz before (before ++ packet ∷ []) (said_after hz (before ++ packet ∷ []) packets ++ more) h
          ∙ ap (λ (l : List Said). said_at hz before (before ++ packet ∷ []) ++ l) next
      by false h next = next

-- the header is read at each time
pub until_header : (time : ℕ) (more : List Said) →
    said_until time (said_by_header ++ more) ≡ said_by_header ++ said_until time more
unfolding declarations digits binary
until_header time more = refl
