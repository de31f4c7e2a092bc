-- What a mapped source says over faults weighs, with its guesses or without: each of its units is read twice at most,
-- and guessed at twice at most.
use Rattle.std.proofs.Common.{◌≡◌, ◌≤◌, ℕ, ◌+◌, ◌-◌, ◌*◌, List, [], ◌∷◌, ◌++◌, length, map, flat_map, refl, ap}
use Rattle.std.proofs.Common.{suc, arith, Bool, true, false, cond, Option, None, Some, length-append}
use Rattle.std.specs.Prelude.{filter, nat_lt}
use Rattle.std.proofs.lemmas.List.{length-drop}
use Rattle.std.proofs.Math.Nat.{mul-le-mul_right}
use Rattle.trace_values.specs.declared.fault.Reason.{Reason}
use Rattle.trace_values.specs.Placed.{Place, Placed}
use Rattle.trace_values.specs.Stream.{Said, Notice, Kept, Stream}
use Rattle.stretch_readings.specs.declared.heard.Heard.{Heard}
use Rattle.stretch_readings.specs.declared.heard.Heard.TheVariants.{Read, Broken, Guessed, Misread}
use Rattle.stretch_readings.specs.Guessing.{as_guess, at_next, before_first, guess_of, guessed_in, has_fault, hunted_in}
use Rattle.stretch_readings.specs.Guessing.{near_of, said_of, told_near}
use Rattle.stretch_readings.specs.Stretches.{Fed, One, Mark, Resumption, Stretch, Stretches, before, broken, fed}
use Rattle.stretch_readings.specs.Stretches.{fed_from}
use Rattle.stretch_readings.specs.Stretches.{from_fault, heard, heard_of, recovering, resumed_by, stretches, told}
use Rattle.stretch_readings.specs.Stretches.{with_unit}
use Rattle.capture_actions.proofs.Totals.{total, total-append, total-flat, total-map}

-- how many units stretches have together, and how many of what is fed are units
abbrev pub units_of : Stretch → ℕ
units_of s = length s.units

abbrev pub mass : Stretches → ℕ
mass r = total units_of r.past + units_of r.now

abbrev pub one : Fed → ℕ
one (One b) = 1
one Mark = 0

both : (a b most : ℕ) → (a + b) * most ≡ a * most + b * most
both a b most = grind arith

-- what is said weighs as much as its packets, which weigh this
module _ {V : Type 0} (weigh : V → ℕ) where
  abbrev pub of_read : Said V × Place → ℕ
  of_read (Notice skipped, place) = 0
  of_read (Kept v, place) = weigh v

  abbrev pub of_heard : Heard V → ℕ
  of_heard (Read v) = weigh v
  of_heard (Broken reason) = 0
  of_heard (Guessed v) = weigh v
  of_heard (Misread reason) = 0

  abbrev pub of_said : Said (Heard V) × Place → ℕ
  of_said (Notice skipped, place) = 0
  of_said (Kept h, place) = of_heard h

-- what is fed is read twice at most, and guessed at twice at most
abbrev pub times : Bool → ℕ
times true = 4
times false = 2

module _ {V : Type 0} (reads : Bool → List Placed → Stream V) where
  -- where at most this many units are read again after a fault
  module _ (way : Resumption) (a : ℕ) (again : (h : Bool) (u : List Placed) → way.again h u ≤ a) where
    resumed_mass : (o : Option (Place × Reason)) (r : Stretches) → mass (resumed_by reads way o r) ≤ mass r + a
    resumed_mass None r = omega arith
    resumed_mass (Some f) r =
        let s = total-append units_of r.past (r.now ∷ []) in
        let d = length-drop (length r.now.units - way.again r.now.hunts r.now.units) r.now.units in
        let k = again r.now.hunts r.now.units in
        omega arith

    fed_mass : (r : Stretches) (x : Fed) → mass (fed reads way r x) ≤ mass r + one x * (1 + a)
    fed_mass r (One b) =
        let next = with_unit reads way r b in
        let k = resumed_mass (reads next.now.hunts next.now.units).fault next in
        let l = length-append r.now.units (b ∷ []) in
        omega arith
    fed_mass r Mark = let s = total-append units_of r.past (r.now ∷ []) in omega arith

    from_mass : (l : List Fed) (r : Stretches) → mass (fed_from reads way r l) ≤ mass r + total one l * (1 + a)
    from_mass [] r = omega arith
    from_mass (x ∷ l) r =
        let k = from_mass l (fed reads way r x) in
        let f = fed_mass r x in
        let e : (one x + total one l) * (1 + a) ≡ one x * (1 + a) + total one l * (1 + a) = grind arith in
        omega arith

    pub stretches_mass : (hunts : Bool) (l : List Fed) → mass (stretches reads way hunts l) ≤ total one l * (1 + a)
    stretches_mass hunts l = let m = from_mass l (before reads way hunts) in omega arith

  -- where each packet weighs this much
  module _ (weigh : V → ℕ) where
    abbrev read : Said V × Place → ℕ
    read = of_read weigh

    abbrev said : Said (Heard V) × Place → ℕ
    said = of_said weigh

    module _ (most : ℕ) (few : (hunts : Bool) (u : List Placed) → total read (reads hunts u).given ≤ length u * most)
      where
        heard_less : (way : Resumption) (count : ℕ) (x : Said V × Place) → said (heard reads way count x) ≤ read x
        heard_less way count (Notice skipped, place) = omega arith
        heard_less way count (Kept v, place) = omega arith

        broken_none : (way : Resumption) (o : Option (Place × Reason)) → total said (broken reads way o) ≡ 0
        broken_none way None = refl
        broken_none way (Some f) = omega arith

        told_few : (way : Resumption) (s : Stretch) → total said (told reads way s) ≤ units_of s * most
        told_few way s =
            let given = (reads s.hunts s.units).given in
            let fault = (reads s.hunts s.units).fault in
            let a = total-append said (map (heard reads way s.count) given) (broken reads way fault) in
            let m = total-map read said (heard reads way s.count) given (heard_less way s.count) in
            let b = broken_none way fault in
            let f = few s.hunts s.units in
            omega arith

        all_told : (way : Resumption) (l : List Stretch) →
            total said (flat_map (told reads way) l) ≤ total units_of l * most
        all_told way [] = omega arith
        all_told way (s ∷ l) =
            let a = total-append said (told reads way s) (flat_map (told reads way) l) in
            let t = told_few way s in
            let k = all_told way l in
            let e = both (units_of s) (total units_of l) most in
            omega arith

        heard_few : (way : Resumption) (r : Stretches) → total said (heard_of reads way r).given ≤ mass r * most
        heard_few way r =
            let a = total-append said (flat_map (told reads way) r.past) (told reads way r.now) in
            let p = all_told way r.past in
            let n = told_few way r.now in
            let e = both (total units_of r.past) (units_of r.now) most in
            omega arith

        -- guesses
        guess_less : (x : Said (Heard V) × Place) → total said (as_guess x) ≤ said x
        guess_less (Notice skipped, place) = omega arith
        guess_less (Kept (Read v), place) = omega arith
        guess_less (Kept (Broken reason), place) = omega arith
        guess_less (Kept (Guessed v), place) = omega arith
        guess_less (Kept (Misread reason), place) = omega arith

        each_one : (u : List Placed) → total one (map One u) ≡ length u
        each_one [] = refl
        each_one (b ∷ u) = let e = each_one u in omega arith

        guess_few : (u : List Placed) → total said (guess_of reads from_fault u) ≤ length u * most
        guess_few u =
            let r = stretches reads at_next false (map One u) in
            let g = total-flat said said as_guess (recovering reads at_next false (map One u)).given guess_less in
            let h = heard_few at_next r in
            let m = stretches_mass at_next 0 (λ h u. omega arith) false (map One u) in
            let o = each_one u in
            let l : mass r ≤ length u = omega arith in
            let k : mass r * most ≤ length u * most = mul-le-mul_right most l in
            omega arith

        some_units : (p : Placed → Bool) (u : List Placed) → length (filter p u) ≤ length u
        some_units p [] = omega arith
        some_units p (b ∷ u) = by (p b) (some_units p u) where
          by : (t : Bool) → length (filter p u) ≤ length u →
              length (cond t (b ∷ filter p u) (filter p u)) ≤ suc (length u)
          by true h = omega arith
          by false h = omega arith

        before_less : (given : List (Said V × Place)) (u : List Placed) → length (before_first given u) ≤ length u
        before_less [] u = omega arith
        before_less (first ∷ given) u = some_units (λ b. nat_lt b.place.at first.1.at) u

        guessed_few : (after : Bool) (s : Stretch) →
            total said (guessed_in reads from_fault after s) ≤ units_of s * most
        guessed_few false s = omega arith
        guessed_few true s =
            let hunted = before_first (reads s.hunts s.units).given s.units in
            let b = before_less (reads s.hunts s.units).given s.units in
            let d = length-drop 1 hunted in
            let g = guess_few (hunted_in reads from_fault s) in
            let l : length (hunted_in reads from_fault s) ≤ units_of s = omega arith in
            let k : length (hunted_in reads from_fault s) * most ≤ units_of s * most = mul-le-mul_right most l in
            omega arith

        near_few : (after : Bool) (l : List Stretch) →
            total said (told_near reads from_fault after l) ≤ 2 * (total units_of l * most)
        near_few after [] = omega arith
        near_few after (s ∷ l) =
            let g = guessed_in reads from_fault after s in
            let t = told reads from_fault s in
            let rest = told_near reads from_fault (has_fault reads from_fault s) l in
            let a = total-append said (g ++ t) rest in
            let b = total-append said g t in
            let x = guessed_few after s in
            let y = told_few from_fault s in
            let z = near_few (has_fault reads from_fault s) l in
            let e = both (units_of s) (total units_of l) most in
            omega arith

        near_of_few : (r : Stretches) → total said (near_of reads from_fault r) ≤ 2 * (mass r * most)
        near_of_few r =
            let n = near_few false (r.past ++ r.now ∷ []) in
            let a = total-append units_of r.past (r.now ∷ []) in
            let e : total units_of (r.past ++ r.now ∷ []) ≡ mass r = omega arith in
            let k = ap (λ (m : ℕ). 2 * (m * most)) e in
            omega arith

        twice : (hunts : Bool) (l : List Fed) →
            mass (stretches reads from_fault hunts l) * most ≤ 2 * (total one l * most)
        twice hunts l =
            let m : mass (stretches reads from_fault hunts l) ≤ total one l * 2 =
            stretches_mass from_fault 1 (λ h u. omega arith) hunts l in
            let k : mass (stretches reads from_fault hunts l) * most ≤ total one l * 2 * most =
            mul-le-mul_right most m in
            let e : total one l * 2 * most ≡ 2 * (total one l * most) = grind arith in
            omega arith

        pub said_few : (guesses hunts : Bool) (l : List Fed) →
            total said (said_of reads from_fault guesses (stretches reads from_fault hunts l))
            ≤ times guesses * (total one l * most)
        said_few true hunts l =
            let n = near_of_few (stretches reads from_fault hunts l) in let t = twice hunts l in omega arith
        said_few false hunts l =
            let h = heard_few from_fault (stretches reads from_fault hunts l) in let t = twice hunts l in omega arith
