-- Each line of the exercise can be written after those before it: the first STP item is Async and the second Version 3, so
-- that version 3 is in force at each datum.
use Rattle.std.proofs.Common.{◌≡◌, ℕ, zero, suc, ◌+◌, ◌-◌, ◌≤◌, ◌/◌, ◌%◌, ◌==◌, List, [], ◌∷◌, ◌++◌, refl, ◌∙◌, ap}
use Rattle.std.proofs.Common.{arith, Bool, true, false, cond, append-nil, Option, None, Some, Result, Ok, Err}
use Rattle.std.proofs.Common.{filter_map}
use Rattle.std.specs.List.{last_or}
use Rattle.std.proofs.lemmas.List.Elements.{filter_map-append}
use Rattle.std.proofs.lemmas.List.Concat.{flat_map-append}
use Rattle.std.proofs.lemmas.Bool.Decides.{nat_tests}
use Rattle.capture_exercise.specs.Names.{Sixteen, Natural, Async, Version, Datum, Line2, Of, LineFault, Made, Itm, Stp}
use Rattle.capture_exercise.specs.Names.{Raw, itm_packet, stp_item, byte_item, item_of, place, by_item, items_by}
use Rattle.capture_exercise.specs.Names.{given_items, fitting}
use Rattle.stp_grammar.specs.declared.item.StpItem.{StpItem}
use Rattle.stp_encoder.specs.Fitting.{version_named, version_after, is_unfit}
use Rattle.script_text.specs.declared.items.Item.TheVariants as items
use Rattle.script_text.specs.declared.line_fault.LineFault.TheVariants.{Unfit}
use Rattle.trace_vectors.specs.declared.made.Made.TheVariants.{Trigger}
use Rattle.script_text.specs.VersionTwo.{as_one}
use Rattle.script_text.specs.declared.lines.Line.{Line}
use Rattle.capture_exercise.specs.Exercise.{line_of_made, line_at, exercise_lines}
use Rattle.capture_exercise.proofs.Making.{lines_more}

last_or_append : (o : Option ℕ) (xs ys : List ℕ) → last_or o (xs ++ ys) ≡ last_or (last_or o xs) ys
last_or_append o [] ys = refl
last_or_append o (x ∷ xs) ys = last_or_append (Some x) xs ys

-- the version in force after this many items
abbrev version_at : ℕ → Option ℕ
version_at n = version_after (given_items 2 (exercise_lines n))

-- the versions that an item names
abbrev named_by : Made → List ℕ
named_by made = filter_map version_named (by_item (items_by 2) (line_of_made made))

version_more : (n : ℕ) → version_at (n + 1) ≡ last_or (version_at n) (named_by (item_of n))
version_more n =
    let before = given_items 2 (exercise_lines n) in
    let more = by_item (items_by 2) (line_at n) in
    let given : given_items 2 (exercise_lines (n + 1)) ≡ before ++ more =
    ap (given_items 2) (lines_more n) ∙ flat_map-append (by_item (items_by 2)) (exercise_lines n) (line_at n ∷ [])
    ∙ ap (λ (l : List StpItem). before ++ l) (append-nil more) in
    ap version_after given ∙ ap (last_or None) (filter_map-append version_named before more)
    ∙ last_or_append None (filter_map version_named before) (filter_map version_named more)

-- version 3 stays in force
abbrev Keeps : Made → Type 0
Keeps made = last_or (Some 3) (named_by made) ≡ Some 3

stp_keeps : (s t : Bool) (m : ℕ) → Keeps (Stp (cond s Async (cond t (Version 3) (Datum (place m) Sixteen (m % 65536) false (Natural m)))))
stp_keeps true t m = refl
stp_keeps false true m = refl
stp_keeps false false m = refl

byte_keeps : (s : Bool) (b : ℕ) → Keeps (cond s (Trigger b) (Raw b))
byte_keeps true b = refl
byte_keeps false b = refl

kind_keeps : (a b : Bool) (m : ℕ) → Keeps (cond a (Itm (itm_packet m)) (cond b (Stp (stp_item m)) (byte_item m)))
kind_keeps true b m = refl
kind_keeps false true m = stp_keeps (m % 16 == 0) (m % 16 == 1) m
kind_keeps false false m = byte_keeps (m % 16 == 15) (m % 256)

keeps : (n : ℕ) → Keeps (item_of n)
unfolding item_of
keeps n = kind_keeps (n % 3 == 0) (n % 3 == 1) (n / 3)

version_five : version_at 5 ≡ Some 3
unfolding item_of
version_five = refl

version_from : (d n : ℕ) → n ≡ d + 5 → version_at n ≡ Some 3
version_from zero n e = ap version_at e ∙ version_five
version_from (suc d) n e =
    let next : n ≡ (d + 5) + 1 = omega arith in
    ap version_at next ∙ version_more (d + 5)
    ∙ ap (λ (v : Option ℕ). last_or v (named_by (item_of (d + 5)))) (version_from d (d + 5) refl) ∙ keeps (d + 5)

-- the line of an item can be written after these
abbrev Fits : List Line2 → Made → Type 0
Fits before made = fitting before (line_of_made made) ≡ Ok (line_of_made made)

abbrev datum : ℕ → StpItem
datum m = Datum (place m) Sixteen (m % 65536) false (Natural m)

stp_fits : (before : List Line2) (s t : Bool) (m : ℕ) → (s ≡ false → t ≡ false → version_after (given_items 2 before) ≡ Some 3) →
    Fits before (Stp (cond s Async (cond t (Version 3) (datum m))))
stp_fits before true t m h = refl
stp_fits before false true m h = refl
stp_fits before false false m h =
    let said : Result Line LineFault = Ok (Of 2 (items.Stp (datum m))) in
    ap (λ (v : Option ℕ). as_one (cond (is_unfit v (datum m)) (Err Unfit) said)) (h refl refl)

byte_fits : (before : List Line2) (s : Bool) (b : ℕ) → Fits before (cond s (Trigger b) (Raw b))
byte_fits before true b = refl
byte_fits before false b = refl

-- a datum comes after item 5
after_five : (n : ℕ) → (n % 3 == 1) ≡ true → (n / 3 % 16 == 0) ≡ false → (n / 3 % 16 == 1) ≡ false → 5 ≤ n
after_five n a b c = grind (arith, nat_tests)

kind_fits : (n : ℕ) (a b : Bool) → (n % 3 == 1) ≡ b →
    Fits (exercise_lines n) (cond a (Itm (itm_packet (n / 3))) (cond b (Stp (stp_item (n / 3))) (byte_item (n / 3))))
kind_fits n true b e = refl
kind_fits n false true e =
    stp_fits (exercise_lines n) (n / 3 % 16 == 0) (n / 3 % 16 == 1) (n / 3) (λ s t.
    let five : 5 ≤ n = after_five n e s t in
    version_from (n - 5) n (omega arith))
kind_fits n false false e = byte_fits (exercise_lines n) (n / 3 % 16 == 15) (n / 3 % 256)

pub line_fits : (n : ℕ) → fitting (exercise_lines n) (line_at n) ≡ Ok (line_at n)
unfolding item_of
line_fits n = kind_fits n (n % 3 == 0) (n % 3 == 1) refl
