-- What is guessed, stretch by stretch.
use Rattle.std.proofs.Common.{◌≡◌, ℕ, suc, ◌≤◌, ◌<◌, List, [], ◌∷◌, ◌++◌, map, refl, sym, ◌∙◌, ap, arith}
use Rattle.std.proofs.Common.{append_assoc, append-nil, None, Some, Bool, true, false, Option, cond}
use Rattle.std.specs.Prelude.{flat_map, filter, is_none, nat_lt, not, All}
use Rattle.std.proofs.lemmas.Bool.Decides.{nat_tests}
use Rattle.std.proofs.lemmas.Grind.{flat_map-append}
use Rattle.std.proofs.lemmas.List.Elements.{filter-append}
use Rattle.trace_values.specs.declared.fault.Reason.{Reason}
use Rattle.trace_values.specs.Placed.{Place, Placed}
use Rattle.trace_values.specs.Stream.{Said, Notice, Kept, Stream}
use Rattle.stretch_readings.specs.declared.heard.Heard.{Heard}
use Rattle.stretch_readings.specs.declared.heard.Heard.TheVariants.{Read, Broken, Guessed, Misread}
use Rattle.stretch_readings.specs.Stretches.{One, Resumption, Stretch, Stretches, broken, heard, heard_of, read}
use Rattle.stretch_readings.specs.Stretches.{recovering, told}
use Rattle.stretch_readings.specs.Guessing.{as_guess, at_next, before_first, ends_in_fault, guessed_in, has_fault}
use Rattle.stretch_readings.specs.Guessing.{AllBefore, AllWithin, hunted_in, is_sure, near_of, sure_of, told_near}

-- a guess is not sure, and the rest is
unsure_guess : {V : Type 0} (x : Said (Heard V) × Place) → sure_of (as_guess x) ≡ []
unsure_guess (Notice n, p) = refl
unsure_guess (Kept (Read v), p) = refl
unsure_guess (Kept (Broken r), p) = refl
unsure_guess (Kept (Guessed v), p) = refl
unsure_guess (Kept (Misread r), p) = refl

unsure : {V : Type 0} (l : List (Said (Heard V) × Place)) → sure_of (flat_map as_guess l) ≡ []
unsure [] = refl
unsure (x ∷ l) =
    filter-append (λ y. is_sure y.0) (as_guess x) (flat_map as_guess l)
    ∙ ap (λ a. a ++ sure_of (flat_map as_guess l)) (unsure_guess x) ∙ unsure l

module _ {V : Type 0} (reads : Bool → List Placed → Stream V) (way : Resumption) where
  sure_items : (n : ℕ) (given : List (Said V × Place)) →
      sure_of (map (heard reads way n) given) ≡ map (heard reads way n) given
  sure_items n [] = refl
  sure_items n ((Notice m, p) ∷ given) = ap (λ l. heard reads way n (Notice m, p) ∷ l) (sure_items n given)
  sure_items n ((Kept v, p) ∷ given) = ap (λ l. heard reads way n (Kept v, p) ∷ l) (sure_items n given)

  sure_fault : (o : Option (Place × Reason)) → sure_of (broken reads way o) ≡ broken reads way o
  sure_fault None = refl
  sure_fault (Some f) = refl

  sure_told : (s : Stretch) → sure_of (told reads way s) ≡ told reads way s
  sure_told s =
      let items = map (heard reads way s.count) (read reads way s).given in
      let fault = broken reads way (read reads way s).fault in
      filter-append (λ y. is_sure y.0) items fault
      ∙ ap (λ l. l ++ sure_of fault) (sure_items s.count (read reads way s).given)
      ∙ ap (λ l. items ++ l) (sure_fault (read reads way s).fault)

  unsure_in : (b : Bool) (s : Stretch) → sure_of (guessed_in reads way b s) ≡ []
  unsure_in true s = unsure (recovering reads at_next false (map One (hunted_in reads way s))).given
  unsure_in false s = refl

  sure_near : (b : Bool) (l : List Stretch) → sure_of (told_near reads way b l) ≡ flat_map (told reads way) l
  sure_near b [] = refl
  sure_near b (s ∷ l) =
      let g = guessed_in reads way b s in
      let t = told reads way s in
      let more = told_near reads way (has_fault reads way s) l in
      filter-append (λ y. is_sure y.0) (g ++ t) more
      ∙ ap (λ a. a ++ sure_of more) (filter-append (λ y. is_sure y.0) g t
      ∙ ap (λ a. a ++ sure_of t) (unsure_in b s) ∙ sure_told s)
      ∙ ap (λ a. t ++ a) (sure_near (has_fault reads way s) l)

  told_all : (r : Stretches) → flat_map (told reads way) (r.past ++ r.now ∷ []) ≡ (heard_of reads way r).given
  told_all r =
      flat_map-append (told reads way) r.past (r.now ∷ [])
      ∙ ap (λ l. flat_map (told reads way) r.past ++ l) (append-nil (told reads way r.now))

  -- without its guesses what is said is what is said without guesses
  pub sure_said : (r : Stretches) → sure_of (near_of reads way r) ≡ (heard_of reads way r).given
  sure_said r = sure_near false (r.past ++ r.now ∷ []) ∙ told_all r

  -- where no stretch that is over has a fault there is no guess
  none_near : (past : List Stretch) (s : Stretch) → All (λ s. (read reads way s).fault ≡ None) past →
      told_near reads way false (past ++ s ∷ []) ≡ flat_map (told reads way) (past ++ s ∷ [])
  none_near [] s a = refl
  none_near (x ∷ past) s a =
      ap (λ b. told reads way x ++ told_near reads way (not (is_none b)) (past ++ s ∷ [])) (a 0 x (omega arith))
      ∙ ap (λ l. told reads way x ++ l) (none_near past s (λ k d l. a (suc k) d (omega (arith, l))))

  pub sound_said : (r : Stretches) → All (λ s. (read reads way s).fault ≡ None) r.past →
      near_of reads way r ≡ (heard_of reads way r).given
  sound_said r a = none_near r.past r.now a ∙ told_all r

  -- one more stretch
  near_push : (b : Bool) (l : List Stretch) (s : Stretch) →
      told_near reads way b (l ++ s ∷ []) ≡ told_near reads way b l
      ++ (guessed_in reads way (ends_in_fault reads way b l) s ++ told reads way s)
  near_push b [] s = append-nil (guessed_in reads way b s ++ told reads way s)
  near_push b (x ∷ l) s =
      let first = guessed_in reads way b x ++ told reads way x in
      let f = has_fault reads way x in
      ap (λ a. first ++ a) (near_push f l s)
      ∙ sym (append_assoc first (told_near reads way f l)
      (guessed_in reads way (ends_in_fault reads way f l) s ++ told reads way s))

  ends_push : (b : Bool) (l : List Stretch) (s : Stretch) →
      ends_in_fault reads way b (l ++ s ∷ []) ≡ has_fault reads way s
  ends_push b [] s = refl
  ends_push b (x ∷ l) s = ends_push (has_fault reads way x) l s

  abbrev pub follows : Stretches → Bool
  follows r = ends_in_fault reads way false r.past

  -- what is guessed in the last stretch, and what it tells
  abbrev pub guesses_now : Stretches → List (Said (Heard V) × Place)
  guesses_now r = guessed_in reads way (follows r) r.now

  abbrev near_past : Stretches → List (Said (Heard V) × Place)
  near_past r = told_near reads way false r.past

  near_parts : (r : Stretches) → near_of reads way r ≡ near_past r ++ (guesses_now r ++ told reads way r.now)
  near_parts r = near_push false r.past r.now

  -- the last stretch is now this one, in which as much is guessed, and which tells this besides
  pub near_told : (r : Stretches) (now : Stretch) (said : List (Said (Heard V) × Place)) →
      guessed_in reads way (follows r) now ≡ guesses_now r → told reads way now ≡ told reads way r.now ++ said →
      near_of reads way (record { past = r.past; now = now }) ≡ near_of reads way r ++ said
  near_told r now said g t =
      near_parts (record { past = r.past; now = now })
      ∙ ap (λ l. near_past r ++ (l ++ told reads way now)) g
      ∙ ap (λ l. near_past r ++ (guesses_now r ++ l)) t
      ∙ ap (λ l. near_past r ++ l) (sym (append_assoc (guesses_now r) (told reads way r.now) said))
      ∙ sym (append_assoc (near_past r) (guesses_now r ++ told reads way r.now) said)
      ∙ ap (λ l. l ++ said) (sym (near_parts r))

  -- it tells nothing yet, and this is guessed besides
  pub near_guessed : (r : Stretches) (now : Stretch) (said : List (Said (Heard V) × Place)) →
      guessed_in reads way (follows r) now ≡ guesses_now r ++ said → told reads way r.now ≡ [] →
      told reads way now ≡ [] → near_of reads way (record { past = r.past; now = now }) ≡ near_of reads way r ++ said
  near_guessed r now said g old new =
      near_parts (record { past = r.past; now = now })
      ∙ ap (λ l. near_past r ++ (guessed_in reads way (follows r) now ++ l)) new
      ∙ ap (λ l. near_past r ++ l) (append-nil (guessed_in reads way (follows r) now) ∙ g)
      ∙ sym (append_assoc (near_past r) (guesses_now r) said)
      ∙ ap (λ l. l ++ said) (ap (λ l. near_past r ++ l) (sym (append-nil (guesses_now r)))
      ∙ ap (λ l. near_past r ++ (guesses_now r ++ l)) (sym old) ∙ sym (near_parts r))

  -- the last stretch is over, and the next one has nothing yet
  pub near_next : (r : Stretches) (now : Stretch) → guessed_in reads way (has_fault reads way r.now) now ≡ [] →
      told reads way now ≡ [] →
      near_of reads way (record { past = r.past ++ r.now ∷ []; now = now }) ≡ near_of reads way r
  near_next r now g t =
      near_parts (record { past = r.past ++ r.now ∷ []; now = now })
      ∙ ap (λ b. near_of reads way r ++ (guessed_in reads way b now ++ told reads way now))
      (ends_push false r.past r.now)
      ∙ ap (λ l. near_of reads way r ++ (l ++ told reads way now)) g
      ∙ ap (λ l. near_of reads way r ++ l) t
      ∙ append-nil (near_of reads way r)

  -- and it comes after a fault where that one has one
  pub follows_next : (r : Stretches) (now : Stretch) →
      follows (record { past = r.past ++ r.now ∷ []; now = now }) ≡ has_fault reads way r.now
  follows_next r now = ends_push false r.past r.now

kept_before : (at : ℕ) (units : List Placed) → AllBefore at units →
    filter (λ u. nat_lt u.place.at at) units ≡ units
kept_before at [] a = refl
kept_before at (u ∷ units) a =
    ap (λ b. cond b (u ∷ filter (λ u. nat_lt u.place.at at) units) (filter (λ u. nat_lt u.place.at at) units))
    (let h = a.0 in let e : nat_lt u.place.at at ≡ true = grind (arith, nat_tests) in e)
    ∙ ap (λ l. u ∷ l) (kept_before at units a.1)

none_within : (first at : ℕ) (units : List Placed) → first ≤ at → AllWithin at units →
    filter (λ u. nat_lt u.place.at first) units ≡ []
none_within first at [] l a = refl
none_within first at (u ∷ units) l a =
    ap (λ b. cond b (u ∷ filter (λ u. nat_lt u.place.at first) units) (filter (λ u. nat_lt u.place.at first) units))
    (let h = a.0 in let e : nat_lt u.place.at first ≡ false = grind (arith, nat_tests) in e)
    ∙ none_within first at units l a.1

-- what comes in the byte in which the hunt locks, and later, is not hunted over
pub hunted_before : {W : Type 0} (x : W × Place) (said : List (W × Place)) (units more : List Placed) (at : ℕ) →
    x.1.at ≤ at → AllWithin at more → before_first (x ∷ said) (units ++ more) ≡ before_first (x ∷ said) units
hunted_before x said units more at l a =
    filter-append (λ u. nat_lt u.place.at x.1.at) units more
    ∙ ap (λ m. filter (λ u. nat_lt u.place.at x.1.at) units ++ m) (none_within x.1.at at more l a)
    ∙ append-nil (filter (λ u. nat_lt u.place.at x.1.at) units)

pub hunted_all : {W : Type 0} (x : W × Place) (said : List (W × Place)) (units more : List Placed) →
    AllBefore x.1.at units → AllWithin x.1.at more → before_first (x ∷ said) (units ++ more) ≡ units
hunted_all x said units more b a =
    hunted_before x said units more x.1.at (omega arith) a ∙ kept_before x.1.at units b

pub before_later : (at later : ℕ) (units : List Placed) → at ≤ later → AllBefore at units → AllBefore later units
before_later at later [] l a = tt
before_later at later (u ∷ units) l a = ((let h = a.0 in omega (arith, h, l)), before_later at later units l a.1)

pub within_before : (at later : ℕ) (units : List Placed) → at < later → AllWithin at units → AllBefore later units
within_before at later [] l a = tt
within_before at later (u ∷ units) l a = ((let h = a.0 in omega (arith, h, l)), within_before at later units l a.1)
