-- What a longer script reads as.
use Rattle.std.proofs.Common.{◌≡◌, ℕ, List, [], ◌∷◌, ◌++◌, refl, sym, ◌∙◌, ap, subst, Bool, true, false, append-nil}
use Rattle.std.proofs.Common.{append_assoc, length, nat_lt, is_some, if◌then◌else◌}
use Rattle.script_rebuild.specs.Names.{Plan, all_but_last}
use Rattle.script_rebuild.specs.declared.version.Version.{Version}
use Rattle.script_rebuild.specs.declared.version.Version.TheVariants.{Unknown}
use Rattle.script_rebuild.specs.Versions.{Reading, lines_in, read_texts, version_then, script_of}
use Rattle.script_rebuild.specs.Rebuilt.{last_of, open_line, too_long, certain_lines, read_so_far}
use Rattle.script_rebuild.specs.SplitLaws.{onto_line, some_line, but_last_more, last_more, lines_append}
use Rattle.script_rebuild.specs.ReadingLaws.{go_on, read_append, Extends, goes_extends, stuck, long_more, same_long}

-- a line that is too long is certain, whatever follows
long_begins : (line : List ℕ) (lines : List (List ℕ)) → nat_lt 256 (length line) ≡ true →
    (rest : List (List ℕ)) × (all_but_last (line ∷ lines) ++ too_long (last_of (line ∷ lines)) ≡ line ∷ rest)
long_begins line [] h = ([], ap (λ v. if v then line ∷ [] else []) h)
long_begins line (next ∷ lines) h = (all_but_last (next ∷ lines) ++ too_long (last_of (next ∷ lines)), refl)

-- where the script so far has a fault, it and the whole script have just that, whatever follows
pub record IsSettled (plan : Plan) (xs ys : List ℕ) : Type 0 where
  pub so_far : read_so_far plan (xs ++ ys) ≡ read_so_far plan xs
  pub whole : script_of plan (xs ++ ys) ≡ read_so_far plan xs

-- the lines of the script so far that ended, and what they tell of its version
abbrev ended : List ℕ → List (List ℕ)
ended xs = all_but_last (lines_in xs)

abbrev version : List ℕ → Version
version xs = version_then Unknown (ended xs)

-- it is what the script so far has where its open line is too long, and else goes on from that
record GoesOn (plan : Plan) (xs : List ℕ) (r : Reading) : Type 0 where
  long : nat_lt 256 (length (open_line xs)) ≡ true → r ≡ read_so_far plan xs
  more : List (List ℕ)
  short : nat_lt 256 (length (open_line xs)) ≡ false →
      r ≡ go_on plan (version xs) (read_so_far plan xs) more (read_so_far plan xs).fault

module _ (plan : Plan) (xs ys : List ℕ) where
  -- the open line as it goes on, and the lines after it
  abbrev next : List ℕ
  next = open_line xs ++ (some_line ys).0

  abbrev later : List (List ℕ)
  later = (some_line ys).1

  abbrev certain_later : List (List ℕ)
  certain_later = all_but_last (next ∷ later) ++ too_long (last_of (next ∷ later))

  lines_more : lines_in (xs ++ ys) ≡ ended xs ++ next ∷ later
  lines_more = lines_append xs ys ∙ ap (λ l. ended xs ++ onto_line (open_line xs) l) (some_line ys).2

  certain_more : certain_lines (xs ++ ys) ≡ ended xs ++ certain_later
  certain_more =
      ap (λ l. all_but_last l ++ too_long (last_of l)) lines_more
      ∙ ap (λ l. l ++ too_long (last_of (ended xs ++ next ∷ later))) (but_last_more (ended xs) next later)
      ∙ ap (λ l. (ended xs ++ all_but_last (next ∷ later)) ++ too_long l) (last_more (ended xs) next later)
      ∙ append_assoc (ended xs) (all_but_last (next ∷ later)) (too_long (last_of (next ∷ later)))

  open_is : (v : Bool) → nat_lt 256 (length (open_line xs)) ≡ v →
      certain_lines xs ≡ ended xs ++ (if v then open_line xs ∷ [] else [])
  open_is v h = ap (λ v. ended xs ++ (if v then open_line xs ∷ [] else [])) h

  -- what is read of the lines that ended and these, of which the open line is the first once it is too long
  goes_on : (texts : List (List ℕ)) →
      (nat_lt 256 (length next) ≡ true → (rest : List (List ℕ)) × (texts ≡ next ∷ rest)) →
      GoesOn plan xs (read_texts plan (ended xs ++ texts))
  goes_on texts begins = record {
    long = λ h.
        let longer = long_more (open_line xs) (some_line ys).0 h in
        let first = begins longer in
        ap (λ l. read_texts plan (ended xs ++ l)) first.1
        ∙ same_long plan Unknown (ended xs) next (open_line xs) first.0 [] longer h
        ∙ ap (read_texts plan) (sym (open_is true h));
    more = texts;
    short = λ h.
        read_append plan Unknown [] (ended xs) texts
        ∙ ap (λ l. go_on plan (version xs) (read_texts plan l) texts (read_texts plan l).fault)
        (sym (open_is false h ∙ append-nil (ended xs)));
  }

  so_far_goes : GoesOn plan xs (read_so_far plan (xs ++ ys))
  so_far_goes =
      let more = goes_on certain_later (long_begins next later) in
      subst (λ l. GoesOn plan xs (read_texts plan l)) (sym certain_more) more

  whole_goes : GoesOn plan xs (script_of plan (xs ++ ys))
  whole_goes =
      subst (λ l. GoesOn plan xs (read_texts plan l)) (sym lines_more) (goes_on (next ∷ later) (λ h. (later, refl)))

module _ (plan : Plan) (xs : List ℕ) (r : Reading) (goes : GoesOn plan xs r) where
  still : is_some (read_so_far plan xs).fault ≡ true → r ≡ read_so_far plan xs
  still faulty = by (nat_lt 256 (length (open_line xs))) refl
    where
      by : (v : Bool) → nat_lt 256 (length (open_line xs)) ≡ v → r ≡ read_so_far plan xs
      by true h = goes.long h
      by false h =
          goes.short h ∙ stuck plan (version xs) (read_so_far plan xs) goes.more (read_so_far plan xs).fault faulty

  extends : Extends (read_so_far plan xs).lines r.lines
  extends = by (nat_lt 256 (length (open_line xs))) refl
    where
      by : (v : Bool) → nat_lt 256 (length (open_line xs)) ≡ v → Extends (read_so_far plan xs).lines r.lines
      by true h = record {
        more = [];
        all = ap (λ r. r.lines) (goes.long h) ∙ sym (append-nil (read_so_far plan xs).lines);
      }
      by false h =
          let later = goes_extends plan (version xs) (read_so_far plan xs) goes.more (read_so_far plan xs).fault in
          record { more = later.more; all = ap (λ r. r.lines) (goes.short h) ∙ later.all }

pub settled : (plan : Plan) (xs ys : List ℕ) → is_some (read_so_far plan xs).fault ≡ true → IsSettled plan xs ys
settled plan xs ys faulty = record {
  so_far = still plan xs (read_so_far plan (xs ++ ys)) (so_far_goes plan xs ys) faulty;
  whole = still plan xs (script_of plan (xs ++ ys)) (whole_goes plan xs ys) faulty;
}

pub so_far_extends : (plan : Plan) (xs ys : List ℕ) →
    Extends (read_so_far plan xs).lines (read_so_far plan (xs ++ ys)).lines
so_far_extends plan xs ys = extends plan xs (read_so_far plan (xs ++ ys)) (so_far_goes plan xs ys)

pub whole_extends : (plan : Plan) (xs ys : List ℕ) →
    Extends (read_so_far plan xs).lines (script_of plan (xs ++ ys)).lines
whole_extends plan xs ys = extends plan xs (script_of plan (xs ++ ys)) (whole_goes plan xs ys)

-- the same at the end of a script
pub end_extends : (plan : Plan) (xs : List ℕ) → Extends (read_so_far plan xs).lines (script_of plan xs).lines
end_extends plan xs = subst (λ l. Extends (read_so_far plan xs).lines (script_of plan l).lines) (append-nil xs)
    (whole_extends plan xs [])
