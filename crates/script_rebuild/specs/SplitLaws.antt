-- The lines of longer scripts.
use Rattle.std.proofs.Common.{◌≡◌, ℕ, List, [], ◌∷◌, ◌++◌, refl, sym, ◌∙◌, ap, Bool, true, false, append-nil, ◌==◌}
use Rattle.std.proofs.Common.{if◌then◌else◌, All}
use Rattle.std.specs.List.{onto_first}
use Rattle.std.proofs.lemmas.List.Splits.{slice_split_none}
use Rattle.script_rebuild.specs.Names.{all_but_last}
use Rattle.script_rebuild.specs.Versions.{lines_in}
use Rattle.script_rebuild.specs.Rebuilt.{last_of, open_line}

-- bytes before the first line
abbrev pub onto_line : List ℕ → List (List ℕ) → List (List ℕ)
onto_line front [] = front ∷ []
onto_line front (line ∷ lines) = (front ++ line) ∷ lines

-- there is always a line
pub some_line : (bytes : List ℕ) → (first : List ℕ) × (more : List (List ℕ)) × (lines_in bytes ≡ first ∷ more)
some_line [] = ([], [], refl)
some_line (b ∷ bytes) = by (b == 10) (some_line bytes)
  where
    by : (v : Bool) → (first : List ℕ) × (more : List (List ℕ)) × (lines_in bytes ≡ first ∷ more) →
        (first : List ℕ) × (more : List (List ℕ))
        × ((if v then [] ∷ lines_in bytes else onto_first b (lines_in bytes)) ≡ first ∷ more)
    by true k = ([], lines_in bytes, refl)
    by false k = (b ∷ k.0, k.1, ap (onto_first b) k.2)

-- a list of lines is all but the last, and the last
pub and_last : (line : List ℕ) (lines : List (List ℕ)) →
    line ∷ lines ≡ all_but_last (line ∷ lines) ++ last_of (line ∷ lines) ∷ []
and_last line [] = refl
and_last line (next ∷ lines) = ap (λ l. line ∷ l) (and_last next lines)

pub but_last_more : (front : List (List ℕ)) (line : List ℕ) (lines : List (List ℕ)) →
    all_but_last (front ++ line ∷ lines) ≡ front ++ all_but_last (line ∷ lines)
but_last_more [] line lines = refl
but_last_more (x ∷ []) line lines = refl
but_last_more (x ∷ (y ∷ front)) line lines = ap (λ l. x ∷ l) (but_last_more (y ∷ front) line lines)

pub last_more : (front : List (List ℕ)) (line : List ℕ) (lines : List (List ℕ)) →
    last_of (front ++ line ∷ lines) ≡ last_of (line ∷ lines)
last_more [] line lines = refl
last_more (x ∷ []) line lines = refl
last_more (x ∷ (y ∷ front)) line lines = last_more (y ∷ front) line lines

-- one more byte before lines, and others after them
before_first : (b : ℕ) (line : List ℕ) (lines more : List (List ℕ)) (v : Bool) →
    (if v then [] ∷ (all_but_last (line ∷ lines) ++ onto_line (last_of (line ∷ lines)) more) else onto_first b
    (all_but_last (line ∷ lines) ++ onto_line (last_of (line ∷ lines)) more))
    ≡ all_but_last (if v then [] ∷ (line ∷ lines) else onto_first b (line ∷ lines))
    ++ onto_line (last_of (if v then [] ∷ (line ∷ lines) else onto_first b (line ∷ lines))) more
before_first b line lines more true = refl
before_first b line [] [] false = refl
before_first b line [] (x ∷ more) false = refl
before_first b line (next ∷ lines) more false = refl

-- the first line of what follows goes on with the open line
pub lines_append : (xs ys : List ℕ) → lines_in (xs ++ ys) ≡ all_but_last (lines_in xs)
    ++ onto_line (open_line xs) (lines_in ys)
lines_append [] ys = let k = some_line ys in k.2 ∙ sym (ap (onto_line []) k.2)
lines_append (b ∷ xs) ys =
    let k = some_line xs in
    let more = lines_in ys in
    ap (λ l. if b == 10 then [] ∷ l else onto_first b l) (lines_append xs ys
    ∙ ap (λ l. all_but_last l ++ onto_line (last_of l) more) k.2)
    ∙ before_first b k.0 k.1 more (b == 10)
    ∙ ap (λ l. all_but_last (if b == 10 then [] ∷ l else onto_first b l)
    ++ onto_line (last_of (if b == 10 then [] ∷ l else onto_first b l)) more) (sym k.2)

-- the open line is the last
pub lines_open : (xs : List ℕ) → lines_in xs ≡ all_but_last (lines_in xs) ++ open_line xs ∷ []
lines_open xs =
    let k = some_line xs in
    k.2 ∙ and_last k.0 k.1 ∙ ap (λ l. all_but_last l ++ last_of l ∷ []) (sym k.2)

-- bytes without a line feed
plain_lines : (xs ys : List ℕ) → All (λ b. (b == 10) ≡ false) ys →
    lines_in (xs ++ ys) ≡ all_but_last (lines_in xs) ++ (open_line xs ++ ys) ∷ []
plain_lines xs ys h = lines_append xs ys
    ∙ ap (λ l. all_but_last (lines_in xs) ++ onto_line (open_line xs) l) (slice_split_none (λ b. b == 10) ys h)

pub plain_ended : (xs ys : List ℕ) → All (λ b. (b == 10) ≡ false) ys →
    all_but_last (lines_in (xs ++ ys)) ≡ all_but_last (lines_in xs)
plain_ended xs ys h =
    ap all_but_last (plain_lines xs ys h) ∙ but_last_more (all_but_last (lines_in xs)) (open_line xs ++ ys) []
    ∙ append-nil (all_but_last (lines_in xs))

pub plain_open : (xs ys : List ℕ) → All (λ b. (b == 10) ≡ false) ys → open_line (xs ++ ys) ≡ open_line xs ++ ys
plain_open xs ys h = ap last_of (plain_lines xs ys h) ∙ last_more (all_but_last (lines_in xs)) (open_line xs ++ ys) []

-- a line feed
fed_lines : (xs : List ℕ) → lines_in (xs ++ 10 ∷ []) ≡ all_but_last (lines_in xs) ++ open_line xs ∷ ([] ∷ [])
fed_lines xs = lines_append xs (10 ∷ [])
    ∙ ap (λ l. all_but_last (lines_in xs) ++ l ∷ ([] ∷ [])) (append-nil (open_line xs))

pub fed_ended : (xs : List ℕ) → all_but_last (lines_in (xs ++ 10 ∷ []))
    ≡ all_but_last (lines_in xs) ++ open_line xs ∷ []
fed_ended xs = ap all_but_last (fed_lines xs) ∙ but_last_more (all_but_last (lines_in xs)) (open_line xs) ([] ∷ [])

pub fed_open : (xs : List ℕ) → open_line (xs ++ 10 ∷ []) ≡ []
fed_open xs = ap last_of (fed_lines xs) ∙ last_more (all_but_last (lines_in xs)) (open_line xs) ([] ∷ [])
