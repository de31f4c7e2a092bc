-- The lines of a script up to its first fault: each can be said, of its source, and its STP items can be written.
use Rattle.std.proofs.Common.{◌≡◌, ℕ, List, [], ◌∷◌, ◌++◌, length, refl, sym, ◌∙◌, ap, subst, arith, append-nil}
use Rattle.std.proofs.Common.{append_assoc, Bool, true, false, Result, Ok, Err, ◌==◌, nat_lt, if◌then◌else◌, bytes_eq}
use Rattle.std.proofs.lemmas.Bool.Decides.{nat_tests}
use Rattle.std.proofs.lemmas.List.Concat.{flat_map-append}
use Rattle.script_laws.specs.Names.{StpItem, is_unfit, AreFitting, Plan, Item, Stp, Line, Nothing, Of, LineFault}
use Rattle.script_laws.specs.Names.{LongLine, BadLine, Unfit, are_printable, words_in, are_words, line_of}
use Rattle.script_laws.specs.Names.{line_of_words, is_nothing, IsSaid, Line2, One, Flush, Trigger, as_one, line2_of}
use Rattle.script_laws.specs.Names.{IsSaid2, Version, Unknown, First, Second, by_item, items_of, items_by, given_items}
use Rattle.script_laws.specs.Names.{fitting_item, fitting_one, fitting, header, version_after, says, says_one}
use Rattle.script_laws.specs.Names.{script_of, lines_in}
use Rattle.stp_encoder.specs.Fitting.{version_after as version_after_items}
use Rattle.stp_encoder.proofs.Fitted.{none_fit, more_fit}
use Rattle.script_text.specs.Lines.{◌>>=◌}
use Rattle.script_text.proofs.LineRanges.{ok_of, words_said_if}
use Rattle.script_laws.specs.Puts.{CanBePut, CanAllBePut}
use Rattle.script_laws.proofs.Texts.{AreFrom, read_from}
use Rattle.script_laws.proofs.TriggerLaw.{trigger_small, one_only}

line_said : (plan : Plan) (text : List ℕ) (line : Line) → line_of plan text ≡ Ok line → IsSaid plan line
unfolding line_of
line_said plan text line e = by (nat_lt 256 (length text)) (is_nothing text) (are_printable text) (are_words 0 (words_in text)) e
  where
    by : (a b c d : Bool) → (if a then Err LongLine else if b then Ok Nothing else if c then (if d then line_of_words plan (words_in text) else Err BadLine) else Err BadLine) ≡ Ok line → IsSaid plan line
    by true b c d e = cc
    by false true c d e = subst (IsSaid plan) (ok_of Nothing line e) tt
    by false false true true e = words_said_if plan (words_in text) (Ok line) (sym e)
    by false false true false e = cc
    by false false false d e = cc

-- what fits is the line itself
item_same : (line other : Line) (before : List StpItem) (item : Item) → fitting_item line before item ≡ Ok other → line ≡ other
item_same line other before (Stp item) e = by (is_unfit (version_after_items before) item) e
  where
    by : (v : Bool) → (if v then Err Unfit else Ok line) ≡ Ok other → line ≡ other
    by true e = cc
    by false e = ok_of line other e
item_same line other before item e = ok_of line other e

one_same : (before : List Line2) (line other : Line) → fitting_one before line ≡ Ok other → line ≡ other
one_same before Nothing other e = ok_of Nothing other e
one_same before (Of id item) other e = item_same (Of id item) other (given_items id before) item e

fit_same : (before : List Line2) (line other : Line2) → fitting before line ≡ Ok other → line ≡ other
fit_same before (One line) other e = by (fitting_one before line) refl e
  where
    by : (r : Result Line LineFault) → fitting_one before line ≡ r → as_one r ≡ Ok other → One line ≡ other
    by (Ok found) k e = ap One (one_same before line found k) ∙ ok_of (One found) other e
    by (Err fault) k e = cc
fit_same before Flush other e = ok_of Flush other e
fit_same before (Trigger byte) other e = ok_of (Trigger byte) other e

-- what a text says can be put
answer_good : (plan : Plan) (before : List Line2) (r : Result Line2 LineFault) (line : Line2) →
    ((given : Line2) → r ≡ Ok given → IsSaid2 plan given) → (r >>= fitting before) ≡ Ok line → CanBePut plan before line
answer_good plan before (Err fault) line said e = cc
answer_good plan before (Ok given) line said e =
    let same = fit_same before given line e in
    record { said = subst (IsSaid2 plan) same (said given refl); fits = ap (fitting before) (sym same) ∙ e }

one_said : (plan : Plan) (text : List ℕ) (given : Line2) → as_one (line_of plan text) ≡ Ok given → IsSaid2 plan given
one_said plan text given e = by (line_of plan text) refl e
  where
    by : (r : Result Line LineFault) → line_of plan text ≡ r → as_one r ≡ Ok given → IsSaid2 plan given
    by (Ok line) k e = subst (IsSaid2 plan) (ok_of (One line) given e) (line_said plan text line k)
    by (Err fault) k e = cc

two_said : (plan : Plan) (text : List ℕ) (given : Line2) → line2_of plan text ≡ Ok given → IsSaid2 plan given
two_said plan text (One line) e = line_said plan text line (one_only plan text line e)
two_said plan text Flush e = tt
two_said plan text (Trigger byte) e = trigger_small plan text byte e

line_good : (plan : Plan) (version : Version) (before : List Line2) (text : List ℕ) (line : Line2) →
    says plan version before text ≡ Ok line → CanBePut plan before line
line_good plan Unknown before text line e = by (bytes_eq header text) e
  where
    by : (v : Bool) → (if v then Ok (One Nothing) else says_one plan before text) ≡ Ok line → CanBePut plan before line
    by true e = subst (CanBePut plan before) (ok_of (One Nothing) line e) (record { said = tt; fits = refl })
    by false e = answer_good plan before (as_one (line_of plan text)) line (one_said plan text) e
line_good plan First before text line e = answer_good plan before (as_one (line_of plan text)) line (one_said plan text) e
line_good plan Second before text line e = answer_good plan before (line2_of plan text) line (two_said plan text) e

all_good : (plan : Plan) (version : Version) (before : List Line2) (texts : List (List ℕ)) (lines : List Line2) →
    AreFrom plan version before texts lines → CanAllBePut plan before lines
all_good plan version before texts [] h = tt
all_good plan version before [] (line ∷ lines) h = absurd h
all_good plan version before (text ∷ texts) (line ∷ lines) h =
    (line_good plan version before text line h.0, all_good plan (version_after version text) (before ++ line ∷ []) texts lines h.1)

-- one line more
pub put_more : (plan : Plan) (before lines : List Line2) (line : Line2) → CanAllBePut plan before lines → CanBePut plan (before ++ lines) line →
    CanAllBePut plan before (lines ++ line ∷ [])
put_more plan before [] line all one = (subst (λ (l : List Line2). CanBePut plan l line) (append-nil before) one, tt)
put_more plan before (x ∷ lines) line all one =
    (all.0, put_more plan (before ++ x ∷ []) lines line all.1 (subst (λ (l : List Line2). CanBePut plan l line) (sym (append_assoc before (x ∷ []) lines)) one))

pub script_good : (plan : Plan) (script : List ℕ) → CanAllBePut plan [] (script_of plan script).lines
script_good plan script =
    let m = read_from plan Unknown (lines_in script) [] in
    subst (CanAllBePut plan []) (sym m.lines_are) (all_good plan Unknown [] (lines_in script) m.more m.all)

-- the STP items of a source are fitting ones
given_more : (x : ℕ) (before : List Line2) (line : Line2) →
    given_items x (before ++ line ∷ []) ≡ given_items x before ++ by_item (items_by x) line
given_more x before line =
    flat_map-append (by_item (items_by x)) before (line ∷ [])
    ∙ ap (λ (l : List StpItem). given_items x before ++ l) (append-nil (by_item (items_by x) line))

is_fit : (line : Line) (v : Bool) → (let r : Result Line LineFault = if v then Err Unfit else Ok line in as_one r ≡ Ok (One line)) → v ≡ false
is_fit line true e = cc
is_fit line false e = refl

item_fits : (plan : Plan) (x : ℕ) (before : List Line2) (item : Item) → CanBePut plan before (One (Of x item)) → AreFitting (given_items x before) →
    AreFitting (given_items x before ++ items_of item)
item_fits plan x before (Stp item) g h =
    more_fit (given_items x before) item h g.said.2.0 (is_fit (Of x (Stp item)) (is_unfit (version_after_items (given_items x before)) item) g.fits)
item_fits plan x before item g h = subst AreFitting (sym (append-nil (given_items x before))) h

line_fits : (plan : Plan) (x : ℕ) (before : List Line2) (line : Line2) → CanBePut plan before line → AreFitting (given_items x before) →
    AreFitting (given_items x before ++ by_item (items_by x) line)
line_fits plan x before (One (Of id item)) g h = by (id == x) refl
  where
    by : (v : Bool) → (id == x) ≡ v → AreFitting (given_items x before ++ (if v then items_of item else []))
    by true e =
        let same : id ≡ x = grind (arith, nat_tests) in
        item_fits plan x before item (subst (λ (k : ℕ). CanBePut plan before (One (Of k item))) same g) h
    by false e = subst AreFitting (sym (append-nil (given_items x before))) h
line_fits plan x before line g h = subst AreFitting (sym (append-nil (given_items x before))) h

items_fit : (plan : Plan) (x : ℕ) (before lines : List Line2) → CanAllBePut plan before lines → AreFitting (given_items x before) →
    AreFitting (given_items x (before ++ lines))
items_fit plan x before [] g h = subst (λ (l : List Line2). AreFitting (given_items x l)) (sym (append-nil before)) h
items_fit plan x before (line ∷ lines) g h =
    subst (λ (l : List Line2). AreFitting (given_items x l)) (append_assoc before (line ∷ []) lines)
    (items_fit plan x (before ++ line ∷ []) lines g.1 (subst AreFitting (sym (given_more x before line)) (line_fits plan x before line g.0 h)))

pub all_fit : (plan : Plan) (x : ℕ) (lines : List Line2) → CanAllBePut plan [] lines → AreFitting (given_items x lines)
all_fit plan x lines g = items_fit plan x [] lines g none_fit
