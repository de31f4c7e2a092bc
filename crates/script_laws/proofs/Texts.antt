-- A script is read text by text, up to the first fault.
use Rattle.std.proofs.Common.{◌≡◌, ℕ, zero, suc, ◌+◌, ◌<◌, ◌≤◌, List, [], ◌∷◌, ◌++◌, length, take, refl, sym, ◌∙◌, ap}
use Rattle.std.proofs.Common.{subst, arith, append-nil, append_assoc, Option, None, Some, Result, Ok, Err}
use Rattle.script_laws.specs.Names.{Plan, Line2, LineFault, Version, Unknown, Reading, version_after, version_then}
use Rattle.script_laws.specs.Names.{says, read_on, read_in, read_texts}
use Rattle.script_laws.specs.Reading.{text_at, line_at, AreLinesOf, EndsWith}

-- what the text of this number says after lines, where this is known of the version before the texts
abbrev says_from : Plan → Version → List (List ℕ) → List Line2 → ℕ → Result Line2 LineFault
says_from plan version texts before k = says plan (version_then version (take k texts)) before (text_at texts k)

-- these lines are what the first of these texts say, after some lines
abbrev pub AreFrom : Plan → Version → List Line2 → List (List ℕ) → List Line2 → Type 0
AreFrom plan version before texts [] = Unit {0}
AreFrom plan version before [] (line ∷ lines) = ⊥
AreFrom plan version before (text ∷ texts) (line ∷ lines) =
    (says plan version before text ≡ Ok line)
    × AreFrom plan (version_after version text) (before ++ line ∷ []) texts lines

-- and how their reading ends
abbrev EndsFrom : Plan → Version → List Line2 → List (List ℕ) → List Line2 → Option (ℕ × LineFault) → Type 0
EndsFrom plan version before texts lines None = length lines ≡ length texts
EndsFrom plan version before texts lines (Some found) =
    (found.0 ≡ length (before ++ lines) + 1) × (length lines + 1 ≤ length texts)
    × (says_from plan version texts (before ++ lines) (length lines) ≡ Err found.1)

pub record IsReadFrom (plan : Plan) (version : Version) (before : List Line2) (texts : List (List ℕ)) (r : Reading) : Type 0 where
  pub more : List Line2
  pub lines_are : r.lines ≡ before ++ more
  pub all : AreFrom plan version before texts more
  pub ends : EndsFrom plan version before texts more r.fault

module _ (plan : Plan) (version : Version) (before : List Line2) (line : Line2) (text : List ℕ) (texts : List (List ℕ))
    (more : List Line2) where
  abbrev next : Version
  next = version_after version text

  ends_later : (o : Option (ℕ × LineFault)) → EndsFrom plan next (before ++ line ∷ []) texts more o →
      EndsFrom plan version before (text ∷ texts) (line ∷ more) o
  ends_later None h = ap (λ (n : ℕ). suc n) h
  ends_later (Some found) h = (
    h.0 ∙ ap (λ (l : List Line2). length l + 1) (append_assoc before (line ∷ []) more),
    (let k = h.1 in omega arith),
    ap (λ (l : List Line2). says_from plan next texts l (length more)) (sym (append_assoc before (line ∷ []) more)) ∙ h.2,
  )

  -- and the other way
  ends_earlier : (o : Option (ℕ × LineFault)) → EndsFrom plan version before (text ∷ texts) (line ∷ more) o →
      EndsFrom plan next (before ++ line ∷ []) texts more o
  ends_earlier None h = (let k : suc (length more) ≡ suc (length texts) = h in omega arith)
  ends_earlier (Some found) h = (
    h.0 ∙ ap (λ (l : List Line2). length l + 1) (sym (append_assoc before (line ∷ []) more)),
    (let k : suc (length more) + 1 ≤ suc (length texts) = h.1 in omega arith),
    ap (λ (l : List Line2). says_from plan next texts l (length more)) (append_assoc before (line ∷ []) more) ∙ h.2,
  )

pub read_from : (plan : Plan) (version : Version) (texts : List (List ℕ)) (before : List Line2) →
    IsReadFrom plan version before texts (read_in plan version before texts)
read_from plan version [] before = record { more = []; lines_are = sym (append-nil before); all = tt; ends = refl }
read_from plan version (text ∷ texts) before =
    by (says plan version before text) refl (λ line. read_from plan known texts (before ++ line ∷ []))
  where
    known : Version
    known = version_after version text

    by : (r : Result Line2 LineFault) → says plan version before text ≡ r →
        ((line : Line2) → IsReadFrom plan known (before ++ line ∷ []) texts (read_in plan known (before ++ line ∷ []) texts)) →
        IsReadFrom plan version before (text ∷ texts) (read_on (λ line. read_in plan known (before ++ line ∷ []) texts) before r)
    by (Ok line) e rest =
        let m = rest line in
        record {
          more = line ∷ m.more;
          lines_are = m.lines_are ∙ append_assoc before (line ∷ []) m.more;
          all = (e, m.all);
          ends = ends_later plan version before line text texts m.more (read_in plan known (before ++ line ∷ []) texts).fault m.ends;
        }
    by (Err fault) e rest = record {
      more = [];
      lines_are = sym (append-nil before);
      all = tt;
      ends = (
        ap (λ (l : List Line2). length l + 1) (sym (append-nil before)),
        omega arith,
        ap (λ (l : List Line2). says plan version l text) (append-nil before) ∙ e,
      );
    }

-- line by line, by their numbers
each : (plan : Plan) (version : Version) (before : List Line2) (texts : List (List ℕ)) (more : List Line2) →
    AreFrom plan version before texts more → (k : ℕ) → k < length more →
    says_from plan version texts (before ++ take k more) k ≡ Ok (line_at more k)
each plan version before texts [] h k l = absurd (omega arith)
each plan version before [] (line ∷ more) h k l = absurd h
each plan version before (text ∷ texts) (line ∷ more) h zero l =
    ap (λ (b : List Line2). says plan version b text) (append-nil before) ∙ h.0
each plan version before (text ∷ texts) (line ∷ more) h (suc k) l =
    ap (λ (b : List Line2). says_from plan (version_after version text) texts b k)
    (sym (append_assoc before (line ∷ []) (take k more)))
    ∙ each plan (version_after version text) (before ++ line ∷ []) texts more h.1 k (omega arith)

pub all_of : (plan : Plan) (texts : List (List ℕ)) → AreLinesOf plan texts (read_texts plan texts).lines
all_of plan texts =
    let m = read_from plan Unknown texts [] in
    subst (λ (lines : List Line2). AreLinesOf plan texts lines) (sym m.lines_are)
    (λ k l. each plan Unknown [] texts m.more m.all k l)

whole_ends : (plan : Plan) (texts : List (List ℕ)) (lines : List Line2) (o : Option (ℕ × LineFault)) →
    EndsFrom plan Unknown [] texts lines o → EndsWith plan texts lines o
whole_ends plan texts lines None h = h
whole_ends plan texts lines (Some found) h = (h.0, (let k = h.0 in let l = h.1 in omega arith), h.2)

pub ends_of : (plan : Plan) (texts : List (List ℕ)) →
    EndsWith plan texts (read_texts plan texts).lines (read_texts plan texts).fault
ends_of plan texts =
    let m = read_from plan Unknown texts [] in
    subst (λ (lines : List Line2). EndsWith plan texts lines (read_texts plan texts).fault) (sym m.lines_are)
    (whole_ends plan texts m.more (read_texts plan texts).fault m.ends)

-- and there is no other such reading
abbrev Each : Plan → Version → List Line2 → List (List ℕ) → List Line2 → Type 0
Each plan version before texts more =
    (k : ℕ) → k < length more → says_from plan version texts (before ++ take k more) k ≡ Ok (line_at more k)

abbrev reading_of : List Line2 → Option (ℕ × LineFault) → Reading
reading_of lines o = record { lines = lines; fault = o }

only_from : (plan : Plan) (version : Version) (texts : List (List ℕ)) (before more : List Line2) (o : Option (ℕ × LineFault)) →
    Each plan version before texts more → EndsFrom plan version before texts more o →
    read_in plan version before texts ≡ reading_of (before ++ more) o
only_from plan version [] before [] None h e = ap (λ (l : List Line2). reading_of l None) (sym (append-nil before))
only_from plan version [] before [] (Some found) h e = absurd (let k : 0 + 1 ≤ 0 = e.1 in omega arith)
only_from plan version [] before (line ∷ more) None h e = absurd (let k : suc (length more) ≡ 0 = e in cc)
only_from plan version [] before (line ∷ more) (Some found) h e =
    absurd (let k : suc (length more) + 1 ≤ 0 = e.1 in omega arith)
only_from plan version (text ∷ texts) before [] None h e = absurd (let k : 0 ≡ suc (length texts) = e in cc)
only_from plan version (text ∷ texts) before [] (Some found) h e =
    let own : says plan version before text ≡ Err found.1 =
    ap (λ (l : List Line2). says plan version l text) (sym (append-nil before)) ∙ e.2 in
    let number : length before + 1 ≡ found.0 =
    ap (λ (l : List Line2). length l + 1) (sym (append-nil before)) ∙ sym e.0 in
    ap (read_on (λ line. read_in plan (version_after version text) (before ++ line ∷ []) texts) before) own
    ∙ ap (λ (n : ℕ). reading_of before (Some (n, found.1))) number
    ∙ ap (λ (l : List Line2). reading_of l (Some found)) (sym (append-nil before))
only_from plan version (text ∷ texts) before (line ∷ more) o h e =
    let own : says plan version before text ≡ Ok line =
    ap (λ (l : List Line2). says plan version l text) (sym (append-nil before)) ∙ h 0 (omega arith) in
    ap (read_on (λ line. read_in plan (version_after version text) (before ++ line ∷ []) texts) before) own
    ∙ only_from plan (version_after version text) texts (before ++ line ∷ []) more o
    (λ k l. ap (λ (b : List Line2). says_from plan (version_after version text) texts b k)
    (append_assoc before (line ∷ []) (take k more)) ∙ h (suc k) (omega arith))
    (ends_earlier plan version before line text texts more o e)
    ∙ ap (λ (l : List Line2). reading_of l o) (append_assoc before (line ∷ []) more)

from_whole : (plan : Plan) (texts : List (List ℕ)) (lines : List Line2) (o : Option (ℕ × LineFault)) →
    EndsWith plan texts lines o → EndsFrom plan Unknown [] texts lines o
from_whole plan texts lines None h = h
from_whole plan texts lines (Some found) h = (h.0, (let k = h.0 in let l = h.1 in omega arith), h.2)

pub only_reading : (plan : Plan) (texts : List (List ℕ)) (lines : List Line2) (o : Option (ℕ × LineFault)) →
    AreLinesOf plan texts lines → EndsWith plan texts lines o → read_texts plan texts ≡ reading_of lines o
only_reading plan texts lines o h e = only_from plan Unknown texts [] lines o h (from_whole plan texts lines o e)
