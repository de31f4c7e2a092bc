-- The capture is made line by line: what is sure after some lines, and what comes after that.
use Rattle.std.proofs.Common.{◌≡◌, ℕ, ◌+◌, ◌≤◌, List, [], ◌∷◌, ◌++◌, length, drop, refl, sym, ◌∙◌, ap, append_assoc}
use Rattle.std.proofs.Common.{zero-add, arith}
use Rattle.std.proofs.lemmas.List.{take-append-drop}
use Rattle.std.proofs.lemmas.List.FromFn.{take-map-range_with_len, map-range_with_len_more}
use Rattle.std.proofs.Math.Seq.{drop-append_seam}
use Rattle.capture_exercise.specs.Names.{Msn, frames_by, written, Line2, in_order, segments_with_ends}
use Rattle.script_rebuild.specs.ScriptLaws.{sure_whole}
use Rattle.capture_exercise.specs.Exercise.{line_at, exercise_port, exercise_lines, exercise_capture}
use Rattle.capture_exercise.specs.Making.{so_far, later}

lines_begin : (items n : ℕ) → n ≤ items → exercise_lines items ≡ exercise_lines n ++ drop n (exercise_lines items)
lines_begin items n le =
    sym (take-append-drop n (exercise_lines items))
    ∙ ap (λ (l : List Line2). l ++ drop n (exercise_lines items)) (take-map-range_with_len line_at 0 items n le)

-- one line more
pub lines_more : (n : ℕ) → exercise_lines (n + 1) ≡ exercise_lines n ++ line_at n ∷ []
lines_more n = map-range_with_len_more line_at 0 n n (zero-add n)

-- what is sure after some lines is a front of the capture of all
front : (items n : ℕ) → n ≤ items → (rest : List ℕ) × (exercise_capture items ≡ so_far n ++ rest)
unfolding exercise_capture
front items n le =
    let ids = in_order (2 ∷ []) in
    let whole = sure_whole exercise_port Msn ids (exercise_lines n) (drop n (exercise_lines items)) (omega arith) in
    (whole.0, ap (λ (l : List Line2). written exercise_port (segments_with_ends Msn ids l)) (lines_begin items n le) ∙ whole.1)

-- before the first line all of the capture is to come
pub later_first : (items : ℕ) → later items 0 ≡ exercise_capture items
unfolding frames_by
later_first items = refl

-- what becomes sure with a line comes first
pub later_more : (items n : ℕ) (out : List ℕ) → n + 1 ≤ items → so_far (n + 1) ≡ so_far n ++ out → later items n ≡ out ++ later items (n + 1)
later_more items n out le e =
    let f = front items (n + 1) le in
    let all : exercise_capture items ≡ so_far n ++ (out ++ f.0) =
    f.1 ∙ ap (λ (l : List ℕ). l ++ f.0) e ∙ append_assoc (so_far n) out f.0 in
    let rest : later items (n + 1) ≡ f.0 =
    ap (drop (length (so_far (n + 1)))) f.1 ∙ drop-append_seam (so_far (n + 1)) f.0 in
    ap (drop (length (so_far n))) all ∙ drop-append_seam (so_far n) (out ++ f.0) ∙ ap (λ (l : List ℕ). out ++ l) (sym rest)

-- after the last line it is all that is not sure
pub later_last : (items : ℕ) (out : List ℕ) → exercise_capture items ≡ so_far items ++ out → later items items ≡ out
later_last items out e = ap (drop (length (so_far items))) e ∙ drop-append_seam (so_far items) out
