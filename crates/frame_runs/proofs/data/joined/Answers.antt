use Rattle.std.proofs.Common.{◌≡◌, ℕ, List, [], ◌∷◌, ◌++◌, length, take, drop, ◌∙◌, ap, rules}
use Rattle.std.proofs.lemmas.List.{append-nil}
use Rattle.std.proofs.Math.Seq.{take-append_seam, drop-append_seam}
use Rattle.frame_runs.proofs.data.joined.Goals as goal

front : (n : ℕ) (a z : List ℕ) → length a ≡ n → take n (a ++ z) ≡ a
front n a z h = rw (← h) (take-append_seam a z)

behind : (n : ℕ) (a z : List ℕ) → length a ≡ n → drop n (a ++ z) ≡ z
behind n a z h = rw (← h) (drop-append_seam a z)

abbrev zeros : List ℕ
zeros = 0 ∷ 0 ∷ 0 ∷ 0 ∷ 0 ∷ 0 ∷ 0 ∷ 0 ∷ []

halves : (a b : List ℕ) → length a ≡ 8 → take 8 (a ++ zeros) ++ (b ++ drop 8 (drop 8 (a ++ zeros))) ≡ a ++ b
halves a b h =
    ap (λ (l : List ℕ). l ++ (b ++ drop 8 (drop 8 (a ++ zeros)))) (front 8 a zeros h)
    ∙ ap (λ (l : List ℕ). a ++ (b ++ drop 8 l)) (behind 8 a zeros h)
    ∙ ap (λ (l : List ℕ). a ++ l) (append-nil b)

pub returns : goal.returns
returns c = rw (c.copy_from_slice.ensures.after, c.copy_from_slice-2.ensures.after) (halves c.args.first.now c.args.last.now (search rules))
