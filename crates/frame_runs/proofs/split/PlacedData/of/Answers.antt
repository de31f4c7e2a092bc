use Rattle.std.proofs.Common.{◌≡◌, ℕ, List, ◌++◌, length, take, sym, ◌∙◌, ap, rules}
use Rattle.std.proofs.Math.Seq.{take-append_seam}
use Rattle.frame_runs.proofs.Placing.{placed}
use Rattle.frame_runs.proofs.split.PlacedData.of.Goals as goal

front : (bytes rest was : List ℕ) → length bytes ≡ 16 → bytes ≡ was → take 16 (bytes ++ rest) ≡ was
front bytes rest was l e = ap (λ (n : ℕ). take n (bytes ++ rest)) (sym l) ∙ take-append_seam bytes rest ∙ e

pub returns : goal.returns
returns c =
    let found = c.data_in_place.ensures in
    let put = c.copy_from_slice.ensures in
    placed c.args.frame.now.bytes c.args.frame.now.behind _ c.data_in_place.result.0 c.data_in_place.result.1 c.args.frame.now.at
    (let e : length c.args.frame.now.behind ≡ 16 = search rules in e)
    (let e : length c.data_in_place.result.1 ≡ 16 = search rules in e)
    (front c.copy_from_slice.new.self _ _ put.len put.after) found.even found.odd found.even_places found.odd_places
