-- The fronts of a room.
use Rattle.std.proofs.Common.{◌≡◌, ℕ, ◌+◌, ◌≤◌, List, ◌++◌, length, take, sym, ◌∙◌, ap, arith}
use Rattle.std.proofs.Math.Seq.{take-append-add}
use Rattle.std.proofs.lemmas.List.{take-append-le, take-append-drop, length-take-le}
use Rattle.std.proofs.Common.{drop}

-- a front of a front is a front
pub front : (n m : ℕ) (xs : List ℕ) → n ≤ m → m ≤ length xs → take n xs ≡ take n (take m xs)
front n m xs h l =
    ap (take n) (sym (take-append-drop m xs))
    ∙ take-append-le n (take m xs) (drop m xs) (let e = length-take-le m xs l in omega arith)

-- the first of the bytes that were put
pub part : (from len size : ℕ) (old new bytes : List ℕ) → from ≤ length old →
    take (from + size) new ≡ take from old ++ bytes → len ≤ size → from + size ≤ length new →
    take (from + len) new ≡ take from old ++ take len bytes
part from len size old new bytes l e h k =
    front (from + len) (from + size) new (omega arith) k ∙ ap (take (from + len)) e
    ∙ ap (λ (n : ℕ). take (n + len) (take from old ++ bytes)) (sym (length-take-le from old l))
    ∙ take-append-add (take from old) bytes len
