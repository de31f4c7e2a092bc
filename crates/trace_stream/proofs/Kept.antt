use Rattle.std.proofs.Common.{◌≡◌, ℕ, ◌+◌, ◌-◌, List, ◌++◌, ap, ◌∙◌, sym, length, length-append, length-drop, drop, drop-drop, arith}
use Rattle.std.proofs.lemmas.List.{drop-append-le}
use Rattle.circular_buffer.specs.Buffer.{keep_last}
use Rattle.trace_stream.specs.Recent.{last_sixteen}

-- the last of the last bytes and more are the last of all
keep_last_again : (n : ℕ) (xs ys : List ℕ) → keep_last n (keep_last n xs ++ ys) ≡ keep_last n (xs ++ ys)
keep_last_again n xs ys =
    let cut = length xs - n in
    let kept = drop cut xs in
    let rest = length (kept ++ ys) - n in
    let front : kept ++ ys ≡ drop cut (xs ++ ys) = sym (drop-append-le cut xs ys (omega arith)) in
    let all : cut + rest ≡ length (xs ++ ys) - n = omega (arith, length-append kept ys, length-append xs ys, length-drop cut xs) in
    ap (drop rest) front ∙ drop-drop rest cut (xs ++ ys) ∙ ap (λ k. drop k (xs ++ ys)) all

-- the ring goes on by what was fed
pub kept_more : (recent recent' seen fed : List ℕ) → recent ≡ last_sixteen seen → recent' ≡ last_sixteen (recent ++ fed) → recent' ≡ last_sixteen (seen ++ fed)
kept_more recent recent' seen fed was now = now ∙ ap (λ l. last_sixteen (l ++ fed)) was ∙ keep_last_again 16 seen fed
