-- What follows an unfinished frame.
use Rattle.std.specs.Prelude.{◌≡◌, ℕ, ◌+◌, ◌-◌, List, [], ◌∷◌, ◌++◌, length, Bool, true, false, not, ◌&&◌, Option, None}
use Rattle.std.specs.Prelude.{Some, nat_lt}
use Rattle.frame_writer.specs.declared.pair.Pair.{Pair}
use Rattle.frame_writer.specs.Written.{Tagged, Later, filled, frame_bytes, frames_from, is_due}

-- a byte that is held, of the ID in force, comes before the others
abbrev pub queued : Option ℕ → Option ℕ → List Tagged → List Tagged
queued None c t = t
queued (Some b) None t = t
queued (Some b) (Some i) t = record { id = i; byte = b } ∷ t

-- frame n, which begins with these pairs, and the frames after it
abbrev pub middle : ℕ → ℕ → Later → ℕ → List Pair → Option ℕ → List Tagged → List (List ℕ)
middle every halves later n pairs c t =
    let f = filled (7 - length pairs) c t in
    frame_bytes every halves n (pairs ++ f.pairs) f.end.even f.end.aux
    ∷ frames_from every halves later (n + 1) f.end.id f.end.rest

-- the same, where without a pair no frame is begun
abbrev pub continued : ℕ → ℕ → Later → ℕ → List Pair → Option ℕ → Option ℕ → List Tagged → List (List ℕ)
continued every halves later n [] c held t = frames_from every halves later n c (queued held c t)
continued every halves later n (p ∷ pairs) c held t = middle every halves later n (p ∷ pairs) c (queued held c t)

abbrev pub is_empty : List Pair → Bool
is_empty [] = true
is_empty (p ∷ pairs) = false

-- no ID is known where the next frame begins with a full synchronisation; a byte is held only under a known ID of a
-- source, for a pair
abbrev pub is_sound : ℕ → ℕ → List Pair → Option ℕ → Option ℕ → Bool
is_sound every n pairs None None = true
is_sound every n pairs None (Some b) = false
is_sound every n pairs (Some i) None = not (is_empty pairs && is_due every n)
is_sound every n pairs (Some i) (Some b) =
    (nat_lt 0 i && nat_lt (length pairs) 7) && not (is_empty pairs && is_due every n)

-- one list
abbrev pub HasOne : List (List ℕ) → Type 0
HasOne l = (x : List ℕ) × (l ≡ x ∷ [])
