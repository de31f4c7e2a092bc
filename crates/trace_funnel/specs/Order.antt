-- The order of a funnel: the IDs of its places.
use Rattle.std.specs.Prelude.{ℕ, List, [], ◌∷◌, Bool, true, ◌==◌, ◌&&◌, nat_le, not}
use Rattle.std.specs.List.{list_any}

-- none of these is twice there, and all are from 1 to 126
abbrev pub are_apart : List ℕ → Bool
are_apart [] = true
are_apart (x ∷ xs) = nat_le 1 x && nat_le x 126 && not (list_any (λ y. y == x) xs) && are_apart xs
