-- Where a source locks, and what it gives from a point on.
use Rattle.std.specs.Prelude.{◌≡◌, ℕ, suc, ◌+◌, ◌*◌, ◌≤◌, List, [], ◌∷◌, ◌++◌, Bool, true, false, nat_le}
use Rattle.std.specs.Prelude.{Option, None, Some}
use Rattle.std.specs.List.{filter}
use Rattle.resync_rules.specs.Names.{Place, Placed, Stream, Said, Notice, Kept}

-- where a source locks: the place of the first notice
abbrev pub point_in : {V : Type 0} → List (Said V × Place) → Option Place
point_in [] = None
point_in ((Notice skipped, at) ∷ given) = Some at
point_in ((Kept v, at) ∷ given) = point_in given

-- places are in order by offset, and then by half
abbrev pub key : Place → ℕ
key p = 2 * p.at + p.half

-- at the point or after it, if there is one
abbrev pub is_from : Option Place → Place → Bool
is_from None at = false
is_from (Some point) at = nat_le (key point) (key at)

-- these numbers rise, from lo on and below hi
abbrev pub Between : {A : Type 0} → (A → ℕ) → ℕ → ℕ → List A → Type 0
Between f lo hi [] = lo ≤ hi
Between f lo hi (x ∷ xs) = (lo ≤ f x) × Between f (suc (f x)) hi xs

-- units at rising places
abbrev pub IsRising : List Placed → Type 0
IsRising u = (hi : ℕ) × Between (λ b. key b.place) 0 hi u

abbrev pub is_kept : {V : Type 0} → Said V → Bool
is_kept (Notice n) = false
is_kept (Kept v) = true

-- without the notices
abbrev pub items_of : {V : Type 0} → List (Said V × Place) → List (Said V × Place)
items_of given = filter (λ x. is_kept x.0) given

-- the point of a source is the place at which it locks
abbrev pub point_of : {V : Type 0} → Stream V → Option Place
point_of s = point_in s.given

-- what is given from a point on
abbrev pub from_point : {V : Type 0} → Option Place → List (Said V × Place) → List (Said V × Place)
from_point point given = filter (λ x. is_from point x.1) given

-- all of these are from the point on
abbrev pub AllFrom : {W : Type 0} → Option Place → List (W × Place) → Type 0
AllFrom point [] = Unit {0}
AllFrom point (e ∷ es) = (is_from point e.1 ≡ true) × AllFrom point es

-- Where units at rising places read without a fault: with each front w of those after u, the items of the rest are
-- those of the whole from the point on.
abbrev pub Follows : {V : Type 0} → (List Placed → Stream V) → (List Placed → Stream V) → Type 0
Follows {V} whole rest =
    (u w z : List Placed) → IsRising (u ++ (w ++ z)) → (whole (u ++ (w ++ z))).fault ≡ None →
    items_of (rest w).given ≡ from_point (point_of (rest (w ++ z))) (items_of (whole (u ++ w)).given)

-- The same for any rule of what a stream's point is, where the rest may have items before it.
abbrev pub FollowsFrom : {V : Type 0} → (Stream V → Option Place) → (List Placed → Stream V) →
    (List Placed → Stream V) → Type 0
FollowsFrom {V} point whole rest =
    (u w z : List Placed) → IsRising (u ++ (w ++ z)) → (whole (u ++ (w ++ z))).fault ≡ None →
    from_point (point (rest (w ++ z))) (items_of (rest w).given)
    ≡ from_point (point (rest (w ++ z))) (items_of (whole (u ++ w)).given)
