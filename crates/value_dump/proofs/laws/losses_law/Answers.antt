use Rattle.std.proofs.Common.{◌≡◌, ℕ, ◌+◌, List, [], ◌∷◌, ◌++◌, ◌∙◌, ap, arith, Bool, true, false, cond}
use Rattle.std.proofs.Common.{Some, refl}
use Rattle.std.specs.Prelude.{◌%◌, count_by}
use Rattle.std.specs.List.{list_any, slice_split}
use Rattle.std.proofs.lemmas.List.Sums.{sum_by-append, sum_by-cons}
use Rattle.value_dump.specs.Names.{ItmPacket}
use Rattle.value_dump.specs.Signals.{is_local, is_overflow, losses}
use Rattle.value_dump.specs.Telling.{toggled}
use Rattle.value_dump.proofs.Packets.{flips}
use Rattle.value_dump.proofs.Splits.{split_at, split_more}
use Rattle.value_dump.proofs.laws.losses_law.Goals as goal

abbrev is_lossy : List ItmPacket → Bool
is_lossy packets = list_any is_overflow packets

abbrev one_if : Bool → ℕ
one_if is_lossy = cond is_lossy 1 0

-- the count over some stretches, and over others
counted_more : (xs ys : List (List ItmPacket)) →
    count_by is_lossy (xs ++ ys) ≡ count_by is_lossy xs + count_by is_lossy ys
counted_more xs ys = sum_by-append (λ (part : List ItmPacket). one_if (is_lossy part)) xs ys

-- one stretch up to a timestamp, and none after it
counted_stretch : (stretch : List ItmPacket) (stamp : ItmPacket) → list_any is_local stretch ≡ false →
    is_local stamp ≡ true → losses (stretch ++ stamp ∷ []) ≡ one_if (is_lossy stretch)
counted_stretch stretch stamp h e =
    let k = sum_by-cons (λ (part : List ItmPacket). one_if (is_lossy part)) stretch ([] ∷ []) in
    let z : count_by is_lossy ([] ∷ []) ≡ 0 = refl in
    ap (count_by is_lossy) (split_at is_local stretch stamp [] h e) ∙ k
    ∙ ap (λ (n : ℕ). one_if (is_lossy stretch) + n) z ∙ omega arith

counted_after : (packets stretch : List ItmPacket) (before stamp : ItmPacket) → is_local before ≡ true →
    list_any is_local stretch ≡ false → is_local stamp ≡ true →
    losses (packets ++ before ∷ (stretch ++ stamp ∷ [])) ≡ losses (packets ++ before ∷ []) + one_if (is_lossy stretch)
counted_after packets stretch before stamp b h e =
    let all =
    ap (count_by is_lossy) (split_more is_local packets before (stretch ++ stamp ∷ []) b)
    ∙ counted_more (slice_split is_local packets) (slice_split is_local (stretch ++ stamp ∷ [])) in
    let old =
    ap (count_by is_lossy) (split_more is_local packets before [] b)
    ∙ counted_more (slice_split is_local packets) ([] ∷ []) in
    let z : count_by is_lossy ([] ∷ []) ≡ 0 = refl in
    let last = counted_stretch stretch stamp h e in
    omega (arith, all, old, z, last)

changes : (count more : ℕ) (is_lossy : Bool) → more ≡ count + one_if is_lossy →
    Some (more % 2) ≡ cond is_lossy (toggled (Some (count % 2))) (Some (count % 2))
changes count more true e = ap (λ (n : ℕ). Some (n % 2)) e ∙ flips count
changes count more false e = ap (λ (n : ℕ). Some (n % 2)) (let f : more ≡ count = omega (arith, e) in f)

pub returns-clause-start : goal.returns-clause-start
returns-clause-start c = refl

pub returns-clause-first : goal.returns-clause-first
returns-clause-first c = λ stretch stamp h e.
    let last = counted_stretch stretch stamp h e in
    let none : losses [] ≡ 0 = refl in
    changes (losses []) (losses (stretch ++ stamp ∷ [])) (is_lossy stretch) (omega (arith, last, none))

pub returns-clause-next : goal.returns-clause-next
returns-clause-next c = λ packets stretch before stamp b h e.
    changes (losses (packets ++ before ∷ [])) (losses (packets ++ before ∷ (stretch ++ stamp ∷ []))) (is_lossy stretch)
    (counted_after packets stretch before stamp b h e)
