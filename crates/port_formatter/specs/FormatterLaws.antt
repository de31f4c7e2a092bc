-- How much room a formatter has that gave all that is sure.
use Rattle.std.proofs.Common.{◌≡◌, ◌≤◌, ℕ, ◌+◌, ◌*◌, List, [], ◌∷◌, length, refl, arith}
use Rattle.port_formatter.specs.Names.{held_by, pairs_of, SureWriter, Paid, owing}
use Rattle.port_formatter.specs.Formatter.{debt_of, HasRoom}
use Rattle.port_formatter.specs.declared.formatter.Formatter.{Formatter}
use Rattle.port_formatter.specs.declared.formatter.Formatter.TheVariants.{Straight, Funnelled}

-- where nothing is owed nothing is kept
none_kept : (kept : List ℕ) → owing kept (length kept) ≡ Paid → length kept ≡ 0
none_kept [] e = refl
none_kept (b ∷ kept) e = absurd (let no = e in cc)

held_few : (w : SureWriter) → 7 * held_by w + 132 * pairs_of w ≤ 132 * 14
held_few w = let a = w.few in let b = w.writer.fits in omega (arith, a, b)

-- the bytes of a line, of the kept nibbles of eight sources and of the end of a segment may be put before any is given
pub paid_room : (f : Formatter) → debt_of f ≡ Paid → HasRoom f 226
paid_room (Straight f) e =
    let none = none_kept f.kept.items e in let few = held_few f.frames in omega (arith, none, few)
paid_room (Funnelled f) e =
    let none = none_kept f.ring.kept.items e in
    let few = held_few f.ring.frames in
    let load = f.few in
    let room = f.room in
    omega (arith, none, few, load, room)
