-- How much room a formatter has.
use Rattle.std.proofs.Common.{◌≡◌, refl, ◌+◌, ◌*◌, ◌≤◌, ℕ, arith}
use Rattle.script_rebuild.specs.Names.{Formatter}
use Rattle.script_rebuild.specs.Spending.{CanSpend, Spends}
use Rattle.port_formatter.specs.Formatter.{HasRoom, count_of, turns_of}
use Rattle.port_formatter.specs.declared.formatter.Formatter.TheVariants.{Straight, Funnelled}

-- room for more is room for less
pub less_room : (f : Formatter) (m n : ℕ) → n ≤ m → HasRoom f m → HasRoom f n
less_room (Straight f) m n le h = omega (arith, h)
less_room (Funnelled f) m n le h = omega (arith, h)

-- there is room for so many bytes
pub bytes_room : (f : Formatter) (n : ℕ) → n ≤ 100 → CanSpend 200 f → HasRoom f (2 * n)
bytes_room f n few can = less_room f 200 (2 * n) (omega (arith, few)) can.room

-- no more is taken by them
pub bytes_spent : (old new : Formatter) (n : ℕ) → n ≤ 100 → turns_of new ≡ turns_of old →
    count_of new ≤ count_of old + n → ((more : ℕ) → HasRoom old (2 * n + more) → HasRoom new more) → Spends 200 old new
bytes_spent old new n few turns count room = record {
  turns = turns;
  count = omega (arith, few, count);
  room = λ more h. room more (less_room old (200 + more) (2 * n + more) (omega (arith, few)) h);
}

-- nor by nothing
pub nothing_spent : (f : Formatter) (pairs : ℕ) → Spends pairs f f
nothing_spent f pairs = record {
  turns = refl;
  count = omega arith;
  room = λ more h. less_room f (pairs + more) more (omega arith) h;
}
