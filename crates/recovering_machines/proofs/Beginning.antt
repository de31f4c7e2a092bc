-- The byte with which a hunt begins: its units are those of the hunt, after one that is passed over or none.
use Rattle.std.proofs.Common.{◌≡◌, ℕ, zero, suc, ◌*◌, ◌/◌, ◌%◌, List, [], ◌∷◌, ◌++◌, length, refl, sym, ◌∙◌, ap}
use Rattle.std.proofs.Common.{arith, true}
use Rattle.trace_values.specs.Nibbles.{low_of, high_of}
use Rattle.trace_values.specs.Placed.{Placed, byte_at}
use Rattle.stp_codec.specs.Decoder as stp
use Rattle.source_machine.specs.Units.{kind_of, reads_on, units_at, units_from}
use Rattle.source_machine.specs.declared.machine.SourceMachine.{SourceMachine}
use Rattle.source_machine.specs.declared.machine.SourceMachine.TheVariants.{Itm as ItmSource, Stp as StpSource}
use Rattle.recovering_machines.specs.Units.{ArePassed, AreWhole, BeginsHunt}
use Rattle.recovering_machines.specs.declared.source.FirstByte.{FirstByte}
use Rattle.recovering_machines.proofs.Passed.{none_passed, zero_passed}

pub record Begins (m : SourceMachine) (half at byte : ℕ) (first : FirstByte) : Type 0 where
  pub front : List Placed
  pub size : length front ≡ first.passed
  pub passed : ArePassed (reads_on m true) front
  pub units : units_at (kind_of m) at first.byte ≡ front ++ units_from (kind_of m) half at byte
  pub whole : AreWhole (kind_of m) (front ++ units_from (kind_of m) half at byte)

-- of a byte whose low nibble is made 0
low_made : (at byte : ℕ) → (low_of at (byte / 16 * 16)).unit ≡ 0
low_made at byte = omega arith

high_kept : (at byte : ℕ) → high_of at (byte / 16 * 16) ≡ high_of at byte
high_kept at byte = ap (λ (n : ℕ). record { unit = n; place = record { at = at; half = 1 } })
    (let e : byte / 16 * 16 / 16 % 16 ≡ byte / 16 % 16 = omega arith in e)

pub begins : (m : SourceMachine) (half at byte : ℕ) (first : FirstByte) → BeginsHunt (kind_of m) half byte first →
    Begins m half at byte first
begins (ItmSource d) half at byte first b = record {
  front = [];
  size = sym b.1;
  passed = none_passed _;
  units = ap (λ (n : ℕ). byte_at at n ∷ []) b.0;
  whole = record { bytes = byte_at at byte ∷ []; are = refl };
}
begins (StpSource d) zero at byte first b = record {
  front = [];
  size = sym b.1;
  passed = none_passed _;
  units = ap (λ (n : ℕ). low_of at n ∷ (high_of at n ∷ [])) b.0;
  whole = record { bytes = byte_at at byte ∷ []; are = refl };
}
begins (StpSource d) (suc half) at byte first b =
    let made = byte / 16 * 16 in
    let last = high_kept at byte in
    record {
      front = low_of at made ∷ [];
      size = sym b.1;
      passed = zero_passed (stp.order_of d) (low_of at made) (low_made at byte);
      units =
          ap (λ (n : ℕ). low_of at n ∷ (high_of at n ∷ [])) b.0
          ∙ ap (λ (z : Placed). low_of at made ∷ (z ∷ [])) last;
      whole =
          record {
            bytes = byte_at at made ∷ [];
            are = ap (λ (z : Placed). low_of at made ∷ (z ∷ [])) (sym last);
          };
    }
