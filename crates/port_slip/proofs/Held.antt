-- What a realigner holds of the open segment.
use Rattle.std.proofs.Common.{◌≡◌, ◌<◌, ℕ, ◌+◌, List, [], ◌++◌, length, length-append, sym, ◌∙◌, ap, arith}
use Rattle.std.proofs.Common.{append-nil, refl}
use Rattle.std.specs.Prelude.{flat_map}
use Rattle.std.proofs.lemmas.Bool.{eqb-true}
use Rattle.port_slip.specs.declared.slip.Slip.{Slip}
use Rattle.port_slip.specs.declared.phase.SlipPhase.{SlipPhase}
use Rattle.port_slip.specs.declared.phase.SlipPhase.TheVariants.{Hunting, Open}
use Rattle.port_slip.specs.Bits.{bits_of, whole_bytes}
use Rattle.port_slip.specs.Segments.{Realigned, cut, realigned}
use Rattle.port_slip.specs.Coming.{coming, held_in, kept_bits, none_found}
use Rattle.port_slip.specs.Slip.{Keeps, Stands}
use Rattle.port_slip.proofs.Bits.{bits_length}
use Rattle.port_slip.proofs.Steps.{hunt_over, pass_over}
use Rattle.port_slip.proofs.Standing.{none}
use Rattle.port_slip.proofs.Sureness.{whole_length}

module _ (s : Slip) (bytes so_far : List ℕ) (h : Stands s bytes so_far) where
  all : realigned bytes ≡ record {
    bytes = so_far ++ (coming s.phase []).bytes;
    skipped = s.skipped + (coming s.phase []).skipped;
    dropped = s.dropped + (coming s.phase []).dropped;
    patterns = s.patterns + (coming s.phase []).patterns;
  }
  all = ap realigned (sym (append-nil bytes)) ∙ h.completes []

  -- after a pattern it keeps its window's bits
  pub open_held : 0 < (realigned bytes).patterns → Keeps bytes so_far (held_in s.phase)
  open_held some = by s.phase refl where
    by : (p : SlipPhase) → s.phase ≡ p → Keeps bytes so_far (held_in p)
    by (Hunting run) e =
        let c = ap (λ (q : SlipPhase). coming q []) e ∙ hunt_over run in
        let zero : s.patterns ≡ 0 =
        eqb-true s.patterns 0 (ap (λ (q : SlipPhase). none_found q s.patterns) (sym e) ∙ s.none) in
        let p = ap (λ (r : Realigned). r.patterns) c in
        let n = ap (λ (r : Realigned). r.patterns) all in
        absurd (omega arith)
    by (Open w) e = record {
      kept = kept_bits w;
      long = bits_length w.held w.kept;
      rest = λ more.
          ap (λ (r : Realigned). r.bytes) (h.completes more)
          ∙ ap (λ (q : SlipPhase). so_far ++ (coming q (bits_of more)).bytes) e;
    }

  -- where there is no pattern there is no segment
  pub none_held : (realigned bytes).patterns ≡ 0 → held_in s.phase ≡ 0
  none_held z = by s.phase refl where
    by : (p : SlipPhase) → s.phase ≡ p → held_in p ≡ 0
    by (Hunting run) e = refl
    by (Open w) e =
        let l = w.sound.long in
        let k = bits_length w.held w.kept in
        let m = w.most in
        let c = ap (λ (q : SlipPhase). coming q []) e ∙ pass_over w.run (kept_bits w) w.sound (omega (arith, k, m)) in
        let empty : (realigned bytes).bytes ≡ [] = ap (flat_map whole_bytes) (none (cut (bits_of bytes)).segments z) in
        let b : [] ≡ so_far ++ whole_bytes (kept_bits w) =
        sym empty ∙ ap (λ (r : Realigned). r.bytes) all ∙ ap (λ (r : Realigned). so_far ++ r.bytes) c in
        let a = length-append so_far (whole_bytes (kept_bits w)) in
        let four = whole_length 4 (kept_bits w) (omega (arith, l)) (omega (arith, k, m)) in
        let n : 0 ≡ length (so_far ++ whole_bytes (kept_bits w)) = ap length b in
        absurd (omega (arith, n, a, four))
