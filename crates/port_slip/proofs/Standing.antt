-- What a realigner has written is sure.
use Rattle.std.proofs.Common.{◌≡◌, ℕ, ◌+◌, ◌-◌, List, [], ◌∷◌, ◌++◌, length, length-append, take, Bool, refl, sym, ◌∙◌, ap, arith, append-nil}
use Rattle.std.specs.Prelude.{flat_map}
use Rattle.std.proofs.lemmas.Bool.{eqb-true}
use Rattle.port_slip.specs.declared.slip.Slip.{Slip}
use Rattle.port_slip.specs.declared.phase.SlipPhase.{SlipPhase}
use Rattle.port_slip.specs.declared.phase.SlipPhase.TheVariants.{Hunting, Open}
use Rattle.port_slip.specs.Bits.{bits_of, whole_bytes}
use Rattle.port_slip.specs.Segments.{Realigned, cut, realigned}
use Rattle.port_slip.specs.Coming.{coming, kept_bits, none_found}
use Rattle.port_slip.specs.Slip.{Stands}
use Rattle.port_slip.specs.Sure.{sure}
use Rattle.port_slip.proofs.Bits.{bits_length}
use Rattle.port_slip.proofs.Steps.{hunt_over, pass_over}
use Rattle.port_slip.proofs.Sureness.{whole_length, take_front}

pub none : (l : List (List Bool)) → length l ≡ 0 → l ≡ []
none [] h = refl
none (x ∷ l) h = absurd (omega arith)

pub stands_sure : (s : Slip) (bytes so_far : List ℕ) → Stands s bytes so_far → so_far ≡ sure bytes
stands_sure s bytes so_far h = by s.phase refl where
  all : realigned bytes ≡ record {
    bytes = so_far ++ (coming s.phase []).bytes;
    skipped = s.skipped + (coming s.phase []).skipped;
    dropped = s.dropped + (coming s.phase []).dropped;
    patterns = s.patterns + (coming s.phase []).patterns;
  }
  all = ap realigned (sym (append-nil bytes)) ∙ h.completes []

  by : (p : SlipPhase) → s.phase ≡ p → so_far ≡ sure bytes
  by (Hunting run) e =
      let c = ap (λ (q : SlipPhase). coming q []) e ∙ hunt_over run in
      let zero : s.patterns ≡ 0 = eqb-true s.patterns 0 (ap (λ (q : SlipPhase). none_found q s.patterns) (sym e) ∙ s.none) in
      let n : length (cut (bits_of bytes)).segments ≡ 0 = ap (λ (r : Realigned). r.patterns) all ∙ (let p = ap (λ (r : Realigned). r.patterns) c in omega (arith, p, zero)) in
      let empty : (realigned bytes).bytes ≡ [] = ap (flat_map whole_bytes) (none (cut (bits_of bytes)).segments n) in
      let b : (realigned bytes).bytes ≡ so_far = ap (λ (r : Realigned). r.bytes) all ∙ ap (λ (r : Realigned). so_far ++ r.bytes) c ∙ append-nil so_far in
      sym b ∙ empty ∙ sym (ap (λ (l : List ℕ). take (length l - 4) l) empty)
  by (Open w) e =
      let l = w.sound.long in
      let k = bits_length w.held w.kept in
      let m = w.most in
      let c = ap (λ (q : SlipPhase). coming q []) e ∙ pass_over w.run (kept_bits w) w.sound (omega (arith, k, m)) in
      let b : (realigned bytes).bytes ≡ so_far ++ whole_bytes (kept_bits w) = ap (λ (r : Realigned). r.bytes) all ∙ ap (λ (r : Realigned). so_far ++ r.bytes) c in
      let four = whole_length 4 (kept_bits w) (omega (arith, l)) (omega (arith, k, m)) in
      let n : length (so_far ++ whole_bytes (kept_bits w)) - 4 ≡ length so_far = (let a = length-append so_far (whole_bytes (kept_bits w)) in omega (arith, a, four)) in
      sym (ap (λ (x : List ℕ). take (length x - 4) x) b ∙ ap (λ i. take i (so_far ++ whole_bytes (kept_bits w))) n ∙ take_front so_far (whole_bytes (kept_bits w)))
