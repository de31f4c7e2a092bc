-- No pattern ends in eight bytes after a short run, where no byte in an even place is FF.
use Rattle.std.proofs.Common.{◌≡◌, ◌≢◌, ℕ, ◌<◌, List, [], ◌∷◌, ◌++◌, length, min, get_or, Bool, true, refl, sym, ◌∙◌, ap, inl, inr, arith, append-nil}
use Rattle.std.proofs.lemmas.Bool.{cases_eq}
use Rattle.port_slip.specs.Bits.{bits, bits_of}
use Rattle.port_slip.specs.Runs.{run_after, is_quiet, RunsOn}
use Rattle.port_slip.proofs.Bits.{AreBytes, bits_length}
use Rattle.port_slip.proofs.Runs.{run_append, quiet_append, run_most}
use Rattle.port_slip.proofs.Table.{first_parts, last_run}
use Rattle.port_slip.proofs.Windows.{quiet_full, quiet_byte, run_of_byte}

-- after under 24 ones no pattern ends in a byte
pub quiet_early : (r b : ℕ) → r < 24 → b < 256 → is_quiet r (bits 8 b) ≡ true
quiet_early r b h l = elim (cases_eq b 255) [
  | inl e ↦ ap (λ x. is_quiet r (bits 8 x)) e ∙ quiet_full r
  | inr n ↦ (let f = (first_parts b l n).0 in quiet_byte r b l n (omega (arith, f, h)))
]

-- and none in it and one more, after which a run is short again
pair : (r a b : ℕ) (s : List Bool) → r < 24 → a < 256 → b < 256 → a ≢ 255 → ((q : ℕ) → q < 24 →
    is_quiet q s ≡ true) → is_quiet r (bits 8 a ++ (bits 8 b ++ s)) ≡ true
pair r a b s h la lb n more =
    let e = run_of_byte r a la n in
    let f = (last_run a la n).0 in
    let q = run_after r (bits 8 a) in
    let m = run_most (bits 8 b) q in
    let k = bits_length 8 b in
    quiet_append r (bits 8 a) (bits 8 b ++ s) (quiet_early r a h la)
    (quiet_append q (bits 8 b) s (quiet_early q b (omega (arith, e, f)) lb) (more (run_after q (bits 8 b)) (omega (arith, e, f, m, k))))

-- eight bytes
pub quiet_word : (r : ℕ) (a b c d e f g h : ℕ) → r < 24 →
    AreBytes (a ∷ (b ∷ (c ∷ (d ∷ (e ∷ (f ∷ (g ∷ (h ∷ [])))))))) → a ≢ 255 → c ≢ 255 → e ≢ 255 → g ≢ 255 →
    is_quiet r (bits_of (a ∷ (b ∷ (c ∷ (d ∷ (e ∷ (f ∷ (g ∷ (h ∷ []))))))))) ≡ true
quiet_word r a b c d e f g h few l na nc ne ng =
    pair r a b _ few l.0 l.1.0 na (λ q k. pair q c d _ k l.1.1.0 l.1.1.1.0 nc (λ q k. pair q e f _ k l.1.1.1.1.0 l.1.1.1.1.1.0 ne
    (λ q k. pair q g h [] k l.1.1.1.1.1.1.0 l.1.1.1.1.1.1.1.0 ng (λ q k. refl))))

-- the run after them is that after the last two
pub word_run : (r : ℕ) (a b c d e f g h : ℕ) → g < 256 → g ≢ 255 →
    run_after r (bits_of (a ∷ (b ∷ (c ∷ (d ∷ (e ∷ (f ∷ (g ∷ (h ∷ []))))))))) ≡ run_after (run_after 0 (bits 8 g)) (bits 8 h)
word_run r a b c d e f g h l n =
    run_append r (bits 8 a) _ ∙ run_append _ (bits 8 b) _ ∙ run_append _ (bits 8 c) _ ∙ run_append _ (bits 8 d) _ ∙ run_append _ (bits 8 e) _
    ∙ run_append _ (bits 8 f) _ ∙ run_append _ (bits 8 g) _
    ∙ ap (λ q. run_after q (bits 8 h ++ [])) (run_of_byte _ g l n ∙ sym (run_of_byte 0 g l n)) ∙ ap (run_after (run_after 0 (bits 8 g))) (append-nil (bits 8 h))

pub runs_on : (r last next : ℕ) (word : List ℕ) → length word ≡ 8 → AreBytes word → r < 24 →
    get_or word 0 0 ≢ 255 → get_or word 2 0 ≢ 255 → get_or word 4 0 ≢ 255 → get_or word 6 0 ≢ 255 →
    run_after 0 (bits 8 (get_or word 6 0)) ≡ last → next ≡ min 31 (run_after last (bits 8 (get_or word 7 0))) → RunsOn r (bits_of word) next
runs_on r last next (a ∷ (b ∷ (c ∷ (d ∷ (e ∷ (f ∷ (g ∷ (h ∷ [])))))))) l k few na nc ne ng p q = record {
  quiet = quiet_word r a b c d e f g h few k na nc ne ng;
  next_is = q ∙ ap (λ n. min 31 (run_after n (bits 8 h))) (sym p) ∙ ap (min 31) (sym (word_run r a b c d e f g h k.1.1.1.1.1.1.0 ng));
}
runs_on r last next word l k few na nc ne ng p q = absurd (omega arith)
