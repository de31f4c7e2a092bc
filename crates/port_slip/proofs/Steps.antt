-- What one more byte, and the end, do to what is still to come.
use Rattle.std.proofs.Common.{◌≡◌, ℕ, suc, ◌+◌, ◌-◌, ◌*◌, ◌%◌, ◌<◌, ◌≤◌, List, [], ◌∷◌, ◌++◌, length, length-append, length-drop, take, drop, min, Bool, true, false, refl, sym, ◌∙◌, ap, ◌⊎◌, inl, inr, arith, append_assoc, append-nil}
use Rattle.std.specs.Prelude.{flat_map}
use Rattle.std.proofs.lemmas.Bool.{cases_lt}
use Rattle.std.proofs.lemmas.List.{length-take-le, take-append-drop, take-append-le, take-take}
use Rattle.std.proofs.Math.Seq.{drop-append_seam}
use Rattle.port_slip.specs.Bits.{ones, whole_bytes}
use Rattle.port_slip.specs.Segments.{with_bit, cut, Realigned, of_cut, loose, all_loose}
use Rattle.port_slip.specs.Runs.{run_after, is_quiet, later, IsWindow}
use Rattle.port_slip.specs.Coming.{opened, of_open}
use Rattle.port_slip.proofs.Bits.{ones_length, few_bits}
use Rattle.port_slip.proofs.Runs.{later_append, run_append, run_ones, quiet_append, quiet_ones, quiet_most, quiet_none, quiet_later, run_parts, ones_add}
use Rattle.port_slip.proofs.Cutting.{prefixed, opened_cut, opened_drop, begun, cut_begun, skips, skips_most}

abbrev pub made : List ℕ → ℕ → ℕ → ℕ → Realigned
made bytes skipped dropped patterns = record { bytes = bytes; skipped = skipped; dropped = dropped; patterns = patterns }

pub made_same : {a b : List ℕ} {s t d e p q : ℕ} → a ≡ b → s ≡ t → d ≡ e → p ≡ q → made a s d p ≡ made b t e q
made_same {b = b} {s = s} {t = t} {d = d} {e = e} {p = p} h i j k =
    ap (λ (x : List ℕ). made x s d p) h ∙ ap (λ (x : ℕ). made b x d p) i ∙ ap (λ (x : ℕ). made b t x p) j ∙ ap (λ (x : ℕ). made b t e x) k

-- quiet bits are not cut
pub cut_quiet : (s : List Bool) → is_quiet 0 s ≡ true → cut s ≡ record { before = s; segments = [] }
cut_quiet [] h = refl
cut_quiet (x ∷ s) h = ap (λ t. with_bit t x (cut s)) (quiet_none 31 0 (x ∷ s) h refl) ∙ ap (with_bit false x) (cut_quiet s (quiet_later (x ∷ s) h))

-- before the first segment, a pattern that ends in a byte
pub hunt_ends : (run count : ℕ) (z s : List Bool) → 31 ≤ run + count →
    of_cut (cut (ones run ++ ((ones count ++ (false ∷ z)) ++ s))) ≡
    (let o = of_open (opened (begun z ++ s)) in made o.bytes (run + count - 31) o.dropped (suc o.patterns))
hunt_ends run count z s h =
    let j = run + count - 31 in
    let more = false ∷ (z ++ s) in
    let k : run + count ≡ j + 31 = omega arith in
    let e : ones run ++ ((ones count ++ (false ∷ z)) ++ s) ≡ ones (j + 31) ++ more =
    ap (λ (l : List Bool). ones run ++ l) (append_assoc (ones count) (false ∷ z) s) ∙ sym (append_assoc (ones run) (ones count) more)
    ∙ ap (λ (l : List Bool). l ++ more) (ones_add run count ∙ ap ones k) in
    let t : cut (ones 31 ++ more) ≡ cut (begun z ++ s) = ap cut (sym (append_assoc (ones 31) (false ∷ z) s)) in
    ap (λ (l : List Bool). of_cut (cut l)) e ∙ ap of_cut (skips_most more j 31 (omega arith) ∙ ap (prefixed (ones j)) (t ∙ cut_begun z s))
    ∙ made_same refl (ap length (append-nil (ones j)) ∙ ones_length j) refl refl

-- and a byte in which none ends
pub hunt_goes : (run : ℕ) (b s : List Bool) → length b ≡ 8 → is_quiet run b ≡ true →
    of_cut (cut (ones run ++ (b ++ s))) ≡
    (let m = min 31 (run_after run b) in let o = of_cut (cut (ones m ++ s)) in made o.bytes (run + 8 - m + o.skipped) o.dropped o.patterns)
hunt_goes run b s n q = by (cases_lt 31 (run_after run b)) where
  k : (p : List Bool) × (length p + run_after run b ≡ run + length b) × (cut (ones run ++ (b ++ s)) ≡ prefixed p (cut (ones (run_after run b) ++ s)))
  k = skips s run b q

  by : ((31 < run_after run b) ⊎ (run_after run b ≤ 31)) → of_cut (cut (ones run ++ (b ++ s))) ≡
      (let m = min 31 (run_after run b) in let o = of_cut (cut (ones m ++ s)) in made o.bytes (run + 8 - m + o.skipped) o.dropped o.patterns)
  by (inl l) =
      let j = run_after run b - 31 in
      let e : run_after run b ≡ j + 31 = omega arith in
      let m : 31 ≡ min 31 (run_after run b) = omega arith in
      ap of_cut (k.2 ∙ ap (λ x. prefixed k.0 (cut (ones x ++ s))) e ∙ ap (prefixed k.0) (skips_most s j 31 (omega arith)) ∙ ap (λ x. prefixed k.0 (prefixed (ones j) (cut (ones x ++ s)))) m)
      ∙ made_same refl (length-append k.0 (ones j ++ (cut (ones (min 31 (run_after run b)) ++ s)).before) ∙ (let a = length-append (ones j) (cut (ones (min 31 (run_after run b)) ++ s)).before in
      let o = ones_length j in let c = k.1 in omega (arith, a, o, c, m, e, n))) refl refl
  by (inr l) =
      let m : run_after run b ≡ min 31 (run_after run b) = omega arith in
      ap of_cut (k.2 ∙ ap (λ x. prefixed k.0 (cut (ones x ++ s))) m)
      ∙ made_same refl (length-append k.0 (cut (ones (min 31 (run_after run b)) ++ s)).before ∙ (let c = k.1 in omega (arith, c, m, n))) refl refl

-- the first byte of a segment's bits is that of all
pub first_goes : (k b : List Bool) (first : ℕ) → 8 ≤ length k → ((s : List Bool) →
    whole_bytes (take 8 k ++ s) ≡ first ∷ whole_bytes s) →
    (s : List Bool) → whole_bytes (take 8 (k ++ b) ++ s) ≡ (first ∷ []) ++ whole_bytes s
first_goes k b first h f s = ap (λ (y : List Bool). whole_bytes (y ++ s)) (take-append-le 8 k b h) ∙ f s

-- in a segment
module _ (run : ℕ) (k : List Bool) (w : IsWindow run k) where
  abbrev real : ℕ
  real = run_after 0 (later k)

  few : run < 31 → run ≡ real
  few h = let e = w.run_is in omega (arith, e, h)

  -- bytes go on in which no pattern ends
  pub pass_goes : (n : ℕ) (out : List ℕ) (b s : List Bool) → 0 < n → length b ≡ 8 * n → is_quiet run b ≡ true →
      ((t : List Bool) → whole_bytes (take (8 * n) (k ++ b) ++ t) ≡ out ++ whole_bytes t) → of_open (opened (k ++ (b ++ s))) ≡
      (let o = of_open (opened (drop (8 * n) (k ++ b) ++ s)) in made (out ++ o.bytes) 0 o.dropped o.patterns)
  pass_goes n out b s some e q whole =
      let kl = w.long in
      let la = later_append k b (omega (arith, kl)) in
      let quiet : is_quiet 0 (later (k ++ b)) ≡ true = ap (is_quiet 0) la ∙ quiet_append 0 (later k) b w.quiet (quiet_most run real b few q) in
      let ln = length-append k b in
      let o = opened (drop (8 * n) (k ++ b) ++ s) in
      let tn : length (take (8 * n) (k ++ b) ++ o.before) ≡ 8 * n + length o.before = length-append (take (8 * n) (k ++ b)) o.before ∙ (let t = length-take-le (8 * n) (k ++ b) (omega (arith, ln, e)) in omega (arith, t)) in
      ap (λ (y : List Bool). of_open (opened y)) (sym (append_assoc k b s)) ∙ ap of_open (opened_drop (8 * n) (k ++ b) s quiet (omega (arith, some)) (omega (arith, ln, e, kl)))
      ∙ made_same (ap (λ (y : List ℕ). y ++ flat_map whole_bytes o.segments) (whole o.before) ∙ append_assoc out (whole_bytes o.before) (flat_map whole_bytes o.segments)) refl
      (ap (λ m. m % 8 + all_loose o.segments) tn ∙ (omega arith)) refl

-- and where a pattern ends in a byte
module _ (run : ℕ) (k : List Bool) (w : IsWindow run k) (first : ℕ) (byte_is : (s : List Bool) → whole_bytes (take 8 k ++ s) ≡ first ∷ whole_bytes s) where
  begun_at : (l : List Bool) → 31 ≤ run_after 0 (later l) → 32 ≤ length l → drop (length l - 31) l ≡ ones 31
  begun_at [] h n = absurd (omega arith)
  begun_at (x ∷ l) h n =
      let p = run_parts l 31 0 h (omega arith) in
      let o = ones_length 31 in
      let a = length-append p.0 (ones 31) in
      let c = ap length p.1 in
      let e : suc (length l) - 31 ≡ length (x ∷ p.0) = omega (arith, o, a, c) in
      ap (λ m. drop m (x ∷ l)) e ∙ ap (λ (y : List Bool). drop (length (x ∷ p.0)) (x ∷ y)) p.1 ∙ drop-append_seam (x ∷ p.0) (ones 31)

  -- the whole bytes of the closed segment's end
  last_bytes : (n : ℕ) (l : List Bool) → take 8 l ≡ take 8 k → n ≤ length l → n < 16 →
      ((8 ≤ n) × (whole_bytes (take n l) ≡ first ∷ [])) ⊎ ((n < 8) × (whole_bytes (take n l) ≡ []))
  last_bytes n l e h m = elim (cases_lt n 8) [
    | inl s ↦ inr (s, few_bits (take n l) (let t = length-take-le n l h in omega (arith, t, s)))
    | inr s ↦ inl (
      s,
      (
          ap whole_bytes (sym (take-append-drop 8 (take n l)) ∙ ap (λ (y : List Bool). y ++ drop 8 (take n l)) (take-take 8 n l s ∙ e)) ∙ byte_is (drop 8 (take n l))
          ∙ ap (λ y. first ∷ y) (few_bits (drop 8 (take n l)) (let t = length-take-le n l h in let d = length-drop 8 (take n l) in omega (arith, t, d, m)))),
    )
  ]

  -- a pattern ends in a byte
  pub pass_ends : (count : ℕ) (z s : List Bool) → length k ≤ 39 → count ≤ 7 → 31 ≤ run + count →
      (out : List ℕ) → (8 ≤ length k + count - 31 → out ≡ first ∷ []) → (length k + count - 31 < 8 → out ≡ []) →
      of_open (opened (k ++ ((ones count ++ (false ∷ z)) ++ s))) ≡
      (let o = of_open (opened (begun z ++ s)) in made (out ++ o.bytes) 0 ((length k + count - 31) % 8 + o.dropped) (suc o.patterns))
  pass_ends count z s most small enough out long short =
      let n = length k + count - 31 in
      let l = k ++ ones count in
      let more = false ∷ (z ++ s) in
      let ln : length l ≡ length k + count = length-append k (ones count) ∙ (let o = ones_length count in omega arith) in
      let kl = w.long in
      let la = later_append k (ones count) (omega (arith, kl)) in
      let quiet : is_quiet 0 (later l) ≡ true = ap (is_quiet 0) la ∙ quiet_append 0 (later k) (ones count) w.quiet (quiet_ones (run_after 0 (later k)) count) in
      let runs : run_after 0 (later l) ≡ run_after 0 (later k) + count = ap (run_after 0) la ∙ run_append 0 (later k) (ones count) ∙ run_ones (run_after 0 (later k)) count in
      let ri = w.run_is in
      let ends : drop n l ≡ ones 31 = ap (λ m. drop (m - 31) l) (sym ln) ∙ begun_at l (omega (arith, runs, ri, enough)) (omega (arith, ln, kl)) in
      let e : k ++ ((ones count ++ (false ∷ z)) ++ s) ≡ l ++ more = ap (λ (y : List Bool). k ++ y) (append_assoc (ones count) (false ∷ z) s) ∙ sym (append_assoc k (ones count) more) in
      let t : cut (drop n l ++ more) ≡ cut (begun z ++ s) = ap (λ (y : List Bool). cut (y ++ more)) ends ∙ ap cut (sym (append_assoc (ones 31) (false ∷ z) s)) in
      let nl : n ≤ length l = omega (arith, ln) in
      let tk : take 8 l ≡ take 8 k = take-append-le 8 k (ones count) (omega (arith, kl)) in
      let tn : length (take n l) ≡ n = length-take-le n l nl in
      ap (λ (y : List Bool). of_open (opened y)) e ∙ ap of_open (opened_cut n l more quiet (omega (arith, kl)) (omega (arith, ln, kl)) ∙ ap (prefixed (take n l)) (t ∙ cut_begun z s))
      ∙ made_same (ap (λ (y : List Bool). whole_bytes y ++ (whole_bytes (opened (begun z ++ s)).before ++ flat_map whole_bytes (opened (begun z ++ s)).segments)) (append-nil (take n l))
      ∙ ap (λ (y : List ℕ). y ++ (of_open (opened (begun z ++ s))).bytes) (elim (last_bytes n l tk nl (omega arith)) [
        | inl x ↦ x.1 ∙ sym (long x.0)
        | inr x ↦ x.1 ∙ sym (short x.0)
      ])) refl (ap (λ (y : List Bool). loose y + (of_open (opened (begun z ++ s))).dropped) (append-nil (take n l)) ∙ ap (λ m. m % 8 + (of_open (opened (begun z ++ s))).dropped) tn) refl

-- the end
pub hunt_over : (run : ℕ) → of_cut (cut (ones run ++ [])) ≡ made [] run 0 0
hunt_over run = ap (λ (y : List Bool). of_cut (cut y)) (append-nil (ones run)) ∙ ap of_cut (cut_quiet (ones run) (quiet_ones 0 run)) ∙ made_same refl (ones_length run) refl refl

pub pass_over : (run : ℕ) (k : List Bool) → IsWindow run k → length k ≤ 39 →
    of_open (opened (k ++ [])) ≡ made (whole_bytes k) 0 (length k - 32) 0
pass_over run k w m = ap (λ (y : List Bool). of_open (opened y)) (append-nil k) ∙ by k w.long w.quiet m where
  by : (k : List Bool) → 32 ≤ length k → is_quiet 0 (later k) ≡ true → length k ≤ 39 →
      of_open (opened k) ≡ made (whole_bytes k) 0 (length k - 32) 0
  by [] l q m = absurd (omega arith)
  by (x ∷ s) l q m = ap (λ c. of_open (with_bit false x c)) (cut_quiet s q) ∙ made_same (append-nil (whole_bytes (x ∷ s))) refl (omega arith) refl
