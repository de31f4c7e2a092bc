-- Where a list of bits is cut, from its front on.
use Rattle.std.proofs.Common.{◌≡◌, ℕ, zero, suc, ◌+◌, ◌<◌, ◌≤◌, List, [], ◌∷◌, ◌++◌, length, length-append, take, drop, Bool, true, false, nat_lt, refl, sym, ◌∙◌, ap, subst, arith, append_assoc}
use Rattle.std.proofs.lemmas.Bool.{ltb-true, and_parts}
use Rattle.port_slip.specs.Bits.{ones}
use Rattle.port_slip.specs.Segments.{Cut, begins, with_bit, cut}
use Rattle.port_slip.specs.Runs.{run_after, is_quiet, later}
use Rattle.port_slip.specs.Coming.{opened}
use Rattle.port_slip.proofs.Bits.{ones_length}
use Rattle.port_slip.proofs.Runs.{Clear, clear_quiet, quiet_ones, ones_push, ones_add}

-- the same with more bits before it
abbrev pub prefixed : List Bool → Cut → Cut
prefixed x c = record { before = x ++ c.before; segments = c.segments }

pub cut_clear : (x s : List Bool) → Clear (length x) (x ++ s) → cut (x ++ s) ≡ prefixed x (cut s)
cut_clear [] s k = refl
cut_clear (b ∷ x) s k = ap (λ t. with_bit t b (cut (x ++ s))) k.0 ∙ ap (λ c. with_bit false b c) (cut_clear x s k.1)

-- bits of an open segment go on up to where no other can have begun
pub opened_cut : (n : ℕ) (k more : List Bool) → is_quiet 0 (later k) ≡ true → 0 < n → 31 + n ≤ length k →
    opened (k ++ more) ≡ prefixed (take n k) (cut (drop n k ++ more))
opened_cut zero k more q p l = absurd (omega arith)
opened_cut (suc n) [] more q p l = absurd (omega arith)
opened_cut (suc n) (x ∷ s) more q p l = ap (λ c. with_bit false x c) (parts n s q (omega arith)) where
  pieces : (n : ℕ) (s : List Bool) → n ≤ length s → (length (take n s) ≡ n) × (take n s ++ drop n s ≡ s)
  pieces zero s h = (refl, refl)
  pieces (suc n) [] h = absurd (omega arith)
  pieces (suc n) (x ∷ s) h = let i = pieces n s (omega arith) in (ap suc i.0, ap (λ l. x ∷ l) i.1)

  parts : (n : ℕ) (s : List Bool) → is_quiet 0 s ≡ true → 31 + n ≤ length s →
      cut (s ++ more) ≡ prefixed (take n s) (cut (drop n s ++ more))
  parts n s q l =
      let p = pieces n s (omega arith) in
      let e : s ++ more ≡ take n s ++ (drop n s ++ more) = ap (λ (l : List Bool). l ++ more) (sym p.1) ∙ append_assoc (take n s) (drop n s) more in
      ap cut e ∙ cut_clear (take n s) (drop n s ++ more)
      (subst (λ (m : ℕ). Clear m (take n s ++ (drop n s ++ more))) (sym p.0) (subst (λ (w : List Bool). Clear n w) e (clear_quiet n s more q l)))

-- and a byte further where none begins
pub opened_drop : (n : ℕ) (k more : List Bool) → is_quiet 0 (later k) ≡ true → 0 < n → 32 + n ≤ length k →
    opened (k ++ more) ≡ prefixed (take n k) (opened (drop n k ++ more))
opened_drop zero k more q p l = absurd (omega arith)
opened_drop (suc n) k more q p l = opened_cut (suc n) k more q p (omega arith) ∙ ap (λ c. prefixed (take (suc n) k) c) (next k n q (omega arith)) where
  at : (k : List Bool) (n : ℕ) → Clear (suc n) (k ++ more) → n < length k →
      cut (drop n k ++ more) ≡ opened (drop n k ++ more)
  at [] n c l = absurd (omega arith)
  at (x ∷ k) zero c l = ap (λ t. with_bit t x (cut (k ++ more))) c.0
  at (x ∷ k) (suc n) c l = at k n c.1 (omega arith)

  next : (k : List Bool) (n : ℕ) → is_quiet 0 (later k) ≡ true → 33 + n ≤ length k →
      cut (drop (suc n) k ++ more) ≡ opened (drop (suc n) k ++ more)
  next [] n q l = absurd (omega arith)
  next (x ∷ k) n q l = at k n (clear_quiet (suc n) k more q (omega arith)) (omega arith)

-- a segment that begins with its pattern
abbrev pub begun : List Bool → List Bool
begun z = ones 31 ++ (false ∷ z)

pub cut_begun : (z more : List Bool) → cut (begun z ++ more) ≡ record { before = []; segments = (opened (begun z ++ more)).before ∷ (opened (begun z ++ more)).segments }
unfolding ones
cut_begun z more = refl

-- too few ones and a zero are no pattern
pub fails : (m n : ℕ) (s : List Bool) → n < m → begins m (ones n ++ (false ∷ s)) ≡ false
unfolding ones
fails zero n s h = absurd (omega arith)
fails (suc m) zero s h = refl
fails (suc m) (suc n) s h = fails m n s (omega arith)

pub broken : (r : ℕ) (s : List Bool) → r < 31 → Clear (suc r) (ones r ++ (false ∷ s))
unfolding ones
broken zero s h = (refl, tt)
broken (suc r) s h = (fails 31 (suc r) s h, broken r s (omega arith))

-- before the first segment: all but the run at the end is skipped
module _ (more : List Bool) where
  abbrev Skips : ℕ → List Bool → Type 0
  Skips r s = (p : List Bool) × (length p + run_after r s ≡ r + length s) × (cut (ones r ++ (s ++ more)) ≡ prefixed p (cut (ones (run_after r s) ++ more)))

  pub skips : (r : ℕ) (s : List Bool) → is_quiet r s ≡ true → Skips r s
  unfolding ones
  skips r [] q = ([], (let e : 0 + r ≡ r + 0 = omega arith in e), refl)
  skips r (true ∷ s) q =
      let i = skips (suc r) s q in (i.0, (let e = i.1 in omega arith), ap cut (ones_push r (s ++ more)) ∙ i.2)
  skips r (false ∷ s) q =
      let b = and_parts (nat_lt r 31) (is_quiet 0 s) q in
      let l : r < 31 = ltb-true r 31 b.0 in
      let i = skips 0 s b.1 in
      let x = ones r ++ false ∷ [] in
      let n : length x ≡ suc r = length-append (ones r) (false ∷ []) ∙ (let o = ones_length r in omega arith) in
      let t : ones r ++ (false ∷ (s ++ more)) ≡ x ++ (s ++ more) = sym (append_assoc (ones r) (false ∷ []) (s ++ more)) in
      let c : Clear (length x) (x ++ (s ++ more)) = subst (λ (w : List Bool). Clear (length x) w) t (subst (λ (m : ℕ). Clear m (ones r ++ (false ∷ (s ++ more)))) (sym n) (broken r (s ++ more) l)) in (
        x ++ i.0,
        (let a = length-append x i.0 in let e = i.1 in omega arith),
        ap cut t ∙ cut_clear x (s ++ more) c ∙ ap (prefixed x) i.2 ∙ ap (λ (w : List Bool). let y : Cut = record { before = w; segments = (cut (ones (run_after 0 s) ++ more)).segments } in y) (sym (append_assoc x i.0 (cut (ones (run_after 0 s) ++ more)).before)),
      )

  -- no more than 31 ones are kept
  pub skips_most : (j n : ℕ) → 31 ≤ n → cut (ones (j + n) ++ more) ≡ prefixed (ones j) (cut (ones n ++ more))
  skips_most j n h =
      let e : ones (j + n) ++ more ≡ ones j ++ (ones n ++ more) = ap (λ (l : List Bool). l ++ more) (sym (ones_add j n)) ∙ append_assoc (ones j) (ones n) more in
      ap cut e ∙ cut_clear (ones j) (ones n ++ more)
      (subst (λ (m : ℕ). Clear m (ones j ++ (ones n ++ more))) (sym (ones_length j)) (subst (λ (w : List Bool). Clear j w) e
      (clear_quiet j (ones (j + n)) more (quiet_ones 0 (j + n)) (let o = ones_length (j + n) in omega arith))))
