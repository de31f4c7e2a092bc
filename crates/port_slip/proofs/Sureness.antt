-- What is sure of some bytes stays.
use Rattle.std.proofs.Common.{◌≡◌, ℕ, zero, suc, ◌+◌, ◌-◌, ◌*◌, ◌/◌, ◌%◌, ◌^◌, ◌<◌, ◌≤◌, List, [], ◌∷◌, ◌++◌, length, length-append, length-drop, take, drop, min, Bool, true, false, refl, sym, ◌∙◌, ap, subst, ◌⊎◌, inl, inr, arith, append_assoc, append-nil}
use Rattle.std.specs.Int.{w8, trailing_ones}
use Rattle.std.proofs.lemmas.Bool.{cases_lt, cases_eq}
use Rattle.std.proofs.lemmas.List.{take-append-drop}
use Rattle.port_slip.specs.Bits.{bits, bits_of, ones, number, whole_bytes}
use Rattle.port_slip.specs.Segments.{Realigned, cut, of_cut, realigned}
use Rattle.port_slip.specs.Runs.{run_after, is_quiet, IsWindow}
use Rattle.port_slip.specs.Coming.{opened, of_open}
use Rattle.port_slip.specs.Sure.{sure}
use Rattle.port_slip.proofs.Bits.{bits_length, low_bits, few_bits}
use Rattle.port_slip.proofs.Cutting.{begun}
use Rattle.port_slip.proofs.Runs.{run_most}
use Rattle.port_slip.proofs.Table.{first_parts}
use Rattle.port_slip.proofs.Windows.{quiet_full, quiet_byte, begun_window, passed_window}
use Rattle.port_slip.proofs.Steps.{hunt_ends, hunt_goes, pass_ends, pass_goes, first_goes, hunt_over, pass_over}

-- a pattern ends in a byte, or none does
abbrev Ends : ℕ → ℕ → Type 0
Ends run b = (count : ℕ) × (z : List Bool) × (count ≤ 7) × (31 ≤ run + count) × (length z ≤ 7) × (bits 8 b ≡ ones count ++ (false ∷ z))

either_small : (run b : ℕ) → b < 256 → ((is_quiet run (bits 8 b) ≡ true) ⊎ Ends run b)
either_small run b h = elim (cases_eq b 255) [
  | inl e ↦ inl (ap (λ x. is_quiet run (bits 8 x)) e ∙ quiet_full run)
  | inr n ↦ (elim (cases_lt (run + trailing_ones w8 b) 31) [
    | inl l ↦ inl (quiet_byte run b h n l)
    | inr l ↦ (
        let p = first_parts b h n in
        let m = bits_length (7 - trailing_ones w8 b) (b / 2 ^ (trailing_ones w8 b + 1)) in
        inr (trailing_ones w8 b, bits (7 - trailing_ones w8 b) (b / 2 ^ (trailing_ones w8 b + 1)), p.0, l, (omega (arith, m)), p.1))
  ])
]

either : (run b : ℕ) → ((is_quiet run (bits 8 b) ≡ true) ⊎ Ends run b)
either run b = elim (either_small run (b % 256) (omega arith)) [
  | inl q ↦ inl (ap (is_quiet run) (low_bits 8 b) ∙ q)
  | inr e ↦ inr (e.0, e.1, e.2, e.3, e.4, low_bits 8 b ∙ e.5)
]

-- the first byte of at least eight bits
first_of : (k : List Bool) → 8 ≤ length k → (x : ℕ) × ((s : List Bool) →
    whole_bytes (take 8 k ++ s) ≡ x ∷ whole_bytes s)
first_of (a ∷ (b ∷ (c ∷ (d ∷ (e ∷ (f ∷ (g ∷ (i ∷ k)))))))) h = (number (a ∷ (b ∷ (c ∷ (d ∷ (e ∷ (f ∷ (g ∷ (i ∷ [])))))))), λ s. refl)
first_of [] h = absurd (omega arith)
first_of (a ∷ []) h = absurd (omega arith)
first_of (a ∷ (b ∷ [])) h = absurd (omega arith)
first_of (a ∷ (b ∷ (c ∷ []))) h = absurd (omega arith)
first_of (a ∷ (b ∷ (c ∷ (d ∷ [])))) h = absurd (omega arith)
first_of (a ∷ (b ∷ (c ∷ (d ∷ (e ∷ []))))) h = absurd (omega arith)
first_of (a ∷ (b ∷ (c ∷ (d ∷ (e ∷ (f ∷ [])))))) h = absurd (omega arith)
first_of (a ∷ (b ∷ (c ∷ (d ∷ (e ∷ (f ∷ (g ∷ []))))))) h = absurd (omega arith)

-- where a realigner is after these bytes, of which this much was written
record InHunt (bytes so_far : List ℕ) : Type 0 where
  run : ℕ
  few : run ≤ 31
  nothing : so_far ≡ []
  comes : (more : List ℕ) → (realigned (bytes ++ more)).bytes ≡ (of_cut (cut (ones run ++ bits_of more))).bytes

record InSegment (bytes so_far : List ℕ) : Type 0 where
  run : ℕ
  kept : List Bool
  window : IsWindow run kept
  most : length kept ≤ 39
  comes : (more : List ℕ) →
      (realigned (bytes ++ more)).bytes ≡ so_far ++ (of_open (opened (kept ++ bits_of more))).bytes

abbrev At : List ℕ → List ℕ → Type 0
At bytes so_far = InHunt bytes so_far ⊎ InSegment bytes so_far

begun_is : (z : List Bool) → length z ≤ 7 → (IsWindow (run_after 0 z) (begun z)) × (length (begun z) ≤ 39)
unfolding ones
begun_is z h = (begun_window (run_after 0 z) z h refl (most z 0 h), omega arith) where
  most : (z : List Bool) (q : ℕ) → length z ≤ 7 → run_after 0 z ≤ 7
  most z q h = let b = run_most z 0 in omega arith

one_more : (bytes more : List ℕ) (b : ℕ) →
    (realigned ((bytes ++ b ∷ []) ++ more)).bytes ≡ (realigned (bytes ++ (b ∷ more))).bytes
one_more bytes more b = ap (λ (l : List ℕ). (realigned l).bytes) (append_assoc bytes (b ∷ []) more)

hunt_step : (bytes so_far : List ℕ) (b : ℕ) → InHunt bytes so_far →
    (out : List ℕ) × At (bytes ++ b ∷ []) (so_far ++ out)
hunt_step bytes so_far b s = elim (either s.run b) [
  | inl q ↦ (
    [],
    inl (record {
      run = min 31 (run_after s.run (bits 8 b));
      few = omega arith;
      nothing = append-nil so_far ∙ s.nothing;
      comes = λ more. one_more bytes more b ∙ s.comes (b ∷ more) ∙ ap (λ (r : Realigned). r.bytes) (hunt_goes s.run (bits 8 b) (bits_of more) (bits_length 8 b) q);
    }),
  )
  | inr e ↦ (let w = begun_is e.1 e.4 in (
    [],
    inr (record {
      run = run_after 0 e.1;
      kept = begun e.1;
      window = w.0;
      most = w.1;
      comes = λ more. one_more bytes more b ∙ s.comes (b ∷ more) ∙ ap (λ (l : List Bool). (of_cut (cut (ones s.run ++ (l ++ bits_of more)))).bytes) e.5
          ∙ ap (λ (r : Realigned). r.bytes) (hunt_ends s.run e.0 e.1 (bits_of more) e.3)
          ∙ ap (λ (l : List ℕ). l ++ (of_open (opened (begun e.1 ++ bits_of more))).bytes) (sym (append-nil so_far ∙ s.nothing));
    }),
  ))
]

segment_step : (bytes so_far : List ℕ) (b : ℕ) → InSegment bytes so_far →
    (out : List ℕ) × At (bytes ++ b ∷ []) (so_far ++ out)
segment_step bytes so_far b s =
    let l = s.window.long in
    let f = first_of s.kept (omega (arith, l)) in
    elim (either s.run b) [
      | inl q ↦ (
        f.0 ∷ [],
        inr (record {
          run = min 31 (run_after s.run (bits 8 b));
          kept = drop 8 (s.kept ++ bits 8 b);
          window = passed_window 8 s.run s.kept (bits 8 b) (bits_length 8 b) s.window q;
          most = (let a = length-append s.kept (bits 8 b) in let d = length-drop 8 (s.kept ++ bits 8 b) in let n = bits_length 8 b in let m = s.most in omega (arith, a, d, n, m));
          comes = λ more. one_more bytes more b ∙ s.comes (b ∷ more)
              ∙ ap (λ (r : Realigned). so_far ++ r.bytes) (pass_goes s.run s.kept s.window 1 (f.0 ∷ []) (bits 8 b) (bits_of more) (omega arith) (bits_length 8 b) q (first_goes s.kept (bits 8 b) f.0 (omega (arith, l)) f.1))
              ∙ sym (append_assoc so_far (f.0 ∷ []) _);
        }),
      )
      | inr e ↦ (
          let w = begun_is e.1 e.4 in
          let put : (out : List ℕ) → (8 ≤ length s.kept + e.0 - 31 → out ≡ f.0 ∷ []) → (length s.kept + e.0 - 31 < 8 → out ≡ []) → At (bytes ++ b ∷ []) (so_far ++ out) = λ out long short. inr (record {
            run = run_after 0 e.1;
            kept = begun e.1;
            window = w.0;
            most = w.1;
            comes = λ more. one_more bytes more b ∙ s.comes (b ∷ more) ∙ ap (λ (y : List Bool). so_far ++ (of_open (opened (s.kept ++ (y ++ bits_of more)))).bytes) e.5
                ∙ ap (λ (r : Realigned). so_far ++ r.bytes) (pass_ends s.run s.kept s.window f.0 f.1 e.0 e.1 (bits_of more) s.most e.2 e.3 out long short)
                ∙ sym (append_assoc so_far out _);
          }) in
          elim (cases_lt (length s.kept + e.0 - 31) 8) [
            | inl h ↦ ([], put [] (λ k. absurd (omega (arith, h, k))) (λ k. refl))
            | inr h ↦ (f.0 ∷ [], put (f.0 ∷ []) (λ k. refl) (λ k. absurd (omega (arith, h, k))))
          ])
    ]

steps : (bytes so_far u : List ℕ) → At bytes so_far → (out : List ℕ) × At (bytes ++ u) (so_far ++ out)
steps bytes so_far [] a = ([], subst (λ (l : List ℕ). At l (so_far ++ [])) (sym (append-nil bytes)) (subst (λ (l : List ℕ). At bytes l) (sym (append-nil so_far)) a))
steps bytes so_far (b ∷ u) a =
    let one : (out : List ℕ) × At (bytes ++ b ∷ []) (so_far ++ out) = elim a [
      | inl h ↦ hunt_step bytes so_far b h
      | inr h ↦ segment_step bytes so_far b h
    ] in
    let more = steps (bytes ++ b ∷ []) (so_far ++ one.0) u one.1 in (
      one.0 ++ more.0,
      subst (λ (l : List ℕ). At l (so_far ++ (one.0 ++ more.0))) (append_assoc bytes (b ∷ []) u) (subst (λ (l : List ℕ). At ((bytes ++ b ∷ []) ++ u) l) (append_assoc so_far one.0 more.0) more.1),
    )

pub whole_length : (n : ℕ) (s : List Bool) → 8 * n ≤ length s → length s < 8 * n + 8 → length (whole_bytes s) ≡ n
whole_length zero s h l = ap length (few_bits s (omega arith))
whole_length (suc n) (a ∷ (b ∷ (c ∷ (d ∷ (e ∷ (f ∷ (g ∷ (i ∷ s)))))))) h l = ap suc (whole_length n s (omega arith) (omega arith))
whole_length (suc n) [] h l = absurd (omega arith)
whole_length (suc n) (a ∷ []) h l = absurd (omega arith)
whole_length (suc n) (a ∷ (b ∷ [])) h l = absurd (omega arith)
whole_length (suc n) (a ∷ (b ∷ (c ∷ []))) h l = absurd (omega arith)
whole_length (suc n) (a ∷ (b ∷ (c ∷ (d ∷ [])))) h l = absurd (omega arith)
whole_length (suc n) (a ∷ (b ∷ (c ∷ (d ∷ (e ∷ []))))) h l = absurd (omega arith)
whole_length (suc n) (a ∷ (b ∷ (c ∷ (d ∷ (e ∷ (f ∷ [])))))) h l = absurd (omega arith)
whole_length (suc n) (a ∷ (b ∷ (c ∷ (d ∷ (e ∷ (f ∷ (g ∷ []))))))) h l = absurd (omega arith)

pub take_front : (xs ys : List ℕ) → take (length xs) (xs ++ ys) ≡ xs
take_front [] ys = refl
take_front (x ∷ xs) ys = ap (λ l. x ∷ l) (take_front xs ys)

-- what was written is what is sure
is_sure : (bytes so_far : List ℕ) → At bytes so_far → sure bytes ≡ so_far
is_sure bytes so_far (inl h) =
    let e : (realigned bytes).bytes ≡ [] = ap (λ (l : List ℕ). (realigned l).bytes) (sym (append-nil bytes)) ∙ h.comes [] ∙ ap (λ (r : Realigned). r.bytes) (hunt_over h.run) in
    ap (λ (l : List ℕ). take (length l - 4) l) e ∙ sym h.nothing
is_sure bytes so_far (inr h) =
    let e : (realigned bytes).bytes ≡ so_far ++ whole_bytes h.kept =
    ap (λ (l : List ℕ). (realigned l).bytes) (sym (append-nil bytes)) ∙ h.comes [] ∙ ap (λ (r : Realigned). so_far ++ r.bytes) (pass_over h.run h.kept h.window h.most) in
    let four = whole_length 4 h.kept (let l = h.window.long in omega (arith, l)) (let m = h.most in omega (arith, m)) in
    let n : length (so_far ++ whole_bytes h.kept) - 4 ≡ length so_far = (let a = length-append so_far (whole_bytes h.kept) in omega (arith, a, four)) in
    ap (λ (l : List ℕ). take (length l - 4) l) e ∙ ap (λ m. take m (so_far ++ whole_bytes h.kept)) n ∙ take_front so_far (whole_bytes h.kept)

first_at : At [] []
unfolding ones
first_at = inl (record { run = 0; few = omega arith; nothing = refl; comes = λ more. refl })

pub sure_grows : (t u : List ℕ) → (rest : List ℕ) × (sure (t ++ u) ≡ sure t ++ rest)
sure_grows t u =
    let a = steps [] [] t first_at in
    let b = steps t a.0 u a.1 in
    (b.0, is_sure (t ++ u) (a.0 ++ b.0) b.1 ∙ ap (λ (l : List ℕ). l ++ b.0) (sym (is_sure t a.0 a.1)))

pub sure_front : (t : List ℕ) → (rest : List ℕ) × ((realigned t).bytes ≡ sure t ++ rest) × (length rest ≤ 4)
sure_front t =
    let r = (realigned t).bytes in
    (drop (length r - 4) r, sym (take-append-drop (length r - 4) r), (let d = length-drop (length r - 4) r in omega (arith, d)))
