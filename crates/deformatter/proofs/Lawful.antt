-- What the port's rule keeps: two and three FF are between frames, and between frames no half synchronisation is counted.
use Rattle.std.proofs.Common.{◌≡◌, ℕ, zero, suc, ◌+◌, ◌≤◌, List, [], ◌∷◌, ◌++◌, length, refl, sym, ◌⊎◌, inl, inr, arith, subst, Bool, true, false, cond, length-append, Option, None, Some}
use Rattle.std.specs.Prelude.{◌==◌}
use Rattle.std.proofs.lemmas.List.{length_push}
use Rattle.std.proofs.lemmas.Bool.{eqb-true, eqb-false}
use Rattle.deformatter.specs.Names.{Reason, BadSync, SyncInFrame, Next, Go, End, Fail, Place, Placed, Progress}
use Rattle.deformatter.specs.Names.{with_unit, advance, progress_from, unread, progress, PortItem, Full, Half, Frame}
use Rattle.deformatter.specs.Names.{Part, Between, First, One, Two, Three, State, start, word_ended, part_rule, rule}
use Rattle.deformatter.specs.Rule.{part_size, count_of}

abbrev pub Fits : Part → ℕ → Type 0
Fits Between left = Unit {0}
Fits (First a) left = Unit {0}
Fits One left = Unit {0}
Fits Two left = left ≡ 7
Fits Three left = left ≡ 7

pub record Sound (s : State) : Type 0 where
  pub within : s.left ≤ 7
  pub none : s.left ≡ 7 → s.halves ≡ 0
  pub fits : Fits s.part s.left

-- what is so of the rule's word on one more byte
abbrev pub Lawful : State → Next State PortItem → Type 0
Lawful s (Go t) = Sound t × ((t.halves ≡ s.halves) ⊎ (t.halves ≡ s.halves + 1)) × (count_of t ≡ count_of s + 1)
Lawful s (End Full) = s.halves ≡ 0
Lawful s (End Half) = s.halves ≡ 0
Lawful s (End (Frame bytes halves)) = halves ≡ s.halves
Lawful s (Fail e) = Unit {0}

abbrev pick : Bool → Next State PortItem → Next State PortItem → Next State PortItem
pick t x y = cond t x y

abbrev at : ℕ → List Placed → ℕ → Part → State
at n f h p = record { left = n; bytes = f; halves = h; part = p }

parted : (n : ℕ) (f : List Placed) (h : ℕ) (p q : Part) → Sound (at n f h p) → Fits q n → part_size q ≡ part_size p + 1 → Lawful (at n f h p) (Go (at n f h q))
parted n f h p q s g k = (record { within = s.within; none = s.none; fits = g }, inl refl, (let e = k in omega arith))

worded : (n : ℕ) (f : List Placed) (h : ℕ) (a x : Placed) → Sound (at n f h (First a)) → Lawful (at n f h (First a)) (word_ended n (f ++ (a ∷ (x ∷ []))) h)
worded zero f h a x s = refl
worded (suc n) f h a x s = (
  record { within = (let e = s.within in omega arith); none = λ e. absurd (let w = s.within in omega (arith, e, w)); fits = tt },
  inl refl,
  (let e = length-append f (a ∷ (x ∷ [])) in omega arith),
)

lawful_at : (n : ℕ) (f : List Placed) (h : ℕ) (p : Part) (x : Placed) → Sound (at n f h p) → Lawful (at n f h p) (part_rule p (at n f h p) x)
lawful_at n f h Between x s = by (x.unit == 255) where
  by : (t : Bool) → Lawful (at n f h Between) (pick t (Go (at n f h One)) (Go (at n f h (First x))))
  by true = parted n f h Between One s tt refl
  by false = parted n f h Between (First x) s tt refl
lawful_at n f h (First a) x s = worded n f h a x s
lawful_at n f h One x s = by (x.unit == 127) (x.unit == 255) (n == 7) refl where
  by : (t u w : Bool) → (n == 7) ≡ w → Lawful (at n f h One)
      (pick t (pick (n == 7) (End Half) (Go (at n f (h + 1) Between))) (pick u (pick (n == 7) (Go (at n f h Two)) (Fail SyncInFrame)) (Fail BadSync)))
  by true u true e = subst (λ (z : Bool). Lawful (at n f h One) (pick z (End Half) (Go (at n f (h + 1) Between)))) (sym e) (s.none (eqb-true n 7 e))
  by true u false e = subst (λ (z : Bool). Lawful (at n f h One) (pick z (End Half) (Go (at n f (h + 1) Between)))) (sym e)
      (record { within = s.within; none = λ k. absurd (eqb-false n 7 e k); fits = tt }, inr refl, omega arith)
  by false true true e = subst (λ (z : Bool). Lawful (at n f h One) (pick z (Go (at n f h Two)) (Fail SyncInFrame))) (sym e) (parted n f h One Two s (eqb-true n 7 e) refl)
  by false true false e = subst (λ (z : Bool). Lawful (at n f h One) (pick z (Go (at n f h Two)) (Fail SyncInFrame))) (sym e) tt
  by false false w e = tt
lawful_at n f h Two x s = by (x.unit == 255) where
  by : (t : Bool) → Lawful (at n f h Two) (pick t (Go (at n f h Three)) (Fail BadSync))
  by true = parted n f h Two Three s s.fits refl
  by false = tt
lawful_at n f h Three x s = by (x.unit == 127) where
  by : (t : Bool) → Lawful (at n f h Three) (pick t (End Full) (Fail BadSync))
  by true = s.none s.fits
  by false = tt

pub lawful : (s : State) (x : Placed) → Sound s → Lawful s (rule s x)
lawful s x k = lawful_at s.left s.bytes s.halves s.part x k

-- so it is in every reading
sound_by : (p : Progress State PortItem) (b : Placed) (n : Next State PortItem) (f : Option (Place × Reason)) → Sound p.state → Lawful p.state n → Sound (with_unit start p b n f).state
sound_by p b (Go t) None s l = l.0
sound_by p b (End v) None s l = record { within = omega arith; none = λ _. refl; fits = tt }
sound_by p b (Fail e) None s l = s
sound_by p b n (Some f) s l = kept n where
  kept : (n : Next State PortItem) → Sound (with_unit start p b n (Some f)).state
  kept (Go t) = s
  kept (End v) = s
  kept (Fail e) = s

pub sound_on : (p : Progress State PortItem) (b : Placed) → Sound p.state → Sound (advance rule start p b).state
sound_on p b s = sound_by p b (rule p.state b) p.fault s (lawful p.state b s)

sound_from : (u : List Placed) (p : Progress State PortItem) → Sound p.state → Sound (progress_from rule start p u).state
sound_from [] p s = s
sound_from (b ∷ u) p s = sound_from u (advance rule start p b) (sound_on p b s)

pub sound : (u : List Placed) → Sound (progress rule start u).state
sound u = sound_from u (unread start) (record { within = omega arith; none = λ _. refl; fits = tt })

-- and its state counts the bytes of its rest
counted_by : (p : Progress State PortItem) (b : Placed) (n : Next State PortItem) (f : Option (Place × Reason)) → p.fault ≡ f → Lawful p.state n →
    (p.fault ≡ None → length p.rest ≡ count_of p.state) → (with_unit start p b n f).fault ≡ None → length (with_unit start p b n f).rest ≡ count_of (with_unit start p b n f).state
counted_by p b (Go t) None f l h g = (let k = length_push p.rest b in let e = l.2 in let m = h f in omega arith)
counted_by p b (End v) None f l h g = refl
counted_by p b (Fail w) None f l h g = cc
counted_by p b n (Some w) f l h g = cc

counted_from : (u : List Placed) (p : Progress State PortItem) → Sound p.state → (p.fault ≡ None → length p.rest ≡ count_of p.state) →
    (progress_from rule start p u).fault ≡ None → length (progress_from rule start p u).rest ≡ count_of (progress_from rule start p u).state
counted_from [] p s h g = h g
counted_from (b ∷ u) p s h g = counted_from u (advance rule start p b) (sound_on p b s) (counted_by p b (rule p.state b) p.fault refl (lawful p.state b s) h) g

pub counted : (u : List Placed) → (progress rule start u).fault ≡ None → length (progress rule start u).rest ≡ count_of (progress rule start u).state
counted u g = counted_from u (unread start) (record { within = omega arith; none = λ _. refl; fits = tt }) (λ _. refl) g
