-- Bytes that wait, and bytes after them.
use Rattle.std.proofs.Common.{◌≡◌, ℕ, ◌+◌, ◌-◌, ◌<◌, ◌≤◌, ◌⊎◌, inl, inr, List, [], ◌∷◌, ◌++◌, length, take, drop, refl, sym, ◌∙◌, ap, arith, append_assoc, append-nil, length-append, length-drop}
use Rattle.std.proofs.Math.Seq.{take-append-add}
use Rattle.std.proofs.lemmas.List.{take-append-drop, take-append-le, length-take-le}
use Rattle.trace_values.specs.declared.fault.Reason.{Reason}
use Rattle.itm_codec.specs.Names.{Next, Go, End, Fail, Walked, Within, Whole, Broken, after, walk, Partial, rule}
use Rattle.itm_codec.specs.Names.{count_of, bytes_of}
use Rattle.trace_values.proofs.Walks.{walk_more, walk_beyond, walk_broken}
use Rattle.itm_grammar.proofs.Deciding.{counted_bytes}
use Rattle.itm_codec.specs.declared.decoder.ItmDecoder.{ItmDecoder}
use Rattle.itm_codec.specs.Decoder.{partial_of, held_of, waiting_in}
use Rattle.itm_codec.specs.Reached.{reached, left_by}
use Rattle.itm_codec.proofs.Joining.{count_of_bytes}

pub take_take : (k n : ℕ) (l : List ℕ) → k ≤ n → n ≤ length l → take k (take n l) ≡ take k l
take_take k n l h m =
    let e : length (take n l) ≡ n = length-take-le n l m in
    sym (take-append-le k (take n l) (drop n l) (omega arith)) ∙ ap (take k) (take-append-drop n l)

-- a list with a copy of the first of others
pub seen : (a next ahead : List ℕ) → next ≡ take 8 ahead → 8 ≤ length ahead → take 8 (a ++ next) ≡ take 8 (a ++ ahead)
seen a next ahead e l =
    let copied : length next ≡ 8 = ap length e ∙ length-take-le 8 ahead l in
    let enough : 8 ≤ length (a ++ next) = omega (arith, length-append a next, copied) in
    sym (take-append-le 8 (a ++ next) (drop 8 ahead) enough) ∙ ap (take 8)
    (append_assoc a next (drop 8 ahead) ∙ ap (λ (x : List ℕ). a ++ (x ++ drop 8 ahead)) e ∙ ap (λ (x : List ℕ). a ++ x) (take-append-drop 8 ahead))

-- a list is that of its first elements, with more
pub longer : (k n : ℕ) (l : List ℕ) → k < n → n ≤ length l → (b : ℕ) × (more : List ℕ) × (take n l ≡ take k l ++ (b ∷ more))
longer k n l h m = by (drop k (take n l)) refl where
  by : (rest : List ℕ) → drop k (take n l) ≡ rest → (b : ℕ) × (more : List ℕ) × (take n l ≡ take k l ++ (b ∷ more))
  by [] e = absurd (let s : length (drop k (take n l)) ≡ 0 = ap length e in omega (arith, length-drop k (take n l), length-take-le n l m))
  by (b ∷ more) e = (b, more, sym (take-append-drop k (take n l)) ∙ ap (λ (x : List ℕ). take k (take n l) ++ x) e ∙ ap (λ (x : List ℕ). x ++ (b ∷ more)) (take_take k n l (omega arith) m))

pub reaches : (n m : ℕ) → (n ≤ m) ⊎ (m < n)
reaches n m = grind arith

module _ {S V : Type 0} (rule : S → ℕ → Next S V) where
  -- a front of a value leaves something unfinished
  front_after : (x : Next S V) (k l : S → Walked S V) (a : List ℕ) (b : ℕ) (more : List ℕ) (v : V) →
      ((t : S) → k t ≡ Whole v → (r : S) × (l t ≡ Within r)) → after x k (a ++ (b ∷ more)) ≡ Whole v → (r : S) × (after x l a ≡ Within r)
  front_after (Go t) k l a b more v h e = h t e
  front_after (End w) k l [] b more v h e = cc
  front_after (End w) k l (c ∷ a) b more v h e = cc
  front_after (Fail f) k l a b more v h e = cc

  pub front_within : (s : S) (a : List ℕ) (b : ℕ) (more : List ℕ) (v : V) → walk rule s (a ++ (b ∷ more)) ≡ Whole v → (r : S) × (walk rule s a ≡ Within r)
  front_within s [] b more v e = (s, refl)
  front_within s (c ∷ a) b more v e =
      front_after (rule s c) (λ t. walk rule t (a ++ (b ∷ more))) (λ t. walk rule t a) a b more v (λ t h. front_within t a b more v h) e

  -- a value has no more units within it
  pub whole_within : (s t : S) (a w : List ℕ) (v : V) → walk rule s a ≡ Whole v → walk rule s (a ++ w) ≡ Within t → ⊥
  whole_within s t a [] v e h = (let k = sym e ∙ ap (walk rule s) (sym (append-nil a)) ∙ h in cc)
  whole_within s t a (b ∷ w) v e h = (let k = sym (walk_beyond rule s v a b w e) ∙ h in cc)

  pub broken_within : (s t : S) (a w : List ℕ) (f : Reason) → walk rule s a ≡ Broken f → walk rule s (a ++ w) ≡ Within t → ⊥
  broken_within s t a w f e h = (let k = sym (walk_broken rule s f a w e) ∙ h in cc)

  -- where units wait, and more end a value with them
  pub ends_value : (s t : S) (a ahead : List ℕ) (n : ℕ) (v : V) → walk rule s a ≡ Within t → walk rule s (take n (a ++ ahead)) ≡ Whole v →
      (length a < n) × (walk rule t (take (n - length a) ahead) ≡ Whole v)
  ends_value s t a ahead n v e w = (beyond, rest) where
    within : n ≤ length a → ⊥
    within h = whole_within s t (take n a) (drop n a) v (ap (walk rule s) (sym (take-append-le n a ahead h)) ∙ w) (ap (walk rule s) (take-append-drop n a) ∙ e)

    by : (n ≤ length a) ⊎ (length a < n) → length a < n
    by (inl h) = absurd (within h)
    by (inr h) = h

    beyond : length a < n
    beyond = by (reaches n (length a))

    parts : take n (a ++ ahead) ≡ a ++ take (n - length a) ahead
    parts = ap (λ (i : ℕ). take i (a ++ ahead)) (let k : n ≡ length a + (n - length a) = omega (arith, beyond) in k) ∙ take-append-add a ahead (n - length a)

    rest : walk rule t (take (n - length a) ahead) ≡ Whole v
    rest = sym (walk_more rule s t a (take (n - length a) ahead) e) ∙ ap (walk rule s) (sym parts) ∙ w

-- what a walk leaves unfinished is what is reached
pub reached_is : (s t : Partial) (r : List ℕ) → walk rule s r ≡ Within t → reached s r ≡ t
reached_is s t r e = ap (left_by s) e

-- where none wait, what is unfinished is kept as it is
pub settled : (d : ItmDecoder) → d.waiting ≡ 0 → partial_of d ≡ d.partial
settled d e = ap (λ (n : ℕ). reached d.partial (bytes_of n d.held)) e

-- the bytes that wait are so many
pub count_is : (d : ItmDecoder) → length (waiting_in d) ≡ d.waiting
count_is d = count_of_bytes d.waiting d.held

-- and they are all that is held
pub waiting_is : (d : ItmDecoder) → 0 < d.waiting → d.waiting ≡ held_of d
waiting_is d h =
    let n = counted_bytes d.partial (partial_of d) (waiting_in d) d.within in
    let none : count_of d.partial ≡ 0 = ap count_of (d.begins (d.waits h)) in
    omega (arith, n, none, count_is d)
