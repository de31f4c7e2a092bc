-- Images of bytes, byte by byte.
use Rattle.std.proofs.Common.{◌≡◌, ℕ, zero, suc, ◌+◌, ◌-◌, ◌%◌, ◌<◌, ◌≤◌, List, [], ◌∷◌, ◌++◌, length, length-append, map, take, drop, set, get_or, replicate, true, cond, refl, sym, ◌∙◌, ap, subst, ◌⊎◌, inl, inr, arith, append_assoc, append-nil, add-one, ◌*◌, ◌/◌}
use borrow.Rule.Slice.PartMut.{put_mid}
use Rattle.std.specs.Prelude.{◌==◌, nat_le}
use Rattle.std.specs.List.{range_with_len}
use Rattle.std.proofs.lemmas.Bool.{cases_lt, cases_eq, eq-eqb, ne_eqb, le-leb, lt-leb}
use Rattle.std.proofs.Math.Nat.{suc-mod, mod_self, mod-eq_of_lt, mod-lt, mod-add-div, add-mul-mod_self_left}
use Rattle.std.proofs.lemmas.List.{take-append-drop, same_lists, length-set, get_or-set_same, get_or-set_other, take_more_set, take_all, set_split, drop-drop, drop-set-lt, drop-append-le, length-take-le, length-drop}
use Rattle.std.proofs.Math.ListN.{drop_of_length-le}
use Rattle.std.proofs.lemmas.List.FromFn.{get_or-map-range_with_len, length-map-range_with_len}
use Rattle.buffer_ring.specs.Image.{last_at, image, pointer, is_full, dropped, ordered}

pub image_length : (n : ℕ) (u : List ℕ) → length (image n u) ≡ n
image_length n u = length-map-range_with_len (λ i. last_at n i 0 0 u) 0 n

-- one more byte
last_push : (n i k found : ℕ) (u : List ℕ) (b : ℕ) → last_at n i k found (u ++ b ∷ []) ≡ cond ((k + length u) % n == i) b (last_at n i k found u)
last_push n i k found [] b = ap (λ m. cond (m % n == i) b found) (let e : k ≡ k + 0 = omega arith in e)
last_push n i k found (x ∷ u) b =
    last_push n i (suc k) (cond (k % n == i) x found) u b
    ∙ ap (λ m. cond (m % n == i) b (last_at n i (suc k) (cond (k % n == i) x found) u)) (let e : suc k + length u ≡ k + suc (length u) = omega arith in e)

pub image_push : (n : ℕ) (u : List ℕ) (b : ℕ) → 0 < n → image n (u ++ b ∷ []) ≡ set (image n u) (length u % n) b
image_push n u b p =
    same_lists (image n (u ++ b ∷ [])) (set (image n u) (length u % n) b)
    (image_length n (u ++ b ∷ []) ∙ sym (image_length n u) ∙ sym (length-set (image n u) (length u % n) b))
    (λ k d h. at k d (let l = image_length n (u ++ b ∷ []) in omega (arith, h, l))) where
      each : (v : List ℕ) (k d : ℕ) → k < n → get_or (image n v) k d ≡ last_at n k 0 0 v
      each v k d h = get_or-map-range_with_len (λ i. last_at n i 0 0 v) 0 n k k d h (let e : 0 + k ≡ k = omega arith in e)

      pushed : (k : ℕ) → last_at n k 0 0 (u ++ b ∷ []) ≡ cond (length u % n == k) b (last_at n k 0 0 u)
      pushed k = last_push n k 0 0 u b ∙ ap (λ m. cond (m % n == k) b (last_at n k 0 0 u)) (let e : 0 + length u ≡ length u = omega arith in e)

      at : (k d : ℕ) → k < n → get_or (image n (u ++ b ∷ [])) k d ≡ get_or (set (image n u) (length u % n) b) k d
      at k d h = each (u ++ b ∷ []) k d h ∙ pushed k ∙ elim (cases_eq (length u % n) k) [
        | inl e ↦ ap (λ t. cond t b (last_at n k 0 0 u)) (eq-eqb (length u % n) k e) ∙ sym (ap (λ m. get_or (set (image n u) m b) k d) e ∙ get_or-set_same (image n u) k b d (let l = image_length n u in omega (arith, h, l)))
        | inr o ↦ ap (λ t. cond t b (last_at n k 0 0 u)) (ne_eqb (length u % n) k o) ∙ sym (get_or-set_other (image n u) (length u % n) k b d (λ e. o (sym e)) ∙ each u k d h)
      ]

less : (a b : ℕ) → a ≤ b → (a ≡ b → ⊥) → a < b
less a b h n = elim (cases_lt a b) [
  | inl l ↦ l
  | inr g ↦ absurd (n (let e : a ≡ b = omega arith in e))
]

-- the next place
pub next_at : (n l : ℕ) → 0 < n → suc l % n ≡ cond (suc (l % n) == n) 0 (suc (l % n))
next_at n l p = suc-mod l n ∙ elim (cases_eq (suc (l % n)) n) [
  | inl e ↦ ap (λ m. m % n) e ∙ mod_self n ∙ sym (ap (λ t. cond t 0 (suc (l % n))) (eq-eqb (suc (l % n)) n e))
  | inr o ↦ mod-eq_of_lt (less (suc (l % n)) n (mod-lt l p) o) ∙ sym (ap (λ t. cond t 0 (suc (l % n))) (ne_eqb (suc (l % n)) n o))
]

-- further bytes that go up to the end of the memory at most stand where the pointer was
pub image_part : (n : ℕ) (u part : List ℕ) → 0 < n → pointer n u + length part ≤ n →
    image n (u ++ part) ≡ put_mid (pointer n u) (length part) (image n u) part
image_part n u [] p h = ap (image n) (append-nil u) ∙ sym (take-append-drop (pointer n u) (image n u))
image_part n u (b ∷ []) p h =
    let xs = image n u in
    let at = pointer n u in
    image_push n u b p ∙ set_split xs at b (let l = image_length n u in omega (arith, l, h))
    ∙ ap (λ m. take at xs ++ b ∷ m) (sym (drop-drop 1 at xs ∙ ap (λ k. drop k xs) (add-one at)))
image_part n u (b ∷ (c ∷ part)) p h =
    let xs = image n u in
    let at = pointer n u in
    let v = u ++ b ∷ [] in
    let k = length (c ∷ part) in
    let here : at < length xs = (let l = image_length n u in omega (arith, l, h)) in
    let more : length v ≡ suc (length u) = length-append u (b ∷ []) ∙ (omega arith) in
    let next : pointer n v ≡ suc at =
    ap (λ m. m % n) more ∙ next_at n (length u) p ∙ ap (λ t. cond t 0 (suc at)) (ne_eqb (suc at) n (λ e. omega (arith, e, h))) in
    let room : pointer n v + k ≤ n = omega (arith, next, h) in
    let front : take (suc at) (set xs at b) ≡ take at xs ++ b ∷ [] =
    ap (λ m. take m (set xs at b)) (sym (add-one at)) ∙ take_more_set xs at b here in
    let back : drop (suc at) (set xs at b) ≡ drop (suc at) xs = drop-set-lt (suc at) xs at b (omega arith) in
    let past : drop k (drop (suc at) xs) ≡ drop (suc k) (drop at xs) =
    drop-drop k (suc at) xs ∙ ap (λ m. drop m xs) (let e : suc at + k ≡ at + suc k = omega arith in e) ∙ sym (drop-drop (suc k) at xs) in
    ap (image n) (sym (append_assoc u (b ∷ []) (c ∷ part))) ∙ image_part n v (c ∷ part) p room
    ∙ ap (λ m. put_mid m k (image n v) (c ∷ part)) next
    ∙ ap (λ (l : List ℕ). put_mid (suc at) k l (c ∷ part)) (image_push n u b p)
    ∙ ap (λ (l : List ℕ). l ++ ((c ∷ part) ++ drop k (drop (suc at) (set xs at b)))) front
    ∙ ap (λ (l : List ℕ). (take at xs ++ b ∷ []) ++ ((c ∷ part) ++ drop k l)) back
    ∙ ap (λ (l : List ℕ). (take at xs ++ b ∷ []) ++ ((c ∷ part) ++ l)) past
    ∙ append_assoc (take at xs) (b ∷ []) ((c ∷ part) ++ drop (suc k) (drop at xs))

-- and the next place is after them, or the first
pub next_after : (n l k : ℕ) → 0 < n → l % n + k ≤ n → (l + k) % n ≡ cond (l % n + k == n) 0 (l % n + k)
next_after n l k p h =
    ap (λ m. m % n) (let d = mod-add-div l n in let e : l + k ≡ (l % n + k) + n * (l / n) = omega (arith, d) in e)
    ∙ add-mul-mod_self_left (l % n + k) n (l / n) ∙ elim (cases_eq (l % n + k) n) [
      | inl e ↦ ap (λ m. m % n) e ∙ mod_self n ∙ sym (ap (λ t. cond t 0 (l % n + k)) (eq-eqb (l % n + k) n e))
      | inr o ↦ mod-eq_of_lt (less (l % n + k) n h o) ∙ sym (ap (λ t. cond t 0 (l % n + k)) (ne_eqb (l % n + k) n o))
    ]

-- a buffer of no bytes
pub image_none : (n : ℕ) → replicate {A = ℕ} n 0 ≡ image n []
image_none n = go n 0 where
  go : (n a : ℕ) → replicate {A = ℕ} n 0 ≡ map (λ (i : ℕ). 0) (range_with_len a n)
  go zero a = refl
  go (suc n) a = ap (λ l. 0 ∷ l) (go n (a + 1))

-- what holds of no bytes, and of one more than of those of which it holds, holds of all
all_lists : (P : List ℕ → Type 0) → P [] → ((u : List ℕ) (b : ℕ) → P u → P (u ++ b ∷ [])) → (u : List ℕ) → P u
all_lists P none more u = go u [] none where
  go : (u v : List ℕ) → P v → P (v ++ u)
  go [] v h = subst P (sym (append-nil v)) h
  go (b ∷ u) v h = subst P (append_assoc v (b ∷ []) u) (go u (v ++ b ∷ []) (more v b h))

-- a byte put at its place, where the next is this one, in order: it is the last
turned : (l : List ℕ) (n at b : ℕ) → length l ≡ n → at < n → ordered (set l at b) (cond (suc at == n) 0 (suc at)) true ≡ drop (suc at) l ++ (take at l ++ b ∷ [])
turned l n at b e h = by (cases_eq (suc at) n) where
  k : take (suc at) (set l at b) ≡ take at l ++ b ∷ []
  k = ap (λ m. take m (set l at b)) (let e : suc at ≡ at + 1 = omega arith in e) ∙ take_more_set l at b (omega (arith, e, h))

  by : ((suc at ≡ n) ⊎ (suc at ≡ n → ⊥)) → ordered (set l at b) (cond (suc at == n) 0 (suc at)) true ≡ drop (suc at) l ++ (take at l ++ b ∷ [])
  by (inl q) =
      ap (λ t. ordered (set l at b) (cond t 0 (suc at)) true) (eq-eqb (suc at) n q) ∙ append-nil (set l at b)
      ∙ sym (take_all (suc at) (set l at b) (let m = length-set l at b in omega (arith, m, e, q))) ∙ k
      ∙ sym (ap (λ (z : List ℕ). z ++ (take at l ++ b ∷ [])) (drop_of_length-le l {i = suc at} (omega (arith, e, q))))
  by (inr o) =
      ap (λ t. ordered (set l at b) (cond t 0 (suc at)) true) (ne_eqb (suc at) n o)
      ∙ ap (λ (z : List ℕ). z ++ take (suc at) (set l at b)) (drop-set-lt (suc at) l at b (omega arith)) ∙ ap (λ (z : List ℕ). drop (suc at) l ++ z) k

drop_more : (i : ℕ) (l : List ℕ) (x : ℕ) (m : List ℕ) → drop i l ≡ x ∷ m → drop (suc i) l ≡ m
drop_more zero [] x m e = cc
drop_more zero (y ∷ l) x m e = (let k = e in cc)
drop_more (suc i) [] x m e = cc
drop_more (suc i) (y ∷ l) x m e = drop_more i l x m e

drop_some : (i : ℕ) (l : List ℕ) → i < length l → (x : ℕ) × (drop i l ≡ x ∷ drop (suc i) l)
drop_some i [] h = absurd (omega arith)
drop_some zero (x ∷ l) h = (x, refl)
drop_some (suc i) (x ∷ l) h = drop_some i l (omega arith)

module _ (n : ℕ) (p : 0 < n) where
  abbrev InOrder : List ℕ → Type 0
  InOrder u = ordered (image n u) (pointer n u) (is_full n u) ≡ drop (dropped n u) u

  none : InOrder []
  none =
      let m : 0 % n ≡ 0 = mod-eq_of_lt p in
      let d : 0 - n ≡ 0 = omega arith in
      ap (λ t. ordered (image n []) (0 % n) t) (lt-leb n 0 p) ∙ ap (λ k. take k (image n [])) m ∙ sym (ap (λ k. drop {A = ℕ} k []) d)

  step : (u : List ℕ) (b : ℕ) → InOrder u → InOrder (u ++ b ∷ [])
  step u b h = by (cases_lt (length u) n) where
    more : length (u ++ b ∷ []) ≡ suc (length u)
    more = length-append u (b ∷ []) ∙ (omega arith)

    next : pointer n (u ++ b ∷ []) ≡ cond (suc (pointer n u) == n) 0 (suc (pointer n u))
    next = ap (λ m. m % n) more ∙ next_at n (length u) p

    within : pointer n u < n
    within = mod-lt (length u) p

    full : n ≤ suc (length u) → ordered (image n (u ++ b ∷ [])) (pointer n (u ++ b ∷ [])) (is_full n (u ++ b ∷ [])) ≡ drop (suc (pointer n u)) (image n u) ++ (take (pointer n u) (image n u) ++ b ∷ [])
    full l =
        ap (λ (z : List ℕ). ordered z (pointer n (u ++ b ∷ [])) (is_full n (u ++ b ∷ []))) (image_push n u b p)
        ∙ ap (λ m. ordered (set (image n u) (pointer n u) b) m (is_full n (u ++ b ∷ []))) next
        ∙ ap (λ t. ordered (set (image n u) (pointer n u) b) (cond (suc (pointer n u) == n) 0 (suc (pointer n u))) t) (ap (nat_le n) more ∙ le-leb n (suc (length u)) l)
        ∙ turned (image n u) n (pointer n u) b (image_length n u) within

    by : ((length u < n) ⊎ (n ≤ length u)) → InOrder (u ++ b ∷ [])
    by (inl l) =
        let at : pointer n u ≡ length u = mod-eq_of_lt l in
        let zero_left : length u - n ≡ 0 = omega arith in
        let was : take (pointer n u) (image n u) ≡ u = ap (λ t. ordered (image n u) (pointer n u) t) (sym (lt-leb n (length u) l)) ∙ h ∙ ap (λ m. drop m u) zero_left in
        let still : length (u ++ b ∷ []) - n ≡ 0 = (let m = more in omega (arith, m, l)) in
        let put : take (pointer n u) (image n u) ++ b ∷ [] ≡ drop (length (u ++ b ∷ []) - n) (u ++ b ∷ []) = ap (λ (z : List ℕ). z ++ b ∷ []) was ∙ ap (λ m. drop m (u ++ b ∷ [])) (sym still) in
        elim (cases_lt (suc (length u)) n) [
          | inl m ↦ (
              let after : pointer n (u ++ b ∷ []) ≡ suc (pointer n u) = ap (λ k. k % n) more ∙ mod-eq_of_lt m ∙ ap suc (sym at) in
              ap (λ (z : List ℕ). ordered z (pointer n (u ++ b ∷ [])) (is_full n (u ++ b ∷ []))) (image_push n u b p)
              ∙ ap (λ t. ordered (set (image n u) (pointer n u) b) (pointer n (u ++ b ∷ [])) t) (ap (nat_le n) more ∙ lt-leb n (suc (length u)) m)
              ∙ ap (λ k. take k (set (image n u) (pointer n u) b)) (after ∙ (omega arith))
              ∙ take_more_set (image n u) (pointer n u) b (let i = image_length n u in let w = within in omega (arith, i, w)) ∙ put)
          | inr m ↦ full m ∙ ap (λ (z : List ℕ). z ++ (take (pointer n u) (image n u) ++ b ∷ [])) (drop_of_length-le (image n u) {i = suc (pointer n u)} (let i = image_length n u in omega (arith, i, m, at))) ∙ put
        ]
    by (inr l) =
        let was : drop (pointer n u) (image n u) ++ take (pointer n u) (image n u) ≡ drop (length u - n) u =
        ap (λ t. ordered (image n u) (pointer n u) t) (sym (le-leb n (length u) l)) ∙ h in
        let s = drop_some (pointer n u) (image n u) (let m = image_length n u in let w = within in omega (arith, m, w)) in
        let old : drop (suc (length u - n)) u ≡ drop (suc (pointer n u)) (image n u) ++ take (pointer n u) (image n u) =
        drop_more (length u - n) u s.0 _ (sym was ∙ ap (λ (z : List ℕ). z ++ take (pointer n u) (image n u)) s.1) in
        let k : suc (length u - n) ≡ length (u ++ b ∷ []) - n = (let m = more in omega (arith, m, l)) in
        full (omega arith) ∙ sym (append_assoc (drop (suc (pointer n u)) (image n u)) (take (pointer n u) (image n u)) (b ∷ []))
        ∙ ap (λ (z : List ℕ). z ++ b ∷ []) (sym old) ∙ sym (drop-append-le (suc (length u - n)) u (b ∷ []) (omega (arith, l, p))) ∙ ap (λ m. drop m (u ++ b ∷ [])) k

  pub in_order : (u : List ℕ) → InOrder u
  in_order = all_lists InOrder none step

-- memory that is as long as the list is the list
pub image_exact : (n : ℕ) (u : List ℕ) → 0 < n → length u ≡ n → image n u ≡ u
image_exact n u p e =
    let at : pointer n u ≡ 0 = ap (λ k. k % n) e ∙ mod_self n in
    let full : is_full n u ≡ true = le-leb n (length u) (omega (arith, e)) in
    let all : dropped n u ≡ 0 = omega (arith, e) in
    sym (append-nil (image n u)) ∙ sym (ap (λ t. ordered (image n u) 0 t) full)
    ∙ sym (ap (λ k. ordered (image n u) k (is_full n u)) at) ∙ in_order n p u ∙ ap (λ k. drop k u) all

-- a part that is written where there is room for it leaves the length as it is
pub length-part : (at : ℕ) (xs part : List ℕ) → at + length part ≤ length xs →
    length (put_mid at (length part) xs part) ≡ length xs
length-part at xs part h =
    let a = length-take-le at xs (omega arith) in
    let b = length-append (take at xs) (part ++ drop (length part) (drop at xs)) in
    let c = length-append part (drop (length part) (drop at xs)) in
    let d = length-drop (length part) (drop at xs) in
    let e = length-drop at xs in
    omega (arith, a, b, c, d, e)
