-- What the tables of lengths tell.
use Rattle.std.proofs.Common.{◌≡◌, ℕ, zero, suc, ◌+◌, ◌*◌, ◌/◌, ◌%◌, ◌<◌, ◌≤◌, ◌≢◌, ◌⊎◌, inl, inr, List, [], ◌∷◌, length, take, drop, get_or, slice_index, Bool, true, false, refl, sym, ◌∙◌, ap, subst, arith}
use Rattle.std.specs.Prelude.{◌==◌, nat_lt, if◌then◌else◌}
use Rattle.std.proofs.lemmas.Bool.{agree_below_at, eqb-true, eqb-false}
use Rattle.std.proofs.lemmas.List.{length-take-le, length-drop, take_all}
use Rattle.itm_grammar.proofs.ShortSpellings.{continued_more}
use Rattle.itm_codec.proofs.Places.{place_here, place_later, within}
use Rattle.itm_codec.proofs.Waiting.{reaches, take_take}
use Rattle.itm_codec.proofs.Windows.{one_more}
use Rattle.std.proofs.lemmas.Bool.Decides.{nat_tests}
use Rattle.itm_codec.specs.Names.{IsContinued, IsExtended}
use Rattle.itm_codec.specs.Lengths.{IsTold, first_clear, groups_behind, told_at}
use Rattle.itm_codec.specs.declared.lengths.TheConstants.{KINDS, LENGTHS}

-- the kind of each header, by its bits
kind_of : ℕ → ℕ
kind_of header =
    if nat_lt 0 (header % 4) then header % 4
    else (if header % 16 == 0 then (if nat_lt header 16 then 0 else (if nat_lt header 128 then 4 else (if nat_lt header 192 then 0 else 5)))
    else (if header % 16 == 4 then (if header == 148 then 5 else (if header == 180 then 7 else 0))
    else (if nat_lt header 128 then 4 else 6)))

kind_is : (header : ℕ) → header < 256 → get_or KINDS.now header 0 ≡ kind_of header
unfolding kind_of
kind_is header l = eqb-true _ _ (agree_below_at (λ (h : ℕ). get_or KINDS.now h 0 == kind_of h) (λ (h : ℕ). true) 256 header refl l)

-- what is told of each kind
at_kind : (header place kind : ℕ) → header < 256 → kind_of header ≡ kind → told_at header place ≡ get_or LENGTHS.now (8 * kind + place) 0
at_kind header place kind l e = ap (λ (k : ℕ). get_or LENGTHS.now (8 * k + place) 0) (kind_is header l ∙ e)

-- what holds of each place
each_place : (P : ℕ → Type 0) → P 0 × P 1 × P 2 × P 3 × P 4 × P 5 × P 6 × P 7 → (place : ℕ) → place ≤ 7 → P place
each_place P p zero l = p.0
each_place P p (suc zero) l = p.1
each_place P p (suc (suc zero)) l = p.2
each_place P p (suc (suc (suc zero))) l = p.3
each_place P p (suc (suc (suc (suc zero)))) l = p.4
each_place P p (suc (suc (suc (suc (suc zero))))) l = p.5
each_place P p (suc (suc (suc (suc (suc (suc zero)))))) l = p.6
each_place P p (suc (suc (suc (suc (suc (suc (suc zero))))))) l = p.7
each_place P p (suc (suc (suc (suc (suc (suc (suc (suc n)))))))) l = absurd (omega arith)

none_told : (place : ℕ) → place ≤ 7 → get_or LENGTHS.now (8 * 0 + place) 0 ≡ 0
none_told = each_place (λ p. get_or LENGTHS.now (8 * 0 + p) 0 ≡ 0) (refl, refl, refl, refl, refl, refl, refl, refl)

alone : (place : ℕ) → place ≤ 7 → get_or LENGTHS.now (8 * 4 + place) 0 ≡ 1
alone = each_place (λ p. get_or LENGTHS.now (8 * 4 + p) 0 ≡ 1) (refl, refl, refl, refl, refl, refl, refl, refl)

sized : (code place : ℕ) → 0 < code → code < 4 → place ≤ 7 → get_or LENGTHS.now (8 * code + place) 0 ≡ 1 + (code + code / 3)
sized zero place h l = absurd (omega arith)
sized (suc zero) place h l = each_place (λ p. get_or LENGTHS.now (8 * 1 + p) 0 ≡ 2) (refl, refl, refl, refl, refl, refl, refl, refl) place
sized (suc (suc zero)) place h l = each_place (λ p. get_or LENGTHS.now (8 * 2 + p) 0 ≡ 3) (refl, refl, refl, refl, refl, refl, refl, refl) place
sized (suc (suc (suc zero))) place h l = each_place (λ p. get_or LENGTHS.now (8 * 3 + p) 0 ≡ 5) (refl, refl, refl, refl, refl, refl, refl, refl) place
sized (suc (suc (suc (suc code)))) place h l = absurd (omega arith)

-- the header and the bytes up to the place
abbrev UpTo : ℕ → ℕ → Type 0
UpTo n place = (place < 4) × (n ≡ 2 + place)

grouped : (place : ℕ) → place ≤ 7 → 0 < get_or LENGTHS.now (8 * 5 + place) 0 → UpTo (get_or LENGTHS.now (8 * 5 + place) 0) place
grouped = each_place (λ p. 0 < get_or LENGTHS.now (8 * 5 + p) 0 → UpTo (get_or LENGTHS.now (8 * 5 + p) 0) p)
    (λ h. (omega arith, refl), λ h. (omega arith, refl), λ h. (omega arith, refl), λ h. (omega arith, refl), λ h. absurd (omega (arith, h)), λ h. absurd (omega (arith, h)), λ h. absurd (omega (arith, h)), λ h. absurd (omega (arith, h)))

-- or four where there are more
abbrev UpToFour : ℕ → ℕ → Type 0
UpToFour n place = UpTo n place ⊎ ((4 ≤ place) × (n ≡ 5))

extending : (place : ℕ) → place ≤ 7 → UpToFour (get_or LENGTHS.now (8 * 6 + place) 0) place
extending = each_place (λ p. UpToFour (get_or LENGTHS.now (8 * 6 + p) 0) p)
    (inl (omega arith, refl), inl (omega arith, refl), inl (omega arith, refl), inl (omega arith, refl), inr (omega arith, refl), inr (omega arith, refl), inr (omega arith, refl), inr (omega arith, refl))

-- or four, or six
abbrev FourOrSix : ℕ → ℕ → Type 0
FourOrSix n place = ((place ≡ 3) × (n ≡ 5)) ⊎ ((place ≡ 5) × (n ≡ 7))

second : (place : ℕ) → place ≤ 7 → 0 < get_or LENGTHS.now (8 * 7 + place) 0 → FourOrSix (get_or LENGTHS.now (8 * 7 + place) 0) place
second = each_place (λ p. 0 < get_or LENGTHS.now (8 * 7 + p) 0 → FourOrSix (get_or LENGTHS.now (8 * 7 + p) 0) p)
    (λ h. absurd (omega (arith, h)), λ h. absurd (omega (arith, h)), λ h. absurd (omega (arith, h)), λ h. inl (refl, refl), λ h. absurd (omega (arith, h)), λ h. inr (refl, refl), λ h. absurd (omega (arith, h)), λ h. absurd (omega (arith, h)))

-- what is told, by the header
kind_source : (header : ℕ) → 0 < header % 4 → kind_of header ≡ header % 4
unfolding kind_of
kind_source header h = grind (arith, nat_tests)

kind_short : (header : ℕ) → header % 16 ≡ 0 → 16 ≤ header → header < 128 → kind_of header ≡ 4
unfolding kind_of
kind_short header a h l = grind (arith, nat_tests)

kind_alone : (header : ℕ) → header % 4 ≡ 0 → (header / 8) % 2 ≡ 1 → header < 128 → kind_of header ≡ 4
unfolding kind_of
kind_alone header a b l = grind (arith, nat_tests)

kind_low : (header : ℕ) → header % 16 ≡ 0 → (header < 16) ⊎ ((128 ≤ header) × (header < 192)) → kind_of header ≡ 0
unfolding kind_of
kind_low header a (inl b) = grind (arith, nat_tests)
kind_low header a (inr b) = (let x = b.0 in let y = b.1 in grind (arith, nat_tests))

kind_late : (header : ℕ) → header % 16 ≡ 0 → 192 ≤ header → kind_of header ≡ 5
unfolding kind_of
kind_late header a h = grind (arith, nat_tests)

kind_other : (header : ℕ) → header % 16 ≡ 4 → header ≢ 148 → header ≢ 180 → kind_of header ≡ 0
unfolding kind_of
kind_other header a h g = grind (arith, nat_tests)

kind_long : (header : ℕ) → header % 4 ≡ 0 → (header / 8) % 2 ≡ 1 → 128 ≤ header → kind_of header ≡ 6
unfolding kind_of
kind_long header a b h = grind (arith, nat_tests)

-- the bytes up to the place
continued_at : (l : List ℕ) → first_clear l < length l → IsContinued (take (1 + first_clear l) l)
continued_at [] h = absurd (omega (arith, h))
continued_at (b ∷ l) h = elim (reaches 128 b) [
  | inr k ↦ subst (λ (m : ℕ). IsContinued (take (1 + m) (b ∷ l))) (sym (place_here b l k)) k
  | inl k ↦ (let e = place_later b l k in
      subst IsContinued (sym (ap (λ (m : ℕ). take (1 + m) (b ∷ l)) e ∙ one_more (1 + first_clear l) b l))
      (continued_more b (take (1 + first_clear l) l) k (continued_at l (omega (arith, e, h)))))
]

-- the first ones say that another follows
set_before : (b : ℕ) (l : List ℕ) → 0 < first_clear (b ∷ l) → 128 ≤ b
set_before b l h = elim (reaches 128 b) [
  | inl k ↦ k
  | inr k ↦ absurd (let e = place_here b l k in omega (arith, e, h))
]

extended_at : (l : List ℕ) → 4 ≤ first_clear l → 4 ≤ length l → IsExtended (take 4 l)
extended_at (a ∷ (b ∷ (c ∷ (d ∷ l)))) h n =
    let ka = set_before a (b ∷ (c ∷ (d ∷ l))) (omega (arith, h)) in
    let ea = place_later a (b ∷ (c ∷ (d ∷ l))) ka in
    let kb = set_before b (c ∷ (d ∷ l)) (omega (arith, h, ea)) in
    let eb = place_later b (c ∷ (d ∷ l)) kb in
    let kc = set_before c (d ∷ l) (omega (arith, h, ea, eb)) in (ka, kb, kc, refl)
extended_at [] h n = absurd (omega arith)
extended_at (a ∷ []) h n = absurd (omega arith)
extended_at (a ∷ (b ∷ [])) h n = absurd (omega arith)
extended_at (a ∷ (b ∷ (c ∷ []))) h n = absurd (omega arith)

-- a payload of at most four bytes is one of an extension packet too
extends : (l : List ℕ) (n : ℕ) → length l ≡ n → n ≤ 4 → IsContinued l → IsExtended l
extends [] n e h c = tt
extends (a ∷ []) n e h c = c
extends (a ∷ (b ∷ [])) n e h c = c
extends (a ∷ (b ∷ (d ∷ []))) n e h c = (c.0, c.1.0, c.1.1)
extends (a ∷ (b ∷ (d ∷ (f ∷ [])))) n e h c = (c.0, c.1.0, c.1.1.0, refl)
extends (a ∷ (b ∷ (d ∷ (f ∷ (g ∷ l))))) n e h c = absurd (omega (arith, e, h))

-- bytes that begin with a packet
module _ (window : List ℕ) (bytes header : ℕ) (long : length window ≡ 8) (byte : header < 256) (h : header ≡ slice_index window 0) (told : IsTold window bytes) where
  abbrev behind : List ℕ
  behind = drop 1 window

  abbrev place : ℕ
  place = first_clear behind

  seven : length behind ≡ 7
  seven = (let k = length-drop 1 window in omega (arith, k, long))

  few : place ≤ 7
  few = (let k = within behind in omega (arith, k, seven))

  -- what is told where the header is of this kind
  by_kind : (kind : ℕ) → kind_of header ≡ kind → bytes ≡ get_or LENGTHS.now (8 * kind + place) 0
  by_kind kind e = told.1 ∙ ap (λ (x : ℕ). told_at x place) (sym h) ∙ at_kind header place kind byte e

  some_at : (kind : ℕ) → kind_of header ≡ kind → 0 < get_or LENGTHS.now (8 * kind + place) 0
  some_at kind e = (let k = by_kind kind e in let m = told.0 in omega (arith, k, m))

  pub source_told : 0 < header % 4 → bytes ≡ 1 + (header % 4 + header % 4 / 3)
  source_told k = by_kind (header % 4) (kind_source header k) ∙ sized (header % 4) place k (omega arith) few

  not_told : kind_of header ≡ 0 → ⊥
  not_told e = (let k = some_at 0 e in let m = none_told place few in omega (arith, k, m))

  -- so many bytes are the header and those behind it
  bytes_are : (n : ℕ) → bytes ≡ 1 + n → take bytes window ≡ header ∷ take n behind
  bytes_are n e = ap (λ (m : ℕ). take m window) e ∙ by window long h where
    by : (w : List ℕ) → length w ≡ 8 → header ≡ slice_index w 0 → take (1 + n) w ≡ header ∷ take n (drop 1 w)
    by [] k f = absurd (omega (arith, k))
    by (b ∷ w) k f = one_more n b w ∙ ap (λ (x : ℕ). x ∷ take n w) (sym f)

  -- a header alone
  header_alone : kind_of header ≡ 4 → (bytes ≡ 1) × (take bytes window ≡ header ∷ [])
  header_alone k = (let e = by_kind 4 k ∙ alone place few in (e, bytes_are 0 e))

  local_some : header % 16 ≡ 0 → 16 ≤ header
  local_some a = elim (reaches 16 header) [ inl k ↦ k | inr k ↦ absurd (not_told (kind_low header a (inl k))) ]

  pub short_local : header % 16 ≡ 0 → header < 128 → (16 ≤ header) × (bytes ≡ 1) × (take bytes window ≡ header ∷ [])
  short_local a l =
      let k = local_some a in
      let e = header_alone (kind_short header a k l) in (k, e.0, e.1)

  pub short_extension : header % 4 ≡ 0 → (header / 8) % 2 ≡ 1 → header < 128 → (bytes ≡ 1) × (take bytes window ≡ header ∷ [])
  short_extension a b l = header_alone (kind_alone header a b l)

  pub local_late : header % 16 ≡ 0 → 112 < header → 192 ≤ header
  local_late a k = elim (reaches 192 header) [ inl m ↦ m | inr m ↦ absurd (not_told (kind_low header a (inr (omega arith, m)))) ]

  pub stamp_told : header % 16 ≡ 4 → header ≢ 148 → header ≡ 180
  stamp_told a n = by (header == 180) refl where
    by : (t : Bool) → (header == 180) ≡ t → header ≡ 180
    by true e = eqb-true header 180 e
    by false e = absurd (not_told (kind_other header a n (eqb-false header 180 e)))

  -- a header and a payload of at most four bytes, which are the first of the groups behind it
  abbrev pub HasPayload : (List ℕ → Type 0) → List ℕ → Type 0
  HasPayload P p = (take bytes window ≡ header ∷ p) × (bytes ≡ 1 + length p) × (0 < length p) × (length p ≤ 4) × P p

  by_groups : (P : List ℕ → Type 0) → UpTo bytes place → (IsContinued (take (1 + place) behind) → P (take (1 + place) behind)) → HasPayload P (take 4 (groups_behind window))
  by_groups P u f =
      let l = u.0 in
      let e = u.1 in
      let n : length (take (1 + place) behind) ≡ 1 + place = length-take-le (1 + place) behind (omega (arith, l, seven)) in
      subst (HasPayload P) (sym (take_all 4 (take (1 + place) behind) (omega (arith, n, l))))
      (bytes_are (1 + place) (omega (arith, e)), omega (arith, e, n), omega (arith, n), omega (arith, n, l), f (continued_at behind (omega (arith, l, seven))))

  groups_told : kind_of header ≡ 5 → HasPayload IsContinued (take 4 (groups_behind window))
  groups_told e =
      let u = grouped place few (some_at 5 e) in
      by_groups IsContinued (u.0, by_kind 5 e ∙ u.1) (λ c. c)

  pub late_told : header % 16 ≡ 0 → 192 ≤ header → HasPayload IsContinued (take 4 (groups_behind window))
  late_told a k = groups_told (kind_late header a k)

  pub first_told : header ≡ 148 → HasPayload IsContinued (take 4 (groups_behind window))
  unfolding kind_of
  first_told e = groups_told (ap kind_of e ∙ refl)

  all_set : 4 ≤ place → take 4 (groups_behind window) ≡ take 4 behind
  all_set l = elim (reaches 7 place) [
    | inl g ↦ ap (take 4) (take_all (1 + place) behind (omega (arith, g, seven)))
    | inr g ↦ take_take 4 (1 + place) behind (omega (arith, l)) (omega (arith, g, seven))
  ]

  pub extension_told : header % 4 ≡ 0 → (header / 8) % 2 ≡ 1 → 128 ≤ header → HasPayload IsExtended (take 4 (groups_behind window))
  extension_told a b m = by (extending place few) where
    k : bytes ≡ get_or LENGTHS.now (8 * 6 + place) 0
    k = by_kind 6 (kind_long header a b m)

    by : UpToFour (get_or LENGTHS.now (8 * 6 + place) 0) place → HasPayload IsExtended (take 4 (groups_behind window))
    by (inl u) = by_groups IsExtended (u.0, k ∙ u.1)
        (λ c. extends (take (1 + place) behind) (1 + place) (length-take-le (1 + place) behind (let l = u.0 in omega (arith, l, seven))) (let l = u.0 in omega (arith, l)) c)
    by (inr u) =
        let e = k ∙ u.1 in
        let l = u.0 in
        let n : length (take 4 behind) ≡ 4 = length-take-le 4 behind (omega (arith, seven)) in
        subst (HasPayload IsExtended) (sym (all_set l))
        (bytes_are 4 (omega (arith, e)), omega (arith, e, n), omega (arith, n), omega (arith, n), extended_at behind l (omega (arith, seven)))

  -- a second global timestamp, whose payload is longer
  second_at : header ≡ 180 → FourOrSix bytes place
  unfolding kind_of
  second_at e =
      let k = ap kind_of e ∙ refl in
      subst (λ (n : ℕ). FourOrSix n place) (sym (by_kind 7 k)) (second place few (some_at 7 k))

  abbrev pub IsSecond : ℕ → Type 0
  IsSecond n = (take bytes window ≡ header ∷ take n behind) × (bytes ≡ 1 + n) × IsContinued (take n behind) × (length (take n behind) ≡ n)

  second_of : (n : ℕ) → place + 1 ≡ n → bytes ≡ 1 + n → n ≤ 6 → IsSecond n
  second_of n e k l = (
    bytes_are n k,
    k,
    subst (λ (m : ℕ). IsContinued (take m behind)) (omega (arith, e)) (continued_at behind (omega (arith, e, l, seven))),
    length-take-le n behind (omega (arith, l, seven)),
  )

  pub four_told : header ≡ 180 → bytes ≡ 5 → IsSecond 4
  four_told e f = elim (second_at e) [
    | inl u ↦ (let p = u.0 in second_of 4 (omega (arith, p)) (omega (arith, f)) (omega arith))
    | inr u ↦ absurd (let p = u.1 in omega (arith, f, p))
  ]

  pub six_told : header ≡ 180 → bytes ≢ 5 → IsSecond 6
  six_told e f = elim (second_at e) [
    | inl u ↦ absurd (f u.1)
    | inr u ↦ (let p = u.0 in let q = u.1 in second_of 6 (omega (arith, p)) (omega (arith, q)) (omega arith))
  ]
