-- What is realigned of some of a capture's bits.
use Rattle.std.proofs.Common.{◌≡◌, ℕ, zero, suc, ◌+◌, ◌-◌, ◌*◌, ◌/◌, ◌%◌, ◌<◌, ◌≤◌, List, [], ◌∷◌, ◌++◌, length, length-append, take, Bool, true, false, refl, sym, ◌∙◌, ap, subst, inl, inr, arith, append_assoc, append-nil, None}
use Rattle.std.specs.Prelude.{flat_map, ◌==◌}
use Rattle.std.specs.List.{AllByRecursion}
use Rattle.std.proofs.lemmas.Bool.{cases_lt}
use Rattle.std.proofs.lemmas.List.{append_cancel_left}
use Rattle.trace_values.specs.Placed.{Placed, units_of}
use Rattle.trace_values.specs.Reading.{Reading, IsReading, Splits}
use Rattle.frame_grammar.specs.Port.{PortItem, Full, Spells, why, start, rule}
use Rattle.port_sync.specs.Hunting.{pattern}
use Rattle.resync_rules.proofs.Syncing.{units_append, units_length, splits_last}
use Rattle.resync_grammars.proofs.Syncing.{port_syncs, begins_only}
use Rattle.port_slip.specs.Bits.{bits, bits_of, ones, whole_bytes}
use Rattle.port_slip.specs.Segments.{Cut, begins, with_bit, cut, of_cut}
use Rattle.port_slip.specs.Words.{sync, BeginsWithSync, in_order}
use Rattle.port_slip.proofs.Bits.{AreBytes, bits_join, bits_count, bits_length, whole_step, few_bits}
use Rattle.port_slip.proofs.Runs.{Clear, quiet_short}
use Rattle.port_slip.proofs.Steps.{cut_quiet}
use Rattle.port_slip.proofs.Cutting.{prefixed, cut_clear}
use Rattle.port_slip.proofs.Words.{is_cut, only_cut, begins_word}
use Rattle.slip_laws.specs.Lost.{line_bits, EndsFull}
use Rattle.slip_laws.specs.Slips.{IsFullWithin, IsFirstWithin, whole_until, FromFirst, nothing, IsSlip}
use Rattle.slip_laws.proofs.Failing.{ends_both, sync_bits, units_bytes, front_bytes}

-- of two fronts of one list the longer goes on as the other
longer : {A : Type 0} → (a b x y : List A) → a ++ x ≡ b ++ y → length a ≤ length b →
    (c : List A) × (b ≡ a ++ c) × (x ≡ c ++ y)
longer [] b x y e h = (b, refl, e)
longer (z ∷ a) [] x y e h = absurd (omega arith)
longer (z ∷ a) (w ∷ b) x y e h =
    let tail : a ++ x ≡ b ++ y = cc in
    let head : z ≡ w = cc in
    let i = longer a b x y tail (omega arith) in (i.0, ap (λ v. v ∷ b) (sym head) ∙ ap (λ l. z ∷ l) i.1, i.2)

same_lengths : {A : Type 0} → (a b x y : List A) → a ++ x ≡ b ++ y → length x ≡ length y → (a ≡ b) × (x ≡ y)
same_lengths [] [] x y e h = (refl, e)
same_lengths [] (w ∷ b) x y e h = absurd (let n = ap length e in let m = length-append (w ∷ b) y in omega (arith, n, m, h))
same_lengths (z ∷ a) [] x y e h = absurd (let n = ap length e in let m = length-append (z ∷ a) x in omega (arith, n, m, h))
same_lengths (z ∷ a) (w ∷ b) x y e h =
    let tail : a ++ x ≡ b ++ y = cc in
    let i = same_lengths a b x y tail h in ((let k = i.0 in cc), i.1)

-- the segments of the end are the last segments
segments_end : (x s : List Bool) → (more : List (List Bool)) × ((cut (x ++ s)).segments ≡ more ++ (cut s).segments)
segments_end [] s = ([], refl)
segments_end (b ∷ x) s = by (begins 31 (b ∷ (x ++ s))) (segments_end x s) where
  by : (t : Bool) → (more : List (List Bool)) × ((cut (x ++ s)).segments ≡ more ++ (cut s).segments) →
      (more : List (List Bool)) × ((with_bit t b (cut (x ++ s))).segments ≡ more ++ (cut s).segments)
  by true i = ((b ∷ (cut (x ++ s)).before) ∷ i.0, ap (λ l. (b ∷ (cut (x ++ s)).before) ∷ l) i.1)
  by false i = i

whole_append : (a b : List (List Bool)) →
    flat_map whole_bytes (a ++ b) ≡ flat_map whole_bytes a ++ flat_map whole_bytes b
whole_append [] b = refl
whole_append (g ∷ a) b = ap (λ (l : List ℕ). whole_bytes g ++ l) (whole_append a b) ∙ sym (append_assoc (whole_bytes g) (flat_map whole_bytes a) (flat_map whole_bytes b))

-- the bits from the first segment on are cut into the segments
cut_rest : (s : List Bool) → cut (in_order (cut s).segments) ≡ record { before = []; segments = (cut s).segments }
cut_rest s =
    let c = cut s in
    let i = is_cut s in
    sym (only_cut (in_order c.segments) (record { before = []; segments = c.segments }) (record {
      parts = refl;
      begun = i.begun;
      all = λ front rest e w. (
          let a = i.all (c.before ++ front) rest (i.parts ∙ ap (λ (l : List Bool). c.before ++ l) e ∙ sym (append_assoc c.before front rest)) w in
          record { early = a.early; segment = a.segment; later = a.later; parts = a.parts; before = append_cancel_left c.before front (in_order a.early) a.before });
    }))

-- patterns begin at whole bytes alone
abbrev IsAligned : List Bool → Type 0
IsAligned y = (g h : List Bool) → y ≡ g ++ h → BeginsWithSync h → length g % 8 ≡ 0

poured : Cut → List ℕ
poured c = whole_bytes c.before ++ flat_map whole_bytes c.segments

sync_long : (s : List Bool) → BeginsWithSync s → 32 ≤ length s
unfolding ones
sync_long s w = let e = ap length w.1 in omega (arith, e)

clear_aligned : (n k : ℕ) (x s : List Bool) → length x ≡ n → n + k ≡ 8 → 0 < k → ((g h : List Bool) →
    x ++ s ≡ g ++ h → BeginsWithSync h → (length g + k) % 8 ≡ 0) → Clear n (x ++ s)
clear_aligned zero k x s e q p a = tt
clear_aligned (suc n) k [] s e q p a = absurd (omega (arith, e))
clear_aligned (suc n) k (b ∷ x) s e q p a = (
  no (begins 31 (b ∷ (x ++ s))) refl,
  clear_aligned n (suc k) x s (omega (arith, e)) (omega arith) (omega arith)
      (λ g h m w. (let r = a (b ∷ g) h (ap (λ l. b ∷ l) m) w in let t : suc (length g) + k ≡ length g + suc k = omega arith in ap (λ z. z % 8) (sym t) ∙ r)),
) where
  no : (t : Bool) → begins 31 (b ∷ (x ++ s)) ≡ t → begins 31 (b ∷ (x ++ s)) ≡ false
  no false h = h
  no true h = absurd (let r = a [] (b ∷ (x ++ s)) refl (begins_word (b ∷ (x ++ s)) h) in omega (arith, r, q, p))

poured_bit : (t x : Bool) (xs : List Bool) (c : Cut) →
    poured (with_bit t x (prefixed xs c)) ≡ whole_bytes (x ∷ (xs ++ c.before)) ++ flat_map whole_bytes c.segments
unfolding poured
poured_bit true x xs c = refl
poured_bit false x xs c = refl

-- whole bytes come out as they went in
aligned_step : (b : ℕ) (w : List ℕ) (y : List Bool) → b < 256 → IsAligned (bits 8 b ++ y) →
    poured (cut y) ≡ take (length y / 8) w → poured (cut (bits 8 b ++ y)) ≡ take (length (bits 8 b ++ y) / 8) (b ∷ w)
unfolding bits poured
aligned_step b w y l a e =
    let x = (b % 2 == 1) in
    let xs = bits 7 (b / 2) in
    let c = cut y in
    let clear : Clear 7 (xs ++ y) = clear_aligned 7 1 xs y (bits_length 7 (b / 2)) refl (omega arith)
    (λ g h m k. (let r = a (x ∷ g) h (ap (λ z. x ∷ z) m) k in let t : suc (length g) ≡ length g + 1 = omega arith in ap (λ z. z % 8) (sym t) ∙ r)) in
    let n : length xs ≡ 7 = bits_length 7 (b / 2) in
    let same : cut (xs ++ y) ≡ prefixed xs c = cut_clear xs y (subst (λ (m : ℕ). Clear m (xs ++ y)) (sym n) clear) in
    let all : length (bits 8 b ++ y) / 8 ≡ suc (length y / 8) = (let m = length-append (bits 8 b) y in let k = bits_length 8 b in omega (arith, m, k)) in
    let byte : b % 256 ≡ b = omega arith in
    ap (λ z. poured (with_bit (begins 31 (x ∷ (xs ++ y))) x z)) same ∙ poured_bit (begins 31 (x ∷ (xs ++ y))) x xs c
    ∙ ap (λ (z : List ℕ). z ++ flat_map whole_bytes c.segments) (whole_step b c.before) ∙ ap (λ z. z ∷ poured c) byte ∙ ap (λ z. b ∷ z) e ∙ ap (λ m. take m (b ∷ w)) (sym all)

short_pours : (w : List ℕ) (y : List Bool) → length y < 8 → poured (cut y) ≡ take (length y / 8) w
unfolding poured
short_pours w y l =
    let none : length y / 8 ≡ 0 = omega arith in
    ap poured (cut_quiet y (quiet_short 0 y (omega arith))) ∙ append-nil (whole_bytes y) ∙ few_bits y l ∙ ap (λ m. take m w) (sym none)

aligned_pours : (w : List ℕ) (y over : List Bool) → AreBytes w → bits_of w ≡ y ++ over → IsAligned y →
    poured (cut y) ≡ take (length y / 8) w
aligned_pours [] y over b e a = short_pours [] y (let n : 0 ≡ length y + length over = ap length e ∙ length-append y over in omega (arith, n))
aligned_pours (x ∷ w) y over b e a = elim (cases_lt (length y) 8) [
  | inl l ↦ short_pours (x ∷ w) y l
  | inr l ↦ (
      let n = bits_length 8 x in
      let p = longer (bits 8 x) y (bits_of w) over e (omega (arith, n, l)) in
      let aligned : IsAligned (bits 8 x ++ p.0) = subst IsAligned p.1 a in
      let more : IsAligned p.0 = λ g h m k. (
      let r = aligned (bits 8 x ++ g) h (ap (λ (z : List Bool). bits 8 x ++ z) m ∙ sym (append_assoc (bits 8 x) g h)) k in
      let t : length (bits 8 x ++ g) ≡ 8 + length g = length-append (bits 8 x) g ∙ ap (λ z. z + length g) n in omega (arith, r, t)) in
      let i = aligned_pours w p.0 over b.1 p.2 more in
      subst (λ (z : List Bool). poured (cut z) ≡ take (length z / 8) (x ∷ w)) (sym p.1) (aligned_step x w p.0 b.0 aligned i))
]

module _ (u : List Placed) (r : Reading PortItem) (a : AllByRecursion (λ (b : Placed). b.unit < 256) u) (i : IsReading Spells why u r) (f : r.fault ≡ None)
    (lost kept over : List Bool) (e : line_bits u ≡ lost ++ (kept ++ over)) where
  -- a full synchronisation that is within the bits has its pattern there
  there : (front : List Placed) → IsFullWithin u r lost kept front →
      (g : List Bool) × (k : List Bool) × (kept ≡ g ++ (sync ++ k)) × (8 * length front ≡ length lost + length g)
  unfolding ones
  there front q =
      let p = (begins_only Spells why rule start pattern Full port_syncs (λ w s. s) u r i f front q.rest q.parts).1 q.begins in
      let four : List ℕ = 255 ∷ (255 ∷ (255 ∷ (127 ∷ []))) in
      let all : line_bits u ≡ line_bits front ++ (sync ++ bits_of p.0) =
      ap line_bits q.parts ∙ ap bits_of (units_append front q.rest) ∙ bits_join (units_of front) (units_of q.rest)
      ∙ ap (λ (l : List Bool). line_bits front ++ l) (ap bits_of p.1 ∙ bits_join four p.0 ∙ ap (λ (l : List Bool). l ++ bits_of p.0) sync_bits) in
      let n : length (line_bits front) ≡ 8 * length front = bits_count (units_of front) ∙ ap (λ m. 8 * m) (units_length front) in
      let fr = q.after in
      let g = longer lost (line_bits front) (kept ++ over) (sync ++ bits_of p.0) (sym e ∙ all) (omega (arith, n, fr)) in
      let m : length (line_bits front) ≡ length lost + length g.0 = ap length g.1 ∙ length-append lost g.0 in
      let be = q.before_end in
      let o = length-append g.0 sync in
      let k = longer (g.0 ++ sync) kept (bits_of p.0) over (append_assoc g.0 sync (bits_of p.0) ∙ sym g.2) (omega (arith, m, n, be, o)) in
      (g.0, k.0, k.1 ∙ append_assoc g.0 sync k.0, omega (arith, m, n))

  c : Cut
  c = cut kept

  no_early : (early later : List (List Bool)) (g : List Bool) → [] ≡ early ++ (g ∷ later) → ⊥
  no_early [] later g k = cc
  no_early (x ∷ early) later g k = cc

  none_at : (cut kept).segments ≡ [] → (front : List Placed) → IsFullWithin u r lost kept front → ⊥
  none_at h front q =
      let t = there front q in
      let s = (is_cut kept).all t.0 (sync ++ t.1) t.2 (t.1, refl) in
      no_early s.early s.later s.segment (sym h ∙ s.parts)

  none_out : (cut kept).segments ≡ [] → of_cut (cut kept) ≡ nothing (length kept)
  none_out h =
      let p : kept ≡ (cut kept).before = (is_cut kept).parts ∙ ap (λ (l : List (List Bool)). (cut kept).before ++ in_order l) h ∙ append-nil (cut kept).before in
      ap (λ (l : List (List Bool)). let x : Cut = record { before = (cut kept).before; segments = l } in of_cut x) h ∙ ap (λ (l : List Bool). nothing (length l)) (sym p)

  module _ (seg : List Bool) (segs : List (List Bool)) (h : (cut kept).segments ≡ seg ∷ segs) where
    before : List Bool
    before = (cut kept).before

    y : List Bool
    y = in_order (cut kept).segments

    word : BeginsWithSync seg
    word = (subst (λ (l : List (List Bool)). AllByRecursion BeginsWithSync l) h (is_cut kept).begun).0

    y_is : y ≡ sync ++ (word.0 ++ in_order segs)
    unfolding y
    y_is = ap in_order h ∙ ap (λ (l : List Bool). l ++ in_order segs) word.1 ∙ append_assoc sync word.0 (in_order segs)

    kept_is : kept ≡ before ++ y
    unfolding before y
    kept_is = (is_cut kept).parts

    all : line_bits u ≡ (lost ++ before) ++ (y ++ over)
    all = e ∙ ap (λ (l : List Bool). lost ++ (l ++ over)) kept_is ∙ ap (λ (l : List Bool). lost ++ l) (append_assoc before y over) ∙ sym (append_assoc lost before (y ++ over))

    full : EndsFull u r ((lost ++ before) ++ sync)
    full = (ends_both u r a i f ((lost ++ before) ++ sync) ((word.0 ++ in_order segs) ++ over)
        (all ∙ ap (λ (l : List Bool). (lost ++ before) ++ (l ++ over)) y_is ∙ ap (λ (l : List Bool). (lost ++ before) ++ l) (append_assoc sync (word.0 ++ in_order segs) over)
        ∙ sym (append_assoc (lost ++ before) sync ((word.0 ++ in_order segs) ++ over)))).0 (lost ++ before, refl)

    z : (c : List Placed) × (s : List Placed) × (full.bytes ≡ c ++ s) × Spells Full s × Splits Spells full.ended.early [] c
    z = splits_last Spells full.ended.early (Full, full.ended.place) full.bytes full.ended.spelled

    front : List Placed
    front = z.0

    rest : List Placed
    rest = z.1 ++ full.after

    front_bits : lost ++ before ≡ line_bits front
    unfolding front
    front_bits =
        let k : (lost ++ before) ++ sync ≡ line_bits front ++ sync = full.bits ∙ ap line_bits z.2 ∙ ap bits_of (units_append z.0 z.1) ∙ bits_join (units_of z.0) (units_of z.1) ∙ ap (λ (l : List Bool). line_bits z.0 ++ l) (ap bits_of z.3 ∙ sync_bits) in
        (same_lengths (lost ++ before) (line_bits front) sync sync k refl).0

    front_length : 8 * length front ≡ length lost + length before
    front_length = sym (ap (λ m. 8 * m) (units_length front)) ∙ sym (bits_count (units_of front)) ∙ ap length (sym front_bits) ∙ length-append lost before

    u_is : u ≡ front ++ rest
    unfolding front rest
    u_is = full.parts ∙ ap (λ (l : List Placed). l ++ full.after) z.2 ∙ append_assoc z.0 z.1 full.after

    rest_bits : bits_of (units_of rest) ≡ y ++ over
    rest_bits = append_cancel_left (line_bits front) (bits_of (units_of rest)) (y ++ over)
        (sym (ap line_bits u_is ∙ ap bits_of (units_append front rest) ∙ bits_join (units_of front) (units_of rest)) ∙ all ∙ ap (λ (l : List Bool). l ++ (y ++ over)) front_bits)

    aligned : IsAligned y
    unfolding ones
    aligned g q m w =
        let at = ((lost ++ before) ++ g) ++ sync in
        let k : line_bits u ≡ at ++ (w.0 ++ over) =
        all ∙ ap (λ (l : List Bool). (lost ++ before) ++ (l ++ over)) m ∙ ap (λ (l : List Bool). (lost ++ before) ++ l) (append_assoc g q over)
        ∙ sym (append_assoc (lost ++ before) g (q ++ over)) ∙ ap (λ (l : List Bool). ((lost ++ before) ++ g) ++ (l ++ over)) w.1
        ∙ ap (λ (l : List Bool). ((lost ++ before) ++ g) ++ l) (append_assoc sync w.0 over) ∙ sym (append_assoc ((lost ++ before) ++ g) sync (w.0 ++ over)) in
        let d = (ends_both u r a i f at (w.0 ++ over) k).0 ((lost ++ before) ++ g, refl) in
        let n : length at ≡ 8 * length d.bytes = ap length d.bits ∙ bits_count (units_of d.bytes) ∙ ap (λ x. 8 * x) (units_length d.bytes) in
        let o : length at ≡ (length lost + length before) + length g + 32 = length-append ((lost ++ before) ++ g) sync ∙ ap (λ x. x + 32) (length-append (lost ++ before) g ∙ ap (λ x. x + length g) (length-append lost before)) in
        let p = front_length in omega (arith, n, o, p)

    kept_length : length kept ≡ length before + length y
    kept_length = ap length kept_is ∙ length-append before y

    y_long : 32 ≤ length y
    y_long = sync_long y (word.0 ++ in_order segs, y_is)

    is_full : IsFullWithin u r lost kept front
    unfolding front
    is_full = record {
      rest = rest;
      parts = u_is;
      begins = record { early = full.ended.early; place = full.ended.place; later = full.ended.later; parts = full.ended.parts; spelled = z.4 };
      after = (let p = front_length in omega (arith, p));
      before_end = (let p = front_length in let k = kept_length in let l = y_long in omega (arith, p, k, l));
    }

    first : IsFirstWithin u r lost kept front
    unfolding before
    first = record {
      is_full = is_full;
      least = λ other q. (
          let t = there other q in
          let s = (is_cut kept).all t.0 (sync ++ t.1) t.2 (t.1, refl) in
          let n : length t.0 ≡ length before + length (in_order s.early) = ap length s.before ∙ length-append (cut kept).before (in_order s.early) in
          let p = front_length in let m = t.3 in omega (arith, n, p, m));
    }

    out : flat_map whole_bytes (cut kept).segments ≡ whole_until (length lost + length kept) (length front) rest
    unfolding poured y
    out =
        let bytes = front_bytes (units_of front) (units_of rest) (subst AreBytes (ap units_of u_is ∙ units_append front rest) (units_bytes u a)) in
        let k : length y / 8 ≡ (length lost + length kept) / 8 - length front = (let p = front_length in let q = kept_length in omega (arith, p, q)) in
        sym (ap poured (cut_rest kept)) ∙ aligned_pours (units_of rest) y over bytes.1 rest_bits aligned ∙ ap (λ m. take m (units_of rest)) k

    from_first : FromFirst u r lost kept front
    unfolding first is_full before
    from_first = record {
      first = first;
      alone = λ input q. (
        ap (λ (s : List Bool). flat_map whole_bytes (cut s).segments) q ∙ out,
        ap (λ (s : List Bool). length (cut s).before) q ∙ (let p = front_length in omega (arith, p)),
      );
      last = λ any input q. (
          let m = segments_end any kept in (
            flat_map whole_bytes m.0,
            ap (λ (s : List Bool). flat_map whole_bytes (cut s).segments) q ∙ ap (flat_map whole_bytes) m.1 ∙ whole_append m.0 (cut kept).segments ∙ ap (λ (l : List ℕ). flat_map whole_bytes m.0 ++ l) out,
          ));
    }

  slip : IsSlip u r lost kept
  slip = by (cut kept).segments refl where
    by : (l : List (List Bool)) → (cut kept).segments ≡ l → IsSlip u r lost kept
    by [] h = inl (none_at h, λ input q. ap (λ (s : List Bool). of_cut (cut s)) q ∙ none_out h)
    by (seg ∷ segs) h = inr (front seg segs h, from_first seg segs h)

pub is_slip : (u : List Placed) (r : Reading PortItem) → AllByRecursion (λ (b : Placed). b.unit < 256) u →
    IsReading Spells why u r → r.fault ≡ None → (lost kept over : List Bool) →
    line_bits u ≡ lost ++ (kept ++ over) → IsSlip u r lost kept
is_slip = slip
