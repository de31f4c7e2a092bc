-- Three FF and a byte that is neither FF nor 7F are in no list of frames and synchronisations.
use Rattle.std.proofs.Common.{◌≡◌, ◌↔◌, ℕ, zero, suc, ◌+◌, ◌<◌, ◌≤◌, List, [], ◌∷◌, ◌++◌, length, length-append, ◌-◌, Bool, true, false, cond, refl, sym, ◌∙◌, ap, subst, inl, inr, arith, append_assoc, None}
use Rattle.std.specs.Prelude.{◌==◌}
use Rattle.std.specs.List.{AllByRecursion}
use Rattle.std.proofs.lemmas.Bool.{cases_lt, ne_eqb}
use Rattle.trace_values.specs.declared.fault.Reason.TheVariants.{BadSync, SyncInFrame}
use Rattle.trace_values.specs.declared.next.Next.{Next}
use Rattle.trace_values.specs.declared.next.Next.TheVariants.{Go, End, Fail}
use Rattle.trace_values.specs.Placed.{Place, Placed, units_of}
use Rattle.trace_values.specs.Reading.{Reading, IsReading, Progress, progress, progress_from, unread}
use Rattle.trace_values.proofs.Readings as readings
use Rattle.trace_values.proofs.Standings.{from_append}
use Rattle.frame_grammar.specs.Port.{PortItem, Full, Spells, why, Part, Between, First, One, Two, Three, State, start, word_ended, rule}
use Rattle.frame_grammar.proofs.Deciding.{port_decided}
use Rattle.port_sync.specs.Hunting.{pattern}
use Rattle.resync_rules.specs.Syncing.{said_last}
use Rattle.resync_rules.proofs.Continuing.{Alive, alive_from}
use Rattle.resync_rules.proofs.Syncing.{parts_of, ends_only, no_fault_before}
use Rattle.resync_grammars.proofs.Syncing.{port_syncs}
use Rattle.port_slip.specs.Bits.{bits, bits_of, ones}
use Rattle.port_slip.specs.Words.{sync}
use Rattle.port_slip.proofs.Bits.{AreBytes, bits_join, bits_length, ones_length}
use Rattle.port_slip.specs.Runs.{run_after}
use Rattle.port_slip.proofs.Runs.{run_append, run_ones, ones_add}
use Rattle.slip_laws.specs.Lost.{line_bits, EndsWithSync, EndsFull}
use Rattle.slip_laws.proofs.Lines.{Found, find, last_full, not_full, seven, is_seven}

abbrev ff : Place → Placed
ff p = record { unit = 255; place = p }

abbrev at : ℕ → List Placed → ℕ → Part → State
at n f h p = record { left = n; bytes = f; halves = h; part = p }

abbrev Fails : Next State PortItem → Type 0
Fails (Go s) = ⊥
Fails (End v) = ⊥
Fails (Fail e) = Unit {0}

module _ (x : Placed) (no_ff : (x.unit == 255) ≡ false) (no_end : (x.unit == 127) ≡ false) where
  abbrev on : Next State PortItem → List Placed → Type 0
  on n w = Fails (said_last rule start n w)

  last_two : (n : ℕ) (f : List Placed) (h : ℕ) → on (Go (at n f h Two)) (x ∷ [])
  last_two n f h = subst (λ (t : Bool). Fails (cond t (Go (at n f h Three)) (Fail BadSync))) (sym no_ff) tt

  last_three : (n : ℕ) (f : List Placed) (h : ℕ) → on (Go (at n f h Three)) (x ∷ [])
  last_three n f h = subst (λ (t : Bool). Fails (cond t (End Full) (Fail BadSync))) (sym no_end) tt

  -- after FF FF, where the next is FF or x
  two_on : (t : Bool) (n : ℕ) (f : List Placed) (h : ℕ) (c : Place) →
      on (cond t (Go (at n f h Two)) (Fail SyncInFrame)) (ff c ∷ (x ∷ []))
  two_on true n f h c = last_three n f h
  two_on false n f h c = tt

  three_on : (t : Bool) (n : ℕ) (f : List Placed) (h : ℕ) (b c : Place) →
      on (cond t (Go (at n f h Two)) (Fail SyncInFrame)) (ff b ∷ (ff c ∷ (x ∷ [])))
  three_on true n f h b c = tt
  three_on false n f h b c = tt

  one_on : (t : Bool) (n : ℕ) (f : List Placed) (h : ℕ) → on (cond t (Go (at n f h Two)) (Fail SyncInFrame)) (x ∷ [])
  one_on true n f h = last_two n f h
  one_on false n f h = tt

  word_on : (n : ℕ) (f : List Placed) (h : ℕ) (b c : Place) → on (word_ended n f h) (ff b ∷ (ff c ∷ (x ∷ [])))
  word_on zero f h b c = last_two 7 [] 0
  word_on (suc n) f h b c = one_on (n == 7) n f h

  parts_on : (n : ℕ) (f : List Placed) (h : ℕ) (p : Part) (a b c : Place) →
      on (Go (at n f h p)) (ff a ∷ (ff b ∷ (ff c ∷ (x ∷ []))))
  parts_on n f h Between a b c = two_on (n == 7) n f h c
  parts_on n f h (First y) a b c = word_on n (f ++ (y ∷ (ff a ∷ []))) h b c
  parts_on n f h One a b c = three_on (n == 7) n f h b c
  parts_on n f h Two a b c = tt
  parts_on n f h Three a b c = tt

  -- so a reading has a fault there
  pub none_there : (u : List Placed) (a b c : Place) →
      (progress rule start (u ++ (ff a ∷ (ff b ∷ (ff c ∷ (x ∷ [])))))).fault ≡ None → ⊥
  none_there u a b c e =
      let w = ff a ∷ (ff b ∷ (ff c ∷ (x ∷ []))) in
      let q = progress rule start u in
      let k = no_fault_before Spells why rule start pattern Full port_syncs u w e in
      dead (said_last rule start (Go q.state) w) (progress_from rule start q w) (parts_on q.state.left q.state.bytes q.state.halves q.state.part a b c)
      (alive_from rule start w (Go q.state) q (k, refl)) (ap (λ (p : Progress State PortItem). p.fault) (sym (from_append rule start u w (unread start))) ∙ e) where
        dead : (n : Next State PortItem) (q : Progress State PortItem) → Fails n → Alive rule start n q →
            q.fault ≡ None → ⊥
        dead (Go s) q f l = absurd f
        dead (End v) q f l = absurd f
        dead (Fail e) q f l = l

placed_at : (x : Placed) (n : ℕ) → x.unit ≡ n → x ≡ record { unit = n; place = x.place }
placed_at x n e = ap (λ (m : ℕ). let y : Placed = record { unit = m; place = x.place } in y) e

four : (m : List Placed) (b : ℕ) (post : List ℕ) → units_of m ≡ 255 ∷ (255 ∷ (255 ∷ (b ∷ post))) →
    (p : Place) × (q : Place) × (s : Place) × (x : Placed) × (w : List Placed) × (m ≡ ff p ∷ (ff q ∷ (ff s ∷ (x ∷ w)))) × (x.unit ≡ b)
four (p ∷ (q ∷ (s ∷ (x ∷ w)))) b post e =
    let ep = placed_at p 255 (let k : p.unit ≡ 255 = cc in k) in
    let eq = placed_at q 255 (let k : q.unit ≡ 255 = cc in k) in
    let es = placed_at s 255 (let k : s.unit ≡ 255 = cc in k) in (
      p.place,
      q.place,
      s.place,
      x,
      w,
      ap (λ (y : Placed). y ∷ (q ∷ (s ∷ (x ∷ w)))) ep ∙ ap (λ (y : Placed). ff p.place ∷ (y ∷ (s ∷ (x ∷ w)))) eq ∙ ap (λ (y : Placed). ff p.place ∷ (ff q.place ∷ (y ∷ (x ∷ w)))) es,
      cc,
    )
four m b post e = cc

pub units_bytes : (u : List Placed) → AllByRecursion (λ (b : Placed). b.unit < 256) u → AreBytes (units_of u)
units_bytes [] a = tt
units_bytes (b ∷ u) a = (a.0, units_bytes u a.1)

pub front_bytes : (p q : List ℕ) → AreBytes (p ++ q) → AreBytes p × AreBytes q
front_bytes [] q a = (tt, a)
front_bytes (x ∷ p) q a = let i = front_bytes p q a.1 in ((a.0, i.0), i.1)

first_is : (b : ℕ) (x : List ℕ) → AreBytes (b ∷ x) → b < 256
first_is b x a = a.0

-- with 24 ones at the end the last three bytes are FF
three_full : (x : List ℕ) → AreBytes x → 24 ≤ run_after 0 (bits_of x) →
    (p : List ℕ) × (x ≡ p ++ (255 ∷ (255 ∷ (255 ∷ []))))
three_full x a h =
    let i = last_full x 16 a h in
    let j = last_full i.0 8 i.2 i.3 in
    let k = last_full j.0 0 j.2 j.3 in (
      k.0,
      i.1 ∙ ap (λ (l : List ℕ). l ++ 255 ∷ []) j.1 ∙ ap (λ (l : List ℕ). (l ++ 255 ∷ []) ++ 255 ∷ []) k.1
          ∙ ap (λ (l : List ℕ). l ++ 255 ∷ []) (append_assoc k.0 (255 ∷ []) (255 ∷ [])) ∙ append_assoc k.0 (255 ∷ (255 ∷ [])) (255 ∷ []),
    )

pub sync_bits : bits_of (255 ∷ (255 ∷ (255 ∷ (127 ∷ [])))) ≡ sync
unfolding bits ones
sync_bits = refl

pattern_bits : (p : List ℕ) →
    ((bits_of p ++ bits_of (255 ∷ (255 ∷ (255 ∷ [])))) ++ ones 7) ++ false ∷ [] ≡ bits_of (p ++ (255 ∷ (255 ∷ (255 ∷ (127 ∷ [])))))
unfolding bits ones
pattern_bits p =
    let x = bits_of (255 ∷ (255 ∷ (255 ∷ []))) in
    append_assoc (bits_of p ++ x) (ones 7) (false ∷ []) ∙ append_assoc (bits_of p) x (ones 7 ++ false ∷ []) ∙ sym (bits_join p (255 ∷ (255 ∷ (255 ∷ (127 ∷ [])))))

module _ (u : List Placed) (r : Reading PortItem) (a : AllByRecursion (λ (b : Placed). b.unit < 256) u) (i : IsReading Spells why u r) (f : r.fault ≡ None) where
  sound : (progress rule start u).fault ≡ None
  sound = ap (λ (x : Reading PortItem). x.fault) (sym (readings.only_reading Spells why rule start port_decided u r i)) ∙ f

  -- the byte in which a pattern's zero is
  ends_in : (s rest : List Bool) → Found 0 (units_of u) s → EndsFull u r (s ++ false ∷ [])
  ends_in s rest d =
      let all = front_bytes d.pre (d.byte ∷ d.post) (subst AreBytes d.parts (units_bytes u a)) in
      let low = first_is d.byte d.post all.1 in
      let n : d.count + suc (length d.over) ≡ 8 = ap (λ m. m + suc (length d.over)) (sym (ones_length d.count)) ∙ sym (length-append (ones d.count) (false ∷ d.over)) ∙ ap length (sym d.byte_is) ∙ bits_length 8 d.byte in
      let l = d.long in
      let t = three_full d.pre all.0 (omega (arith, n, l)) in
      let whole : units_of u ≡ t.0 ++ (255 ∷ (255 ∷ (255 ∷ (d.byte ∷ d.post)))) = d.parts ∙ ap (λ (x : List ℕ). x ++ (d.byte ∷ d.post)) t.1 ∙ append_assoc t.0 (255 ∷ (255 ∷ (255 ∷ []))) (d.byte ∷ d.post) in
      elim (cases_lt d.count 7) [
        | inl k ↦ absurd (broken t.0 d.byte d.post whole (not_full d.byte d.count d.over d.byte_is) (λ e. let m = seven d.byte d.count d.over d.byte_is e in omega (arith, m, k)))
        | inr k ↦ (
            let c : d.count ≡ 7 = omega (arith, n, k) in
            let v = is_seven d.byte d.over low (d.byte_is ∙ ap (λ m. ones m ++ (false ∷ d.over)) c) in
            closed t.0 d.post (whole ∙ ap (λ b. t.0 ++ (255 ∷ (255 ∷ (255 ∷ (b ∷ d.post))))) v.0) (s ++ false ∷ []) (
            ap (λ (x : List Bool). x ++ false ∷ []) (d.bits_are ∙ ap (λ (x : List ℕ). bits_of x ++ ones d.count) t.1 ∙ ap (λ m. bits_of (t.0 ++ (255 ∷ (255 ∷ (255 ∷ [])))) ++ ones m) c)
            ∙ ap (λ (x : List Bool). (x ++ ones 7) ++ false ∷ []) (bits_join t.0 (255 ∷ (255 ∷ (255 ∷ []))))
            ∙ last t.0))
      ] where
        last : (p : List ℕ) →
            ((bits_of p ++ bits_of (255 ∷ (255 ∷ (255 ∷ [])))) ++ ones 7) ++ false ∷ [] ≡ bits_of (p ++ (255 ∷ (255 ∷ (255 ∷ (127 ∷ [])))))
        last p = pattern_bits p

        broken : (p : List ℕ) (b : ℕ) (post : List ℕ) → units_of u ≡ p ++ (255 ∷ (255 ∷ (255 ∷ (b ∷ post)))) →
            (b ≡ 255 → ⊥) → (b ≡ 127 → ⊥) → ⊥
        broken p b post e no_ff no_end =
            let s = parts_of u p (255 ∷ (255 ∷ (255 ∷ (b ∷ post)))) e in
            let m = four s.1 b post s.4 in
            let w = ff m.0 ∷ (ff m.1 ∷ (ff m.2 ∷ (m.3 ∷ []))) in
            let k : u ≡ (s.0 ++ w) ++ m.4 = s.2 ∙ ap (λ (x : List Placed). s.0 ++ x) m.5 ∙ sym (append_assoc s.0 w m.4) in
            none_there m.3 (ne_eqb m.3.unit 255 (λ h. no_ff (sym m.6 ∙ h))) (ne_eqb m.3.unit 127 (λ h. no_end (sym m.6 ∙ h))) s.0 m.0 m.1 m.2
            (no_fault_before Spells why rule start pattern Full port_syncs (s.0 ++ w) m.4 (ap (λ (x : List Placed). (progress rule start x).fault) (sym k) ∙ sound))

        closed : (p post : List ℕ) → units_of u ≡ p ++ (255 ∷ (255 ∷ (255 ∷ (127 ∷ post)))) → (front : List Bool) →
            front ≡ bits_of (p ++ (255 ∷ (255 ∷ (255 ∷ (127 ∷ []))))) → EndsFull u r front
        closed p post e front b =
            let four : List ℕ = 255 ∷ (255 ∷ (255 ∷ (127 ∷ []))) in
            let s = parts_of u (p ++ four) post (e ∙ sym (append_assoc p four post)) in
            record {
              bytes = s.0;
              after = s.1;
              parts = s.2;
              bits = b ∙ ap bits_of (sym s.3);
              ended = (ends_only Spells why rule start pattern Full port_syncs u r i f s.0 s.1 s.2).0 (p, s.3);
            }

  there : (front rest : List Bool) → line_bits u ≡ front ++ rest → EndsWithSync front → EndsFull u r front
  there front rest e w =
      let s = w.0 ++ ones 31 in
      let k : front ≡ s ++ false ∷ [] = w.1 ∙ sym (append_assoc w.0 (ones 31) (false ∷ [])) in
      let run : run_after 0 s ≡ run_after 0 w.0 + 31 = run_append 0 w.0 (ones 31) ∙ run_ones (run_after 0 w.0) 31 in
      let all : line_bits u ≡ s ++ (false ∷ rest) = e ∙ ap (λ (l : List Bool). l ++ rest) k ∙ append_assoc s (false ∷ []) rest in
      subst (λ (l : List Bool). EndsFull u r l) (sym k) (ends_in s rest (find 0 (units_of u) s rest (omega (arith, run)) all))

  back : (front : List Bool) → EndsFull u r front → EndsWithSync front
  back front g =
      let p = (ends_only Spells why rule start pattern Full port_syncs u r i f g.bytes g.after g.parts).1 g.ended in
      (bits_of p.0, g.bits ∙ ap bits_of p.1 ∙ bits_join p.0 (255 ∷ (255 ∷ (255 ∷ (127 ∷ [])))) ∙ ap (λ (l : List Bool). bits_of p.0 ++ l) sync_bits)

pub ends_both : (u : List Placed) (r : Reading PortItem) → AllByRecursion (λ (b : Placed). b.unit < 256) u →
    IsReading Spells why u r → r.fault ≡ None → (front rest : List Bool) → line_bits u ≡ front ++ rest →
    EndsWithSync front ↔ EndsFull u r front
ends_both u r a i f front rest e = (there u r a i f front rest e, back u r a i f front)

pub runs_end : (u : List Placed) (r : Reading PortItem) → AllByRecursion (λ (b : Placed). b.unit < 256) u →
    IsReading Spells why u r → r.fault ≡ None → (n : ℕ) (front rest : List Bool) → 30 < n →
    line_bits u ≡ front ++ (ones n ++ (false ∷ rest)) → EndsFull u r (front ++ (ones n ++ false ∷ []))
runs_end u r a i f n front rest h e =
    let w = front ++ (ones n ++ false ∷ []) in
    let k : ones n ≡ ones (n - 31) ++ ones 31 = ap ones (let m : n ≡ n - 31 + 31 = omega arith in m) ∙ sym (ones_add (n - 31) 31) in
    let all : line_bits u ≡ w ++ rest = e ∙ ap (λ (l : List Bool). front ++ l) (sym (append_assoc (ones n) (false ∷ []) rest)) ∙ sym (append_assoc front (ones n ++ false ∷ []) rest) in
    there u r a i f w rest all (
      front ++ ones (n - 31),
      ap (λ (l : List Bool). front ++ (l ++ false ∷ [])) k ∙ ap (λ (l : List Bool). front ++ l) (append_assoc (ones (n - 31)) (ones 31) (false ∷ [])) ∙ sym (append_assoc front (ones (n - 31)) sync),
    )
