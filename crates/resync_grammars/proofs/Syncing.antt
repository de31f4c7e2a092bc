-- FF FF FF 7F ends a full synchronisation or is a fault, whatever comes before it.
use Rattle.std.proofs.Common.{◌≡◌, ℕ, zero, suc, List, [], ◌∷◌, ◌++◌, length, length-append, refl, sym, ◌∙◌, ap, subst, arith, append_assoc, Bool, true, false, cond}
use Rattle.std.specs.Prelude.{◌==◌}
use Rattle.std.proofs.lemmas.List.{append_cancel_left}
use Rattle.resync_grammars.specs.Names.{Reason, SyncInFrame, Next, Go, Fail, Place, Placed, units_of, Splits}
use Rattle.resync_grammars.specs.Names.{pattern_of, pattern, BeginsWith, BeginsAt, BeginsOnly, said_last, EndsOrFails}
use Rattle.resync_grammars.specs.Names.{Syncs}
use Rattle.trace_values.specs.declared.pattern.Pattern.{Pattern}
use Rattle.trace_values.proofs.Lists.{same_fronts}
use Rattle.trace_values.proofs.Walks.{prefix_law}
use Rattle.frame_grammar.specs.Port.{PortItem, Full, Spells, why, Part, Between, First, One, Two, Three, State, start, word_ended, rule}
use Rattle.frame_grammar.proofs.Deciding.{port_decided}
use Rattle.resync_rules.proofs.Syncing.{units_append, units_length, parts_of, splits_last, ends_only}

abbrev ff : Place → Placed
ff p = record { unit = 255; place = p }

abbrev end : Place → Placed
end p = record { unit = 127; place = p }

abbrev at : ℕ → List Placed → ℕ → Part → State
at n f h p = record { left = n; bytes = f; halves = h; part = p }

abbrev on : Next State PortItem → List Placed → Type 0
on n w = EndsOrFails Full (said_last rule start n w)

-- after FF FF
two_on : (t : Bool) (n : ℕ) (f : List Placed) (h : ℕ) (c d : Place) → on (cond t (Go (at n f h Two)) (Fail SyncInFrame)) (ff c ∷ (end d ∷ []))
two_on true n f h c d = refl
two_on false n f h c d = tt

three_on : (t : Bool) (n : ℕ) (f : List Placed) (h : ℕ) (b c d : Place) → on (cond t (Go (at n f h Two)) (Fail SyncInFrame)) (ff b ∷ (ff c ∷ (end d ∷ [])))
three_on true n f h b c d = tt
three_on false n f h b c d = tt

one_on : (t : Bool) (n : ℕ) (f : List Placed) (h : ℕ) (d : Place) → on (cond t (Go (at n f h Two)) (Fail SyncInFrame)) (end d ∷ [])
one_on true n f h d = tt
one_on false n f h d = tt

word_on : (n : ℕ) (f : List Placed) (h : ℕ) (b c d : Place) → on (word_ended n f h) (ff b ∷ (ff c ∷ (end d ∷ [])))
word_on zero f h b c d = tt
word_on (suc n) f h b c d = one_on (n == 7) n f h d

parts_on : (n : ℕ) (f : List Placed) (h : ℕ) (p : Part) (a b c d : Place) → on (Go (at n f h p)) (ff a ∷ (ff b ∷ (ff c ∷ (end d ∷ []))))
parts_on n f h Between a b c d = two_on (n == 7) n f h c d
parts_on n f h (First x) a b c d = word_on n (f ++ (x ∷ (ff a ∷ []))) h b c d
parts_on n f h One a b c d = three_on (n == 7) n f h b c d
parts_on n f h Two a b c d = tt
parts_on n f h Three a b c d = tt

pub placed_at : (x : Placed) (n : ℕ) → x.unit ≡ n → x ≡ record { unit = n; place = x.place }
placed_at x n e = ap (λ (m : ℕ). let y : Placed = record { unit = m; place = x.place } in y) e

four : (m : List Placed) → units_of m ≡ 255 ∷ (255 ∷ (255 ∷ (127 ∷ []))) → (a : Place) × (b : Place) × (c : Place) × (d : Place) × (m ≡ ff a ∷ (ff b ∷ (ff c ∷ (end d ∷ []))))
four (a ∷ (b ∷ (c ∷ (d ∷ [])))) e =
    let ea = placed_at a 255 (let q : a.unit ≡ 255 = cc in q) in
    let eb = placed_at b 255 (let q : b.unit ≡ 255 = cc in q) in
    let ec = placed_at c 255 (let q : c.unit ≡ 255 = cc in q) in
    let ed = placed_at d 127 (let q : d.unit ≡ 127 = cc in q) in (
      a.place,
      b.place,
      c.place,
      d.place,
      ap (λ (x : Placed). x ∷ (b ∷ (c ∷ (d ∷ [])))) ea ∙ ap (λ (x : Placed). ff a.place ∷ (x ∷ (c ∷ (d ∷ [])))) eb
          ∙ ap (λ (x : Placed). ff a.place ∷ (ff b.place ∷ (x ∷ (d ∷ [])))) ec ∙ ap (λ (x : Placed). ff a.place ∷ (ff b.place ∷ (ff c.place ∷ (x ∷ [])))) ed,
    )
four m e = cc

syncs : (s : State) (m : List Placed) → units_of m ≡ pattern_of pattern → on (Go s) m
syncs s m e =
    let f = four m e in
    subst (λ (w : List Placed). on (Go s) w) (sym f.4) (parts_on s.left s.bytes s.halves s.part f.0 f.1 f.2 f.3)

pub port_syncs : Syncs Spells why rule start pattern Full
port_syncs = record {
  decides = port_decided;
  apart = λ e. omega (arith, e);
  spelled = λ w e. e;
  closes = λ w s. ([], s);
  syncs = λ s r m w e. syncs s m e;
}

-- where each spelling of v is the pattern, the pattern begins exactly where a v begins
module _ {S V : Type 0} (Spells : V → List Placed → Type 0) (why : List Placed → Reason) (rule : S → Placed → Next S V) (start : S) (p : Pattern) (v : V)
    (k : Syncs Spells why rule start p v) (exact : (w : List Placed) → Spells v w → units_of w ≡ pattern_of p) where
  splits_parts : (early later : List (V × Place)) (rest u : List Placed) → Splits Spells (early ++ later) rest u →
      (c : List Placed) × (w : List Placed) × (u ≡ c ++ w) × Splits Spells early [] c × Splits Spells later rest w
  splits_parts [] later rest u s = ([], u, refl, refl, s)
  splits_parts (x ∷ early) later rest u s =
      let t = splits_parts early later rest s.2 s.6 in
      (s.0 ++ (s.1 ∷ t.0), t.1, s.4 ∙ ap (λ (w : List Placed). s.0 ++ (s.1 ∷ w)) t.2 ∙ sym (append_assoc s.0 (s.1 ∷ t.0) t.1), (s.0, s.1, t.0, s.3, refl, s.5, t.3), t.4)

  -- one list has one front that some values spell
  one_front : (xs : List (V × Place)) (a b x y : List Placed) → Splits Spells xs [] a → Splits Spells xs [] b → a ++ x ≡ b ++ y → a ≡ b
  one_front [] a b x y s t e = s ∙ sym t
  one_front (z ∷ xs) a b x y s t e =
      let all : (s.0 ++ s.1 ∷ []) ++ (s.2 ++ x) ≡ (t.0 ++ t.1 ∷ []) ++ (t.2 ++ y) =
      append_assoc s.0 (s.1 ∷ []) (s.2 ++ x) ∙ sym (append_assoc s.0 (s.1 ∷ s.2) x) ∙ ap (λ (w : List Placed). w ++ x) (sym s.4) ∙ e
      ∙ ap (λ (w : List Placed). w ++ y) t.4 ∙ append_assoc t.0 (t.1 ∷ t.2) y ∙ sym (append_assoc t.0 (t.1 ∷ []) (t.2 ++ y)) in
      let same = (prefix_law Spells why rule start k.decides).same_spelling z.0 z.0 (s.0 ++ s.1 ∷ []) (t.0 ++ t.1 ∷ []) (s.2 ++ x) (t.2 ++ y) s.3 t.3 all in
      let more = append_cancel_left (t.0 ++ t.1 ∷ []) (s.2 ++ x) (t.2 ++ y) (ap (λ (w : List Placed). w ++ (s.2 ++ x)) (sym same) ∙ all) in
      let tail = one_front xs s.2 t.2 x y s.6 t.6 more in
      s.4 ∙ sym (append_assoc s.0 (s.1 ∷ []) s.2) ∙ ap (λ (w : List Placed). w ++ s.2) same ∙ ap (λ (w : List Placed). (t.0 ++ t.1 ∷ []) ++ w) tail
      ∙ append_assoc t.0 (t.1 ∷ []) t.2 ∙ sym t.4

  pub begins_only : BeginsOnly Spells why (pattern_of p) v
  begins_only u r i f front rest e = (there, back) where
    there : BeginsWith (pattern_of p) (units_of rest) → BeginsAt Spells v r.items front
    there (z, g) =
        let s = parts_of rest (pattern_of p) z g in
        let whole : u ≡ (front ++ s.0) ++ s.1 = e ∙ ap (λ (w : List Placed). front ++ w) s.2 ∙ sym (append_assoc front s.0 s.1) in
        let ends = (ends_only Spells why rule start p v k u r i f (front ++ s.0) s.1 whole).0 (units_of front, units_append front s.0 ∙ ap (λ (l : List ℕ). units_of front ++ l) s.3) in
        let c = splits_last Spells ends.early (v, ends.place) (front ++ s.0) ends.spelled in
        let n : length s.0 ≡ length c.1 = sym (units_length s.0) ∙ ap length (s.3 ∙ sym (exact c.1 c.3)) ∙ units_length c.1 in
        let same = same_fronts front c.0 s.0 c.1 (let x = ap length c.2 in let a = length-append front s.0 in let b = length-append c.0 c.1 in omega arith) c.2 in
        record {
          early = ends.early;
          place = ends.place;
          later = ends.later;
          parts = ends.parts;
          spelled = subst (λ (w : List Placed). Splits Spells ends.early [] w) (sym same.0) c.4;
        }

    back : BeginsAt Spells v r.items front → BeginsWith (pattern_of p) (units_of rest)
    back g =
        let t = splits_parts g.early ((v, g.place) ∷ g.later) r.rest u (subst (λ (l : List (V × Place)). Splits Spells l r.rest u) g.parts i.splits) in
        let same = one_front g.early t.0 front t.1 rest t.3 g.spelled (sym t.2 ∙ e) in
        let after : rest ≡ t.1 = append_cancel_left front rest t.1 (sym e ∙ t.2 ∙ ap (λ (w : List Placed). w ++ t.1) same) in
        let x = t.4 in
        let spelled = exact (x.0 ++ x.1 ∷ []) x.3 in (
          units_of x.2,
          ap units_of (after ∙ x.4 ∙ sym (append_assoc x.0 (x.1 ∷ []) x.2)) ∙ units_append (x.0 ++ x.1 ∷ []) x.2 ∙ ap (λ (l : List ℕ). l ++ units_of x.2) spelled,
        )
