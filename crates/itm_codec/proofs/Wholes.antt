-- Bytes that end a value give it at the last of them, and those within one give nothing.
use Rattle.std.proofs.Common.{◌≡◌, ℕ, List, [], ◌∷◌, ◌++◌, refl, sym, ◌∙◌, ap, subst, append_assoc, append-nil, true, Option, None, Some}
use Rattle.itm_codec.specs.Names.{Next, Go, End, Fail, Mode, Placed, units_of, Walked, Whole, Within, after, walk}
use Rattle.itm_codec.specs.Names.{by_unit, Stream, Kept, Pattern, stream_in, hunts, is_locked, StandsIn, Passes}
use Rattle.itm_codec.specs.Names.{given_after, item_at}
use Rattle.trace_values.proofs.Modes.{reads-list, reads-step}

-- what a walk comes to that ends this value, or leaves this unfinished
abbrev pub walked : {S V : Type 0} → Option V → S → Walked S V
walked None t = Within t
walked (Some v) t = Whole v

-- a list that ends with a unit is not empty
not_empty : (front : List Placed) (last : Placed) → units_of (front ++ last ∷ []) ≡ [] → ⊥
not_empty [] last e = cc
not_empty (b ∷ front) last e = cc

-- it comes to neither with units after the end of a value, or after a fault
goes_on : {S V : Type 0} → (x : Next S V) (more : S → Walked S V) (units : List ℕ) (o : Option V) (t : S) → ((r : S) → x ≡ Go r → ⊥) →
    (units ≡ [] → ⊥) → after x more units ≡ walked o t → ⊥
goes_on (Go r) more units o t n some e = n r refl
goes_on (End w) more [] o t n some e = some refl
goes_on (End w) more (b ∷ units) None t n some e = cc
goes_on (End w) more (b ∷ units) (Some v) t n some e = cc
goes_on (Fail r) more units None t n some e = cc
goes_on (Fail r) more units (Some v) t n some e = cc

module _ {S V : Type 0} (p : Pattern) (z : V) (rule : S → ℕ → Next S V) (start : S) (m : Mode) (locked : is_locked m ≡ true) where
  abbrev reading : List Placed → Stream V
  reading w = stream_in p z (by_unit rule) start (hunts m) w

  abbrev stands : S → List Placed → Type 0
  stands s w = StandsIn p z (by_unit rule) start m true s w

  last_goes : (last : Placed) (u : List Placed) (s t : S) (o : Option V) (x : Next S V) → rule s last.unit ≡ x →
      after {U = ℕ} x (λ r. walk rule r []) [] ≡ walked o t → ((v : V) → o ≡ Some v → t ≡ start) → stands s u →
      Passes reading (stands t) u [] last (item_at last.place.half o)
  last_goes last u s t None (Go r) k e q h =
      let same : r ≡ t = cc in
      let step = reads-step p z (by_unit rule) start m true s u last (Go r) refl locked (sym k) h in
      record {
        list = subst (λ (y : S). stands y (u ++ last ∷ [])) same
            (reads-list p z (by_unit rule) start m true s u last true r (Go r) refl locked (sym k) refl refl h);
        given = step.given;
        sound = step.fault;
      }
  last_goes last u s t (Some v) (End w) k e q h =
      let same : w ≡ v = cc in
      let step = reads-step p z (by_unit rule) start m true s u last (End w) refl locked (sym k) h in
      record {
        list = reads-list p z (by_unit rule) start m true s u last true t (End w) refl locked (sym k) refl (q v refl) h;
        given = step.given ∙ ap (λ x. (reading u).given ++ (Kept x, last.place) ∷ []) same;
        sound = step.fault;
      }
  last_goes last u s t None (End w) k e q h = cc
  last_goes last u s t None (Fail r) k e q h = cc
  last_goes last u s t (Some v) (Go r) k e q h = cc
  last_goes last u s t (Some v) (Fail r) k e q h = cc

  -- units that end a value, or are a front of one
  pub cut_goes : (front : List Placed) (last : Placed) (u : List Placed) (s t : S) (o : Option V) →
      walk rule s (units_of (front ++ last ∷ [])) ≡ walked o t → ((v : V) → o ≡ Some v → t ≡ start) →
      stands s u → Passes reading (stands t) u front last (item_at last.place.half o)
  cut_goes [] last u s t o e q h = last_goes last u s t o (rule s last.unit) refl e q h
  cut_goes (b ∷ front) last u s t o e q h = by (rule s b.unit) refl e (λ r f k. cut_goes front last (u ++ b ∷ []) r t o f q k) where
    rest : List Placed
    rest = front ++ last ∷ []

    by : (x : Next S V) → rule s b.unit ≡ x → after x (λ r. walk rule r (units_of rest)) (units_of rest) ≡ walked o t →
        ((r : S) → walk rule r (units_of rest) ≡ walked o t → stands r (u ++ b ∷ []) →
        Passes reading (stands t) (u ++ b ∷ []) front last (item_at last.place.half o)) →
        Passes reading (stands t) u (b ∷ front) last (item_at last.place.half o)
    by (Go r) k f next =
        let step = reads-step p z (by_unit rule) start m true s u b (Go r) refl locked (sym k) h in
        let more = next r f (reads-list p z (by_unit rule) start m true s u b true r (Go r) refl locked (sym k) refl refl h) in
        let all : (u ++ b ∷ []) ++ rest ≡ u ++ (b ∷ rest) = append_assoc u (b ∷ []) rest in
        record {
          list = subst (stands t) all more.list;
          given = ap (λ (l : List Placed). (reading l).given) (sym all) ∙ more.given
              ∙ ap (λ l. l ++ given_after last.place.at (item_at last.place.half o)) (step.given ∙ append-nil (reading u).given);
          sound = ap (λ (l : List Placed). (reading l).fault) (sym all) ∙ more.sound;
        }
    by (End w) k f next = absurd (goes_on (End w) (λ r. walk rule r (units_of rest)) (units_of rest) o t (λ r e. cc) (not_empty front last) f)
    by (Fail r) k f next = absurd (goes_on (Fail r) (λ x. walk rule x (units_of rest)) (units_of rest) o t (λ x e. cc) (not_empty front last) f)
