-- A window after one more event, and both forms of what passes.
use Rattle.std.proofs.Common.{◌≡◌, ◌↔◌, Bool, true, false, not, ◌&&◌, ◌||◌, inl, inr, List, [], ◌∷◌, ◌++◌, refl, sym, ◌∙◌, ap}
use Rattle.std.specs.List.{list_all}
use Rattle.std.proofs.lemmas.List.Folds.{list_all-append}
use Rattle.std.proofs.lemmas.Bool.{or_cases, and_parts, or_right}
use Rattle.source_events.specs.declared.event.Event.{Event}
use Rattle.source_events.specs.declared.packet.Packet.{Packet}
use Rattle.item_tap.specs.Windows.{IsOpenAfter, Passes, is_open_after, passes}

-- it holds for none of these events
abbrev holds_for_none : (Event Packet → Bool) → List (Event Packet) → Bool
holds_for_none rule es = list_all (λ e. not (rule e)) es

and_true : (b : Bool) → (b && true) ≡ b
and_true true = refl
and_true false = refl

pub either_order : (a b : Bool) → (a || b) ≡ (b || a)
either_order true true = refl
either_order true false = refl
either_order false true = refl
either_order false false = refl

alone : (f l : Bool) → (f && (not l && true) || false) ≡ ((f || false) && not l)
alone true true = refl
alone true false = refl
alone false l = refl

grown : (a n o f m : Bool) → (a && (n && m) || (f || o) && m) ≡ ((f || (a && n || o)) && m)
grown false n o f m = refl
grown true false o f m = refl
grown true true o true true = refl
grown true true o false true = refl
grown true true o true false = refl
grown true true true false false = refl
grown true true false false false = refl

module _ (first last : Event Packet → Bool) where
  none_more : (es : List (Event Packet)) (e : Event Packet) →
      holds_for_none last (es ++ e ∷ []) ≡ (holds_for_none last es && not (last e))
  none_more es e =
      list_all-append (λ x. not (last x)) es (e ∷ [])
      ∙ ap (λ b. holds_for_none last es && b) (and_true (not (last e)))

  -- it is open after an event that passes, and for which the last rule doesn't hold
  pub open_more : (es : List (Event Packet)) (e : Event Packet) →
      is_open_after first last (es ++ e ∷ []) ≡ (passes first last es e && not (last e))
  open_more [] e = alone (first e) (last e)
  open_more (x ∷ es) e =
      ap (λ b. first x && b || is_open_after first last (es ++ e ∷ [])) (none_more (x ∷ es) e)
      ∙ ap (λ b. first x && (holds_for_none last (x ∷ es) && not (last e)) || b) (open_more es e)
      ∙ grown (first x) (holds_for_none last (x ∷ es)) (is_open_after first last es) (first e) (not (last e))

  opened : (es : List (Event Packet)) → is_open_after first last es ≡ true → IsOpenAfter first last es
  opened [] h = cc
  opened (x ∷ es) h = elim (or_cases (first x && holds_for_none last (x ∷ es)) (is_open_after first last es) h) [
    | inl k ↦ (
        let here = and_parts (first x) (holds_for_none last (x ∷ es)) k in
        record { front = []; opening = x; between = es; parts = refl; opens = here.0; stays = here.1 }
        )
    | inr k ↦ (
        let later = opened es k in
        record {
          front = x ∷ later.front;
          opening = later.opening;
          between = later.between;
          parts = ap (λ (l : List (Event Packet)). x ∷ l) later.parts;
          opens = later.opens;
          stays = later.stays;
        }
        )
  ]

  open_there : (front : List (Event Packet)) (x : Event Packet) (between : List (Event Packet)) → first x ≡ true →
      holds_for_none last (x ∷ between) ≡ true → is_open_after first last (front ++ x ∷ between) ≡ true
  open_there [] x between o s =
      ap (λ b. b && holds_for_none last (x ∷ between) || is_open_after first last between) o
      ∙ ap (λ b. b || is_open_after first last between) s
  open_there (y ∷ front) x between o s =
      ap (λ b. first y && holds_for_none last (y ∷ (front ++ x ∷ between)) || b) (open_there front x between o s)
      ∙ or_right (first y && holds_for_none last (y ∷ (front ++ x ∷ between))) true refl

  open_so : (es : List (Event Packet)) → IsOpenAfter first last es → is_open_after first last es ≡ true
  open_so es h = ap (is_open_after first last) h.parts ∙ open_there h.front h.opening h.between h.opens h.stays

  pub open_both : (es : List (Event Packet)) → (is_open_after first last es ≡ true) ↔ IsOpenAfter first last es
  open_both es = (opened es, open_so es)

  passed : (before : List (Event Packet)) (e : Event Packet) → passes first last before e ≡ true → Passes first last before e
  passed before e h = elim (or_cases (first e) (is_open_after first last before) h) [
    | inl k ↦ inl k
    | inr k ↦ inr (opened before k)
  ]

  pass_so : (before : List (Event Packet)) (e : Event Packet) → Passes first last before e → passes first last before e ≡ true
  pass_so before e h = elim h [
    | inl k ↦ ap (λ b. b || is_open_after first last before) k
    | inr k ↦ ap (λ b. first e || b) (open_so before k) ∙ or_right (first e) true refl
  ]

  pub pass_both : (before : List (Event Packet)) (e : Event Packet) →
      (passes first last before e ≡ true) ↔ Passes first last before e
  pass_both before e = (passed before e, pass_so before e)

  -- a window that has seen these events, at one more
  pub sees_passing : (es : List (Event Packet)) (e : Event Packet) (old answer : Bool) → old ≡ is_open_after first last es →
      answer ≡ (old || first e) → answer ≡ passes first last es e
  sees_passing es e old answer o a =
      a ∙ ap (λ b. b || first e) o ∙ either_order (is_open_after first last es) (first e)

  pub sees_open : (es : List (Event Packet)) (e : Event Packet) (old answer new : Bool) → old ≡ is_open_after first last es →
      answer ≡ (old || first e) → new ≡ (answer && not (last e)) → new ≡ is_open_after first last (es ++ e ∷ [])
  sees_open es e old answer new o a n =
      n ∙ ap (λ b. b && not (last e)) (sees_passing es e old answer o a) ∙ sym (open_more es e)
