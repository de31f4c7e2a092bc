-- Laws of every walk, and what a grammar owes so that its rule decides it.
use Rattle.std.proofs.Common.{◌≡◌, List, [], ◌∷◌, ◌++◌, refl, sym, ◌∙◌, ap, subst, inl, inr, append-nil}
use Rattle.trace_values.specs.declared.fault.Reason.{Reason}
use Rattle.trace_values.specs.declared.next.Next.{Next}
use Rattle.trace_values.specs.declared.next.Next.TheVariants.{Go, End, Fail}
use Rattle.trace_values.specs.Grammar.{PrefixLaw, IsFront}
use Rattle.trace_values.proofs.Lists.{fronts_meet}
use Rattle.trace_values.specs.Walk.{Walked, Within, Whole, Beyond, Broken, after, walk, Decides}

module _ {U S V : Type 0} (rule : S → U → Next S V) where
  after_within : (x : Next S V) (k l : S → Walked S V) (u w : List U) (s : S) → ((t : S) → k t ≡ Within s → l t ≡ walk rule s w) → after x k u ≡ Within s → after x l (u ++ w) ≡ walk rule s w
  after_within (Go t) k l u w s h e = h t e
  after_within (End v) k l [] w s h e = cc
  after_within (End v) k l (c ∷ u) w s h e = cc
  after_within (Fail f) k l u w s h e = cc

  -- after units that go on, the walk goes on from their state
  pub walk_more : (s t : S) (u w : List U) → walk rule s u ≡ Within t → walk rule s (u ++ w) ≡ walk rule t w
  walk_more s t [] w e = let k : s ≡ t = cc in ap (λ (x : S). walk rule x w) k
  walk_more s t (b ∷ u) w e = after_within (rule s b) (λ x. walk rule x u) (λ x. walk rule x (u ++ w)) u w t (λ x h. walk_more x t u w h) e

  -- what a rule says, as the walk of its unit
  abbrev pub walked : Next S V → Walked S V
  walked (Go s) = Within s
  walked (End v) = Whole v
  walked (Fail e) = Broken e

  after_one : (x : Next S V) → after {U = U} x (λ t. Within t) [] ≡ walked x
  after_one (Go t) = refl
  after_one (End v) = refl
  after_one (Fail e) = refl

  pub walk_one : (s : S) (b : U) → walk rule s (b ∷ []) ≡ walked (rule s b)
  walk_one s b = after_one (rule s b)

  pub walk_push : (s t : S) (u : List U) (b : U) → walk rule s u ≡ Within t → walk rule s (u ++ b ∷ []) ≡ walked (rule t b)
  walk_push s t u b e = walk_more s t u (b ∷ []) e ∙ walk_one t b

  after_whole : (x : Next S V) (k l : S → Walked S V) (u : List U) (b : U) (w : List U) (v : V) → ((t : S) → k t ≡ Whole v → l t ≡ Beyond) → after x k u ≡ Whole v → after x l (u ++ (b ∷ w)) ≡ Beyond
  after_whole (Go t) k l u b w v h e = h t e
  after_whole (End z) k l [] b w v h e = refl
  after_whole (End z) k l (c ∷ u) b w v h e = refl
  after_whole (Fail f) k l u b w v h e = cc

  -- nothing comes after a whole spelling
  pub walk_beyond : (s : S) (v : V) (u : List U) (b : U) (w : List U) → walk rule s u ≡ Whole v → walk rule s (u ++ (b ∷ w)) ≡ Beyond
  walk_beyond s v [] b w e = cc
  walk_beyond s v (c ∷ u) b w e = after_whole (rule s c) (λ x. walk rule x u) (λ x. walk rule x (u ++ (b ∷ w))) u b w v (λ x h. walk_beyond x v u b w h) e

  after_broken : (x : Next S V) (k l : S → Walked S V) (u w : List U) (f : Reason) → ((t : S) → k t ≡ Broken f → l t ≡ Broken f) → after x k u ≡ Broken f → after x l (u ++ w) ≡ Broken f
  after_broken (Go t) k l u w f h e = h t e
  after_broken (End z) k l [] w f h e = cc
  after_broken (End z) k l (c ∷ u) w f h e = cc
  after_broken (Fail g) k l u w f h e = e

  -- and no front comes after a fault
  pub walk_broken : (s : S) (f : Reason) (u w : List U) → walk rule s u ≡ Broken f → walk rule s (u ++ w) ≡ Broken f
  walk_broken s f [] w e = cc
  walk_broken s f (c ∷ u) w e = after_broken (rule s c) (λ x. walk rule x u) (λ x. walk rule x (u ++ w)) u w f (λ x h. walk_broken x f u w h) e

  -- sound, complete, each state that is reached can be finished, and each fault has its reason: that is all that a grammar owes
  pub decides : (Spells : V → List U → Type 0) (why : List U → Reason) (start : S) → ((v : V) (r : List U) → walk rule start r ≡ Whole v → Spells v r) →
      ((v : V) (r : List U) → Spells v r → walk rule start r ≡ Whole v) →
      ((s : S) (r : List U) → walk rule start r ≡ Within s → (v : V) × (w : List U) × (walk rule s w ≡ Whole v)) →
      ((s : S) (r : List U) (b : U) (e : Reason) → walk rule start r ≡ Within s → rule s b ≡ Fail e → e ≡ why (r ++ b ∷ [])) →
      Decides Spells why rule start
  decides Spells why start sound complete finish reason = record {
    sound = sound;
    complete = complete;
    goes_on = λ s r e. (let f = finish s r e in (f.0, f.1, sound f.0 (r ++ f.1) (walk_more start s r f.1 e ∙ f.2)));
    reason = reason;
  }

-- what a rule that decides a grammar says of its spellings
module _ {U S V : Type 0} (Spells : V → List U → Type 0) (why : List U → Reason) (rule : S → U → Next S V) (start : S) (d : Decides Spells why rule start) where
  whole_is_one : (v w : V) → (let p : Walked S V = Whole v in let q : Walked S V = Whole w in p ≡ q) → v ≡ w
  whole_is_one v w e = cc

  not_beyond : (v : V) → (let p : Walked S V = Whole v in let q : Walked S V = Beyond in p ≡ q) → ⊥
  not_beyond v e = cc

  not_broken : (v : V) (f : Reason) → (let p : Walked S V = Whole v in let q : Walked S V = Broken f in p ≡ q) → ⊥
  not_broken v f e = cc

  -- after a spelling no spelling goes on
  pub none_beyond : (v w : V) (r : List U) (b : U) (u : List U) → Spells v r → Spells w (r ++ (b ∷ u)) → ⊥
  none_beyond v w r b u s t = not_beyond w (sym (d.complete w (r ++ (b ∷ u)) t) ∙ walk_beyond rule start v r b u (d.complete v r s))

  -- after a fault there is no front
  pub no_front : (f : Reason) (r : List U) → walk rule start r ≡ Broken f → IsFront Spells r → ⊥
  no_front f r e (v, w, s) = not_broken v f (sym (d.complete v (r ++ w) s) ∙ walk_broken rule start f r w e)

  -- a spelling that begins another is that one
  alike : (v w : V) (a b c : List U) → Spells v a → Spells w b → b ≡ a ++ c → a ≡ b
  alike v w a b [] s t e = sym (e ∙ append-nil a)
  alike v w a b (h ∷ c) s t e = absurd (none_beyond v w a h c s (subst (λ (l : List U). Spells w l) e t))

  pub prefix_law : PrefixLaw Spells
  prefix_law = record {
    same_value = λ v w a s t. whole_is_one v w (sym (d.complete v a s) ∙ d.complete w a t);
    same_spelling = λ v w a b x y s t e. elim (fronts_meet a b x y e) [
      | inl m ↦ alike v w a b m.0 s t m.1
      | inr m ↦ sym (alike w v b a (m.1 ∷ m.0) t s m.2)
    ];
  }
