-- One more item after fitting ones.
use Rattle.std.proofs.Common.{append_assoc, ◌≡◌, List, [], ◌∷◌, ◌++◌, refl, sym, ◌∙◌, ap, subst, false, ◌⊎◌, inl, inr}
use Rattle.stp_encoder.specs.Names.{StpItem, IsProperItem}
use Rattle.stp_encoder.specs.Fitting.{version_after, is_unfit, AreFitting}

pub none_fit : AreFitting []
none_fit [] after item e = absurd cc
none_fit (x ∷ before) after item e = absurd cc

-- an item of a list with one more is the last, or of the list
last_or_before : (items before after : List StpItem) (last item : StpItem) → items ++ last ∷ [] ≡ before ++ (item ∷ after) →
    ((items ≡ before) × (last ≡ item)) ⊎ ((rest : List StpItem) × (items ≡ before ++ (item ∷ rest)))
last_or_before [] [] after last item e = inl (refl, cc)
last_or_before [] (x ∷ []) after last item e = absurd cc
last_or_before [] (x ∷ (y ∷ before)) after last item e = absurd cc
last_or_before (z ∷ items) [] after last item e = inr (items, (let q : z ≡ item = cc in ap (λ (y : StpItem). y ∷ items) q))
last_or_before (z ∷ items) (x ∷ before) after last item e =
    let head : z ≡ x = cc in
    let tail : items ++ last ∷ [] ≡ before ++ (item ∷ after) = cc in
    elim (last_or_before items before after last item tail) [
      | inl w ↦ inl (let q = w.0 in (cc, w.1))
      | inr w ↦ inr (w.0, (let q = w.1 in cc))
    ]

pub more_fit : (items : List StpItem) (item : StpItem) → AreFitting items → IsProperItem item → is_unfit (version_after items) item ≡ false → AreFitting (items ++ item ∷ [])
more_fit items item h p f before after x e = elim (last_or_before items before after item x e) [
  | inl w ↦ (
    subst IsProperItem w.1 p,
    ap (λ (l : List StpItem). is_unfit (version_after l) x) (sym w.0) ∙ ap (λ (y : StpItem). is_unfit (version_after items) y) (sym w.1) ∙ f,
  )
  | inr w ↦ h before w.0 x w.1
]

pub front_fits : (items more : List StpItem) → AreFitting (items ++ more) → AreFitting items
front_fits items more h before after item e =
    h before (after ++ more) item (ap (λ (l : List StpItem). l ++ more) e ∙ append_assoc before (item ∷ after) more)
