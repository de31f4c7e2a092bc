use Rattle.std.proofs.Common.{◌≡◌, ℕ, List, [], ◌∷◌, ◌++◌, ◌∙◌, ap, cond, Bool, true, false}

synced : (b : Bool) → b ≡ true → cond {A = List ℕ} b (255 ∷ (255 ∷ (255 ∷ (127 ∷ [])))) [] ≡ 255 ∷ (255 ∷ (255 ∷ (127 ∷ [])))
synced b e = ap (λ x. cond {A = List ℕ} x (255 ∷ (255 ∷ (255 ∷ (127 ∷ [])))) []) e

unsynced : (b : Bool) → b ≡ false → cond {A = List ℕ} b (255 ∷ (255 ∷ (255 ∷ (127 ∷ [])))) [] ≡ []
unsynced b e = ap (λ x. cond {A = List ℕ} x (255 ∷ (255 ∷ (255 ∷ (127 ∷ [])))) []) e

four : (o a b c d : List ℕ) → o ≡ [] → a ≡ o ++ 255 ∷ [] → b ≡ a ++ 255 ∷ [] → c ≡ b ++ 255 ∷ [] → d ≡ c ++ 127 ∷ [] → d ≡ 255 ∷ (255 ∷ (255 ∷ (127 ∷ [])))
four o a b c d z e f g h = h ∙ ap (λ l. l ++ 127 ∷ []) (g ∙ ap (λ l. l ++ 255 ∷ []) (f ∙ ap (λ l. l ++ 255 ∷ []) (e ∙ ap (λ l. l ++ 255 ∷ []) z)))
