-- The bytes of a frame.
use Rattle.std.proofs.Common.{◌≡◌, ℕ, zero, suc, ◌+◌, ◌<◌, ◌≤◌, List, [], ◌∷◌, ◌++◌, refl, sym, ◌∙◌, ap, arith, Bool, true, false, append_assoc, append-nil, length}
use Rattle.frame_grammar.specs.Port.{half_spelling}
use Rattle.frame_writer.specs.declared.pair.Pair.{Pair}
use Rattle.frame_writer.specs.Written.{bit, aux_byte, spread, frame_bytes, sync}

abbrev twice : ℕ → ℕ
twice zero = 1
twice (suc n) = twice n + twice n

pub bit_small : (b : Bool) → bit b ≤ 1
bit_small true = omega arith
bit_small false = omega arith

aux_below : (pairs : List Pair) (last : Bool) (n : ℕ) → length pairs ≤ n → aux_byte pairs last < twice (suc n)
aux_below [] last zero h = let k = bit_small last in omega arith
aux_below [] last (suc n) h = let k = aux_below [] last n (omega arith) in omega arith
aux_below (p ∷ pairs) last zero h = absurd (omega arith)
aux_below (p ∷ pairs) last (suc n) h = let k = aux_below pairs last n (omega arith) in let b = bit_small p.aux in omega arith

pub aux_small : (pairs : List Pair) (last : Bool) → length pairs ≤ 6 → aux_byte pairs last ≤ 127
aux_small pairs last h = let k = aux_below pairs last 6 h in omega arith

spread_push : (halves : ℕ) (pairs : List Pair) (p : Pair) → spread halves (pairs ++ p ∷ []) ≡ spread halves pairs ++ (p.even ∷ (p.odd ∷ half_spelling halves))
spread_push halves [] p = ap (λ l. p.even ∷ (p.odd ∷ l)) (append-nil (half_spelling halves))
spread_push halves (q ∷ pairs) p =
    ap (λ l. q.even ∷ (q.odd ∷ l)) (ap (λ l. half_spelling halves ++ l) (spread_push halves pairs p) ∙ sym (append_assoc (half_spelling halves) (spread halves pairs) (p.even ∷ (p.odd ∷ half_spelling halves))))

pub spread_more : (halves : ℕ) (pairs pairs' : List Pair) (p : Pair) (start a b c d : List ℕ) → pairs' ≡ pairs ++ p ∷ [] →
    a ≡ start ++ spread halves pairs → b ≡ a ++ p.even ∷ [] → c ≡ b ++ p.odd ∷ [] → d ≡ c ++ half_spelling halves → d ≡ start ++ spread halves pairs'
spread_more halves pairs pairs' p start a b c d k e f g h =
    h ∙ ap (λ l. l ++ half_spelling halves) (g ∙ ap (λ l. l ++ p.odd ∷ []) (f ∙ ap (λ l. l ++ p.even ∷ []) e))
    ∙ append_assoc (((start ++ spread halves pairs) ++ p.even ∷ [])) (p.odd ∷ []) (half_spelling halves)
    ∙ append_assoc (start ++ spread halves pairs) (p.even ∷ []) (p.odd ∷ half_spelling halves)
    ∙ append_assoc start (spread halves pairs) (p.even ∷ (p.odd ∷ half_spelling halves))
    ∙ ap (λ l. start ++ l) (sym (spread_push halves pairs p) ∙ ap (spread halves) (sym k))

pub frame_is : (every halves n : ℕ) (pairs : List Pair) (even : ℕ) (last : Bool) (a b c d : List ℕ) (aux : ℕ) →
    a ≡ sync every n → b ≡ a ++ spread halves pairs → c ≡ b ++ even ∷ [] → aux ≡ aux_byte pairs last → d ≡ c ++ aux ∷ [] → d ≡ frame_bytes every halves n pairs even last
unfolding frame_bytes
frame_is every halves n pairs even last a b c d aux e f g x h =
    h ∙ ap (λ l. l ++ aux ∷ []) (g ∙ ap (λ l. l ++ even ∷ []) (f ∙ ap (λ l. l ++ spread halves pairs) e))
    ∙ ap (λ y. ((sync every n ++ spread halves pairs) ++ even ∷ []) ++ y ∷ []) x
    ∙ append_assoc (sync every n ++ spread halves pairs) (even ∷ []) (aux_byte pairs last ∷ [])
    ∙ append_assoc (sync every n) (spread halves pairs) (even ∷ (aux_byte pairs last ∷ []))

halves_push : (n : ℕ) → half_spelling (suc n) ≡ half_spelling n ++ (255 ∷ (127 ∷ []))
halves_push zero = refl
halves_push (suc n) = ap (λ (l : List ℕ). 255 ∷ (127 ∷ l)) (halves_push n)

pub halves_more : (n : ℕ) (start a b c : List ℕ) → a ≡ start ++ half_spelling n → b ≡ a ++ 255 ∷ [] → c ≡ b ++ 127 ∷ [] → c ≡ start ++ half_spelling (n + 1)
halves_more n start a b c e f g =
    g ∙ ap (λ (l : List ℕ). l ++ 127 ∷ []) (f ∙ ap (λ (l : List ℕ). l ++ 255 ∷ []) e)
    ∙ append_assoc (start ++ half_spelling n) (255 ∷ []) (127 ∷ []) ∙ append_assoc start (half_spelling n) (255 ∷ (127 ∷ []))
    ∙ ap (λ (l : List ℕ). start ++ l) (sym (halves_push n) ∙ ap half_spelling (let k : suc n ≡ n + 1 = omega arith in k))
