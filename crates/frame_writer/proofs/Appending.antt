-- The putting of one byte after others.
use Rattle.std.proofs.Common.{◌≡◌, ℕ, ◌+◌, ◌<◌, List, [], ◌∷◌, ◌++◌, sym, ◌∙◌, ap, arith, subst, append_assoc, append-nil, length, take, get_or}
use Rattle.std.proofs.lemmas.List.{take_more, map-append}
use Rattle.frame_writer.specs.Written.{Tagged}
use Rattle.frame_writer.specs.Fronts.{sure_after}
use Rattle.frame_writer.specs.Sure.{IsSure, Appends, of_one}
use Rattle.frame_writer.specs.declared.sure.SureWriter.{SureWriter}

pub appends_none : (w : SureWriter) (out : List ℕ) → Appends w w [] out out
appends_none w out = record {
  more = [];
  appended = sym (append-nil out);
  list = λ every halves closed t s. subst (IsSure w every halves closed) (sym (append-nil t)) s;
  grown = λ every halves closed t s. ap (sure_after every halves closed) (append-nil t) ∙ sym (append-nil (sure_after every halves closed t));
}

pub appends_join : (a b c : SureWriter) (t u : List Tagged) (first mid last : List ℕ) → Appends a b t first mid → Appends b c u mid last → Appends a c (t ++ u) first last
appends_join a b c t u first mid last one two = record {
  more = one.more ++ two.more;
  appended = two.appended ∙ ap (λ (l : List ℕ). l ++ two.more) one.appended ∙ append_assoc first one.more two.more;
  list = λ every halves closed s k. subst (IsSure c every halves closed) (append_assoc s t u) (two.list every halves closed (s ++ t) (one.list every halves closed s k));
  grown = λ every halves closed s k.
      ap (sure_after every halves closed) (sym (append_assoc s t u))
      ∙ two.grown every halves closed (s ++ t) (one.list every halves closed s k)
      ∙ ap (λ (l : List ℕ). l ++ two.more) (one.grown every halves closed s k)
      ∙ append_assoc (sure_after every halves closed s) one.more two.more;
}

pub appends_same : (a b b' : SureWriter) (t : List Tagged) (first mid mid' : List ℕ) → b' ≡ b → mid' ≡ mid → Appends a b t first mid → Appends a b' t first mid'
appends_same a b b' t first mid mid' e f p =
    subst (λ (w : SureWriter). Appends a w t first mid') (sym e) (subst (λ (l : List ℕ). Appends a b t first l) (sym f) p)

-- one more of some bytes
pub appends_more : (a b c : SureWriter) (id : ℕ) (bytes : List ℕ) (i : ℕ) (first mid last : List ℕ) → i < length bytes → Appends a b (of_one id (take i bytes)) first mid →
    Appends b c (record { id = id; byte = get_or bytes i 0 } ∷ []) mid last → Appends a c (of_one id (take (i + 1) bytes)) first last
appends_more a b c id bytes i first mid last h one two =
    let tag : ℕ → Tagged = λ byte. record { id = id; byte = byte } in
    subst (λ l. Appends a c l first last)
    (sym (ap (of_one id) (take_more bytes i 0 h) ∙ map-append tag (take i bytes) (get_or bytes i 0 ∷ [])))
    (appends_join a b c (of_one id (take i bytes)) (record { id = id; byte = get_or bytes i 0 } ∷ []) first mid last one two)

-- two more of them
pub appends_two : (a b c : SureWriter) (id : ℕ) (bytes : List ℕ) (i : ℕ) (first mid last : List ℕ) → i + 1 < length bytes → Appends a b (of_one id (take i bytes)) first mid →
    Appends b c (of_one id (get_or bytes i 0 ∷ (get_or bytes (i + 1) 0 ∷ []))) mid last → Appends a c (of_one id (take (i + 2) bytes)) first last
appends_two a b c id bytes i first mid last h one two =
    let tag : ℕ → Tagged = λ byte. record { id = id; byte = byte } in
    let pair = get_or bytes i 0 ∷ (get_or bytes (i + 1) 0 ∷ []) in
    let e : take (i + 2) bytes ≡ take i bytes ++ pair =
    (let z : i + 2 ≡ (i + 1) + 1 = omega arith in ap (λ (k : ℕ). take k bytes) z) ∙ take_more bytes (i + 1) 0 h
    ∙ ap (λ (l : List ℕ). l ++ get_or bytes (i + 1) 0 ∷ []) (take_more bytes i 0 (omega arith))
    ∙ append_assoc (take i bytes) (get_or bytes i 0 ∷ []) (get_or bytes (i + 1) 0 ∷ []) in
    subst (λ l. Appends a c l first last)
    (sym (ap (of_one id) e ∙ map-append tag (take i bytes) pair))
    (appends_join a b c (of_one id (take i bytes)) (of_one id pair) first mid last one two)
