-- The bytes that are left, as they are made and given.
use Rattle.std.proofs.Common.{◌≡◌, ℕ, ◌+◌, List, ◌++◌, length, take, drop, sym, ◌∙◌, ap, append_assoc, drop-drop}
use Rattle.std.proofs.Common.{take_all, arith}
use Rattle.std.proofs.lemmas.List.{take-append-drop}
use Rattle.std.specs.declared.option.Option.{Option}
use Rattle.std.specs.Io.KnownBytes.{Appends}
use Rattle.std.proofs.KnownBytes.{Appends-trans}
use Rattle.capture_exercise.specs.Names.{TakesFront, AppendsPrefix}

pub told : (items more : List ℕ) (given count : ℕ) →
    drop given items ++ more ≡ take count (drop given items) ++ (drop (given + count) items ++ more)
told items more given count =
    let rest = drop given items in
    ap (λ (l : List ℕ). l ++ more) (sym (take-append-drop count rest)) ∙ append_assoc (take count rest) (drop count rest) more
    ∙ ap (λ (l : List ℕ). take count rest ++ (l ++ more)) (drop-drop count given items)

-- a piece is written, after which there is this rest
pub front_given : (old mid new : Option (List ℕ)) (all left piece rest : List ℕ) → TakesFront old mid all left →
    Appends mid new piece → left ≡ piece ++ rest → TakesFront old new all rest
front_given old mid new all left piece rest t a e = record {
  front = t.front ++ piece;
  took = Appends-trans old mid new t.front piece t.took a;
  all =
      t.all ∙ ap (λ (l : List ℕ). t.front ++ l) e ∙ sym (append_assoc t.front piece rest);
}

-- a front of a piece is written
pub front_stopped : (old mid new : Option (List ℕ)) (all piece more : List ℕ) → TakesFront old mid all (piece ++ more) →
    AppendsPrefix mid new piece → AppendsPrefix old new all
front_stopped old mid new all piece more t w = (
  w.0 ++ more,
  record {
    front = t.front ++ w.1.front;
    took = Appends-trans old mid new t.front w.1.front t.took w.1.took;
    all =
        t.all ∙ ap (λ (l : List ℕ). t.front ++ (l ++ more)) w.1.all
        ∙ ap (λ (l : List ℕ). t.front ++ l) (append_assoc w.1.front w.0 more)
        ∙ sym (append_assoc t.front w.1.front (w.0 ++ more));
  },
)

-- all that is pending is given
pub whole_given : (left pending middle rest piece : List ℕ) (count : ℕ) → left ≡ take count pending ++ middle →
    piece ≡ pending → count ≡ length piece → rest ≡ middle → left ≡ piece ++ rest
whole_given left pending middle rest piece count e p n r =
    let all : take count pending ≡ piece =
    ap (λ (k : ℕ). take k pending) (n ∙ ap (λ (l : List ℕ). length l) p) ∙ take_all (length pending) pending (omega arith) ∙ sym p in
    e ∙ ap (λ (l : List ℕ). l ++ middle) all ∙ ap (λ (l : List ℕ). piece ++ l) (sym r)
