-- Pieces that are put into a room: one after another, in part, and said otherwise.
use Rattle.std.proofs.Common.{◌≡◌, ℕ, zero, suc, ◌+◌, ◌-◌, ◌*◌, ◌≤◌, List, [], ◌++◌, length, take, refl, sym, ◌∙◌, ap, subst, append_assoc, append-nil, length-append, cond, arith}
use Rattle.std.specs.Prelude.{◌==◌}
use Rattle.std.proofs.lemmas.List.{length-take-le}
use Rattle.trace_text.specs.Puts.{Puts, PutsAll}
use Rattle.trace_text.proofs.Fronts.{part}

-- no piece
pub nothing : (room : List ℕ) (from : ℕ) → PutsAll room room from from 0 []
nothing room from = record { text = sym (append-nil (take from room)); same = refl; end = omega arith }

pub said_as : {old new : List ℕ} {from to m n : ℕ} {a b : List ℕ} → PutsAll old new from to m a → m ≡ n → a ≡ b → PutsAll old new from to n b
said_as {old = old} {from = from} p e f = record {
  text = p.text ∙ ap (λ (l : List ℕ). take from old ++ l) f;
  same = p.same;
  end = (let k = p.end in omega arith);
}

pub named : {old new : List ℕ} {from to m : ℕ} {a b : List ℕ} → Puts old new from to m a → a ≡ b → Puts old new from to m b
named {old = old} {from = from} p f = record { text = p.text ∙ ap (λ (l : List ℕ). take from old ++ l) f; same = p.same; end = p.end }

-- in that room or more
pub within : {old new : List ℕ} {from to m n : ℕ} {a b : List ℕ} → Puts old new from to m a → m ≤ n → a ≡ b → Puts old new from to n b
within {old = old} {from = from} p h f = record {
  text = p.text ∙ ap (λ (l : List ℕ). take from old ++ l) f;
  same = p.same;
  end = (let k = p.end in omega arith);
}

pub loose : {old new : List ℕ} {from to m : ℕ} {a : List ℕ} → PutsAll old new from to m a → Puts old new from to m a
loose p = record { text = p.text; same = p.same; end = (let k = p.end in omega arith) }

-- one piece after another
pub joined : (a b old x y : List ℕ) → a ≡ b ++ y → b ≡ old ++ x → a ≡ old ++ (x ++ y)
joined a b old x y e f = e ∙ ap (λ (l : List ℕ). l ++ y) f ∙ append_assoc old x y

pub then : {old mid new : List ℕ} {from at to m n : ℕ} {a b : List ℕ} → Puts old mid from at m a → Puts mid new at to n b →
    Puts old new from to (m + n) (a ++ b)
then p q = record {
  text = joined _ _ _ _ _ q.text p.text;
  same = q.same ∙ p.same;
  end = (let k = p.end in let l = q.end in omega arith);
}

pub both : {old mid new : List ℕ} {from at to m n : ℕ} {a b : List ℕ} → PutsAll old mid from at m a → PutsAll mid new at to n b →
    PutsAll old new from to (m + n) (a ++ b)
both p q =
    let all = then (loose p) (loose q) in
    record { text = all.text; same = all.same; end = (let k = p.end in let l = q.end in omega arith) }

-- a front and the rest of a text
pub followed : {old mid new : List ℕ} {from at to m n room : ℕ} {whole front rest : List ℕ} → whole ≡ front ++ rest →
    Puts old mid from at m front → PutsAll mid new at to n rest → m + n ≤ room → Puts old new from to room whole
followed e p q fits = within (then p (loose q)) fits (sym e)

-- the first bytes of a piece
pub front_of : {old new : List ℕ} {from to size : ℕ} {a : List ℕ} (len : ℕ) → PutsAll old new from to size a → len ≤ size →
    from + size ≤ length old → PutsAll old new from (from + len) len (take len a)
front_of {old = old} {new = new} {from = from} {size = size} {a = a} len p few room = record {
  text = part from len size old new a (omega arith) (ap (λ (n : ℕ). take n new) (sym p.end) ∙ p.text) few (let s = p.same in omega arith);
  same = p.same;
  end = refl;
}

-- a piece has as many bytes as the room took
pub sized : {old new : List ℕ} {from to m : ℕ} {a : List ℕ} → Puts old new from to m a → from + m ≤ length old → PutsAll old new from to (length a) a
sized {old = old} {new = new} {from = from} {to = to} {a = a} p room =
    let end = p.end in
    let same = p.same in
    let here = length-take-le from old (omega arith) in
    let there = length-take-le to new (omega arith) in
    let long = ap length p.text in
    let sum = length-append (take from old) a in
    record { text = p.text; same = p.same; end = (omega (arith, here, there, long, sum)) }

-- once, or never: so many times
pub once : {old new : List ℕ} {from to m : ℕ} {a : List ℕ} (times : ℕ) → times ≤ 1 → from + m ≤ length old → Puts old new from to m a →
    Puts old new from (from + (to - from) * times) m (cond (times == 1) a [])
once {old = old} {new = new} {from = from} {to = to} {m = m} {a = a} zero few room p =
    let all = sized p room in
    let end = p.end in
    let long = all.end in
    let none = within {n = m} (loose (front_of 0 all (omega arith) (omega (arith, long, end, room)))) (omega arith) refl in
    subst (λ (k : ℕ). Puts old new from k m []) (let k : from + 0 ≡ from + (to - from) * 0 = omega arith in k) none
once {old = old} {new = new} {from = from} {to = to} {m = m} {a = a} (suc zero) few room p =
    let long = (sized p room).end in
    subst (λ (k : ℕ). Puts old new from k m a) (let k : to ≡ from + (to - from) * 1 = omega (arith, long) in k) p
once (suc (suc n)) few room p = absurd (let k : suc (suc n) ≤ 1 = few in omega arith)
