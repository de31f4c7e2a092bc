-- What is read of a capture: all bytes up to the one with which a fault is certain.
use Rattle.std.proofs.Common.{◌≡◌, ℕ, List, [], ◌∷◌, ◌++◌, length, refl, sym, ◌∙◌, ap, subst, arith, Bool, true, false, cond, append-nil, append_assoc, length-append}
use Rattle.std.specs.Prelude.{is_none}
use Rattle.capture_actions.specs.Names.{FaultAfter, Plan, fault_of, placed}
use Rattle.capture_actions.specs.Faulty.{IsFaulty, front_from, read_of}
use Rattle.capture_actions.specs.FaultyLaws.{faulty_stays}

-- each front is sound
front_whole : (is_sound : List ℕ → Bool) (front bytes : List ℕ) →
    ((w : List ℕ) (x : ℕ) (v : List ℕ) → bytes ≡ w ++ (x ∷ v) → is_sound (front ++ w) ≡ true) →
    front_from is_sound front bytes ≡ front ++ bytes
front_whole is_sound front [] h = sym (append-nil front)
front_whole is_sound front (x ∷ bytes) h =
    ap (λ (t : Bool). cond t (front_from is_sound (front ++ x ∷ []) bytes) front)
    (ap is_sound (sym (append-nil front)) ∙ h [] x bytes refl)
    ∙ front_whole is_sound (front ++ x ∷ []) bytes
    (λ w y v e. ap is_sound (append_assoc front (x ∷ []) w) ∙ h (x ∷ w) y v (ap (λ (l : List ℕ). x ∷ l) e))
    ∙ append_assoc front (x ∷ []) bytes

sound_front : (plan : Plan) (w v : List ℕ) → (IsFaulty plan (w ++ v) → ⊥) → is_none (fault_of plan (placed w)) ≡ true
sound_front plan w v h = by (is_none (fault_of plan (placed w))) refl where
  by : (b : Bool) → is_none (fault_of plan (placed w)) ≡ b → is_none (fault_of plan (placed w)) ≡ true
  by true e = e
  by false e = absurd (h (faulty_stays plan w v e))

-- what ends before the last of some bytes is a front of those before it
before_last : (w : List ℕ) (x : ℕ) (v front : List ℕ) (last : ℕ) → w ++ (x ∷ v) ≡ front ++ last ∷ [] →
    (more : List ℕ) × (front ≡ w ++ more)
before_last [] x v front last e = (front, refl)
before_last (a ∷ w) x v [] last e =
    absurd (let l = ap length e in let m = length-append w (x ∷ v) in omega arith)
before_last (a ∷ w) x v (b ∷ front) last e =
    let head : b ≡ a = (let k = e in cc) in
    let rest = before_last w x v front last (let k = e in cc) in
    (rest.0, ap (λ (n : ℕ). n ∷ front) head ∙ ap (λ (l : List ℕ). a ∷ l) rest.1)

pub read_whole : (plan : Plan) (seen : List ℕ) (is_faulty : Bool) → FaultAfter (IsFaulty plan) seen is_faulty →
    read_of plan seen ≡ seen
read_whole plan seen false h =
    front_whole (λ front. is_none (fault_of plan (placed front))) [] seen
    (λ w x v e. sound_front plan w (x ∷ v) (subst (λ (l : List ℕ). IsFaulty plan l → ⊥) e h))
read_whole plan seen true h =
    front_whole (λ front. is_none (fault_of plan (placed front))) [] seen
    (λ w x v e.
    let b = before_last w x v h.front h.last (sym e ∙ h.all) in
    sound_front plan w b.0 (subst (λ (l : List ℕ). IsFaulty plan l → ⊥) b.1 h.sound))
