-- But for a run of bytes 00, the bytes of an unfinished packet are few.
use Rattle.std.proofs.Common.{◌≡◌, ℕ, ◌+◌, ◌≤◌, ◌⊎◌, inl, inr, List, [], ◌∷◌, length, All, true, false, sym, ◌∙◌, ap, arith}
use Rattle.std.proofs.lemmas.List.Elements.{All-nil, All-cons}
use Rattle.itm_grammar.specs.Names.{Go, End, Fail, Within, after, walk, BadItmSync}
use Rattle.itm_grammar.specs.declared.packet.Size.TheVariants.{One, Two, Four}
use Rattle.itm_grammar.specs.declared.packet.ItmPacket.TheVariants.{Sync}
use Rattle.itm_grammar.specs.declared.header.Class.{Class}
use Rattle.itm_grammar.specs.declared.header.Class.TheVariants.{Zero, Overflow as Overflowed, Source, LocalShort, LocalLong, GlobalFirst as First, GlobalSecond as Second, Extension as Extended, Reserved}
use Rattle.itm_grammar.specs.declared.partial.Partial.{Partial}
use Rattle.itm_grammar.specs.declared.partial.Partial.TheVariants.{Header, Zeros, Payload}
use Rattle.itm_grammar.specs.Header.{class_of}
use Rattle.itm_grammar.specs.Rule.{rule, begin, most_bytes}
use Rattle.itm_grammar.proofs.Headers.{header_is}
use Rattle.itm_grammar.proofs.Payloads.{from, says}
use Rattle.itm_grammar.proofs.Deciding.{Belongs, behind_header, zeros_with, zeros_cases}

at_most_six : (c : Class) → most_bytes c ≤ 6
at_most_six Zero = omega arith
at_most_six Overflowed = omega arith
at_most_six (Source hardware number One) = omega arith
at_most_six (Source hardware number Two) = omega arith
at_most_six (Source hardware number Four) = omega arith
at_most_six (LocalShort delta) = omega arith
at_most_six (LocalLong lateness) = omega arith
at_most_six First = omega arith
at_most_six Second = omega arith
at_most_six (Extended true dwt low) = omega arith
at_most_six (Extended false dwt low) = omega arith
at_most_six Reserved = omega arith

-- after a byte 00, all bytes of an unfinished packet are 00
zeros_alone : (n : ℕ) (r : List ℕ) (s : Partial) → from (Zeros n) r ≡ Within s → All (λ b. b ≡ 0) r
zeros_alone n [] s e = All-nil (λ b. b ≡ 0)
zeros_alone n (b ∷ r) s e = elim (zeros_cases n b) [
  | inl m ↦ All-cons (λ b. b ≡ 0) b r m.0 (zeros_alone (n + 1) r s (sym (says (zeros_with n b) (Go (Zeros (n + 1))) r m.1) ∙ e))
  | inr m ↦ elim m [
    | inl o ↦ absurd (stopped r (sym (says (zeros_with n b) (End Sync) r o.2) ∙ e))
    | inr o ↦ (let k = sym (says (zeros_with n b) (Fail BadItmSync) r o) ∙ e in cc)
  ]
] where
  stopped : (r : List ℕ) → after (End Sync) (λ t. from t r) r ≡ Within s → ⊥
  stopped [] k = cc
  stopped (c ∷ r) k = cc

few : (h : ℕ) (p : List ℕ) (s : Partial) → walk rule Header (h ∷ p) ≡ Within s → Belongs (class_of h) (length p) s → (length (h ∷ p) ≤ 6) ⊎ All (λ b. b ≡ 0) (h ∷ p)
few h p Header e b = absurd b
few h p (Zeros count) e b =
    inr (All-cons (λ b. b ≡ 0) h p (header_is h Zero b (λ k. cc)).0 (zeros_alone 1 p (Zeros count) (sym (ap (λ (c : Class). after (begin c) (λ t. from t p) p) b) ∙ e)))
few h p (Payload d count value) e b = inl (let k = at_most_six d in let l = b.1 in let m = b.2 in omega arith)

pub holds_few : (s : Partial) (r : List ℕ) → walk rule Header r ≡ Within s → (length r ≤ 6) ⊎ All (λ b. b ≡ 0) r
holds_few s [] e = inl (omega arith)
holds_few s (h ∷ p) e = few h p s e (behind_header h p s e)
