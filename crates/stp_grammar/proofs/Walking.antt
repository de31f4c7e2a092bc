-- The walk of the rule over a list of nibbles.
use Rattle.std.proofs.Common.{◌≡◌, ℕ, List, [], ◌∷◌, refl, ap}
use Rattle.stp_grammar.specs.Names.{Next, End, Walked, Whole, after, walk}
use Rattle.stp_grammar.specs.declared.packet.Order.{Order}
use Rattle.stp_grammar.specs.declared.packet.StpPacket.{StpPacket}
use Rattle.stp_grammar.specs.declared.partial.Partial.{Partial}
use Rattle.stp_grammar.specs.Rule.{rule}

pub end_whole : (v w : StpPacket) (k : Partial → Walked Partial StpPacket) (r : List ℕ) → after (End v) k r ≡ Whole w → (v ≡ w) × (r ≡ [])
end_whole v w k [] e = (cc, refl)
end_whole v w k (b ∷ r) e = cc

module _ (order : Order) where
  abbrev pub from : Partial → List ℕ → Walked Partial StpPacket
  from s r = walk (rule order) s r

  -- what the rule says of the first nibble, put in
  pub says : (x y : Next Partial StpPacket) (r : List ℕ) → x ≡ y → after x (λ t. from t r) r ≡ after y (λ t. from t r) r
  says x y r e = ap (λ (n : Next Partial StpPacket). after n (λ t. from t r) r) e
