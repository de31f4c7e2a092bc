use Rattle.std.proofs.Common.{◌≡◌, ℕ, List, bit_and, sym, ◌∙◌, ap, subst, arith}
use Rattle.itm_codec.specs.Names.{Within, walk, Partial, Header, rule, bytes_of}
use Rattle.itm_codec.specs.Reached.{reached}
use Rattle.itm_codec.proofs.Looking.{held, small}
use Rattle.itm_codec.proofs.decoder.ItmDecoder.wait.Goals as goal

pub invariant_of-self-clause-fits : goal.invariant_of-self-clause-fits
invariant_of-self-clause-fits c = small c.args.word c.first_bits.result c.args.count (omega arith) c.first_bits.ensures

pub invariant_of-self-clause-within : goal.invariant_of-self-clause-within
invariant_of-self-clause-within c =
    let bytes : List ℕ = bytes_of c.args.count (bit_and c.args.word c.first_bits.result) in
    subst (λ (x : Partial). walk rule x bytes ≡ Within (reached x bytes)) (sym (c.args.self.now.begins c.requires.header))
    (subst (λ (l : List ℕ). walk rule Header l ≡ Within (reached Header l))
    (held c.args.word c.first_bits.result c.args.count (omega arith) c.first_bits.ensures) c.requires.front)

pub returns-clause-part : goal.returns-clause-part
returns-clause-part c =
    let bytes : List ℕ = bytes_of c.args.count (bit_and c.args.word c.first_bits.result) in
    ap (λ (x : Partial). reached x bytes) (c.args.self.now.begins c.requires.header)
    ∙ ap (reached Header) (sym (held c.args.word c.first_bits.result c.args.count (omega arith) c.first_bits.ensures))
