use Rattle.std.proofs.Common.{◌≡◌, ◌<◌, [], length, replicate, sym, refl, ◌∙◌, ap, arith}
use Rattle.std.proofs.lemmas.List.{length-replicate}
use Rattle.std.proofs.Math.Nat.{mod-eq_of_lt}
use Rattle.buffer_ring.specs.Image.{image}
use Rattle.buffer_ring.proofs.Images.{image_none}
use Rattle.buffer_ring.proofs.buffer.TraceBuffer.new.Goals as goal

pub returns-clause-fresh : goal.returns-clause-fresh
returns-clause-fresh c =
    let b = c.in_ok-bytes.bytes in
    let all : b.items ≡ replicate c.args.size 0 = c.in_ok-bytes.ensures.items_if_clones_equal (λ y h. h) in
    let len : length b.items ≡ c.args.size = ap length all ∙ length-replicate c.args.size 0 in
    let some : 0 < length b.items = (let r = c.requires.least in omega (arith, r, len)) in
    record { count = refl; bytes = all ∙ image_none c.args.size ∙ ap (λ n. image n []) (sym len); at = sym (mod-eq_of_lt some) }
