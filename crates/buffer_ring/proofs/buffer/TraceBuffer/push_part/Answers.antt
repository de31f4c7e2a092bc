use Rattle.std.proofs.Common.{◌≡◌, ◌≤◌, ◌<◌, ◌+◌, ◌%◌, length, ◌++◌, List, ℕ, sym, ◌∙◌, ap, arith, refl, length-append}
use borrow.Rule.Slice.PartMut.{put_mid}
use Rattle.buffer_ring.specs.Image.{image}
use Rattle.buffer_ring.proofs.Images.{image_part}
use Rattle.buffer_ring.proofs.Parts.{written, same_size, next_place}
use Rattle.buffer_ring.proofs.buffer.TraceBuffer.push_part.Goals as goal

pub invariant_of-self : goal.invariant_of-self
invariant_of-self c =
    let w = c.args.self.now in
    let all = c.deref_mut.ensures.value in
    let is = c.copy_from_slice.ensures.after in
    let len = c.deref_mut.ensures.len in
    let fits = c.requires.fits in
    let size = same_size w c.args.part.now c.deref_mut.result.now c.copy_from_slice.new.self all is len fits in
    let next = next_place w c.args.part.now c.deref_mut.result.now c.copy_from_slice.new.self all is len fits _ _ c.len.ensures c.place_at-self.ensures in
    let room = c.requires.room in
    let least = w.least in
    let most = w.most in
    record {
      least = omega (arith, size, least);
      most = omega (arith, size, most);
      few = room;
      next = next ∙ ap (λ m. (w.pushed + length c.args.part.now) % m) (sym size);
    }

pub returns : goal.returns
returns c =
    let w = c.args.self.now in
    let n = length w.bytes.items in
    let part = c.args.part.now in
    let all = c.deref_mut.ensures.value in
    let is = c.copy_from_slice.ensures.after in
    let len = c.deref_mut.ensures.len in
    let fits = c.requires.fits in
    let wrote = written w part c.deref_mut.result.now c.copy_from_slice.new.self all is len fits in
    let size = same_size w part c.deref_mut.result.now c.copy_from_slice.new.self all is len fits in
    let next = next_place w part c.deref_mut.result.now c.copy_from_slice.new.self all is len fits _ _ c.len.ensures c.place_at-self.ensures in
    let least = w.least in
    let some : 0 < n = omega (arith, least) in
    record {
      list = λ u s. (
          let count : w.pushed ≡ length u = s.count in
          let more = length-append u part in
          let room : length u % n + length part ≤ n = (let at = s.at in omega (arith, at, fits)) in
          record {
            count = omega (arith, count, more);
            bytes =
                wrote ∙ ap (λ m. put_mid m (length part) w.bytes.items part) s.at
                ∙ ap (λ (l : List ℕ). put_mid (length u % n) (length part) l part) s.bytes
                ∙ sym (image_part n u part some room) ∙ ap (λ m. image m (u ++ part)) (sym size);
            at =
                next ∙ ap (λ m. (m + length part) % n) count ∙ ap (λ m. m % n) (sym more)
                ∙ ap (λ m. length (u ++ part) % m) (sym size);
          });
      size = size;
      count = refl;
    }
