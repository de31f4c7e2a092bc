use Rattle.std.proofs.Common.{◌≡◌, ◌≤◌, ℕ, ◌+◌, ◌*◌, List, length, take, arith, sym, ◌∙◌, ap, subst, Option, None, Some}
use Rattle.std.specs.Prelude.{IfSome}
use Rattle.std.proofs.lemmas.List.{take-take, length-take-le}
use Rattle.frame_grammar.specs.Names.{placed_from}
use Rattle.frame_grammar.specs.Placing.{BeginsPiece, places_of}
use Rattle.frame_grammar.specs.Reading.{offsets_of}
use Rattle.frame_grammar.specs.Whole.{IsWhole, without_halves}
use Rattle.frame_grammar.specs.declared.gather.PlacedFrame.{PlacedFrame}
use Rattle.frame_grammar.proofs.gather.gather_frame_at.Goals as goal

-- what the first bytes of a piece begin with, the piece begins with
longer : (at m : ℕ) (piece frame behind : List ℕ) (halves : ℕ) → m ≤ length piece →
    BeginsPiece at (take m piece) frame behind halves → BeginsPiece at piece frame behind halves
longer at m piece frame behind halves within b =
    let long = length-take-le m piece within in
    let room = b.room in
    let front : take (16 + 2 * halves) (take m piece) ≡ take (16 + 2 * halves) piece = take-take (16 + 2 * halves) m piece (omega (arith, room, long)) in
    record {
      room = omega (arith, room, long);
      whole = subst (λ (l : List ℕ). IsWhole l frame halves) front b.whole;
      offsets = b.offsets ∙ ap (λ (l : List ℕ). offsets_of (without_halves (placed_from at l))) front;
      near = b.near;
    }

-- so it is with a frame that was found in them
found : (at m : ℕ) (piece : List ℕ) → m ≤ length piece → (r : Option PlacedFrame) → IfSome r (λ g. g.at ≡ at) →
    IfSome r (λ g. BeginsPiece at (take m piece) g.bytes g.behind g.halves) → (R : PlacedFrame → Type 0) →
    ((g : PlacedFrame) → g.at ≡ at → BeginsPiece at piece g.bytes g.behind g.halves → R g) → IfSome r R
found at m piece within None a b R f = tt
found at m piece within (Some g) a b R f = f g a (longer at m piece g.bytes g.behind g.halves within b)

pub returns : goal.returns
returns c =
    let p = c.args.piece.now in
    let m = c.min.result in
    let least = c.min.ensures in
    let near = c.gather_near.ensures in
    let within : m ≤ length p = omega arith in
    let each = found c.args.at m p within c.gather_near.result near.at near.front in
    record {
      at = near.at;
      room = each _ (λ g a b. b.room);
      whole = each _ (λ g a b. b.whole);
      offsets = each _ (λ g a b. ap (λ (n : ℕ). places_of n g.behind) a ∙ b.offsets);
      near = each _ (λ g a b. b.near);
      only = λ e n halves frame few l whole.
          let inside : n ≤ m = omega arith in
          let long : length (take m p) ≡ m = length-take-le m p within in
          near.only e n halves frame (omega arith)
          (subst (λ (l : List ℕ). IsWhole l frame halves) (sym (take-take n m p inside)) whole);
    }
