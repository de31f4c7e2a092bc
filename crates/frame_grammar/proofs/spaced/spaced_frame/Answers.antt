use Rattle.std.proofs.Common.{drop, arith, sym, refl}
use Rattle.frame_grammar.proofs.Gathering.{gathers_whole}
use Rattle.frame_grammar.proofs.Spacing.{spaced_from, spaced_begins, spaced_gathers, spaced_placed, spaced_bytes, spaced_places}
use Rattle.frame_grammar.proofs.Nearness.{begins_piece}
use Rattle.frame_grammar.proofs.spaced.spaced_frame.Goals as goal

pub returns-clause-front : goal.returns-clause-front
returns-clause-front c =
    let p = c.args.piece.now in
    let long = c.if-piece-lt-SPACED_BYTES.false in
    let s = spaced_from p (omega arith) (λ k l. c.if-not-is_spaced.ensures.words refl k l) (λ k l. c.if-not-is_spaced.ensures.gaps refl k l) in
    begins_piece c.args.at p (spaced_bytes 7 0 p) (spaced_places 7 0) 7 (omega arith)
    (gathers_whole p (record { halves = 7; frame = spaced_bytes 7 0 p; rest = drop 30 p }) (spaced_begins p s) (spaced_gathers 7 0 p s)).1
    (sym (spaced_placed 7 0 c.args.at c.args.at p s (omega arith))) refl
