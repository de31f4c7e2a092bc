use Rattle.std.proofs.Common.{◌≡◌, true, sym, subst, arith, ◌+◌, ◌*◌, ◌^◌, ◌<◌}
use Rattle.itm_grammar.specs.Rule.{digit, base_of, another_follows, is_sound_payload, FitsLast}
use Rattle.itm_grammar.proofs.Fitting.{fits_last, sound_next, sound_whole}
use Rattle.itm_grammar.proofs.partial.payload_with.Goals as goal

pub last-requires : goal.last-requires
last-requires c =
    let a = c.args in
    let b : a.byte < 256 = omega arith in
    subst (FitsLast a.class) (sym c.value_with-value.ensures) (fits_last a.class a.count a.value a.byte b c.requires.proper c.requires.sound)

pub returns-then-another_follows-clause-sound : goal.returns-then-another_follows-clause-sound
returns-then-another_follows-clause-sound c =
    let a = c.args in
    let b : a.byte < 256 = omega arith in
    let v = a.value + digit a.class a.count a.byte * base_of a.class ^ a.count in
    let g : another_follows a.class a.count a.byte ≡ true = cc in
    sound_whole a.class (a.count + 1) c.value_with-value.result c.requires.proper
    (subst (λ w. is_sound_payload a.class (a.count + 1) w ≡ true) (sym c.value_with-value.ensures) (sound_next a.class a.count a.value a.byte b c.requires.sound g))
