-- A writer whose last whole frame is held back.
use Rattle.std.proofs.Common.{◌≡◌, ℕ, zero, suc, ◌+◌, ◌-◌, ◌<◌, ◌≤◌, List, [], ◌∷◌, ◌++◌, refl, sym, ◌∙◌, ap, arith, true, false, Option, None, Some, append_assoc, append-nil, length, length-append}
use Rattle.std.specs.Prelude.{is_some}
use Rattle.std.specs.List.{concat}
use Rattle.std.proofs.lemmas.List.Folds.{concat-append}
use Rattle.std.proofs.lemmas.List.{nil_from_length}
use Rattle.frame_writer.specs.declared.pair.Pair.{Pair}
use Rattle.frame_writer.specs.declared.writer.FrameWriter.{FrameWriter}
use Rattle.frame_writer.specs.Written.{Tagged, none_later, segment_frames, written_segments, filled, frame_bytes, frames_from, known}
use Rattle.frame_writer.specs.Unfinished.{middle, continued, is_sound, HasOne}
use Rattle.frame_writer.specs.Writer.{to_come, appended, as_frame, Stands}
use Rattle.frame_writer.specs.Fronts.{all_but_last, sure, sure_after}
use Rattle.frame_writer.specs.Sure.{IsSure, Appends}
use Rattle.frame_writer.specs.declared.sure.SureWriter.{SureWriter}
use Rattle.frame_writer.proofs.Frames.{filled_fewer, filled_less, by_some, nothing, opens, held_room}
use Rattle.frame_writer.proofs.Standing.{as_bytes, stands_now}
use Rattle.frame_writer.proofs.Fronts.{last_off, sure_all, all_sure, none_last}

one_less : (k : ℕ) (c : Option ℕ) (x : Tagged) → 0 < k → length (filled k c (x ∷ [])).end.rest ≤ 0
one_less zero c x h = absurd (omega arith)
one_less (suc k) c x h = filled_less k c x []

module _ (every halves : ℕ) where
  frame_alone : (n : ℕ) (pairs : List Pair) (c : Option ℕ) (t : List Tagged) → length (filled (7 - length pairs) c t).end.rest ≤ 0 → HasOne (middle every halves none_later n pairs c t)
  frame_alone n pairs c t h =
      let f = filled (7 - length pairs) c t in
      let head = frame_bytes every halves n (pairs ++ f.pairs) f.end.even f.end.aux in
      (head, ap (λ (l : List Tagged). head ∷ frames_from every halves none_later (n + 1) f.end.id l) (nil_from_length f.end.rest (omega (arith, h))) ∙ ap (λ (l : List (List ℕ)). head ∷ l) (nothing every halves none_later (n + 1) f.end.id))

  none_alone : (n : ℕ) (pairs : List Pair) (c : Option ℕ) → HasOne (middle every halves none_later n pairs c [])
  none_alone n pairs c = frame_alone n pairs c [] (filled_fewer (7 - length pairs) c [])

  one_alone : (n : ℕ) (pairs : List Pair) (c : Option ℕ) (x : Tagged) → length pairs < 7 → HasOne (middle every halves none_later n pairs c (x ∷ []))
  one_alone n pairs c x h = frame_alone n pairs c (x ∷ []) (one_less (7 - length pairs) c x (omega arith))

  pub held_begun : (n : ℕ) (pairs : List Pair) (c held : Option ℕ) (h : ℕ) → is_sound every n pairs c held ≡ true → held ≡ Some h → HasOne (continued every halves none_later n pairs c held [])
  held_begun n pairs c None h s e = cc
  held_begun n pairs None (Some b) h s e = cc
  held_begun n [] (Some i) (Some b) h s e =
      let one = one_alone n [] (known every n (Some i)) (record { id = i; byte = b }) (omega arith) in
      (one.0, opens every halves none_later n (Some i) (record { id = i; byte = b }) [] ∙ one.1)
  held_begun n (p ∷ pairs) (Some i) (Some b) h s e = one_alone n (p ∷ pairs) (Some i) (record { id = i; byte = b }) (held_room every n (p ∷ pairs) (Some i) (Some b) b s refl)

  pub pairs_begun : (n : ℕ) (pairs : List Pair) (c : Option ℕ) → 0 < length pairs → HasOne (continued every halves none_later n pairs c None [])
  pairs_begun n [] c h = absurd (omega arith)
  pairs_begun n (p ∷ pairs) c h = none_alone n (p ∷ pairs) c

  pub none_begun : (n : ℕ) (c : Option ℕ) → continued every halves none_later n [] c None [] ≡ []
  none_begun n c = nothing every halves none_later n c

  -- a byte more is written in a frame
  frames_come : (n : ℕ) (c : Option ℕ) (x : Tagged) (t : List Tagged) → frames_from every halves none_later n c (x ∷ t) ≡ [] → ⊥
  frames_come n c x t e = let k = sym (by_some every halves none_later (length t) n c x t) ∙ e in cc

  pub comes : (n : ℕ) (pairs : List Pair) (c held : Option ℕ) (x : Tagged) (t : List Tagged) → continued every halves none_later n pairs c held (x ∷ t) ≡ [] → ⊥
  comes n (p ∷ pairs) c held x t e = cc
  comes n [] c None x t e = frames_come n c x t e
  comes n [] None (Some b) x t e = frames_come n None x t e
  comes n [] (Some i) (Some b) x t e = frames_come n (Some i) (record { id = i; byte = b }) (x ∷ t) e

module _ (w v : FrameWriter) (every halves : ℕ) (closed : List (List Tagged)) (t : List Tagged) (y : Tagged) (ys : List Tagged) (out ready so_far : List ℕ)
    (stands : Stands w every halves closed t so_far) (written : so_far ≡ sure_after every halves closed t ++ ready)
    (came : to_come w (y ∷ ys) [] ≡ as_frame out ++ to_come v [] []) where
  abbrev xs : List Tagged
  xs = y ∷ ys

  all : segment_frames every halves (closed ++ (t ++ xs) ∷ []) ≡ (stands.done ++ as_frame out) ++ to_come v [] []
  all = stands.completes xs [] ∙ ap (λ (l : List (List ℕ)). stands.done ++ l) came ∙ sym (append_assoc stands.done (as_frame out) (to_come v [] []))

  bytes : concat (stands.done ++ as_frame out) ≡ so_far ++ out
  bytes = concat-append stands.done (as_frame out) ∙ ap (λ (l : List ℕ). l ++ concat (as_frame out)) (sym stands.bytes) ∙ ap (λ (l : List ℕ). so_far ++ l) (sym (as_bytes out))

  is_sure : sure_after every halves closed (t ++ xs) ≡ concat (all_but_last ((stands.done ++ as_frame out) ++ to_come v [] []))
  is_sure = sure_all every halves closed (t ++ xs) (let k = length-append t xs in omega arith) ∙ ap (λ (l : List (List ℕ)). concat (all_but_last l)) all

  -- a frame is begun after those that are whole
  begun_so_far : HasOne (to_come v [] []) → so_far ++ out ≡ sure_after every halves closed (t ++ xs) ++ []
  begun_so_far one =
      sym (append-nil (sure_after every halves closed (t ++ xs)) ∙ is_sure
      ∙ ap (λ (l : List (List ℕ)). concat (all_but_last ((stands.done ++ as_frame out) ++ l))) one.1
      ∙ ap concat (last_off (stands.done ++ as_frame out) one.0 [] ∙ append-nil (stands.done ++ as_frame out)) ∙ bytes)

  begun_grown : HasOne (to_come v [] []) → sure_after every halves closed (t ++ xs) ≡ sure_after every halves closed t ++ (ready ++ out)
  begun_grown one =
      sym (append-nil (sure_after every halves closed (t ++ xs))) ∙ sym (begun_so_far one) ∙ ap (λ (l : List ℕ). l ++ out) written
      ∙ append_assoc (sure_after every halves closed t) ready out

  -- or the last is whole
  whole : (to_come w xs [] ≡ [] → ⊥) → (out' : List ℕ) → out' ≡ out → to_come v [] [] ≡ [] → concat (all_but_last ((stands.done ++ as_frame out') ++ [])) ≡ so_far
  whole some [] e none = absurd (some (came ∙ ap (λ (l : List ℕ). as_frame l ++ to_come v [] []) (sym e) ∙ none))
  whole some (b ∷ bs) e none =
      ap (λ (l : List (List ℕ)). concat (all_but_last l)) (append-nil (stands.done ++ ((b ∷ bs) ∷ [])))
      ∙ ap concat (last_off stands.done (b ∷ bs) [] ∙ append-nil stands.done) ∙ sym stands.bytes

  whole_sure : (to_come w xs [] ≡ [] → ⊥) → to_come v [] [] ≡ [] → sure_after every halves closed (t ++ xs) ≡ so_far
  whole_sure some none =
      is_sure ∙ ap (λ (l : List (List ℕ)). concat (all_but_last ((stands.done ++ as_frame out) ++ l))) none ∙ whole some out refl none

  whole_grown : (to_come w xs [] ≡ [] → ⊥) → to_come v [] [] ≡ [] → sure_after every halves closed (t ++ xs) ≡ sure_after every halves closed t ++ ready
  whole_grown some none = whole_sure some none ∙ written

  whole_so_far : (to_come w xs [] ≡ [] → ⊥) → to_come v [] [] ≡ [] → so_far ++ out ≡ sure_after every halves closed (t ++ xs) ++ out
  whole_so_far some none = ap (λ (l : List ℕ). l ++ out) (sym (whole_sure some none))

-- what bytes that were put append
module _ (old new : SureWriter) (y : Tagged) (ys : List Tagged) (out before after : List ℕ)
    (puts : (every halves : ℕ) (closed : List (List Tagged)) (t : List Tagged) (so_far : List ℕ) → Stands old.writer every halves closed t so_far → Stands new.writer every halves closed (t ++ y ∷ ys) (so_far ++ out))
    (came : to_come old.writer (y ∷ ys) [] ≡ as_frame out ++ to_come new.writer [] []) where
  appends_by : (more : List ℕ) → after ≡ before ++ more → ((every halves : ℕ) (closed : List (List Tagged)) (t : List Tagged) (s : IsSure old every halves closed t) →
      (s.so_far ++ out ≡ sure_after every halves closed (t ++ y ∷ ys) ++ new.ready.items) × (sure_after every halves closed (t ++ y ∷ ys) ≡ sure_after every halves closed t ++ more)) →
      Appends old new (y ∷ ys) before after
  appends_by more a sure = record {
    more = more;
    appended = a;
    list = λ every halves closed t s. record { so_far = s.so_far ++ out; stands = puts every halves closed t s.so_far s.stands; written = (sure every halves closed t s).0 };
    grown = λ every halves closed t s. (sure every halves closed t s).1;
  }

  pub appends_begun : after ≡ before ++ (old.ready.items ++ out) → HasOne (to_come new.writer [] []) → new.ready.items ≡ [] → Appends old new (y ∷ ys) before after
  appends_begun a one none = appends_by (old.ready.items ++ out) a (λ every halves closed t s. (
    begun_so_far old.writer new.writer every halves closed t y ys out old.ready.items s.so_far s.stands s.written came one ∙ ap (λ (l : List ℕ). sure_after every halves closed (t ++ y ∷ ys) ++ l) (sym none),
    begun_grown old.writer new.writer every halves closed t y ys out old.ready.items s.so_far s.stands s.written came one,
  ))

  pub appends_whole : after ≡ before ++ old.ready.items → to_come new.writer [] [] ≡ [] → new.ready.items ≡ out → Appends old new (y ∷ ys) before after
  appends_whole a none held = appends_by old.ready.items a (λ every halves closed t s. (
    whole_so_far old.writer new.writer every halves closed t y ys out old.ready.items s.so_far s.stands s.written came some none ∙ ap (λ (l : List ℕ). sure_after every halves closed (t ++ y ∷ ys) ++ l) (sym held),
    whole_grown old.writer new.writer every halves closed t y ys out old.ready.items s.so_far s.stands s.written came some none,
  )) where
    some : to_come old.writer (y ∷ ys) [] ≡ [] → ⊥
    some e = comes old.writer.every old.writer.halves old.writer.frames old.writer.pairs.items old.writer.id old.writer.held y ys e

-- all is sure after the end of a segment
module _ (v : FrameWriter) (every halves : ℕ) (closed : List (List Tagged)) (t : List Tagged) (out ready so_far : List ℕ)
    (stands : Stands v every halves (closed ++ t ∷ []) [] (so_far ++ out)) (written : so_far ≡ sure_after every halves closed t ++ ready) (none : to_come v [] [] ≡ []) where
  pub ended_all : written_segments every halves (closed ++ t ∷ []) ≡ so_far ++ out
  ended_all =
      sym (none_last every halves (closed ++ t ∷ [])) ∙ stands_now v every halves (closed ++ t ∷ []) [] (so_far ++ out) stands
      ∙ ap (λ (l : List (List ℕ)). (so_far ++ out) ++ concat l) none ∙ append-nil (so_far ++ out)

  pub ended_so_far : so_far ++ out ≡ sure_after every halves (closed ++ t ∷ []) [] ++ []
  ended_so_far = sym (append-nil (sure_after every halves (closed ++ t ∷ []) []) ∙ all_sure every halves (closed ++ t ∷ []) ∙ ended_all)

  pub ended_more : written_segments every halves (closed ++ t ∷ []) ≡ sure_after every halves closed t ++ (ready ++ out)
  ended_more = ended_all ∙ ap (λ (l : List ℕ). l ++ out) written ∙ append_assoc (sure_after every halves closed t) ready out

pub none_held : (held : Option ℕ) → is_some held ≡ false → held ≡ None
none_held None h = refl
none_held (Some b) h = cc

pub some_begun : (every halves n : ℕ) (pairs : List Pair) (c held : Option ℕ) → is_sound every n pairs c held ≡ true → is_some held ≡ true → HasOne (continued every halves none_later n pairs c held [])
some_begun every halves n pairs c None s h = cc
some_begun every halves n pairs c (Some b) s h = held_begun every halves n pairs c (Some b) b s refl

pub no_pairs : (every halves n : ℕ) (pairs : List Pair) (c : Option ℕ) → length pairs ≡ 0 → continued every halves none_later n pairs c None [] ≡ []
no_pairs every halves n [] c h = none_begun every halves n c
no_pairs every halves n (p ∷ pairs) c h = absurd (omega arith)

pub nothing_sure : (every halves : ℕ) (ready : List ℕ) → ready ≡ [] → [] ≡ sure every halves [] ++ ready
nothing_sure every halves ready e =
    sym (ap (λ (l : List (List ℕ)). concat (all_but_last l) ++ ready) (nothing every halves none_later 0 None) ∙ e)

pub stands_copied : (w v : FrameWriter) (every halves : ℕ) (closed : List (List Tagged)) (t : List Tagged) (so_far : List ℕ) →
    ((u : List Tagged) (later : List (List Tagged)) → to_come v u later ≡ to_come w u later) → appended v ≡ appended w →
    Stands w every halves closed t so_far → Stands v every halves closed t so_far
stands_copied w v every halves closed t so_far e n s = record {
  done = s.done;
  bytes = s.bytes;
  count = n ∙ s.count;
  completes = λ u later. (s.completes u later ∙ ap (λ (l : List (List ℕ)). s.done ++ l) (sym (e u later)));
}

pub pushed_some : (pairs pairs' : List Pair) (p : Pair) → pairs' ≡ pairs ++ p ∷ [] → 0 < length pairs'
pushed_some [] pairs' p e = (let k = ap length e in omega arith)
pushed_some (q ∷ pairs) pairs' p e = (let k = ap length e in omega arith)
