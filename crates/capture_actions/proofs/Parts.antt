-- The lines of the kinds, one after the other, and the parts of the summary that has them.
use Rattle.std.proofs.Common.{◌≡◌, ℕ, zero, suc, ◌+◌, ◌-◌, ◌<◌, ◌≤◌, List, [], ◌∷◌, ◌++◌, length, get_or, set, take, sym, ◌∙◌, ap, subst, refl, arith, Option, None, Some, Bool, true, false, cond, inl, inr, append-nil, append_assoc, flat_map, lit<}
use Rattle.std.specs.Prelude.{is_none, option_map}
use Rattle.std.specs.Option.{is_some}
use Rattle.std.specs.List.{range_with_len}
use Rattle.std.proofs.lemmas.Bool.{cases_eq}
use Rattle.std.proofs.lemmas.Grind.{flat_map-append}
use Rattle.std.proofs.lemmas.List.{get_or-set_same, get_or-set_other}
use Rattle.source_counts.specs.declared.counts.Counts.{Counts}
use Rattle.source_events.specs.Plan.{kind_of}
use Rattle.source_events.specs.declared.tails.Tails.{Tails}
use Rattle.capture_actions.specs.Names.{Event, Packet, Plan, Placed, Stop, ID_COUNT, Pours, Debt, Paid, owing, with_debt}
use Rattle.capture_actions.specs.Names.{stop_of, fault_of, source_counts_of, port_counts_of, tails_of, port_counts_text}
use Rattle.capture_actions.specs.KindCheck.{last_by}
use Rattle.capture_actions.specs.KindCounts.{HasCounted, number_at}
use Rattle.capture_actions.specs.KindLines.{PutsPart, counted_line, line_of, owed, parts_by}
use Rattle.capture_actions.specs.Kinds.{kind_text, words_text, source_kinds_text, kinds_in, lines_by, all_lines, kinds_by, none}
use Rattle.capture_actions.specs.Listing.{ending_by}
use Rattle.capture_actions.specs.Summary.{source_text}
use Rattle.capture_actions.specs.Words.{all_words, number_of}
use Rattle.capture_actions.specs.declared.item_word.ItemWord.{ItemWord}
use Rattle.capture_actions.specs.declared.kind_counts.KindCounts.{KindCounts}
use Rattle.capture_actions.specs.declared.kind_lines.KindLines.{KindLines}
use Rattle.capture_actions.specs.declared.kind_lines.Part.{Part}
use Rattle.capture_actions.specs.declared.kind_lines.Part.TheVariants.{Nothing, Source, Last}
use Rattle.capture_actions.proofs.Tallies.{few_words}

-- the lines of the first words
pub words_none : (id : ℕ) (counts : ItemWord → ℕ) (words : List ItemWord) (before : List ℕ) →
    before ≡ before ++ words_text id counts (take 0 words)
unfolding words_text
words_none id counts words before = sym (append-nil before)

pub words_more : (id : ℕ) (counts : ItemWord → ℕ) (front more : List ItemWord) (word : ItemWord)
    (before old new : List ℕ) → more ≡ front ++ word ∷ [] → old ≡ before ++ words_text id counts front →
    new ≡ old ++ kind_text id word (counts word) → new ≡ before ++ words_text id counts more
unfolding words_text
words_more id counts front more word before old new e f g =
    let line : ItemWord → List ℕ = λ w. kind_text id w (counts w) in
    g ∙ ap (λ (l : List ℕ). l ++ line word) f ∙ append_assoc before (flat_map line front) (line word)
    ∙ ap (λ (l : List ℕ). before ++ l)
    (sym (ap (flat_map line) e ∙ flat_map-append line front (word ∷ [])
    ∙ ap (λ (l : List ℕ). flat_map line front ++ l) (append-nil (line word))))

-- the same counts have the same lines
words_same : (id : ℕ) (f g : ItemWord → ℕ) → ((word : ItemWord) → f word ≡ g word) → (words : List ItemWord) →
    words_text id f words ≡ words_text id g words
unfolding words_text
words_same id f g h [] = refl
words_same id f g h (word ∷ words) =
    ap (λ (n : ℕ). kind_text id word n ++ words_text id f words) (h word)
    ∙ ap (λ (l : List ℕ). kind_text id word (g word) ++ l) (words_same id f g h words)

lines_same : (f g : ℕ → List ℕ) (first count : ℕ) → ((x : ℕ) → x < first + count → f x ≡ g x) →
    lines_by f first count ≡ lines_by g first count
unfolding lines_by
lines_same f g first zero h = refl
lines_same f g first (suc count) h =
    ap (λ (l : List ℕ). l ++ lines_by f (first + 1) count) (h first (omega arith))
    ∙ ap (λ (l : List ℕ). g first ++ l) (lines_same f g (first + 1) count (λ x k. h x (omega arith)))

-- counts that are kept for one more source
pub counts_more : (counts : List Counts) (n : ℕ) (new : Counts) (of : ℕ → Counts) → n < length counts →
    ((x : ℕ) → x < n → get_or counts x none ≡ of x) → new ≡ of n →
    (x : ℕ) → x < n + 1 → get_or (set counts n new) x none ≡ of x
counts_more counts n new of within h e x few = elim (cases_eq x n) [
  | inl p ↦ ap (λ (i : ℕ). get_or (set counts n new) i none) p ∙ get_or-set_same counts n new none within ∙ e
      ∙ ap of (sym p)
  | inr p ↦ get_or-set_other counts n x new none p ∙ h x (omega arith)
]

-- the lines of the sources, from what is kept of each
module _ (plan : Plan) (kinds : KindCounts) (es : List (Event Packet)) (counted : HasCounted kinds es) where
  abbrev kept : ℕ → ItemWord → ℕ
  kept x word = number_at kinds x (number_of word)

  kinds_same : (x : ℕ) → x < ID_COUNT → (mapped : Bool) →
      ◌≡◌ {A = List ℕ} (cond mapped (words_text x (kept x) all_words) []) (cond mapped (words_text x (kinds_in es x) all_words) [])
  kinds_same x few false = refl
  kinds_same x few true =
      words_same x (kept x) (kinds_in es x) (λ word. counted x (number_of word) few (few_words word)) all_words

  pub lines_are : (counts : List Counts) (of : ℕ → Counts) → ((x : ℕ) → x < ID_COUNT → get_or counts x none ≡ of x) →
      lines_by (counted_line plan kinds counts) 0 ID_COUNT ≡ all_lines plan of es
  lines_are counts of h =
      lines_same (counted_line plan kinds counts) (λ x. source_kinds_text plan x (of x) (kinds_in es x)) 0 ID_COUNT
      (λ x few.
      let within : x < ID_COUNT = omega arith in
      ap (λ (c : Counts). source_kinds_text plan x c (kept x)) (h x within)
      ∙ ap (λ (l : List ℕ). source_text x (of x) ++ l) (kinds_same x within (is_some (kind_of plan x))))

  last_is : (u : List Placed) (stop : Option Stop) (tails : Option Tails) →
      (is_none stop ≡ true → tails ≡ Some (tails_of plan u)) →
      last_by plan stop tails ≡ ending_by plan u (option_map stop_of stop)
  last_is u None tails ends = ap (last_by plan None) (ends refl)
  last_is u (Some stop) tails ends = refl

  -- at the end of a capture, or at a fault
  pub ended : (u : List Placed) (counts : List Counts) (tails : Option Tails) (stop : Option Stop) (out : List ℕ) →
      option_map stop_of stop ≡ fault_of plan u →
      ((x : ℕ) → x < ID_COUNT → get_or counts x none ≡ source_counts_of plan u x) →
      (is_none stop ≡ true → tails ≡ Some (tails_of plan u)) →
      (let port = port_counts_of plan u in out ≡ port_counts_text port.fulls port.halves port.frames) →
      out ++ (lines_by (counted_line plan kinds counts) 0 ID_COUNT ++ last_by plan stop tails)
      ≡ kinds_by plan u es (fault_of plan u)
  ended u counts tails stop out stopped same ends port =
      let head : List ℕ = (let p = port_counts_of plan u in port_counts_text p.fulls p.halves p.frames) in
      ap (λ (l : List ℕ). l ++ (lines_by (counted_line plan kinds counts) 0 ID_COUNT ++ last_by plan stop tails)) port
      ∙ ap (λ (l : List ℕ). head ++ (l ++ last_by plan stop tails)) (lines_are counts (source_counts_of plan u) same)
      ∙ ap (λ (l : List ℕ). head ++ (all_lines plan (source_counts_of plan u) es ++ l)) (last_is u stop tails ends)
      ∙ ap (kinds_by plan u es) stopped

-- the parts, one after the other
module _ (line : ℕ → List ℕ) (last : List ℕ) where
  -- the first of this many and one more
  abbrev part : ℕ → List ℕ
  part zero = last
  part (suc count) = line (ID_COUNT - suc count)

  parts_more : (count : ℕ) → suc count ≤ ID_COUNT →
      parts_by line last (suc (suc count)) ≡ line (ID_COUNT - suc count) ++ parts_by line last (suc count)
  unfolding lines_by
  parts_more count few =
      let next : ID_COUNT - suc count + 1 ≡ ID_COUNT - count = omega arith in
      ap (λ (n : ℕ). line (ID_COUNT - suc count) ++ flat_map line (range_with_len n count) ++ last) next
      ∙ append_assoc (line (ID_COUNT - suc count)) (lines_by line (ID_COUNT - count) count) last

  only_last : parts_by line last 1 ≡ last
  unfolding lines_by
  only_last = refl

  abbrev debt : ℕ → Debt
  debt count = owing (parts_by line last count) count

  pours : (count : ℕ) → count ≤ ID_COUNT → (before : List ℕ) →
      Pours (debt (suc count)) (debt count) before (before ++ part count) true
  pours zero few before = record {
    put = ap (λ (l : List ℕ). before ++ l) (sym only_last);
    fewer = λ h. lit< tt;
    none = λ h. cc;
  }
  pours (suc count) few before = record {
    put = append_assoc before (line (ID_COUNT - suc count)) (parts_by line last (suc count))
        ∙ ap (λ (l : List ℕ). before ++ l) (sym (parts_more count few));
    fewer = λ h. omega arith;
    none = λ h. cc;
  }

  -- the last of all
  pub pours_last : (old new : ℕ) (before after : List ℕ) → new ≡ old - 1 → 0 < old → new ≡ 0 →
      after ≡ before ++ last → Pours (debt old) (debt new) before after true
  pours_last old new before after e some h put =
      let k : old ≡ 1 = omega arith in
      subst (λ (n : ℕ). Pours (debt n) (debt new) before after true) (sym k)
      (subst (λ (n : ℕ). Pours (debt 1) (debt n) before after true) (sym h)
      (subst (λ (l : List ℕ). Pours (debt 1) (debt 0) before l true) (sym put) (pours 0 (omega arith) before)))

  -- one of the others
  pub pours_line : (new : ℕ) (before after : List ℕ) (old : ℕ) → new ≡ old - 1 → old ≤ ID_COUNT + 1 → 0 < new →
      after ≡ before ++ line (ID_COUNT - new) → Pours (debt old) (debt new) before after true
  pours_line zero before after old e few some put = absurd (omega arith)
  pours_line (suc count) before after old e few some put =
      let k : old ≡ suc (suc count) = omega arith in
      subst (λ (n : ℕ). Pours (debt n) (debt (suc count)) before after true) (sym k)
      (subst (λ (l : List ℕ). Pours (debt (suc (suc count))) (debt (suc count)) before l true) (sym put)
      (pours (suc count) (omega arith) before))

-- what a call of `KindLines::pour` puts
pub puts_nothing : (line : ℕ → List ℕ) (left : ℕ) → left ≡ 0 → (before : List ℕ) →
    PutsPart Nothing (λ last. debt line last left) (λ last. debt line last left) before before
puts_nothing line left h before = record {
  nothing = λ e last.
      subst (λ (n : ℕ). Pours (debt line last n) (debt line last n) before before false) (sym h)
      (record { put = refl; fewer = λ k. cc; none = λ k. (refl, refl) });
  source = λ e. cc;
  last = λ e. cc;
}

pub puts_last : (line : ℕ → List ℕ) (old new : ℕ) (before : List ℕ) → new ≡ old - 1 → 0 < old → new ≡ 0 →
    PutsPart Last (λ last. debt line last old) (λ last. debt line last new) before before
puts_last line old new before e some h = record {
  nothing = λ k. cc;
  source = λ k. cc;
  last = λ k. (refl, λ last. pours_last line last old new before (before ++ last) e some h refl);
}

pub puts_source : (line : ℕ → List ℕ) (old new : ℕ) (before after : List ℕ) → new ≡ old - 1 → old ≤ ID_COUNT + 1 → 0 < new →
    after ≡ before ++ line (ID_COUNT - new) →
    PutsPart Source (λ last. debt line last old) (λ last. debt line last new) before after
puts_source line old new before after e few some put = record {
  nothing = λ k. cc;
  source = λ k last. pours_line line last new before after old e few some put;
  last = λ k. cc;
}

-- by an equal plan
pub puts_by : (p q : Plan) (part : Part) (kinds : KindCounts) (old new : KindLines) (before after : List ℕ) → p ≡ q →
    PutsPart part (owed p kinds old) (owed p kinds new) before after →
    PutsPart part (owed q kinds old) (owed q kinds new) before after
puts_by p q part kinds old new before after e h =
    subst (λ (r : Plan). PutsPart part (owed r kinds old) (owed r kinds new) before after) e h

-- where nothing is owed nothing is, whatever else the parts are then
paid_by : (old new : ℕ → List ℕ) (left : ℕ) (out : List ℕ) → owing (old left) left ≡ Paid →
    with_debt out (owing (new left) left) ≡ out ++ []
paid_by old new zero out paid = sym (append-nil out)
paid_by old new (suc left) out paid = cc

pub still_paid : (old new : Plan) (was now : KindCounts) (lines : KindLines) (before after out : List ℕ) →
    owed old was lines before ≡ Paid → with_debt out (owed new now lines after) ≡ out ++ []
still_paid old new was now lines before after out paid =
    paid_by (parts_by (line_of old was lines) before) (parts_by (line_of new now lines) after) lines.left out paid
