-- The counts of the items of a word, event by event.
use Rattle.std.proofs.Common.{◌≡◌, ◌≢◌, ℕ, ◌+◌, ◌*◌, ◌<◌, inl, inr, List, [], ◌∷◌, ◌++◌, length, get_or, set, sym, ◌∙◌, ap, refl, arith, Option, None, Some, Bool, true, false, cond, zero-add, add-zero, lit<}
use Rattle.std.specs.Prelude.{◌==◌, ◌&&◌, min}
use Rattle.std.specs.List.{sum_by}
use Rattle.std.proofs.lemmas.Bool.{cases_eq}
use Rattle.std.proofs.lemmas.Bool.Decides.{nat_tests}
use Rattle.std.proofs.lemmas.List.{get_or-set_same, get_or-set_other}
use Rattle.std.proofs.lemmas.List.Sums.{sum_by-append}
use Rattle.capture_actions.specs.Names.{Event, Packet, is_of, ID_COUNT}
use Rattle.capture_actions.specs.Words.{word_of, number_of}
use Rattle.capture_actions.specs.KindCounts.{is_at, count_at, HasCounted, MOST, number_at}
use Rattle.capture_actions.specs.declared.item_word.ItemWord.{ItemWord}
use Rattle.capture_actions.specs.declared.item_word.ItemWord.TheVariants.{Sync}
use Rattle.capture_actions.specs.declared.item_word.TheConstants.{WORD_COUNT}
use Rattle.capture_actions.specs.declared.kind_counts.KindCounts.{KindCounts}

abbrev pub bit : Bool → ℕ
bit b = cond b 1 0

-- what an event adds to a count
abbrev pub one : ℕ → ℕ → Option ℕ → Option ItemWord → ℕ
one x k source word = bit (is_of (Some x) source && is_at k word)

pub count_push : (x k : ℕ) (es : List (Event Packet)) (e : Event Packet) →
    count_at x k (es ++ e ∷ []) ≡ count_at x k es + one x k e.source (word_of e.what)
unfolding count_at
count_push x k es e =
    let f : Event Packet → ℕ = λ v. one x k v.source (word_of v.what) in
    sum_by-append f es (e ∷ []) ∙ ap (λ (n : ℕ). sum_by f es + n) (zero-add (f e))

pub same : (a b : ℕ) → b ≡ a → (a == b) ≡ true
same a b h = grind (arith, nat_tests)

pub other : (a b : ℕ) → b ≢ a → (a == b) ≡ false
other a b h = grind (arith, nat_tests)

never : (b : Bool) → bit (b && false) ≡ 0
never true = refl
never false = refl

-- all words have a place
pub few_words : (word : ItemWord) → number_of word < WORD_COUNT
few_words Sync = lit< tt
few_words word = lit< tt

-- an event that is not counted there
module _ (counts : KindCounts) (es : List (Event Packet)) (e : Event Packet) (h : HasCounted counts es) where
  stays : (x k : ℕ) → x < ID_COUNT → k < WORD_COUNT → one x k e.source (word_of e.what) ≡ 0 →
      number_at counts x k ≡ min (count_at x k (es ++ e ∷ [])) MOST
  stays x k lx lk none =
      h x k lx lk
      ∙ ap (λ (n : ℕ). min n MOST)
      (sym (count_push x k es e ∙ ap (λ (n : ℕ). count_at x k es + n) none ∙ add-zero (count_at x k es)))

  pub no_source : e.source ≡ None → HasCounted counts (es ++ e ∷ [])
  no_source source x k lx lk =
      stays x k lx lk (ap (λ (s : Option ℕ). one x k s (word_of e.what)) source)

  pub no_word : word_of e.what ≡ None → HasCounted counts (es ++ e ∷ [])
  no_word word x k lx lk =
      stays x k lx lk (ap (λ (w : Option ItemWord). one x k e.source w) word ∙ never (is_of (Some x) e.source))

  -- an event of this source and word
  module _ (id : ℕ) (word : ItemWord) (place new : ℕ) (here : place ≡ WORD_COUNT * id + number_of word)
      (within : place < length counts.numbers) (few : number_of word < WORD_COUNT)
      (more : new ≡ min (get_or counts.numbers place 0 + 1) MOST)
      (source : e.source ≡ Some id) (what : word_of e.what ≡ Some word) where
    adds : (x k : ℕ) → one x k e.source (word_of e.what) ≡ bit ((id == x) && (number_of word == k))
    adds x k =
        ap (λ (s : Option ℕ). one x k s (word_of e.what)) source
        ∙ ap (λ (w : Option ItemWord). one x k (Some id) w) what

    elsewhere : (x k : ℕ) → k < WORD_COUNT → WORD_COUNT * x + k ≢ place →
        bit ((id == x) && (number_of word == k)) ≡ 0
    elsewhere x k lk off = elim (cases_eq x id) [
      | inl p ↦ (elim (cases_eq k (number_of word)) [
        | inl q ↦ absurd (off (let n = number_of word in omega arith))
        | inr q ↦ ap (λ (b : Bool). bit ((id == x) && b)) (other (number_of word) k q) ∙ never (id == x)
      ])
      | inr p ↦ ap (λ (b : Bool). bit (b && (number_of word == k))) (other id x p)
    ]

    capped : (count old : ℕ) → old ≡ min count MOST → min (old + 1) MOST ≡ min (count + 1) MOST
    capped count old q = omega arith

    there : (x k : ℕ) → x < ID_COUNT → k < WORD_COUNT → WORD_COUNT * x + k ≡ place →
        new ≡ min (count_at x k (es ++ e ∷ [])) MOST
    there x k lx lk at =
        let n = number_of word in
        let p : x ≡ id = omega arith in
        let q : k ≡ n = omega arith in
        more
        ∙ capped (count_at x k es) (get_or counts.numbers place 0)
        (ap (λ (i : ℕ). get_or counts.numbers i 0) (sym at) ∙ h x k lx lk)
        ∙ ap (λ (m : ℕ). min m MOST)
        (sym (count_push x k es e
        ∙ ap (λ (m : ℕ). count_at x k es + m)
        (adds x k ∙ ap (λ (b : Bool). bit (b && (n == k))) (same id x p)
        ∙ ap bit (same n k q))))

    pub counted_after : HasCounted (record { numbers = set counts.numbers place new }) (es ++ e ∷ [])
    counted_after x k lx lk = elim (cases_eq (WORD_COUNT * x + k) place) [
      | inl at ↦ ap (λ (i : ℕ). get_or (set counts.numbers place new) i 0) at
          ∙ get_or-set_same counts.numbers place new 0 within ∙ there x k lx lk at
      | inr off ↦ get_or-set_other counts.numbers place (WORD_COUNT * x + k) new 0 off
          ∙ stays x k lx lk (adds x k ∙ elsewhere x k lk off)
    ]
