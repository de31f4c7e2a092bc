-- The lines of the sources, one ID after the other.
use Rattle.std.proofs.Common.{◌≡◌, ℕ, suc, ◌+◌, List, [], ◌∷◌, ◌++◌, flat_map, append-nil, append_assoc, sym, ◌∙◌, ap, arith}
use Rattle.std.specs.List.{range_with_len}
use Rattle.std.proofs.lemmas.Grind.{flat_map-append}
use Rattle.frame_grammar.proofs.CellLaws.{range_push}
use Rattle.capture_actions.specs.Names.{port_counts_text, tails_text, ID_COUNT}
use Rattle.source_counts.specs.declared.counts.Counts.{Counts}
use Rattle.source_events.specs.declared.tails.PortCounts.{PortCounts}
use Rattle.source_events.specs.declared.tails.Tails.{Tails}
use Rattle.capture_actions.specs.Summary.{source_text, sources_text, counts_by}

-- one more ID has its own line after those before it
pub sources_more : (counts : ℕ → Counts) (n : ℕ) →
    sources_text counts (n + 1) ≡ sources_text counts n ++ source_text n (counts n)
unfolding sources_text
sources_more counts n =
    let line : ℕ → List ℕ = λ id. source_text id (counts id) in
    let next : n + 1 ≡ suc n = omega arith in
    let here : 0 + n ≡ n = omega arith in
    ap (λ (m : ℕ). flat_map line (range_with_len 0 m)) next
    ∙ ap (flat_map line) (range_push 0 n ∙ ap (λ (m : ℕ). range_with_len 0 n ++ m ∷ []) here)
    ∙ flat_map-append line (range_with_len 0 n) (n ∷ [])
    ∙ ap (λ (l : List ℕ). flat_map line (range_with_len 0 n) ++ l) (append-nil (line n))

-- before the first there is none
pub no_lines : (counts : ℕ → Counts) (before : List ℕ) → before ≡ before ++ sources_text counts 0
unfolding sources_text
no_lines counts before = sym (append-nil before)

pub lines_more : (counts : ℕ → Counts) (n : ℕ) (before old new : List ℕ) → old ≡ before ++ sources_text counts n →
    new ≡ old ++ source_text n (counts n) → new ≡ before ++ sources_text counts (n + 1)
lines_more counts n before old new e f =
    f ∙ ap (λ (l : List ℕ). l ++ source_text n (counts n)) e
    ∙ append_assoc before (sources_text counts n) (source_text n (counts n))
    ∙ ap (λ (l : List ℕ). before ++ l) (sym (sources_more counts n))

-- the counts of all, put one after the other
pub all_counts : (port : PortCounts) (sources : ℕ → Counts) (ends : Tails) (start first second last : List ℕ)
    (tails : Tails) → first ≡ start ++ port_counts_text port.fulls port.halves port.frames →
    second ≡ first ++ sources_text sources ID_COUNT → tails ≡ ends → last ≡ second ++ tails_text tails →
    last ≡ start ++ counts_by port sources ends
all_counts port sources ends start first second last tails f s t l =
    let head = port_counts_text port.fulls port.halves port.frames in
    let all = sources_text sources ID_COUNT in
    l ∙ ap (λ (k : Tails). second ++ tails_text k) t
    ∙ ap (λ (x : List ℕ). x ++ tails_text ends) (s ∙ ap (λ (x : List ℕ). x ++ all) f)
    ∙ append_assoc (start ++ head) all (tails_text ends)
    ∙ append_assoc start head (all ++ tails_text ends)
