-- A byte put into the queue of a source that has one place.
use Rattle.std.proofs.Common.{◌≡◌, ℕ, ◌+◌, ◌≤◌, List, [], ◌∷◌, Bool, true, false, cond, refl, sym, ◌∙◌, ap, arith}
use Rattle.std.specs.Prelude.{◌==◌}
use Rattle.trace_funnel.specs.declared.queue.Queue.{Queue}
use Rattle.trace_funnel.specs.Turns.{Place, longer, put}
use Rattle.trace_funnel.specs.Kept.{count}
use Rattle.trace_funnel.specs.Queues.{place_of, places_of}

put_none : (x b : ℕ) (ps : List Place) → count x ps ≡ 0 → put x b ps ≡ ps
put_none x b [] h = refl
put_none x b (p ∷ ps) h = by (p.id == x) h (put_none x b ps) where
  by : (t : Bool) → cond t (count x ps + 1) (count x ps) ≡ 0 → (count x ps ≡ 0 → put x b ps ≡ ps) →
      cond t (longer b p) p ∷ put x b ps ≡ p ∷ ps
  by true h f = absurd (omega arith)
  by false h f = ap (λ l. p ∷ l) (f h)

pub put_first : (x b : ℕ) (q : Queue) (rest qs : List Queue) (new : Place) → qs ≡ q ∷ rest → (q.id == x) ≡ true →
    count x (places_of qs) ≤ 1 → new ≡ longer b (place_of q) → new ∷ places_of rest ≡ put x b (places_of qs)
put_first x b q rest qs new e t one is =
    let all = ap (λ (l : List Queue). count x (places_of l)) e
    ∙ ap (λ s. cond s (count x (places_of rest) + 1) (count x (places_of rest))) t in
    ap (λ (p : Place). p ∷ places_of rest) is
    ∙ ap (λ l. longer b (place_of q) ∷ l) (sym (put_none x b (places_of rest) (omega (arith, all, one))))
    ∙ ap (λ s. cond s (longer b (place_of q)) (place_of q) ∷ put x b (places_of rest)) (sym t)
    ∙ ap (λ (l : List Queue). put x b (places_of l)) (sym e)
