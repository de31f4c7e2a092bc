-- A source whose packets are some of a greater type, as those of each kind of source are.
use Rattle.resync_laws.specs.Names.{decorated, Place, Stream, stream_as}
use Rattle.resync_rules.proofs.ItemTerms.{first_item}
use Rattle.std.specs.Prelude.{Bool, Option}
use Rattle.resync_laws.specs.Resumed.{Resumed}

abbrev pub resumed_as : {K L V W : Type 0} → (K → L) → (V → W) → (Stream W → Option Place) → Resumed K V → Resumed L W
resumed_as kind f point p = record { id = p.id; kind = kind p.kind; units = p.units; whole = λ u. stream_as f (p.whole u); rest = λ u. stream_as f (p.rest u); point = point }

-- a source whose packets are made into items; its point in the rest is the first item of this kind
abbrev pub resumed_made : {K V W T : Type 0} → (T → V → Option W × T) → T → (W → Bool) → Resumed K V → Resumed K W
resumed_made step start marks p = record {
  id = p.id;
  kind = p.kind;
  units = p.units;
  whole = λ u. decorated step start (p.whole u);
  rest = λ u. decorated step start (p.rest u);
  point = λ s. first_item marks s.given;
}
