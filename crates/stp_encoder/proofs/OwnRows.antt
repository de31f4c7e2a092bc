-- The rows of items' own packets, and what it says of an item that it fits.
use Rattle.std.proofs.Common.{◌≡◌, ℕ, ◌^◌, ◌<◌, refl, subst, arith, ◌==◌, Bool, true, false, not, ◌||◌, Option}
use Rattle.std.proofs.lemmas.Bool.{eqb-true}
use Rattle.stp_encoder.specs.Names.{Width, Row, StpItem, Datum as DatumItem, Flag as FlagItem, Trigger as TriggerItem}
use Rattle.stp_encoder.specs.Names.{Frequency as FrequencyItem, NullStamp as NullStampItem, line_of, bits_of}
use Rattle.stp_grammar.specs.declared.packet.Row.TheVariants.{Datum, Flag, NullStamp, Trigger, Frequency}
use Rattle.stp_grammar.proofs.EachRow.{each_test}
use Rattle.stp_encoder.specs.Fitting.{item_place, item_stamp, is_of_version, is_named, has_content, is_unfit}
use Rattle.stp_encoder.proofs.Stamps.{MakesItem}

-- the rows of items with a timestamp or none
datum_width : Row → Bool
datum_width (Datum width marked stamped) = 2 ^ bits_of width == 16 ^ (line_of (Datum width marked stamped)).payload
datum_width row = true

datum_fits : (width : Width) (marked stamped : Bool) (value : ℕ) → value < 2 ^ bits_of width → value < 16 ^ (line_of (Datum width marked stamped)).payload
unfolding datum_width
datum_fits width marked stamped value h =
    subst (λ (n : ℕ). value < n) (eqb-true (2 ^ bits_of width) (16 ^ (line_of (Datum width marked stamped)).payload) (each_test datum_width refl (Datum width marked stamped))) h

pub makes_datum : (width : Width) (marked stamped : Bool) (value : ℕ) → value < 2 ^ bits_of width → MakesItem (Datum width marked stamped) value (λ place stamp. DatumItem place width value marked stamp)
makes_datum width marked stamped value h = record { makes = λ p s. refl; fits = datum_fits width marked stamped value h; quiet = λ o. (refl, refl) }

pub makes_flag : (stamped : Bool) → MakesItem (Flag stamped) 0 (λ place stamp. FlagItem place stamp)
makes_flag true = record { makes = λ p s. refl; fits = omega arith; quiet = λ o. (refl, refl) }
makes_flag false = record { makes = λ p s. refl; fits = omega arith; quiet = λ o. (refl, refl) }

pub makes_trigger : (stamped : Bool) (code : ℕ) → code < 2 ^ 8 → MakesItem (Trigger stamped) code (λ place stamp. TriggerItem code stamp)
makes_trigger true code h = record { makes = λ p s. refl; fits = omega (arith, h); quiet = λ o. (refl, refl) }
makes_trigger false code h = record { makes = λ p s. refl; fits = omega (arith, h); quiet = λ o. (refl, refl) }

pub makes_frequency : (stamped : Bool) (hertz : ℕ) → hertz < 2 ^ 32 → MakesItem (Frequency stamped) hertz (λ place stamp. FrequencyItem hertz stamp)
makes_frequency true hertz h = record { makes = λ p s. refl; fits = omega (arith, h); quiet = λ o. (refl, refl) }
makes_frequency false hertz h = record { makes = λ p s. refl; fits = omega (arith, h); quiet = λ o. (refl, refl) }

pub makes_null : MakesItem NullStamp 0 (λ place stamp. NullStampItem stamp)
makes_null = record { makes = λ p s. refl; fits = omega arith; quiet = λ o. (refl, refl) }

-- what an item has that fits: its timestamp is of the version's kind, its place is named, and it is there
pub record Fits (version : Option ℕ) (item : StpItem) : Type 0 where
  pub stamp : is_of_version version (item_stamp item) ≡ true
  pub named : is_named (item_place item) ≡ true
  pub there : has_content item ≡ true

pub fits_of : (version : Option ℕ) (item : StpItem) → is_unfit version item ≡ false → Fits version item
fits_of version item e = by (is_of_version version (item_stamp item)) (is_named (item_place item)) (has_content item) refl refl refl e where
  by : (s t r : Bool) → is_of_version version (item_stamp item) ≡ s → is_named (item_place item) ≡ t → has_content item ≡ r → (not s || (not t || not r)) ≡ false → Fits version item
  by true true true a b c f = record { stamp = a; named = b; there = c }
  by false t r a b c f = absurd cc
  by true false r a b c f = absurd cc
  by true true false a b c f = absurd cc
