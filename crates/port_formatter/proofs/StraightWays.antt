-- Bytes that come to the frames straight.
use Rattle.std.proofs.Common.{◌≡◌, ℕ, List, ◌++◌, Option, None, Some, sym, subst}
use Rattle.frame_writer.specs.Sure as sures
use Rattle.port_formatter.specs.Names.{Tagged, Turns}
use Rattle.port_formatter.specs.Formatter.{Stands, Puts, Ends}
use Rattle.port_formatter.specs.Port.{Port, sure_of, written}
use Rattle.port_formatter.specs.Segments.{Segments, with_bytes, now_ended, after_flush}
use Rattle.port_formatter.specs.declared.straight.StraightFrames.{StraightFrames}
use Rattle.port_formatter.specs.declared.formatter.Formatter.{Formatter}
use Rattle.port_formatter.specs.declared.formatter.Formatter.TheVariants.{Straight}

abbrev port : ℕ → ℕ → Option Turns → Port
port every halves o = record { every = every; halves = halves; funnel = o }

module _ (old new : StraightFrames) where
  module _ (bytes : List Tagged) (a : sures.Appends old.frames new.frames bytes old.kept.items new.kept.items) where
    puts_list : (every halves : ℕ) (o : Option Turns) (s : Segments) → Stands (Straight old) (port every halves o) s →
        Stands (Straight new) (port every halves o) (with_bytes s bytes)
    puts_list every halves None s st =
        record { frames = a.list every halves s.ended s.begun st.frames; funnel = tt }
    puts_list every halves (Some t) s st = absurd st.funnel

    puts_grown : (every halves : ℕ) (o : Option Turns) (s : Segments) → Stands (Straight old) (port every halves o) s →
        sure_of (port every halves o) (with_bytes s bytes) ≡ sure_of (port every halves o) s ++ a.more
    puts_grown every halves None s st = a.grown every halves s.ended s.begun st.frames
    puts_grown every halves (Some t) s st = absurd st.funnel

    straight_puts : Puts (Straight old) (Straight new) bytes
    straight_puts = record {
      more = a.more;
      kept = a.appended;
      list = λ p s st. puts_list p.every p.halves p.funnel s st;
      grown = λ p s st. puts_grown p.every p.halves p.funnel s st;
    }

  module _ (a : sures.Ends old.frames new.frames old.kept.items new.kept.items) where
    ends_list : (every halves : ℕ) (o : Option Turns) (s : Segments) → Stands (Straight old) (port every halves o) s →
        Stands (Straight new) (port every halves o) (after_flush s)
    ends_list every halves None s st =
        record { frames = a.list every halves s.ended s.begun st.frames; funnel = tt }
    ends_list every halves (Some t) s st = absurd st.funnel

    ends_grown : (every halves : ℕ) (o : Option Turns) (s : Segments) → Stands (Straight old) (port every halves o) s →
        sure_of (port every halves o) (after_flush s) ≡ sure_of (port every halves o) s ++ a.more
    ends_grown every halves None s st = a.grown every halves s.ended s.begun st.frames
    ends_grown every halves (Some t) s st = absurd st.funnel

    ends_all : (every halves : ℕ) (o : Option Turns) (s : Segments) → Stands (Straight old) (port every halves o) s →
        written (port every halves o) (now_ended s) ≡ sure_of (port every halves o) s ++ a.more
    ends_all every halves None s st = a.all every halves s.ended s.begun st.frames
    ends_all every halves (Some t) s st = absurd st.funnel

    straight_ends : Ends (Straight old) (Straight new)
    straight_ends = record {
      more = a.more;
      kept = a.appended;
      list = λ p s st. ends_list p.every p.halves p.funnel s st;
      grown = λ p s st. ends_grown p.every p.halves p.funnel s st;
      all = λ p s st. ends_all p.every p.halves p.funnel s st;
    }

-- of a formatter that is such
pub puts_straight : (f : Formatter) (old new : StraightFrames) (bytes : List Tagged) → f ≡ Straight old →
    sures.Appends old.frames new.frames bytes old.kept.items new.kept.items → Puts f (Straight new) bytes
puts_straight f old new bytes is a =
    subst (λ (g : Formatter). Puts g (Straight new) bytes) (sym is) (straight_puts old new bytes a)

pub ends_straight : (f : Formatter) (old new : StraightFrames) → f ≡ Straight old →
    sures.Ends old.frames new.frames old.kept.items new.kept.items → Ends f (Straight new)
ends_straight f old new is a = subst (λ (g : Formatter). Ends g (Straight new)) (sym is) (straight_ends old new a)
