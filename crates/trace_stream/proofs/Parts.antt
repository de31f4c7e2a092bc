use Rattle.std.proofs.Common.{◌≡◌, ◌⊎◌, true, inl, inr, ℕ, ◌+◌, ◌-◌, ◌≤◌, List, [], ◌++◌, ap, ◌∙◌, sym, subst, refl, append_assoc, append-nil, length, length-append, take, arith}
use Rattle.std.proofs.lemmas.List.{take_all}
use Rattle.std.proofs.Math.Seq.{take-append-add, take-append_seam}
use Rattle.std.specs.declared.option.Option.{Option}
use Rattle.std.specs.Io.KnownBytes.{Appends, Consumes, IsAtEnd}
use Rattle.trace_io.specs.Bytes.{AppendsPrefix}
use Rattle.trace_stream.specs.Written.{GrowsOnly}
use Rattle.trace_stream.specs.declared.outcome.Outcome.{Outcome}
use Rattle.trace_stream.specs.declared.outcome.Outcome.TheVariants.{AtEnd, FaultFound, ReadFailed, WriteFailed, OverLimit}
use Rattle.trace_stream.specs.BuffersState.{BuffersState}
use Rattle.trace_stream.specs.Pumped.{HasPumped}
use Rattle.trace_stream.specs.Served.{Meaning, IsLawful, Ends, IsAllRead, ServedBy, FedBy, HasServed, text_at_stop}

-- the output went on after the reading
abbrev pub written : Ends → Option (List ℕ) → Ends
written new held = record { left = new.left; held = held }

-- the first bytes up to the limit are those seen, and maybe more
first_bytes : (limit : ℕ) (seen extra : List ℕ) → length seen ≤ limit → take limit (seen ++ extra) ≡ seen ++ take (limit - length seen) extra
first_bytes limit seen extra h = ap (λ n. take n (seen ++ extra)) (let e : limit ≡ length seen + (limit - length seen) = omega arith in e) ∙ take-append-add seen extra (limit - length seen)

-- a front of a front is one of the whole
longer : {old held : Option (List ℕ)} {part whole : List ℕ} (prefix : AppendsPrefix old held part) → GrowsOnly part whole → GrowsOnly prefix.1.front whole
longer prefix grows = (prefix.0 ++ grows.0, grows.1 ∙ ap (λ l. l ++ grows.0) prefix.1.all ∙ append_assoc prefix.1.front prefix.0 grows.0)

-- the first bytes up to the limit are those seen, where they are as many
limit_is : (limit : ℕ) (seen extra : List ℕ) → length seen ≡ limit → take limit (seen ++ extra) ≡ seen
limit_is limit seen extra count = sym (ap (λ n. take n (seen ++ extra)) count) ∙ take-append_seam seen extra

-- What the action stood for after the reading it stands for at the end of the run.
module _ (stands there : List ℕ → Type 0) (keeps : (seen : List ℕ) → stands seen → there seen) (m : Meaning) (limit : ℕ)
    (old new : Ends) (buffers : BuffersState) (held : Option (List ℕ)) where
  abbrev Served : Outcome → Type 0
  Served result = HasServed there m limit old (written new held) buffers.recent result

  abbrev Pumped : Outcome → Type 0
  Pumped result = HasPumped stands m limit old new buffers result

  -- all bytes that were read were fed
  of_seen : (result : Outcome) (pumped : Pumped result) (out : List ℕ) → pumped.extra ≡ [] → stands pumped.seen →
      Appends old.held held out → (by : ServedBy m limit new.left result pumped.seen out buffers.recent) →
      FedBy m limit new.left result pumped.seen out buffers.recent by pumped.seen → (result ≡ AtEnd → IsAtEnd new.left) →
      Served result
  of_seen result pumped out none read put by feeds ended = record {
    bytes = pumped.seen;
    out = out;
    lost = subst (Consumes old.left new.left) (ap (λ l. pumped.seen ++ l) none ∙ append-nil pumped.seen) pumped.lost;
    gained = put;
    at_most = omega (arith, pumped.within);
    outcome = by;
    ended = ended;
    fed = pumped.seen;
    feeds = feeds;
    holds = keeps pumped.seen read;
  }

  -- and extra bytes were only read
  with_extra : {how : Outcome} (result : Outcome) (pumped : Pumped how) (out : List ℕ) → stands pumped.seen →
      Appends old.held held out →
      (by : ServedBy m limit new.left result (pumped.seen ++ pumped.extra) out buffers.recent) →
      FedBy m limit new.left result (pumped.seen ++ pumped.extra) out buffers.recent by pumped.seen →
      (result ≡ AtEnd → IsAtEnd new.left) → Served result
  with_extra result pumped out read put by feeds ended = record {
    bytes = pumped.seen ++ pumped.extra;
    out = out;
    lost = pumped.lost;
    gained = put;
    at_most = omega (arith, pumped.at_most, length-append pumped.seen pumped.extra);
    outcome = by;
    ended = ended;
    fed = pumped.seen;
    feeds = feeds;
    holds = keeps pumped.seen read;
  }

  -- at the input's end
  pub served_at_end : (pumped : Pumped AtEnd) → Appends old.held held (m.text pumped.seen ++ m.ending pumped.seen) →
      Served AtEnd
  served_at_end pumped put = of_seen AtEnd pumped _ pumped.outcome.1 pumped.outcome.0.read put (pumped.outcome.0.fault, pumped.within, refl) refl (λ e. pumped.outcome.2)

  -- at a stop
  pub served_stopped : IsLawful m → (pumped : Pumped FaultFound) →
      Appends old.held held (m.text pumped.seen ++ m.ending pumped.seen) → Served FaultFound
  served_stopped lawful pumped put =
      let more = take (limit - length pumped.seen) pumped.extra in
      let front = first_bytes limit pumped.seen pumped.extra pumped.within in
      let same_text : m.text (take limit (pumped.seen ++ pumped.extra)) ≡ m.text pumped.seen = ap m.text front ∙ lawful.text_stays pumped.seen more pumped.outcome.0.fault.broken in
      let same_ending : m.ending (take limit (pumped.seen ++ pumped.extra)) ≡ m.ending pumped.seen = ap m.ending front ∙ lawful.ending_stays pumped.seen more pumped.outcome.0.fault.broken in
      with_extra FaultFound pumped _ pumped.outcome.0.read put
      (record { seen = pumped.seen; rest = more; parts = front; certain = pumped.outcome.0.fault; broken = subst m.faulty (sym front) (lawful.faulty_stays pumped.seen more pumped.outcome.0.fault.broken) }, cc, pumped.outcome.1)
      refl (λ e. cc)

  -- where a read failed, with what was due
  pub served_read_failed : (pumped : Pumped ReadFailed) → Appends old.held held (text_at_stop m pumped.seen) →
      Served ReadFailed
  served_read_failed pumped put = of_seen ReadFailed pumped _ pumped.outcome.1 pumped.outcome.0.read put (pumped.outcome.0.fault, pumped.within, refl) refl (λ e. cc)

  -- and where the limit was passed
  pub served_over_limit : (pumped : Pumped OverLimit) → Appends old.held held (text_at_stop m pumped.seen) →
      Served OverLimit
  served_over_limit pumped put =
      let count : length pumped.seen ≡ limit = pumped.outcome.1 in
      let front = limit_is limit pumped.seen pumped.extra count in
      with_extra OverLimit pumped _ pumped.outcome.0.read put
      (subst (λ l. m.faulty l → ⊥) (sym front) pumped.outcome.0.fault, omega (arith, count, pumped.outcome.2, length-append pumped.seen pumped.extra), sym (ap (text_at_stop m) front))
      (sym front) (λ e. cc)

  -- where a write failed
  write_failed : (how : Outcome) (pumped : Pumped how) → stands pumped.seen → (part : List ℕ)
      (prefix : AppendsPrefix old.held held part) →
      ServedBy m limit new.left WriteFailed (pumped.seen ++ pumped.extra) prefix.1.front buffers.recent → Served WriteFailed
  write_failed how pumped read part prefix outcome =
      with_extra WriteFailed pumped _ read prefix.1.took outcome
      (take (limit - length pumped.seen) pumped.extra, first_bytes limit pumped.seen pumped.extra pumped.within) (λ e. cc)

  -- some prefix of the text was written
  pub served_in_part : (how : Outcome) (pumped : Pumped how) → stands pumped.seen → (part : List ℕ) →
      AppendsPrefix old.held held part → GrowsOnly part (m.text (take limit (pumped.seen ++ pumped.extra))) →
      Served WriteFailed
  served_in_part how pumped read part prefix grows = write_failed how pumped read part prefix (inl (longer prefix grows))

  -- what comes after the text was due, and some prefix of both was written
  pub served_to_end : (how : Outcome) (pumped : Pumped how) → stands pumped.seen → (part : List ℕ) →
      AppendsPrefix old.held held part →
      IsAllRead m.faulty limit new.left (pumped.seen ++ pumped.extra) ⊎ (m.due ≡ true) →
      GrowsOnly part (m.text (take limit (pumped.seen ++ pumped.extra)) ++ m.ending (take limit (pumped.seen ++ pumped.extra))) →
      Served WriteFailed
  served_to_end how pumped read part prefix all grows =
      write_failed how pumped read part prefix (inr (all, longer prefix grows))

-- the text of the bytes seen is a front of that of all
pub text_in_part : (text : List ℕ → List ℕ) (limit : ℕ) (seen extra : List ℕ) → ((xs ys : List ℕ) → GrowsOnly (text xs) (text (xs ++ ys))) → length seen ≤ limit
    → GrowsOnly (text seen) (text (take limit (seen ++ extra)))
text_in_part text limit seen extra grows within =
    let more = grows seen (take (limit - length seen) extra) in
    (more.0, ap text (first_bytes limit seen extra within) ∙ more.1)

-- nothing more is to be read at the input's end, and at a fault
pub all_read : (faulty : List ℕ → Type 0) (limit : ℕ) (left : Option (List ℕ)) (seen extra : List ℕ) → extra ≡ [] → length seen ≤ limit → IsAtEnd left
    → IsAllRead faulty limit left (seen ++ extra)
all_read faulty limit left seen extra none within ended =
    inr (subst (λ l. length l ≤ limit) (sym (ap (λ l. seen ++ l) none ∙ append-nil seen)) within, ended)

pub all_stopped : (m : Meaning) (limit : ℕ) (left : Option (List ℕ)) (seen extra : List ℕ) → IsLawful m → m.faulty seen → length seen ≤ limit
    → IsAllRead m.faulty limit left (seen ++ extra)
all_stopped m limit left seen extra lawful broken within =
    inl (subst m.faulty (sym (first_bytes limit seen extra within)) (lawful.faulty_stays seen (take (limit - length seen) extra) broken))

pub all_in_part : (text ending : List ℕ → List ℕ) (limit : ℕ) (seen extra : List ℕ) → extra ≡ [] → length seen ≤ limit
    → GrowsOnly (text seen ++ ending seen) (text (take limit (seen ++ extra)) ++ ending (take limit (seen ++ extra)))
all_in_part text ending limit seen extra none within =
    let same : take limit (seen ++ extra) ≡ seen = ap (take limit) (ap (λ l. seen ++ l) none ∙ append-nil seen) ∙ take_all limit seen within in
    ([], ap (λ l. text l ++ ending l) same ∙ sym (append-nil (text seen ++ ending seen)))

pub stopped_in_part : (m : Meaning) (limit : ℕ) (seen extra : List ℕ) → IsLawful m → m.faulty seen → length seen ≤ limit
    → GrowsOnly (m.text seen ++ m.ending seen) (m.text (take limit (seen ++ extra)) ++ m.ending (take limit (seen ++ extra)))
stopped_in_part m limit seen extra lawful broken within =
    let more = take (limit - length seen) extra in
    let front = first_bytes limit seen extra within in
    let same_text : m.text (take limit (seen ++ extra)) ≡ m.text seen = ap m.text front ∙ lawful.text_stays seen more broken in
    let same_ending : m.ending (take limit (seen ++ extra)) ≡ m.ending seen = ap m.ending front ∙ lawful.ending_stays seen more broken in
    ([], ap (λ l. l ++ m.ending (take limit (seen ++ extra))) same_text ∙ ap (λ l. m.text seen ++ l) same_ending ∙ sym (append-nil (m.text seen ++ m.ending seen)))

pub over_in_part : (text ending : List ℕ → List ℕ) (limit : ℕ) (seen extra : List ℕ) → length seen ≡ limit
    → GrowsOnly (text seen ++ ending seen) (text (take limit (seen ++ extra)) ++ ending (take limit (seen ++ extra)))
over_in_part text ending limit seen extra count =
    ([], ap (λ l. text l ++ ending l) (limit_is limit seen extra count) ∙ sym (append-nil (text seen ++ ending seen)))
