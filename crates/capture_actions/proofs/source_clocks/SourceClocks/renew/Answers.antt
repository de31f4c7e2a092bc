use Rattle.std.proofs.Common.{◌≡◌, ℕ, ◌<◌, rules, length, get_or, set, subst, Option, Some}
use Rattle.capture_actions.specs.Clocks.{Stands}
use Rattle.capture_actions.specs.Listing.{itm_packets}
use Rattle.capture_actions.specs.SourceClocks.{without}
use Rattle.capture_actions.proofs.Sources.{stand_anew}
use Rattle.capture_actions.proofs.source_clocks.SourceClocks.renew.Goals as goal

pub returns-in-Some : goal.returns-in-Some
returns-in-Some c = λ es h x d l.
    let old = c.args.self.now.clocks in
    let new = c.new-in-Some.result in
    let id = c.number.result in
    let within : id < length old = search rules in
    let same : Some id ≡ c.args.source = (let e = c.number.ensures.value in let f = c.in-Some.is in cc) in
    subst (λ (s : Option ℕ). Stands (get_or (set old id new) x d) (itm_packets (Some x) (without s es))) same
    (stand_anew es old new id within c.new-in-Some.ensures.fresh x d (h x d l))
