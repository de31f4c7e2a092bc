-- How the bytes of an ID grow with the bytes of the capture.
use Rattle.std.specs.Prelude.{◌≡◌, ℕ, List, ◌++◌, map, refl}
use Rattle.std.specs.List.{flat_map}
use Rattle.std.proofs.Common.{ap, ◌∙◌}
use Rattle.std.proofs.lemmas.List.{map-append}
use Rattle.std.proofs.lemmas.List.Elements.{filter-append}
use Rattle.capture_actions.specs.Names.{IsLawful, Cell, is_source, source_list, cells_of}
use Rattle.deformatter.proofs.PortReadingLaws.{none_read}
use Rattle.capture_actions.specs.Port.{port_of}
use Rattle.capture_actions.specs.PortLaws as port
use Rattle.capture_actions.specs.declared.split_plan.SplitPlan.{SplitPlan}
use Rattle.capture_actions.specs.Split.{bytes_of_id, split_meaning}

-- the bytes of two lists of cells are those of the first and those of the second
pub bytes_of_id-append : (id : ℕ) (a b : List Cell) →
    bytes_of_id id (a ++ b) ≡ bytes_of_id id a ++ bytes_of_id id b
bytes_of_id-append id a b =
    ap (map (λ (c : Cell). c.byte)) (filter-append (λ (c : Cell). is_source id c.id) a b)
    ∙ map-append (λ (c : Cell). c.byte) (source_list id a) (source_list id b)

-- the bytes of an ID in these frames
abbrev bytes_in : SplitPlan → List (List Cell) → List ℕ
bytes_in p frames = bytes_of_id p.id (flat_map (λ (frame : List Cell). frame) frames)

pub split_lawful : (p : SplitPlan) → IsLawful (split_meaning p)
split_lawful p = record {
  never_at_first = port.none_at_first p.frames;
  nothing_at_first = ap (bytes_in p) (none_read p.frames).frames;
  faulty_stays = port.faulty_stays p.frames;
  text_stays = λ xs ys h. ap (bytes_in p) (port.port_settled p.frames xs ys h).frames;
  ending_stays = λ xs ys h. refl;
  text_grows = λ xs ys.
      let more = port.port_cells_grow p.frames xs ys in (
        bytes_of_id p.id more.0,
        ap (bytes_of_id p.id) more.1 ∙ bytes_of_id-append p.id (cells_of (port_of p.frames xs)) more.0,
      );
}
