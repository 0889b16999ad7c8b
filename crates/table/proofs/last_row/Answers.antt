use Rattle.std.proofs.Common.{◌≡◌, rules, tests, leb, reverse, option_map, ap, ◌∙◌}
use Rattle.std.specs.List.{find}
use Rattle.std.proofs.lemmas.Iterator.Search.{find_from_yields_List}
use Rattle.std.proofs.lemmas.Iterator.Adapters.{YieldsList-from_rev_slice}
use Rattle.table.specs.declared.Row.{Row}
use Rattle.distance.specs.Options.{option_by}
use Rattle.table.specs.Answers.{tolerance_of}
use Rattle.table.proofs.Laws.Rows.{last_found}
use Rattle.table.proofs.last_row.Goals as goal

pub returns : goal.returns
returns c =
    let f : option_map (λ r. r.now) c.find.result ≡ find (λ (r : Row). leb r.day.0 c.args.days.0) (reverse c.args.rows.now) =
    find_from_yields_List (λ (r : Row). leb r.day.0 c.args.days.0) _ _ c.find.result c.find.ensures.ran (YieldsList-from_rev_slice c.args.rows.now cc) (λ x b q k. search (rules, tests)) in
    let m : c.map.result ≡ option_map (λ (r : Row). r.tolerance) (option_map (λ r. r.now) c.find.result) = search rules in
    ap (option_by tolerance_of) (m ∙ ap (option_map (λ (r : Row). r.tolerance)) f) ∙ last_found c.args.days.0 c.args.rows.now
