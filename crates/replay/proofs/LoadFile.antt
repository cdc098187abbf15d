-- What the rule file of a load reads as.
use Rattle.replay.proofs.Common.{◌≡◌, ap, ◌∙◌, rules_text, Program, Accepted, of_checked, of_obstacle, of_parsed, reading, with_titles}
use Rattle.{subrules.specs.Expanded.{titles}, load_laws.proofs.Accepted.{accepted}}

pub load_file_accepted : (program : Program) × (reading rules_text ≡ Accepted program)
load_file_accepted =
    let file = accepted.0 in
    (with_titles (titles file.items) accepted.1, ap of_parsed accepted.2 ∙ ap (of_obstacle file) accepted.3 ∙ ap (of_checked file) accepted.4)
