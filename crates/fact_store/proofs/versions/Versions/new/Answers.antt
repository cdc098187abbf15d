use Rattle.fact_store.proofs.Common.{◌∙◌, ap, ◌++◌, []}
use Rattle.std.specs.FinMap as map
use Rattle.fact_store.proofs.Newer.{all_of, no_entries}
use Rattle.fact_store.proofs.versions.Versions.new.Goals as goal

pub returns : goal.returns
returns c = ap (λ ps. map.entries c.new.result ++ ps) c.new-2.ensures.empty ∙ ap (λ m. all_of m []) c.new.ensures ∙ no_entries
