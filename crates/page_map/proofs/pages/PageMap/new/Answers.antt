use Rattle.page_map.{proofs.Common.{◌∙◌, ap, List, [], ℕ, Directory, held}, specs.Pages.{numbers_of}}
use Rattle.page_map.proofs.pages.PageMap.new.Goals as goal

pub returns : goal.returns
unfolding numbers_of
returns c = ap (λ row. held c.new.result.first row c.new-2.result.entries) c.new.ensures.row ∙ ap (λ (ds : List (ℕ × Directory)). held c.new.result.first [] ds) c.new-2.ensures.empty
