use Rattle.counting_node.proofs.{Common.{◌∙◌, sym, subst, ◌-◌, ℕ, ℤ, List, IsBeyond, nothing_gathered}, Extras.{number_beyond}}
use Rattle.counting_node.proofs.count.beyond.Goals as goal

pub returns : goal.returns
returns c world set others apart all part =
    subst (λ (n : ℕ). IsBeyond nothing_gathered world others n c.from_vec.result) (sym c.saturating_sub.ensures)
    (subst (λ (values : List ℤ). IsBeyond nothing_gathered world others (c.args.count - c.args.part) values) (sym (c.from_vec.ensures ∙ c.new.ensures.items)) (number_beyond world set others c.args.count c.args.part apart all part))
