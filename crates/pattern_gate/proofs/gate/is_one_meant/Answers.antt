use Rattle.pattern_gate.proofs.{Common.{◌∙◌, sym, ap, ◌||◌, option_map, Fact, Bor, is_given_meant}, Turning.{any_lent}}
use Rattle.pattern_gate.proofs.gate.is_one_meant.Goals as goal

pub returns-then-is_any_meant : goal.returns-then-is_any_meant
returns-then-is_any_meant c =
    c.if-is_any_meant.true ∙ ap (λ b. b || is_given_meant c.args.pattern.now (option_map (λ (f : Bor Fact). f.now) c.args.come)) (sym c.if-is_any_meant.true ∙ c.is_any_meant.ensures ∙ any_lent c.args.pattern.now c.args.gone.now)

pub returns-else-is_any_meant : goal.returns-else-is_any_meant
returns-else-is_any_meant c =
    c.is_given_meant.ensures ∙ ap (λ b. b || is_given_meant c.args.pattern.now (option_map (λ (f : Bor Fact). f.now) c.args.come)) (sym c.if-is_any_meant.false ∙ c.is_any_meant.ensures ∙ any_lent c.args.pattern.now c.args.gone.now)
