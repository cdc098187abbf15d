-- Under other names of rules a program is one that engines run.
use Rattle.replay.proofs.Common.{◌≡◌, ◌≤◌, ◌&&◌, ◌||◌, ℕ, suc, Bool, List, [], ◌∷◌, length, drop, refl, sym, ap, ◌∙◌, subst, All, list_all, list_any, Program}
use Rattle.{replay.{proofs.Common.{first_or, with_titles}, specs.Titles.{renamed}}, std.proofs.lemmas.List.Elements.{All-cons, All-head, All-tail}}
use Rattle.rule_model.specs.{declared.program.Rule.{Rule}, Simple.{observes_type}, Types.{is_event, is_observed, is_reference}}
use Rattle.rule_world.specs.{Programs.{IsRunnable, UseOperators, NameEarlier, has_conditions, has_few_actions, has_windows}, Typed.{is_typed, rule_fits}}

same_length : (titles : List (List ℕ)) (rules : List Rule) → length (renamed titles rules) ≡ length rules
unfolding renamed
same_length titles [] = refl
same_length titles (r ∷ rules) = ap suc (same_length (drop 1 titles) rules)

all_same : (test : Rule → Bool) → ((r : Rule) (name : List ℕ) → test (record r { name = name }) ≡ test r) → (titles : List (List ℕ)) (rules : List Rule)
    → list_all test (renamed titles rules) ≡ list_all test rules
unfolding renamed
all_same test blind titles [] = refl
all_same test blind titles (r ∷ rules) =
    ap (λ b. b && list_all test (renamed (drop 1 titles) rules)) (blind r (first_or r.name titles)) ∙ ap (λ b. test r && b) (all_same test blind (drop 1 titles) rules)

any_same : (test : Rule → Bool) → ((r : Rule) (name : List ℕ) → test (record r { name = name }) ≡ test r) → (titles : List (List ℕ)) (rules : List Rule)
    → list_any test (renamed titles rules) ≡ list_any test rules
unfolding renamed
any_same test blind titles [] = refl
any_same test blind titles (r ∷ rules) =
    ap (λ b. b || list_any test (renamed (drop 1 titles) rules)) (blind r (first_or r.name titles)) ∙ ap (λ b. test r || b) (any_same test blind (drop 1 titles) rules)

same_operators : (titles : List (List ℕ)) (rules : List Rule) → UseOperators rules → UseOperators (renamed titles rules)
unfolding renamed
same_operators titles [] all = all
same_operators titles (r ∷ rules) all = (all.0, same_operators (drop 1 titles) rules all.1)

same_names : (titles : List (List ℕ)) (rules : List Rule) → All (λ (rule : Rule). NameEarlier rule.conditions) rules → All (λ (rule : Rule). NameEarlier rule.conditions) (renamed titles rules)
unfolding renamed
same_names titles [] all = all
same_names titles (r ∷ rules) all =
    All-cons (λ (rule : Rule). NameEarlier rule.conditions) (record r { name = first_or r.name titles }) (renamed (drop 1 titles) rules)
    (All-head (λ (rule : Rule). NameEarlier rule.conditions) r rules all) (same_names (drop 1 titles) rules (All-tail (λ (rule : Rule). NameEarlier rule.conditions) r rules all))

pub is_runnable : (titles : List (List ℕ)) (p : Program) → IsRunnable p → IsRunnable (with_titles titles p)
unfolding is_event is_observed is_reference is_typed
is_runnable titles p sound = record {
  few_types = sound.few_types;
  some_entry = sound.some_entry;
  few_entries = sound.few_entries;
  lateness = sound.lateness;
  expiry = sound.expiry;
  few_rules = subst (λ n. n ≤ 256) (sym (same_length titles p.rules)) sound.few_rules;
  conditions = all_same has_conditions (λ r name. refl) titles p.rules ∙ sound.conditions;
  operators = same_operators titles p.rules sound.operators;
  named = same_names titles p.rules sound.named;
  windows = all_same (has_windows p) (λ r name. refl) titles p.rules ∙ sound.windows;
  observed = λ ty. sound.observed ty ∙ ap (λ b. is_event p ty && b) (sym (any_same (λ (rule : Rule). list_any (observes_type ty) rule.conditions) (λ r name. refl) titles p.rules));
  references = sound.references;
  actions = all_same has_few_actions (λ r name. refl) titles p.rules ∙ sound.actions;
  typed = all_same (rule_fits p.types) (λ r name. refl) titles p.rules ∙ sound.typed;
}
