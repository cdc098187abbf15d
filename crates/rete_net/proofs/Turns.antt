-- One node after the others.
use Rattle.rete_net.proofs.Common.{◌≡◌, ◌∙◌, sym, ap, subst, ℕ, ◌<◌, ◌^◌, List, length, Option, Some, slice_get, Fact, Delta, Program, Look, RuleChange}
use Rattle.rete_net.proofs.Common.{NetNode, Index, Answered, given, some_answer, answer_in, AreRuled, no_change, delta_at, changes_from, NetStep, HasAnswered}
use Rattle.{rete_net.proofs.Common.{IsWired, Moment}, candidate_source.specs.declared.{source.Source.{Source}, sources.Sources.{Sources}}}

-- ---- the step of a network, out of that of its nodes

-- the nodes answered, and the changes are what the last nodes of the rules answered
pub net_step : (p : Program) (look : Look) (gone : List Fact) (come : Option Fact) (moment : Moment) (first : Delta) (sources : Sources) (was is : ℕ → Option Source) (before after : List NetNode) (ends : List ℕ) (index : Index) (a : Answered Delta) (answers : List RuleChange) (lent_ends : List ℕ)
    → IsWired sources before ends index → length after ≡ length before → lent_ends ≡ ends → HasAnswered p look gone come moment first was is before after ends a
    → (length lent_ends < 2 ^ 16 → (first : Delta) (deltas : List Delta) → a.none ≡ no_change → AreRuled a lent_ends → ((rule end : ℕ) → slice_get lent_ends rule ≡ Some end → delta_at first deltas end ≡ answer_in a end) → answers ≡ changes_from first deltas 0 lent_ends)
    → NetStep p look gone come moment first was is before after ends answers
net_step p look gone come moment first sources was is before after ends index a answers lent_ends wired many same answered told = record {
  deltas = answered.deltas;
  nodes = many;
  stepped = answered.stepped;
  answers = λ few. subst
      (λ (es : List ℕ). length es < 2 ^ 16 → (first : Delta) (deltas : List Delta) → a.none ≡ no_change → AreRuled a es → ((rule end : ℕ) → slice_get es rule ≡ Some end → delta_at first deltas end ≡ answer_in a end) → answers ≡ changes_from first deltas 0 es)
      same told few
      first answered.deltas answered.none answered.ruled (λ rule end e. answered.known end (wired.lasts rule end e) ∙ ap (λ none. given none (some_answer a end)) (sym answered.none));
}

-- a step by the same first difference
pub settled : (p : Program) (look : Look) (gone : List Fact) (come : Option Fact) (moment : Moment) (given first : Delta) (was is : ℕ → Option Source) (before after : List NetNode) (ends : List ℕ) (answers : List RuleChange) → given ≡ first
    → NetStep p look gone come moment given was is before after ends answers → NetStep p look gone come moment first was is before after ends answers
settled p look gone come moment given first was is before after ends answers f step = subst (λ (d : Delta). NetStep p look gone come moment d was is before after ends answers) f step
