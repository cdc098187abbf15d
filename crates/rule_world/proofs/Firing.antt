-- The first pending match.
use Rattle.rule_world.proofs.Common.{◌≡◌, List, [], ◌∷◌, true, Some, None, refl, ◌∙◌, Match, Program, first, fire_cmp, saliences, has_match, fire_total}
use Rattle.{rule_world.proofs.{Common.{fire_exact, World, pending, first_pending, first_least}, Pending.{by_fire}}, std.specs.declared.cmp.Ordering.{Ordering}}
use Rattle.{std.specs.declared.cmp.Ordering.TheVariants.{Less}, rule_model.proofs.Firsts.{AllFrom}}

-- no pending match fires before the first
pub none_before : (p : Program) (w : World) (m n : Match) → first_pending p w ≡ Some m → has_match (pending p w) n ≡ true → fire_cmp (saliences p.rules) n m ≡ Less → ⊥
unfolding AllFrom
none_before p w m n e h less =
    first_least (fire_cmp (saliences p.rules)) (fire_total (saliences p.rules)) (fire_exact (saliences p.rules)) (pending p w) m e n (by_fire (saliences p.rules) n (pending p w) ∙ h) less

nothing_first : {M : Type 0} (c : M → M → Ordering) (ms : List M) → first c ms ≡ None → ms ≡ []
nothing_first c [] e = refl
nothing_first c (m ∷ ms) e = cc

pub none_pending : (p : Program) (w : World) → first_pending p w ≡ None → pending p w ≡ []
none_pending p w e = nothing_first (fire_cmp (saliences p.rules)) (pending p w) e
