use Rattle.subrules.proofs.Common.{◌∙◌, Bor, ap, sym, map, flat_map, [], option_and_then, List, ℕ, WrittenType, written_type_names, extended_by, with_names}
use Rattle.subrules.proofs.{Common.{place_of_name}, KnownLaws.{indexed}}
use Rattle.subrules.proofs.hierarchy.Hierarchy.of.Goals as goal

pub invariant_of-result : goal.invariant_of-result
invariant_of-result c =
    let names = c.in_ok-names.names in
    let once = c.in_ok-once.once in
    let named = c.in_ok-names.ensures ∙ c.deref-2.ensures.value in
    indexed (map (λ t. t.now) c.in_ok-types.types.items) names once c.in_ok-first.first.items c.in_ok-extended.extended c.in_ok-parents.parents.items
    (named ∙ c.in_ok-all.ensures ∙ ap (λ (ts : List (Bor WrittenType)). written_type_names (map (λ t. t.now) ts)) c.deref.ensures.value)
    (c.in_ok-once.ensures ∙ ap (with_names []) (c.deref-3.ensures.value ∙ sym named))
    (c.in_ok-first.ensures ∙ ap (map (place_of_name names)) c.names-2.ensures)
    (c.in_ok-extended.ensures ∙ ap (λ (ns : List (List ℕ)). flat_map (extended_by (map (λ t. t.now) c.deref-4.result.now)) ns) c.names-3.ensures
    ∙ ap (λ (ts : List (Bor WrittenType)). flat_map (extended_by (map (λ t. t.now) ts)) once) c.deref-4.ensures.value)
    (c.in_ok-parents.ensures
    ∙ ap (λ (ts : List (Bor WrittenType)). map (λ (t : WrittenType). option_and_then (place_of_name names) t.parent) (map (λ t. t.now) ts)) c.deref-5.ensures.value)
