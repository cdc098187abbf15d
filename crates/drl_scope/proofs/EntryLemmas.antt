-- Known names, and behind them those of two lists, or of the items of a file.
use Rattle.drl_scope.proofs.Common.{◌≡◌, ◌+◌, ◌<◌, ◌++◌, ◌∷◌, ℕ, suc, List, [], length, get_or, drop, drop-cons, add-one, refl, sym, ap, ◌∙◌, flat_map, Item}
use Rattle.drl_scope.{proofs.Common.{entries_named, with_entry_name}, specs.EntryPoints.{with_names}}

-- those of two lists are those of the first, and behind them those of the second
pub with_both : (known a b : List (List ℕ)) → with_names known (a ++ b) ≡ with_names (with_names known a) b
unfolding with_names
with_both known [] b = refl
with_both known (name ∷ a) b = with_both (with_entry_name known name) a b

abbrev pub named_in : Item → List (List ℕ)
named_in item = entries_named item.body

-- one item more
pub with_item : (known : List (List ℕ)) (items : List Item) (k : ℕ) (item : Item) → k < length items → item ≡ get_or items k item
    → with_names (with_names known (entries_named item.body)) (flat_map named_in (drop (k + 1) items)) ≡ with_names known (flat_map named_in (drop k items))
with_item known items k item lt is =
    let rest = flat_map named_in (drop (suc k) items) in
    let e : drop k items ≡ item ∷ drop (suc k) items = drop-cons items k item lt ∙ ap (λ z. z ∷ drop (suc k) items) (sym is) in
    rw (add-one, e) (sym (with_both known (named_in item) rest))
