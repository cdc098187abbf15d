-- One more type and its count.
use Rattle.session_model.proofs.Common.{ℕ, List, [], ◌∷◌, ◌++◌, TypeId, HeldFacts, CountsType, AreCounts}

pub one_more_count : (held : HeldFacts) (types : List TypeId) (counts : List ℕ) (ty : TypeId) (count : ℕ) → AreCounts held types counts → CountsType held ty.0 count
    → AreCounts held (types ++ ty ∷ []) (counts ++ count ∷ [])
one_more_count held [] [] ty count are is = (is, tt)
one_more_count held [] (c ∷ counts) ty count are is = absurd are
one_more_count held (t ∷ types) [] ty count are is = absurd are
one_more_count held (t ∷ types) (c ∷ counts) ty count are is = (are.0, one_more_count held types counts ty count are.1 is)
