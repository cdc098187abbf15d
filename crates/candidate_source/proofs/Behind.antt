-- A candidate is handed to nodes in several places, each once.
use Rattle.candidate_source.proofs.Common.{◌∙◌, ap, sym, ◌≡◌, ℕ, List, [], ◌++◌, Bool, true, false, cond, ◌&&◌, ◌||◌, append-nil, BTreeMap, Named, Handed}
use Rattle.candidate_source.proofs.Common.{Turned, went, came, gone_at, come_at, IsHandedTo}

-- what is behind a list, if one of two tests holds, where not both do
either_behind : {A : Type 0} (xs ys : List A) (a b : Bool) → (a && b) ≡ false → (xs ++ cond a ys []) ++ cond b ys [] ≡ xs ++ cond (a || b) ys []
either_behind xs ys true true not_both = let no : true ≡ false = not_both in cc
either_behind xs ys true false not_both = append-nil (xs ++ ys)
either_behind xs ys false b not_both = ap (λ zs. zs ++ cond b ys []) (append-nil xs)

-- to none
pub handed_to_none : (turned : Turned) (handed : BTreeMap ℕ Handed) → IsHandedTo turned (λ k. false) handed handed
handed_to_none turned handed = record { gone = λ k. sym (append-nil _); come = λ k. sym (append-nil _) }

-- to the same
pub handed_alike : (turned : Turned) (places others : ℕ → Bool) (before after : BTreeMap ℕ Handed) → ((k : ℕ) → places k ≡ others k) → IsHandedTo turned places before after → IsHandedTo turned others before after
handed_alike turned places others before after alike h = record {
  gone = λ k. h.gone k ∙ ap (λ b. gone_at before k ++ cond b (went turned) []) (alike k);
  come = λ k. h.come k ∙ ap (λ b. come_at before k ++ cond b (came turned) []) (alike k);
}

-- to some and then to others
pub handed_then : (turned : Turned) (places others all : ℕ → Bool) (before between after : BTreeMap ℕ Handed) → ((k : ℕ) → (places k && others k) ≡ false) → ((k : ℕ) → (places k || others k) ≡ all k)
    → IsHandedTo turned places before between → IsHandedTo turned others between after → IsHandedTo turned all before after
handed_then turned places others all before between after not_both are h j = record {
  gone = λ k.
      j.gone k ∙ ap (λ (xs : List Named). xs ++ cond (others k) (went turned) []) (h.gone k)
      ∙ either_behind (gone_at before k) (went turned) (places k) (others k) (not_both k) ∙ ap (λ b. gone_at before k ++ cond b (went turned) []) (are k);
  come = λ k.
      j.come k ∙ ap (λ (xs : List Named). xs ++ cond (others k) (came turned) []) (h.come k)
      ∙ either_behind (come_at before k) (came turned) (places k) (others k) (not_both k) ∙ ap (λ b. come_at before k ++ cond b (came turned) []) (are k);
}

-- to nobody, where the candidate neither went nor came
pub none_behind : {A : Type 0} (xs : List A) (b : Bool) → xs ++ cond b [] [] ≡ xs
none_behind xs true = append-nil xs
none_behind xs false = append-nil xs
