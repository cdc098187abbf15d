use Rattle.drl_typing.proofs.Common.{◌≡◌, ◌-◌, ◌∷◌, ℕ, suc, true, List, [], Option, length, drop, nat_lt, refl, sym, ap, ◌∙◌, arith, length-drop, drop_all}
use Rattle.{drl_typing.{proofs.Common.{Kind, Sight}, specs.Kinds.{args_misfit}}, std.proofs.lemmas.Bool.Decides.{nat_tests}}
use Rattle.drl_typing.proofs.action_kinds.do_args_misfit.Goals as goal

is_positive : (n : ℕ) → true ≡ nat_lt 0 (suc n)
is_positive n = grind (arith, nat_tests)

none_left : (sight : Sight) (kinds : List (Option Kind)) → args_misfit sight kinds [] ≡ nat_lt 0 (length kinds)
unfolding args_misfit
none_left sight [] = refl
none_left sight (k ∷ kinds) = is_positive (length kinds)

kinds_left : (m n k : ℕ) → k ≡ m → nat_lt 0 (n - k) ≡ nat_lt m n
kinds_left m n k e = grind (arith, nat_tests)

pub returns : goal.returns
returns c =
    let kinds = c.args.kinds.now in
    let args = c.args.args.now in
    let sight = c.args.place.now.sight in
    let k = c.loop-k.k in
    sym (kinds_left (length args) (length kinds) k (omega arith))
    ∙ sym (none_left sight (drop k kinds) ∙ ap (λ n. nat_lt 0 n) (length-drop k kinds))
    ∙ sym (ap (args_misfit sight (drop k kinds)) (drop_all k args (omega arith)))
    ∙ c.loop-k.invariant.same
