use Rattle.{expiry_infer.proofs.Common.{◌≡◌, ℕ, List, length, Some, sym, ◌∙◌, ap, arith, slice_get, Life, TypeInfo}, life_meaning.proofs.Safe.{lives_are_safe}}
use Rattle.expiry_infer.proofs.lifetimes.lives.Goals as goal

pub returns-clause-safe : goal.returns-clause-safe
returns-clause-safe c =
    let at_end : c.loop-place.place ≡ length c.as_slice-types.result.now = omega (arith, c.loop-place-test.false, c.loop-place.auto.place-end) in
    let many : length c.from_vec.result ≡ length c.args.program.now.types =
    ap (λ (lives : List Life). length lives) c.from_vec.ensures ∙ c.loop-place.invariant.each ∙ at_end ∙ ap (λ (types : List TypeInfo). length types) c.as_slice-types.ensures in
    let listed : (ty : ℕ) (life : Life) → slice_get c.from_vec.result ty ≡ Some life → slice_get c.loop-place.lives.items ty ≡ Some life =
    λ ty life at. ap (λ (lives : List Life). slice_get lives ty) (sym c.from_vec.ensures) ∙ at in
    lives_are_safe c.args.program.now (record { lives = c.from_vec.result })
    (record { as_many = many; each = λ ty life at. c.loop-place.invariant.lives ty life (listed ty life at) })
    (λ ty life at. c.loop-place.invariant.short ty life (listed ty life at))
