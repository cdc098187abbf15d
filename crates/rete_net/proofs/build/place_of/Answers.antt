use Rattle.rete_net.proofs.Common.{◌≡◌, ◌∙◌, ◌<◌, sym, ap, inl, inr, true, false, Some, slice_get, length, arith, slice_get_within, slice_get-get_or, Origin}
use Rattle.fx_base.proofs.Orders.{below_or_last}
use Rattle.rete_net.proofs.build.place_of.Goals as goal

pub loop-place-preserved : goal.loop-place-preserved
loop-place-preserved c k origin lt e same own =
    elim (below_or_last k c.loop-place.place lt) [
      | inl below ↦ c.loop-place.invariant k origin below e same own
      | inr at ↦
          let x = c.index-origins-place.result in
          let found : slice_get c.args.origins.now c.loop-place.place ≡ Some c.index-origins-place.result =
          slice_get-get_or c.args.origins.now c.loop-place.place x c.loop-place-test.true ∙ ap Some (sym c.index-origins-place.is) in
          let both : Some c.index-origins-place.result ≡ Some origin = sym found ∙ ap (slice_get c.args.origins.now) (sym at) ∙ e in
          let is : c.index-origins-place.result ≡ origin = cc in
          let told : c.names.result ≡ true = c.names.ensures.1 (ap (λ (o : Origin). o.parent) is ∙ same, ap (λ (o : Origin). o.condition.now) is ∙ own) in
          let no : true ≡ false = sym told ∙ c.if-names.false in
          absurd (cc)
    ]

pub returns-clause-missing : goal.returns-clause-missing
returns-clause-missing c none k origin e same own =
    let within : k < length c.args.origins.now = slice_get_within c.args.origins.now k origin e in
    c.loop-place.invariant k origin (omega arith) e same own
