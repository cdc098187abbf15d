use Rattle.drl_scope.proofs.{Common.{◌≡◌, Option, Some, None, not, ℕ, is_some, refl, ap, sym, ◌∙◌, arith, place_of_name}, NameLemmas.{kept, added}}
use Rattle.{drl_scope.proofs.places.Places.with.Goals.{then-is_none+in_ok-copy-2+in_ok-insert, else-is_none}, std.specs.{Borrow.{Bor}, Option.{option_copied}}}
use Rattle.drl_scope.proofs.places.Places.with.Goals as goal

copied : (o : Option (Bor ℕ)) → is_some (option_copied o) ≡ is_some o
copied None = refl
copied (Some n) = refl

pub invariant_of-result : goal.invariant_of-result
invariant_of-result c = λ name.
    let names = c.self.inside.names.items in
    let found : is_some (place_of_name names c.args.name.now) ≡ not c.is_none.result =
    ap is_some (sym (c.self.invariant c.args.name.now)) ∙ ap is_some (sym c.get.ensures.value) ∙ copied c.get.result ∙ c.is_none.ensures in
    elim c.if-is_none.branch [
      | then-is_none+in_ok-copy-2+in_ok-insert w ↦ let u = w.in_ok-insert.ensures.updates.0 name in let k = added names c.args.name.now name (found ∙ ap not w.if-is_none.true) in
          grind (arith, u, k, w.first-is, c.in_ok-push.ensures.items, c.in_ok-copy.ensures, w.in_ok-copy-2.ensures, c.len-place.ensures, c.self.invariant name)
      | else-is_none w ↦ let k = kept names c.args.name.now name (found ∙ ap not w.if-is_none.false) in
          grind (arith, k, w.first-is, c.in_ok-push.ensures.items, c.in_ok-copy.ensures, c.self.invariant name)
    ]
