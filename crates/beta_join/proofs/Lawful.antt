-- The laws of steps and of forgetting, from what the node tells of what it keeps.
use Rattle.beta_join.proofs.Common.{◌≡◌, ◌∙◌, sym, ap, refl, subst, Bool, true, false, not, ◌&&◌, ◌||◌, Pattern, made, joined, difference_alike}
use Rattle.{beta_join.specs.Laws.{JoinStepLaw, JoinForgetLaw}, join_memory.specs.Standing.{clean, cleaned, either, PassesAlike, StandsFor}}
use Rattle.join_memory.proofs.{Worlds.{made_clean, clean_either}, Steps.{steps_law, forgets_law}}

pub step_law : (S : Type 0) → JoinStepLaw S
step_law S m n look pass rows rows_now names names_now forgotten left right delta stands alike alike_now rows_lead names_lead changed is =
    let now : StandsFor n look rows_now names_now forgotten = steps_law S m n look rows rows_now names names_now forgotten left right stands rows_lead names_lead changed in
    let alike_too : PassesAlike n.pattern look pass rows_now names_now forgotten = subst (λ (p : Pattern). PassesAlike p look pass rows_now names_now forgotten) (sym changed.pattern) alike_now in (
      now,
      difference_alike (made m look) (cleaned (joined pass rows names) forgotten) (made n look) (cleaned (joined pass rows_now names_now) forgotten) delta
          (made_clean m look pass rows names forgotten stands alike) (made_clean n look pass rows_now names_now forgotten now alike_too) is,
    )

went : (a k o e : Bool) → e ≡ (k && o) → (a && k) ≡ true → ((a && k) && not (a && e)) ≡ not o
went true true o e is h = ap not is
went true false o e is h = let f : false ≡ true = h in cc
went false k o e is h = let f : false ≡ true = h in cc

less_row : (l k o e : Bool) → e ≡ (k && o) → (l && e) ≡ true → (l && k) ≡ true
less_row true true o e is h = refl
less_row true false o e is h = sym is ∙ h
less_row false k o e is h = h

less_name : (r f o : Bool) → (r && not (f || o)) ≡ true → (r && not f) ≡ true
less_name true true o h = h
less_name true false o h = refl
less_name false f o h = h

pub forget_law : (S : Type 0) → JoinForgetLaw S
forget_law S m n look pass rows names forgotten old dropped gone stands alike drops keeps gone_is =
    let now : StandsFor n look rows names (either forgotten old) = forgets_law S m n look rows names forgotten old dropped stands drops keeps in
    let alike_now : PassesAlike m.pattern look pass rows names (either forgotten old) =
    λ row who e f. alike row who (less_row (rows row) (clean forgotten row) (clean old row) _ (clean_either forgotten old row.facts) e) (less_name (names who) (forgotten who) (old who) f) in
    let alike_too : PassesAlike n.pattern look pass rows names (either forgotten old) = subst (λ (p : Pattern). PassesAlike p look pass rows names (either forgotten old)) (sym keeps.pattern) alike_now in (
      now,
      λ r e. gone_is r
          ∙ ap (λ b. b && not (made n look r)) (made_clean m look pass rows names forgotten stands alike r)
          ∙ ap (λ b. (joined pass rows names r && clean forgotten r) && not b) (made_clean n look pass rows names (either forgotten old) now alike_too r)
          ∙ went (joined pass rows names r) (clean forgotten r) (clean old r) (clean (either forgotten old) r) (clean_either forgotten old r.facts) e,
    )
