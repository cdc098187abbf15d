use Rattle.rete_net.proofs.Common.{◌≡◌, ◌∙◌, sym, ap, subst, true, false, inl, inr, ◌<◌, length, arith, take, get_or, [], ◌∷◌, take_more, take_all, In, Named}
use Rattle.{rete_net.proofs.Common.{name_in, is_listed}, fx_base.proofs.Sequences.{In-append}}
use Rattle.rete_net.proofs.forgetting.with_old.Goals as goal

abbrev no_name : Named
no_name = record { id = record { 0 = 0 }; tag = record { 0 = 0 } }

the_one : (who other : Named) → In who (other ∷ []) → who ≡ other
the_one who other (inl e) = e
the_one who other (inr i) = absurd i

pub loop-named-preserved : goal.loop-named-preserved
loop-named-preserved g c =
    let was = c.loop-named.invariant in
    let told = c.in_ok-put_old.ensures in
    let old = c.args.old.now in
    let i = c.loop-named.named-index in
    let within : c.loop-named.named-index < length c.args.old.now = omega arith in
    record {
      put = told.put was.put;
      seen = λ who f there e.
          elim (In-append who (take i old) (get_or old i no_name ∷ []) (subst (In who) (take_more old i no_name within) there)) [
            | inl before ↦ told.kept f.ty.0 (was.seen who f before e)
            | inr here ↦ told.there f (ap (λ (w : Named). g.F.Facts.map c.args.facts.now w.tag) (sym (the_one who (get_or old i no_name) here)) ∙ e)
          ];
    }

pub returns : goal.returns
returns g c k n found out who f is_old e same =
    let was = c.loop-named.invariant in
    let old = c.args.old.now in
    let there : In who (take c.loop-named.named-index c.args.old.now) = subst (In who) (sym (take_all c.loop-named.named-index old (omega arith))) (name_in who old is_old) in
    let due = was.put f.ty.0 k (was.seen who f there e) (ap (λ ty. is_listed c.args.index.now.by_type ty k) (sym same) ∙ found.typed) in
    let no : true ≡ false = sym due ∙ out in
    absurd (cc)
