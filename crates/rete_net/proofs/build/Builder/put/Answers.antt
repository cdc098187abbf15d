use Rattle.rete_net.proofs.Common.{◌∙◌, inl, inr, sym, ap, refl, subst, List, [], ◌∷◌, ◌++◌, append-nil, slice_get, Condition, Origin, NetNode, AreGrown}
use Rattle.{rete_net.proofs.Growing.{found_node, grown_more, no_node}, fx_base.proofs.Sequences.{get-last}}
use Rattle.rete_net.proofs.build.Builder.put.Goals as goal

pub returns-in-Some : goal.returns-in-Some
returns-in-Some c all front grown behind is_front window =
    let p = c.args.program.now in
    let nodes = c.args.self.now.nodes.items in
    let origins = c.args.self.now.origins.items in
    let found = c.in-Some.ensures.found in (
      [],
      subst (AreGrown p nodes origins) (sym (append-nil all)) grown,
      ap (λ (xs : List (List Condition)). slice_get xs c.in-Some.place) (append-nil all)
          ∙ found_node p nodes origins all grown c.args.parent front c.args.condition.now behind c.in-Some.place found.0
          (ap (λ (os : List Origin). slice_get os c.in-Some.place) (sym c.deref.ensures.value) ∙ found.1) found.2 found.3,
      inl (refl, refl),
    )

pub returns-in_ok-push-in-None-3 : goal.returns-in_ok-push-in-None-3
returns-in_ok-push-in-None-3 c all front grown behind is_front window =
    let p = c.args.program.now in
    let nodes = c.args.self.now.nodes.items in
    let origins = c.args.self.now.origins.items in
    let node = c.in_ok-node-in-None.node in
    let made = c.in_ok-node-in-None.ensures in
    let own : List Condition = front ++ c.args.condition.now ∷ [] in
    let origin : Origin = record { parent = c.args.parent; condition = c.args.condition } in
    let more : AreGrown p (nodes ++ node ∷ []) (origins ++ origin ∷ []) (all ++ own ∷ []) =
    grown_more p nodes origins all node origin front c.args.condition.now grown behind is_front window
    (λ k o e. c.in-None.ensures.missing refl k o (ap (λ (os : List Origin). slice_get os k) c.deref.ensures.value ∙ e))
    (record { parent = made.parent; condition = made.condition }) refl made.stands in (
      own ∷ [],
      subst (λ (ns : List NetNode). AreGrown p ns c.push-in-None-2.new.self.items (all ++ own ∷ [])) (sym c.in_ok-push-in-None.ensures.items)
          (subst (λ (os : List Origin). AreGrown p (nodes ++ node ∷ []) os (all ++ own ∷ [])) (sym c.in_ok-push-in-None-3.ensures.items) more),
      ap (slice_get (all ++ own ∷ [])) (c.len-place.ensures ∙ c.args.self.now.nodes.ok.0 ∙ grown.built.length) ∙ get-last all own,
      inr (
        refl,
        c.in_ok-push-in-None-2.ensures.items,
        no_node p nodes origins all grown c.args.parent front c.args.condition.now behind (λ k o e. c.in-None.ensures.missing refl k o (ap (λ (os : List Origin). slice_get os k) c.deref.ensures.value ∙ e)),
      ),
    )
