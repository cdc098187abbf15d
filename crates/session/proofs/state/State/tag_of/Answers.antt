use Rattle.session.proofs.Common.{sym, ◌∙◌, ap, is_of_type, newest, Contents, store_found, store_none, contents}
use Rattle.session.proofs.state.State.tag_of.Goals as goal

pub returns-in-Some-clause-some : goal.returns-in-Some-clause-some
returns-in-Some-clause-some c _ =
    let k = (contents c.self.inside.facts c.self.inside.expiries c.self.inside.clock c.self.inside.course c.self.inside.agenda c.self.inside.next_id c.self.inside.next_tag) in
    ap (λ (k : Contents). is_of_type c.args.ty.0 (newest k c.args.id.0)) (sym c.self.view_is)
    ∙ ap (is_of_type c.args.ty.0) (store_found k c.self.invariant c.args.id.0 c.in-Some.fact.now c.in-Some.ensures.some) ∙ sym c.if-eq.ensures

pub returns-in_default-clause-none : goal.returns-in_default-clause-none
returns-in_default-clause-none c _ =
    let k = (contents c.self.inside.facts c.self.inside.expiries c.self.inside.clock c.self.inside.course c.self.inside.agenda c.self.inside.next_id c.self.inside.next_tag) in
    ap (λ (k : Contents). is_of_type c.args.ty.0 (newest k c.args.id.0)) (sym c.self.view_is)
    ∙ ap (is_of_type c.args.ty.0) (store_found k c.self.invariant c.args.id.0 c.in-Some.fact.now c.in-Some.ensures.some) ∙ sym c.if-eq.ensures

pub returns-in_default-2-clause-none : goal.returns-in_default-2-clause-none
returns-in_default-2-clause-none c _ =
    let k = (contents c.self.inside.facts c.self.inside.expiries c.self.inside.clock c.self.inside.course c.self.inside.agenda c.self.inside.next_id c.self.inside.next_tag) in
    let none = simp c.in_default.is at c.get.ensures.none in
    ap (λ (k : Contents). is_of_type c.args.ty.0 (newest k c.args.id.0)) (sym c.self.view_is) ∙ ap (is_of_type c.args.ty.0) (store_none k c.args.id.0 none)
