use Rattle.session.proofs.Common.{◌≡◌, Some, None, sym, ◌∙◌, ap, if◌then◌else◌, EventFixed, ReferenceFixed, is_reference, modify_fault, newest, Contents}
use Rattle.session.proofs.Common.{store_found, store_none, contents}
use Rattle.session.proofs.state.State.modifiable.Goals as goal

pub returns-in-Some-clause-fault : goal.returns-in-Some-clause-fault
returns-in-Some-clause-fault c =
    let k = (contents c.self.inside.facts c.self.inside.expiries c.self.inside.clock c.self.inside.course c.self.inside.agenda c.self.inside.next_id c.self.inside.next_tag) in
    let is : newest c.args.self.now c.args.id.0 ≡ Some c.in-Some.fact.now = ap (λ (k : Contents). newest k c.args.id.0) (sym c.self.view_is) ∙ store_found k c.self.invariant c.args.id.0 c.in-Some.fact.now c.in-Some.ensures.some in
    ap (modify_fault c.args.program.now) is
    ∙ ap (λ b. if b then Some EventFixed else if is_reference c.args.program.now c.in-Some.fact.now.ty.0 then Some ReferenceFixed else None) (sym c.if-is_event.ensures)

pub returns-in-Some-2-clause-fault : goal.returns-in-Some-2-clause-fault
returns-in-Some-2-clause-fault c =
    let k = (contents c.self.inside.facts c.self.inside.expiries c.self.inside.clock c.self.inside.course c.self.inside.agenda c.self.inside.next_id c.self.inside.next_tag) in
    let is : newest c.args.self.now c.args.id.0 ≡ Some c.in-Some.fact.now = ap (λ (k : Contents). newest k c.args.id.0) (sym c.self.view_is) ∙ store_found k c.self.invariant c.args.id.0 c.in-Some.fact.now c.in-Some.ensures.some in
    ap (modify_fault c.args.program.now) is
    ∙ ap (λ b. if b then Some EventFixed else if is_reference c.args.program.now c.in-Some.fact.now.ty.0 then Some ReferenceFixed else None) (sym c.if-is_event.ensures)
    ∙ ap (λ b. if b then Some ReferenceFixed else None) (sym c.if-is_reference.ensures)

pub returns-in-Some-3-clause-none : goal.returns-in-Some-3-clause-none
returns-in-Some-3-clause-none c =
    let k = (contents c.self.inside.facts c.self.inside.expiries c.self.inside.clock c.self.inside.course c.self.inside.agenda c.self.inside.next_id c.self.inside.next_tag) in
    let is : newest c.args.self.now c.args.id.0 ≡ Some c.in-Some.fact.now = ap (λ (k : Contents). newest k c.args.id.0) (sym c.self.view_is) ∙ store_found k c.self.invariant c.args.id.0 c.in-Some.fact.now c.in-Some.ensures.some in
    ap (modify_fault c.args.program.now) is
    ∙ ap (λ b. if b then Some EventFixed else if is_reference c.args.program.now c.in-Some.fact.now.ty.0 then Some ReferenceFixed else None) (sym c.if-is_event.ensures)
    ∙ ap (λ b. if b then Some ReferenceFixed else None) (sym c.if-is_reference.ensures)

pub returns-in-None-clause-fault : goal.returns-in-None-clause-fault
returns-in-None-clause-fault c =
    let k = (contents c.self.inside.facts c.self.inside.expiries c.self.inside.clock c.self.inside.course c.self.inside.agenda c.self.inside.next_id c.self.inside.next_tag) in
    ap (λ (k : Contents). modify_fault c.args.program.now (newest k c.args.id.0)) (sym c.self.view_is) ∙ ap (modify_fault c.args.program.now) (store_none k c.args.id.0 c.in-None.ensures.none)
