use Rattle.retention.proofs.Common.{◌≡◌, ℕ, ◌∙◌, ap, ◌||◌, ◌&&◌, cond, not, nat_eq, to_z-of_z, list_any-append, list_any, is_due, has_listed_tag, is_tag_among}
use Rattle.retention.proofs.{Common.{is_named, lingers, is_touched}, Touching.{found_in}}
use Rattle.retention.proofs.retention.Retention.past.Goals as goal

-- the tags that are looked at are those that are touched
touched_is : (c : goal.After-drop-touched-2) (tag : ℕ) → list_any (nat_eq tag) c.extend_from_slice.new.self.items ≡ is_touched c.args.now (is_tag_among c.args.left.now) c.args.self.now tag
touched_is c tag =
    let fits = c.ranges.now in
    let due : list_any (nat_eq tag) c.in_ok-touched.touched.items ≡ is_due c.args.now c.args.self.now.due tag = (simp to_z-of_z at c.in_ok-touched.ensures.ok).due tag in
    let gone : list_any (nat_eq tag) c.in_ok-no_longer_named.no_longer_named.items ≡ (lingers c.args.self.now tag && is_tag_among c.args.left.now tag) =
    ap (list_any (nat_eq tag)) c.in_ok-no_longer_named.ensures ∙ found_in (has_listed_tag c.args.self.now.lingering.keys) tag c.args.left.now in
    ap (list_any (nat_eq tag)) (simp c.deref.ensures.value at c.in_ok-extend_from_slice.ensures.items)
    ∙ list_any-append (nat_eq tag) c.in_ok-touched.touched.items c.in_ok-no_longer_named.no_longer_named.items
    ∙ ap (λ t. t || list_any (nat_eq tag) c.in_ok-no_longer_named.no_longer_named.items) due ∙ ap (λ t. is_due c.args.now c.args.self.now.due tag || t) gone

pub returns-clause-passes : goal.returns-clause-passes
returns-clause-passes c =
    let fits = c.ranges.now in
    let taken = simp to_z-of_z at c.in_ok-touched.ensures.ok in record {
      due = taken.rest;
      lingering = λ tag.
          (simp c.deref-2.ensures.value at c.in_ok-settle_all.ensures.lingering) tag
          ∙ ap (λ t. cond t (is_named c.args.agenda.now tag) (lingers c.args.self.now tag)) (touched_is c tag);
      answer = λ tag.
          (simp (c.deref-2.ensures.value, c.new-old.ensures.empty) at c.in_ok-settle_all.ensures.old) tag
          ∙ ap (λ t. t && not (is_named c.args.agenda.now tag)) (touched_is c tag);
    }
