use Rattle.{std.{proofs.Common.{Err, List, ℕ, ap, arith, sym, ◌∙◌}, specs.Str.{bytes_eq}}, fed_desk.specs.Openings.{fed_start_behind}}
use Rattle.replay.proofs.ImagesRead.{bad_image_is, image_is, other_rules_is, too_long_is}
use Rattle.fed_desk.proofs.opening.image_of.Goals as goal

pub returns-then-bytes-gt-IMAGE_MAX-clause-refused : goal.returns-then-bytes-gt-IMAGE_MAX-clause-refused
returns-then-bytes-gt-IMAGE_MAX-clause-refused c = ap fed_start_behind (too_long_is c.args.rules.now c.args.bytes.now (omega arith))

pub returns-then-eq-clause-found : goal.returns-then-eq-clause-found
returns-then-eq-clause-found c =
    ap fed_start_behind (image_is c.args.rules.now c.args.bytes.now c.in-Ok.image (omega arith) c.in-Ok.ensures.found
    (ap (λ (rules : List ℕ). bytes_eq rules c.args.rules.now) (sym c.as_slice.ensures) ∙ sym c.eq.ensures ∙ c.if-eq.true))

pub returns-else-eq-clause-refused : goal.returns-else-eq-clause-refused
returns-else-eq-clause-refused c =
    ap fed_start_behind (other_rules_is c.args.rules.now c.args.bytes.now c.in-Ok.image (omega arith) c.in-Ok.ensures.found
    (ap (λ (rules : List ℕ). bytes_eq rules c.args.rules.now) (sym c.as_slice.ensures) ∙ sym c.eq.ensures ∙ c.if-eq.false))

pub returns-in-Err-BadImage-clause-refused : goal.returns-in-Err-BadImage-clause-refused
returns-in-Err-BadImage-clause-refused c =
    ap fed_start_behind (bad_image_is c.args.rules.now c.args.bytes.now (omega arith) (λ i. omega (arith, c.type_inv.bytes i)) (c.in-Err-BadImage.ensures.bad (ap Err c.in-Err-BadImage.field-0-is)))
