use Rattle.{std.{proofs.Common.{◌≡◌, ◌∙◌, None, ap₂, arith, sym}, specs.Str.{bytes_eq}}, desk_image.specs.Reading.{desk_decoded}}
use Rattle.desk.proofs.Starts.{by_decoded, of_others, of_same, too_long}
use Rattle.desk.proofs.start.start_of.Goals as goal

pub returns-then-bytes-gt-IMAGE_MAX-clause-refused : goal.returns-then-bytes-gt-IMAGE_MAX-clause-refused
returns-then-bytes-gt-IMAGE_MAX-clause-refused c = too_long c.args.rules.items c.args.bytes.now (omega arith)

pub returns-then-eq-clause-found : goal.returns-then-eq-clause-found
returns-then-eq-clause-found c =
    of_same c.args.rules.items c.args.bytes.now c.in-Ok.field-0.lives c.in-Ok.field-0.image (omega arith) c.in-Ok.ensures.decoded
    (ap₂ bytes_eq (sym c.as_slice.ensures) (sym c.as_slice-in-Ok.ensures.value) ∙ sym c.eq.ensures ∙ c.if-eq.true)

pub returns-in-Ok-clause-found : goal.returns-in-Ok-clause-found
returns-in-Ok-clause-found c =
    of_others c.args.rules.items c.args.bytes.now c.in-Ok.field-0.lives c.in-Ok.field-0.image (omega arith) c.in-Ok.ensures.decoded
    (ap₂ bytes_eq (sym c.as_slice.ensures) (sym c.as_slice-in-Ok.ensures.value) ∙ sym c.eq.ensures ∙ c.if-eq.false)

pub returns-in-Err-BadImage-clause-refused : goal.returns-in-Err-BadImage-clause-refused
returns-in-Err-BadImage-clause-refused c =
    let none : desk_decoded c.args.bytes.now ≡ None = rw c.in-Err-BadImage.field-0-is at c.in-Err-BadImage.ensures.fault in
    by_decoded c.args.rules.items c.args.bytes.now None (omega arith) none
