-- Certificates of lives as lines: a part as the name of its rule, its two conditions, counted from 1, the edges of its path or cycle and
-- their sum, and for a path the tail of the second condition. The event of condition k starts at the point `sk` and ends at `ek`.
use Rattle.std.specs.Prelude.{ℕ, ℤ, ◌+◌, ◌/◌, ◌%◌, ◌==◌, ◌++◌, Bool, true, false, List, [], ◌∷◌, Option, Some, None, slice_get, codes, if◌then◌else◌}
use Rattle.std.specs.{Fmt.{decimal, signed_decimal}, List.{flat_map}}
use Rattle.temporal_net.specs.{declared.edge.NetEdge.{NetEdge}, Networks.{total}}
use Rattle.rule_model.specs.declared.{condition.Condition.{Condition}, program.{Program.{Program}, Rule.{Rule}}}
use Rattle.life_meaning.specs.Reach.{Limit, finite, infinite}
use Rattle.script_run.specs.Texts.{quoted_byte, rule_name}
use Rattle.life_proof.specs.{declared.part.{Part.{Part}, Proof.{Proof}}, Good.{tail_at}}

abbrev pub point_text : ℕ → List ℕ
point_text x = (if x % 2 == 0 then codes "s" else codes "e") ++ decimal (x / 2 + 1)

abbrev pub edge_text : NetEdge → List ℕ
edge_text e = codes " " ++ point_text e.x ++ codes "-" ++ point_text e.y ++ codes "<=" ++ signed_decimal e.most

abbrev pub sum_text : ℤ → List ℕ
sum_text sum = codes " sum " ++ signed_decimal sum

abbrev pub life_limit_text : Limit → List ℕ
life_limit_text (finite n) = signed_decimal n
life_limit_text infinite = codes "infinite"

abbrev pub tail_text : Limit → List ℕ
tail_text tail = codes " tail " ++ life_limit_text tail

abbrev pub conditions_in : Option Rule → List Condition
conditions_in (Some rule) = rule.conditions
conditions_in None = []

-- the edges of a cycle, or of a path, for which the tail follows
abbrev pub shown_text : Bool → List NetEdge → Limit → List ℕ
shown_text true edges tail = codes " cycle" ++ flat_map edge_text edges ++ sum_text (total edges)
shown_text false edges tail = flat_map edge_text edges ++ sum_text (total edges) ++ tail_text tail

abbrev pub head_text : Option Rule → Part → List ℕ
head_text rule part = codes "proof \"" ++ flat_map quoted_byte (rule_name rule) ++ codes "\" " ++ decimal (part.from + 1) ++ codes " " ++ decimal (part.to + 1)

abbrev pub part_text : Program → Part → List ℕ
part_text p part =
    head_text (slice_get p.rules part.rule.0) part
    ++ shown_text part.cycle part.edges (tail_at p (slice_get (conditions_in (slice_get p.rules part.rule.0)) part.to)) ++ 10 ∷ []

abbrev pub proof_text : Program → Proof → List ℕ
proof_text p certificate = flat_map (part_text p) certificate.parts ++ codes "confirmed" ++ 10 ∷ []
