-- What the lines of a script answer, as values in JSON, each with the number of its line.
use Rattle.std.specs.Prelude.{ℕ, ℤ, Bool, true, List, [], ◌∷◌, slice_get, codes}
use Rattle.fx_base.specs.declared.{fact.Fact.{Fact}, ids.{FactId.{FactId}, RuleId.{RuleId}, TypeId.{TypeId}}}
use Rattle.rule_model.specs.declared.program.{EntryInfo.{EntryInfo}, Program.{Program}, TypeInfo.{TypeInfo}}
use Rattle.rule_world.specs.CodeNames.{code_name}
use Rattle.answer_lines.specs.declared.lines.OutLine.{OutLine, TheVariants.{New, Fire, Fault, Inserted, Modified, Retracted, FiredFor}}
use Rattle.drl_names.specs.declared.rule_names.RuleNames.{RuleNames}
use Rattle.serde_json.specs.Data.{Data, boolean, string, object, Members, no_members, put}
use Rattle.answer_json.specs.{Objects.{whole, signed, object_of}, Facts.{type_data, fact_data}, Firings.{rule_data, firing_data}}
use Rattle.answer_json.specs.declared.counted.Counted.{Counted}

-- {"fault":CODE,"line":n}: the line, or an action of a firing, was faulty
abbrev pub fault_data : ℕ → List ℕ → Data
fault_data number code = object_of ((codes "fault", string code) ∷ (codes "line", whole number) ∷ [])

-- {"line":n,WORD:id,"type":T}: what a fact has come to, without its fields
unfoldable pub id_data : Program → ℕ → List ℕ → FactId → TypeId → Data
id_data p number word id ty = object_of ((codes "line", whole number) ∷ (word, whole id.0) ∷ (codes "type", type_data p ty) ∷ [])

-- {"fire":R,"line":n}: a firing, without what its conditions bound
unfoldable pub rule_fired : Program → ℕ → RuleId → Data
rule_fired p number rule = object_of ((codes "fire", rule_data p rule) ∷ (codes "line", whole number) ∷ [])

-- a line that the engine answers; of a brief one what it says
unfoldable pub line_data : Program → List RuleNames → ℕ → OutLine → Data
line_data p names number (Inserted f) = fact_data p number (codes "new") f
line_data p names number (Modified f) = fact_data p number (codes "modified") f
line_data p names number (Retracted id ty) = id_data p number (codes "retracted") id ty
line_data p names number (FiredFor rule clock facts values) = firing_data p (slice_get names rule.0) number rule clock facts values
line_data p names number (Fault code) = fault_data number (code_name code)
line_data p names number (New id ty) = id_data p number (codes "new") id ty
line_data p names number (Fire rule cells) = rule_fired p number rule

-- {"count":c,"held":T,"line":n}: so many events of a type of this name are kept
abbrev pub held_data : ℕ → List ℕ → ℕ → Data
held_data number name count = object_of ((codes "count", whole count) ∷ (codes "held", string name) ∷ (codes "line", whole number) ∷ [])

-- {"limit":each,"line":n}: the limit of firings ended the line
abbrev pub limit_data : ℕ → ℕ → Data
limit_data number each = object_of ((codes "limit", whole each) ∷ (codes "line", whole number) ∷ [])

-- {"line":n,"saved":true}: the image of the run is in its file
abbrev pub saved_data : ℕ → Data
saved_data number = object_of ((codes "line", whole number) ∷ (codes "saved", boolean true) ∷ [])

-- {"fact":id,"fields":{..},"line":n,"type":T}: a fact is kept
abbrev pub kept_data : Program → ℕ → Fact → Data
kept_data p number f = fact_data p number (codes "fact") f

-- {"done":n}: all is told that the line answers
abbrev pub done_data : ℕ → Data
done_data number = object_of ((codes "done", whole number) ∷ [])

-- {"done":n,"fired":k,"pending":b}: the same of a fire command, which made k firings; whether a match is pending behind it
abbrev pub fired_data : ℕ → ℕ → Bool → Data
fired_data number fired pending = object_of ((codes "done", whole number) ∷ (codes "fired", whole fired) ∷ (codes "pending", boolean pending) ∷ [])

-- ---- counts

-- numbers under the names of types
abbrev pub with_counts : Members → List TypeInfo → List ℕ → Members
with_counts members [] numbers = members
with_counts members (ty ∷ types) [] = members
with_counts members (ty ∷ types) (n ∷ numbers) = with_counts (put ty.name (whole n) members) types numbers

-- moments under the names of entry points
abbrev pub with_floors : Members → List EntryInfo → List ℤ → Members
with_floors members [] floors = members
with_floors members (entry ∷ entries) [] = members
with_floors members (entry ∷ entries) (z ∷ floors) = with_floors (put entry.name (signed z) members) entries floors

-- {"clock":ms,"counts":{T:k,..},"firings":f,"floors":{E:ms,..},"line":n,"pending":m}
unfoldable pub counts_data : Program → ℕ → Counted → Data
counts_data p number counted = object_of (
    (codes "clock", signed counted.clock)
    ∷ (codes "counts", object (with_counts no_members p.types counted.facts))
    ∷ (codes "firings", whole counted.firings)
    ∷ (codes "floors", object (with_floors no_members p.entries counted.floors))
    ∷ (codes "line", whole number)
    ∷ (codes "pending", whole counted.pending)
    ∷ [])
