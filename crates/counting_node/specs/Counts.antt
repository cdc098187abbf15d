-- How many candidates a set has.
use Rattle.std.specs.Prelude.{◌≡◌, ◌==◌, ℕ, Bool, false, not, List, [], ◌∷◌, length, Option, Some, None, ℤ, pos, cond}
use Rattle.row_delta.specs.declared.row.{Named.{Named}, Row.{Row}}
use Rattle.join_tests.specs.Joins.{Look}
use Rattle.join_memory.specs.Joined.{has_name, AreDistinct}
use Rattle.counting_node.specs.declared.count.{Blockers.{Blockers}, Witnesses.{Witnesses}}

-- there is a list of the candidates of the set, each once, with this length
pub record IsNumber (set : Named → Bool) (n : ℕ) : Type 0 where
  pub names : List Named
  pub distinct : AreDistinct names
  pub all : (who : Named) → has_name names who ≡ set who
  pub count : length names ≡ n

-- 0 where this holds, and else nothing: a left row is a row of the node as it is, or it is none
abbrev pub zero_where : Bool → Option ℤ
zero_where b = cond b (Some (pos 0)) None

-- the number is that of the candidates of the set, whatever a world knows of them
abbrev pub counts : ℕ → Look → (Named → Bool) → Type 0
counts n world set = IsNumber set n

-- blockers and witnesses are both such a number, of the candidates that pass
abbrev pub counts_blockers : Blockers → Look → (Named → Bool) → Type 0
counts_blockers t = counts t.0

abbrev pub counts_witnesses : Witnesses → Look → (Named → Bool) → Type 0
counts_witnesses t = counts t.0

-- with blockers a left row is shown where there is none
abbrev pub where_unblocked : Look → Row → Blockers → Option ℤ
where_unblocked look row t = zero_where (t.0 == 0)

-- with witnesses a left row is shown where there is one
abbrev pub where_witnessed : Look → Row → Witnesses → Option ℤ
where_witnessed look row t = zero_where (not (t.0 == 0))
