-- What becomes of a source that lends its candidates, and of sources that lend one of them.
use Rattle.std.specs.{Prelude.{◌≡◌, ℕ, Option, Some, None}, Borrow.{Lends, LendsIf, MutBor, Fml}, Vec.{with_item}}
use Rattle.fx_base.specs.declared.value.Value.{Value}
use Rattle.join_memory.specs.{declared.candidates.Candidates.{Candidates}, contracts.candidates.Candidates.{the_row as candidates_row}}
use Rattle.candidate_source.specs.{declared.{source.Source.{Source}, sources.Sources.{Sources}}, contracts.source.Source.{the_row}}
use Rattle.candidate_source.specs.{contracts.sources.Sources.{the_row as sources_row}, Reached.{is_under}, Sources.{source_at, source_place, AreApart}}

-- the source with these candidates in place of its own
abbrev pub with_own : Source → Candidates → Source
with_own s own = record s { own = own }

-- it ends with what is left behind the reference
abbrev pub LendsCandidates : MutBor Source → MutBor Candidates → Fml
LendsCandidates s r = Lends the_row candidates_row s r (with_own s.now)

-- sources with this one in a place of their list
abbrev pub with_listed : Sources → ℕ → Source → Sources
with_listed sources at s = record sources { list = with_item sources.list at s }

-- with this one for the node in a place, and for the others that are of the same
abbrev pub with_given : Sources → Option ℕ → Source → Sources
with_given sources None s = sources
with_given sources (Some at) s = with_listed sources at s

abbrev pub with_source : Sources → ℕ → Source → Sources
with_source sources k s = with_given sources (source_place sources k) s

-- they end with what is left behind the reference, if there is one
abbrev pub LendsSource : MutBor Sources → ℕ → Option (MutBor Source) → Fml
LendsSource sources k r = LendsIf sources_row the_row sources r (with_source sources.now k) sources.now

-- Sources that are apart stay so behind the turn of the node in a place, if the other nodes are found in its source as they were.
abbrev pub LentLaw : Type 0
LentLaw = (sources : Sources) (k : ℕ) (was is : Source) → source_at sources k ≡ Some was → ((value : Value) (j : ℕ) → (j ≡ k → ⊥) → is_under is.reached value j ≡ is_under was.reached value j)
    → AreApart sources → AreApart (with_source sources k is)
