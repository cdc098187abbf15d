-- Lent facts by their tags.
use Rattle.std.specs.{Prelude.{◌≡◌, ℕ, List, Option, Some}, Borrow.{Bor}, BTreeMap.{BTreeMap, get}, Option.{option_map}, Ordering.{nat_cmp}}
use Rattle.fx_base.specs.{Lists.{In}, declared.{fact.Fact.{Fact}, ids.Tag.{Tag}}}
use Rattle.image_making.specs.declared.at_hand.AtHand.{AtHand}

abbrev pub fact_in : BTreeMap ℕ (Bor Fact) → Tag → Option Fact
fact_in by_tag tag = option_map (λ (f : Bor Fact). f.now) (get nat_cmp by_tag tag.0)

-- the fact with a tag
abbrev pub fact_at : AtHand → Tag → Option Fact
fact_at held tag = fact_in held.by_tag tag

-- each of these facts is found by its tag
abbrev pub HasEach : AtHand → List Fact → Type 0
HasEach held facts = (f : Fact) → In f facts → fact_at held f.tag ≡ Some f
