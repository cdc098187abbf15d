-- What is answered of a written file.
use Rattle.std.specs.{Prelude.{◌≡◌, ◌<◌, ◌≤◌, ◌⊎◌, ◌++◌, length, take, drop, Some, None}, List.{flat_map}}
use Rattle.drl_grammar.specs.declared.written.{Written.{Written}, WrittenItem.{WrittenItem}}
use Rattle.subrules.specs.declared.{expanding.Expanded.{Expanded}, fault.ExpandFault.{ExpandFault, TheVariants.{Refused, NoMemory}}}
use Rattle.subrules.specs.{Hierarchy.{written_types_of}, Expanded.{plain_items, titles_in, origins_from}, Faults.{obstacle}, Front.{short_items}}

-- Each item can be written out. The front of the file is written out whole: all its items, or so many that more than 256 rules come from them. Of the items behind
-- it is written out what the checks of earlier ones ask for: so the whole file and this one have the same first failure.
pub record IsExpanded (file : Written) (e : Expanded) : Type 0 where
  pub possible : obstacle file.items ≡ None
  pub items : e.file.items ≡ flat_map (plain_items (written_types_of file.items)) (take e.front file.items) ++ flat_map (short_items (written_types_of file.items)) (drop e.front file.items)
  pub origins_of_items : e.origins ≡ origins_from (written_types_of file.items) 1 (take e.front file.items)
  pub titles_of_rules : e.titles ≡ flat_map (λ (item : WrittenItem). titles_in (written_types_of file.items) item.body) (take e.front file.items)
  pub ends : (length file.items ≤ e.front) ⊎ (256 < length e.titles)

-- this is the first item that cannot be written out, with the first code that it has
abbrev pub IsRefusal : Written → ExpandFault → Type 0
IsRefusal file (Refused found) = obstacle file.items ≡ Some found
IsRefusal file NoMemory = Unit {0}
