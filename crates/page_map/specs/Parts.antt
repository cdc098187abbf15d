-- The two parts of a map: its run, and its tree.
use Rattle.std.specs.{Prelude.{ℕ}, BTreeMap.{BTreeMap}}
use Rattle.page_map.specs.{declared.run.Run.{Run}, Pages.{Directory, NumberMap}, Rows.{AreDirectoriesApart, held}}

-- run and tree fit each other
abbrev pub AreParts : Run → BTreeMap ℕ Directory → Type 0
AreParts run tree = AreDirectoriesApart run.first run.directories.items tree.entries

-- the map that they hold
abbrev pub map_of : Run → BTreeMap ℕ Directory → NumberMap
map_of run tree = held run.first run.directories.items tree.entries
