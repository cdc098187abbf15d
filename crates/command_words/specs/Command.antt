-- The programs' commands, and what clap makes of words by them.
use Rattle.std.specs.Prelude.{true, List, [], ◌∷◌, Option, Some, None, codes}
use Rattle.clap.specs.{Simple.{on_top}, Words.{App, Kinds, Row, Rule, Text, fault_of, matches_of, new_app, new_rule, with_rule}}
use Rattle.clap.specs.declared.builder.action.ArgAction.TheVariants.{Set, SetTrue}

-- an option that is not required and has one value: `--NAME VALUE` or `--NAME=VALUE`
abbrev pub option_rule : Text → Rule
option_rule name = record (new_rule name) { long = Some name; action = Some Set }

-- an option that is not required and has no value: `--NAME`
abbrev pub flag_rule : Text → Rule
flag_rule name = record (new_rule name) { long = Some name; action = Some SetTrue }

-- a positional argument that is not required and has one value
abbrev pub positional_rule : Text → Rule
positional_rule name = record (new_rule name) { action = Some Set }

-- `replay [--mode MODE] [--limit LIMIT] [--gen GEN] [--resume RESUME] [RULES]`, of words that do not begin with the program's own name
unfoldable pub replay_app : App
replay_app =
    with_rule (with_rule (with_rule (with_rule (with_rule (on_top (λ s. record s { no_binary_name = true }) (new_app (codes "replay")))
    (option_rule (codes "mode")))
    (option_rule (codes "limit")))
    (option_rule (codes "gen")))
    (option_rule (codes "resume")))
    (positional_rule (codes "rules"))

-- `desk [--limit LIMIT] [--image IMAGE] [--keep RULES2] [--text] [--help] [--version] [RULES]`
unfoldable pub desk_app : App
desk_app =
    with_rule (with_rule (with_rule (with_rule (with_rule (with_rule (with_rule
    (on_top (λ s. record s { no_binary_name = true; disable_help_flag = true }) (new_app (codes "desk")))
    (option_rule (codes "limit")))
    (option_rule (codes "image")))
    (option_rule (codes "keep")))
    (flag_rule (codes "text")))
    (flag_rule (codes "help")))
    (flag_rule (codes "version")))
    (positional_rule (codes "rules"))

-- nothing where there is a fault
abbrev pub without_fault : Kinds → List Row → Option (List Row)
without_fault [] rows = Some rows
without_fault (kind ∷ kinds) rows = None

-- what clap makes of the words by a command, or nothing where it finds a fault in them
unfoldable pub matched_by : App → List Text → Option (List Row)
matched_by app words = without_fault (fault_of app words) (matches_of app words)

abbrev pub matched : List Text → Option (List Row)
matched = matched_by replay_app
