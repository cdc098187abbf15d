-- What the programs' commands make of words, by what clap says of a parse.
use Rattle.command_words.proofs.Common.{◌≡◌, true, List, [], ◌∷◌, Some, None, refl, App, IsAmong, Kinds, Row, Text, fault_of, is_simple, is_simple_and_free}
use Rattle.command_words.{proofs.Common.{matches_of, ErrorKind}, specs.Command.{desk_app, replay_app, without_fault, matched_by}}
use Rattle.clap.proofs.OnLiterals.{clap_on_literals}

pub simple : is_simple replay_app ≡ true
unfolding clap_on_literals replay_app
simple = refl

pub simple_and_free : is_simple_and_free replay_app ≡ true
unfolding clap_on_literals replay_app
simple_and_free = refl

pub desk_simple : is_simple desk_app ≡ true
unfolding clap_on_literals desk_app
desk_simple = refl

pub desk_simple_and_free : is_simple_and_free desk_app ≡ true
unfolding clap_on_literals desk_app
desk_simple_and_free = refl

pub taken : (app : App) (words : List Text) (rows : List Row) → fault_of app words ≡ [] → rows ≡ matches_of app words → Some rows ≡ matched_by app words
unfolding matched_by
taken app words rows e found = rw (e, found) refl

among_faults : (kinds : Kinds) (rows : List Row) (kind : ErrorKind) → IsAmong kind kinds → None ≡ without_fault kinds rows
among_faults [] rows kind among = absurd among
among_faults (k ∷ kinds) rows kind among = refl

pub refused : (app : App) (words : List Text) (kind : ErrorKind) → IsAmong kind (fault_of app words) → None ≡ matched_by app words
unfolding matched_by
refused app words kind among = among_faults (fault_of app words) (matches_of app words) kind among
