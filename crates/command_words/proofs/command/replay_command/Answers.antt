use Rattle.{command_words.{proofs.Common.{true, ap, ap₂, ◌∙◌, with_rule}, specs.Command.{replay_app}}, clap.specs.Simple.{Shape, app_of_fields, on_top}}
use Rattle.command_words.proofs.command.replay_command.Goals as goal

pub returns : goal.returns
unfolding replay_app
returns c =
    let bare_is = ap app_of_fields c.no_binary_name.ensures ∙ ap (on_top (λ (s : Shape). record s { no_binary_name = true })) c.new.ensures.app in
    let mode_is = c.in_ok-arg.ensures.shape c.option.ensures.local ∙ ap₂ with_rule bare_is c.option.ensures.rule in
    let limit_is = c.in_ok-arg-2.ensures.shape c.option-2.ensures.local ∙ ap₂ with_rule mode_is c.option-2.ensures.rule in
    let gen_is = c.in_ok-arg-3.ensures.shape c.option-3.ensures.local ∙ ap₂ with_rule limit_is c.option-3.ensures.rule in
    let resume_is = c.in_ok-arg-4.ensures.shape c.option-4.ensures.local ∙ ap₂ with_rule gen_is c.option-4.ensures.rule in
    c.in_ok-command.ensures.shape c.positional.ensures.local ∙ ap₂ with_rule resume_is c.positional.ensures.rule
