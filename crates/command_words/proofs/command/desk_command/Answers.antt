use Rattle.{command_words.{proofs.Common.{true, ap, ap₂, ◌∙◌, with_rule}, specs.Command.{desk_app}}, clap.specs.Simple.{Shape, app_of_fields, on_top}}
use Rattle.command_words.proofs.command.desk_command.Goals as goal

pub returns : goal.returns
unfolding desk_app
returns c =
    let named_is = ap app_of_fields c.no_binary_name.ensures ∙ ap (on_top (λ (s : Shape). record s { no_binary_name = true })) c.new.ensures.app in
    let bare_is = ap app_of_fields c.disable_help_flag.ensures ∙ ap (on_top (λ (s : Shape). record s { disable_help_flag = true })) named_is in
    let limit_is = c.in_ok-arg.ensures.shape c.option.ensures.local ∙ ap₂ with_rule bare_is c.option.ensures.rule in
    let image_is = c.in_ok-arg-2.ensures.shape c.option-2.ensures.local ∙ ap₂ with_rule limit_is c.option-2.ensures.rule in
    let keep_is = c.in_ok-arg-3.ensures.shape c.option-3.ensures.local ∙ ap₂ with_rule image_is c.option-3.ensures.rule in
    let text_is = c.in_ok-arg-4.ensures.shape c.flag.ensures.local ∙ ap₂ with_rule keep_is c.flag.ensures.rule in
    let help_is = c.in_ok-arg-5.ensures.shape c.flag-2.ensures.local ∙ ap₂ with_rule text_is c.flag-2.ensures.rule in
    let version_is = c.in_ok-arg-6.ensures.shape c.flag-3.ensures.local ∙ ap₂ with_rule help_is c.flag-3.ensures.rule in
    c.in_ok-command.ensures.shape c.positional.ensures.local ∙ ap₂ with_rule version_is c.positional.ensures.rule
