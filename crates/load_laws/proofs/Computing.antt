-- All that unfolds when the rule file of a load is read and checked.
use Rattle.std.specs.Str.{is_utf8, chars}
use lib.Utf8.{encode}

unfoldable pub reading : Unit {0}
unfolding
    Rattle.temporal_ops.specs.Operators.edges_of
    Rattle.temporal_net.specs.Potentials.potentials Rattle.temporal_net.specs.Potentials.is_solvable
    Rattle.drl_lex.specs.Bytes.is_blank Rattle.drl_lex.specs.Bytes.begins_word Rattle.drl_lex.specs.Bytes.is_word_byte Rattle.drl_lex.specs.Bytes.is_run_byte Rattle.drl_lex.specs.Bytes.is_unit_byte Rattle.drl_lex.specs.Bytes.is_quote
    Rattle.drl_lex.specs.Fronts.longest
    Rattle.drl_lex.specs.Leads.lead_of Rattle.drl_lex.specs.Leads.text_byte_of
    Rattle.drl_lex.specs.MarkReading.single_mark Rattle.drl_lex.specs.MarkReading.double_mark Rattle.drl_lex.specs.MarkReading.mark_at
    Rattle.drl_lex.specs.Reading.run_kind Rattle.drl_lex.specs.Reading.run_at Rattle.drl_lex.specs.Reading.word_at Rattle.drl_lex.specs.Reading.var_at Rattle.drl_lex.specs.Reading.content_at Rattle.drl_lex.specs.Reading.text_at Rattle.drl_lex.specs.Reading.piece_of Rattle.drl_lex.specs.Reading.piece_at Rattle.drl_lex.specs.Reading.lexed_from Rattle.drl_lex.specs.Reading.lexed
    Rattle.drl_lex.specs.Texts.utf8_text
    Rattle.drl_lex.specs.TimeReading.unit_part_at Rattle.drl_lex.specs.TimeReading.last_at Rattle.drl_lex.specs.TimeReading.time_of Rattle.drl_lex.specs.TimeReading.capped
    Rattle.drl_expr.specs.Words.is_ident
    Rattle.drl_grammar.specs.Files.opens_block Rattle.drl_grammar.specs.Files.begins_item Rattle.drl_grammar.specs.Files.ends_block Rattle.drl_grammar.specs.Files.extent
    Rattle.drl_phrase.specs.Reading.after Rattle.drl_phrase.specs.Reading.after_word Rattle.drl_phrase.specs.Reading.closed Rattle.drl_phrase.specs.Reading.ended Rattle.drl_phrase.specs.Reading.ident Rattle.drl_phrase.specs.Reading.more_at Rattle.drl_phrase.specs.Reading.separated_at Rattle.drl_phrase.specs.Reading.listed_at Rattle.drl_phrase.specs.Reading.turns_at Rattle.drl_phrase.specs.Reading.many_at Rattle.drl_phrase.specs.Reading.maybe_at Rattle.drl_phrase.specs.Reading.optional_at Rattle.drl_phrase.specs.Reading.whole_at Rattle.drl_phrase.specs.Reading.span_at Rattle.drl_phrase.specs.Reading.name_at
    Rattle.drl_condition.specs.Reading.literal_at Rattle.drl_condition.specs.Reading.test_operand_at Rattle.drl_condition.specs.Reading.compared_at Rattle.drl_condition.specs.Reading.one_of_at Rattle.drl_condition.specs.Reading.cmp_at Rattle.drl_condition.specs.Reading.params_at Rattle.drl_condition.specs.Reading.other_at Rattle.drl_condition.specs.Reading.temporal_at Rattle.drl_condition.specs.Reading.any_of_at Rattle.drl_condition.specs.Reading.part_at Rattle.drl_condition.specs.Reading.extent_at Rattle.drl_condition.specs.Reading.window_at Rattle.drl_condition.specs.Reading.place_at Rattle.drl_condition.specs.Reading.binding_at Rattle.drl_condition.specs.Reading.pattern_at Rattle.drl_condition.specs.Reading.source_at Rattle.drl_condition.specs.Reading.group_at Rattle.drl_condition.specs.Reading.value_test_at Rattle.drl_condition.specs.Reading.result_test_at Rattle.drl_condition.specs.Reading.result_tests_at Rattle.drl_condition.specs.Reading.call_at Rattle.drl_condition.specs.Reading.last_call_at Rattle.drl_condition.specs.Reading.number_call_at Rattle.drl_condition.specs.Reading.number_source_at Rattle.drl_condition.specs.Reading.number_tests_at Rattle.drl_condition.specs.Reading.number_at Rattle.drl_condition.specs.Reading.result_at Rattle.drl_condition.specs.Reading.accumulate_call_at Rattle.drl_condition.specs.Reading.accumulate_at Rattle.drl_condition.specs.Reading.form_at Rattle.drl_condition.specs.Reading.formed_at Rattle.drl_condition.specs.Reading.condition_at
    Rattle.drl_condition.specs.Choices.ends_all Rattle.drl_condition.specs.Choices.all_turns Rattle.drl_condition.specs.Choices.all_at Rattle.drl_condition.specs.Choices.any_turns Rattle.drl_condition.specs.Choices.any_at Rattle.drl_condition.specs.Choices.alternatives_at Rattle.drl_condition.specs.Choices.after_open Rattle.drl_condition.specs.Choices.choice_at Rattle.drl_condition.specs.Choices.pieces_at
    Rattle.drl_condition.specs.Words.op_word Rattle.drl_condition.specs.Words.fold_word Rattle.drl_condition.specs.Words.result_word Rattle.drl_condition.specs.Words.window_word Rattle.drl_condition.specs.Words.word_form
    Rattle.drl_action.specs.Reading.action_word Rattle.drl_action.specs.Reading.action_at
    Rattle.drl_parse.specs.Items.items_at
    Rattle.drl_parse.specs.Parsed.file_limit Rattle.drl_parse.specs.Parsed.parsed_by Rattle.drl_parse.specs.Parsed.parsed
    Rattle.drl_parse.specs.Reading.meta_word_of Rattle.drl_parse.specs.Reading.role_word Rattle.drl_parse.specs.Reading.item_word Rattle.drl_parse.specs.Reading.behind_meta Rattle.drl_parse.specs.Reading.meta_at Rattle.drl_parse.specs.Reading.field_at Rattle.drl_parse.specs.Reading.parent_at Rattle.drl_parse.specs.Reading.type_at Rattle.drl_parse.specs.Reading.attr_at Rattle.drl_parse.specs.Reading.actions_at Rattle.drl_parse.specs.Reading.conditions_at Rattle.drl_parse.specs.Reading.rule_at Rattle.drl_parse.specs.Reading.declare_at Rattle.drl_parse.specs.Reading.behind_item Rattle.drl_parse.specs.Reading.item_at
    Rattle.rule_model.specs.Types.is_event Rattle.rule_model.specs.Types.is_point
    Rattle.expiry_infer.specs.Solvable.can_match
    Rattle.drl_scope.specs.Declarations.kind_by_word
    Rattle.drl_scope.specs.EntryPoints.with_names
    Rattle.drl_scope.specs.Names.are_distinct Rattle.drl_scope.specs.Names.place_from
    Rattle.drl_scope.specs.Sight.meaning_of
    Rattle.subrules.specs.Hierarchy.ancestors Rattle.subrules.specs.Hierarchy.goes_on Rattle.subrules.specs.Ways.each_behind Rattle.subrules.specs.Ways.walked Rattle.subrules.specs.Ways.ways_of
    Rattle.subrules.specs.Expanded.inherited_metas Rattle.subrules.specs.Expanded.inherited_fields Rattle.subrules.specs.Expanded.numbered_rules Rattle.subrules.specs.Expanded.origins_from
    Rattle.subrules.specs.Faults.obstacle_from
    Rattle.drl_limits.specs.Limits.span_limit
    Rattle.drl_typing.specs.Kinds.fields_once
    Rattle.drl_typing.specs.Uses.any_condition
    Rattle.drl_compile.specs.Operators.is_span
    Rattle.drl_compile.specs.Programs.conditions_meant
    Rattle.drl_check.specs.Checks.failure_from
    Rattle.drl_check.specs.Outcomes.checked
    Rattle.gen_load.specs.Rules.rules_text
    is_utf8 chars encode
reading = tt
