use Rattle.drl_show.proofs.{Common.{◌≡◌, ◌∷◌, [], ap, ◌∙◌, codes, on_ok_weaker, Word, Mark, OpenParenthesis, source_tokens, added}, Added.{accumulate_is}}
use Rattle.drl_show.proofs.conditions.accumulate.Goals as goal

pub returns : goal.returns
returns c =
    let words : c.mark.new.out.items ≡ added c.args.out.now.items (Word (codes "from") ∷ Word (codes "accumulate") ∷ Mark OpenParenthesis ∷ []) =
    c.in_ok-mark.ensures ∙ ap (λ bytes. added bytes (Mark OpenParenthesis ∷ [])) (c.in_ok-word-2.ensures ∙ ap (λ bytes. added bytes (Word (codes "accumulate") ∷ [])) c.in_ok-word.ensures) in
    on_ok_weaker c.function.result (accumulate_is c.args.out.now.items _ _ c.args.source.now c.args.kind c.args.arg.now (c.in_ok-write.ensures ∙ ap (λ bytes. added bytes (source_tokens c.args.source.now)) words)) c.function.ensures
