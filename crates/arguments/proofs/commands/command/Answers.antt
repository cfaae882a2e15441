use Rattle.std.proofs.Common.{◌≡◌, ◌∙◌, ap, ap₂, refl, codes, true}
use Rattle.std.proofs.lemmas.Result.{IfOk-weaker}
use Rattle.clap.specs.Words.{App, app_of, new_app, with_rule}
use Rattle.clap.specs.Simple.{app_of_fields, on_top}
use Rattle.arguments.specs.CommandLine.{files_rule, flag_rule, option_rule, crobots_app}
use Rattle.arguments.proofs.commands.command.Goals as goal

abbrev unnamed : App
unnamed = on_top (λ top. record top { no_binary_name = true }) (new_app (codes "crobots"))

in_turn : crobots_app ≡
    with_rule (with_rule (with_rule (with_rule (with_rule (with_rule (with_rule unnamed (flag_rule (codes "c") 99))
    (option_rule (codes "m") 109)) (option_rule (codes "l") 108)) (option_rule (codes "s") 115))
    (option_rule (codes "p") 112))
    (option_rule (codes "f") 102)) (files_rule (codes "FILE"))
unfolding crobots_app
in_turn = refl

pub returns : goal.returns
returns c =
    let start : app_of c.no_binary_name.result ≡ unnamed =
    ap app_of_fields c.no_binary_name.ensures ∙
    ap (on_top (λ top. record top { no_binary_name = true })) c.new.ensures.app in
    let one = c.in_ok-arg.ensures.shape c.flag.ensures.local ∙ ap₂ with_rule start c.flag.ensures.rule in
    let two = c.in_ok-arg-2.ensures.shape c.option.ensures.local ∙ ap₂ with_rule one c.option.ensures.rule in
    let three = c.in_ok-arg-3.ensures.shape c.option-2.ensures.local ∙ ap₂ with_rule two c.option-2.ensures.rule in
    let four = c.in_ok-arg-4.ensures.shape c.option-3.ensures.local ∙ ap₂ with_rule three c.option-3.ensures.rule in
    let five = c.in_ok-arg-5.ensures.shape c.option-4.ensures.local ∙ ap₂ with_rule four c.option-4.ensures.rule in
    let six = c.in_ok-arg-6.ensures.shape c.option-5.ensures.local ∙ ap₂ with_rule five c.option-5.ensures.rule in
    rw in_turn
    (IfOk-weaker c.arg-7.result _ _
    (λ r added. added.shape c.files.ensures.local ∙ ap₂ with_rule six c.files.ensures.rule) c.arg-7.ensures)
