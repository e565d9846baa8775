use Rattle.std.proofs.Common.{◌≡◌, ◌∙◌, codes, ap, ap₂}
use Rattle.std.proofs.lemmas.Result.{IfOk-weaker}
use Rattle.clap.specs.Words.{App, app_of, with_subcommand}
use Rattle.clap.specs.Simple.{new_shape}
use Rattle.ebs_words.specs.inner.Grammar as spec
use Rattle.ebs_words.proofs.grammar.grammar.Goals as goal

abbrev one : App
one = with_subcommand spec.level (new_shape (codes "session"))

abbrev two : App
two = with_subcommand one spec.init

abbrev three : App
three = with_subcommand two (new_shape (codes "tick"))

abbrev four : App
four = with_subcommand three (new_shape (codes "collect"))

abbrev five : App
five = with_subcommand four (new_shape (codes "usage"))

abbrev six : App
six = with_subcommand five (new_shape (codes "check"))

pub returns : goal.returns
returns c =
    let one_is : app_of c.in_ok-subcommand.field-0 ≡ one = c.in_ok-subcommand.ensures.shape c.new.ensures.local ∙ ap₂ with_subcommand c.level.ensures (ap (λ (a : App). a.top) c.new.ensures.app) in
    let two_is : app_of c.in_ok-subcommand-2.field-0 ≡ two = c.in_ok-subcommand-2.ensures.shape c.in_ok-init.ensures.local ∙ ap₂ with_subcommand one_is c.in_ok-init.ensures.shape in
    let three_is : app_of c.in_ok-subcommand-3.field-0 ≡ three = c.in_ok-subcommand-3.ensures.shape c.new-2.ensures.local ∙ ap₂ with_subcommand two_is (ap (λ (a : App). a.top) c.new-2.ensures.app) in
    let four_is : app_of c.in_ok-subcommand-4.field-0 ≡ four = c.in_ok-subcommand-4.ensures.shape c.new-3.ensures.local ∙ ap₂ with_subcommand three_is (ap (λ (a : App). a.top) c.new-3.ensures.app) in
    let five_is : app_of c.in_ok-subcommand-5.field-0 ≡ five = c.in_ok-subcommand-5.ensures.shape c.new-4.ensures.local ∙ ap₂ with_subcommand four_is (ap (λ (a : App). a.top) c.new-4.ensures.app) in
    let six_is : app_of c.in_ok-subcommand-6.field-0 ≡ six = c.in_ok-subcommand-6.ensures.shape c.new-5.ensures.local ∙ ap₂ with_subcommand five_is (ap (λ (a : App). a.top) c.new-5.ensures.app) in
    IfOk-weaker c.subcommand-7.result _ _ (λ r adds. adds.shape c.in_ok-sample.ensures.local ∙ ap₂ with_subcommand six_is c.in_ok-sample.ensures.shape) c.subcommand-7.ensures
