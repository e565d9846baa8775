use Rattle.std.proofs.Common.{◌≡◌, ◌∙◌, Some, None, codes, sym}
use Rattle.clap.specs.Words.{first_of, found_of, rows_of}
use Rattle.clap.proofs.WalkLemmas.{first_value-rows}
use Rattle.ebs_words.proofs.words.secret_in.Goals as goal

pub returns-in-Some : goal.returns-in-Some
returns-in-Some c = λ secret.
    let first : Some c.in-Some.text.now ≡ first_of (codes "secret") (rows_of (found_of c.args.values.now)) = c.in-Some.ensures ∙ first_value-rows (found_of c.args.values.now) (codes "secret") in
    rw (sym first) (c.read_secret.ensures secret)

pub returns-in-None : goal.returns-in-None
returns-in-None c = λ secret.
    let first : None ≡ first_of (codes "secret") (rows_of (found_of c.args.values.now)) = c.in-None.ensures ∙ first_value-rows (found_of c.args.values.now) (codes "secret") in
    rw (sym first) (λ e. cc, λ e. cc)
