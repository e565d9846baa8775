use Rattle.std.proofs.Common.{◌≡◌, ◌∙◌, Some, None, codes, sym, rules}
use Rattle.clap.specs.Words.{first_of, found_of, rows_of}
use Rattle.clap.proofs.WalkLemmas.{first_value-rows}
use Rattle.ebs_words.proofs.words.rounds_in.Goals as goal

pub returns-in_err-get_str : goal.returns-in_err-get_str
returns-in_err-get_str c = λ rounds.
    let first : None ≡ first_of (codes "rounds") (rows_of (found_of c.args.values.now)) = c.in_err-get_str.ensures ∙ first_value-rows (found_of c.args.values.now) (codes "rounds") in
    let none : c.from_residual.result ≡ None = search rules in
    rw (sym first, none) (λ e. cc, λ e. absurd e)

pub returns : goal.returns
returns c = λ rounds.
    let first : Some c.in_ok-get_str.field-0.now ≡ first_of (codes "rounds") (rows_of (found_of c.args.values.now)) = c.in_ok-get_str.ensures ∙ first_value-rows (found_of c.args.values.now) (codes "rounds") in
    rw (sym first) (c.read_number.ensures rounds)
