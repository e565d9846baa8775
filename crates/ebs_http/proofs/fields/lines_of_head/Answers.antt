use Rattle.std.proofs.Common.{sym, ◌∙◌}
use Rattle.ebs_http.proofs.BegunLemmas.{begun_front_at}
use Rattle.ebs_http.proofs.fields.lines_of_head.Goals as goal

pub returns-then-contains : goal.returns-then-contains
returns-then-contains c =
    begun_front_at c.args.bytes.now c.in-Some.place c.in-Some.ensures.0.high c.in-Some.ensures.1
    (sym c.contains.ensures.value ∙ c.if-contains.true) c.requires.none c.requires.may
