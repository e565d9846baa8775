use Rattle.std.proofs.lemmas.List.{take_rest}
use Rattle.ebs_http.proofs.BegunLemmas.{begun_lines_at}
use Rattle.ebs_http.proofs.fields.lines_after.Goals as goal

pub returns-in-Some : goal.returns-in-Some
returns-in-Some c =
    let found = rw take_rest at c.in-Some.ensures in
    begun_lines_at c.args.bytes.now c.args.begun c.in-Some.place c.requires.begun found.0.high found.1 c.requires.«open».none c.requires.«open».may
