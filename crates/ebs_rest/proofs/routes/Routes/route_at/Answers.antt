use Rattle.ebs_rest.proofs.Captures.{IsRead, read_of}
use Rattle.ebs_rest.proofs.routes.Routes.route_at.Goals as goal

pub of-requires : goal.of-requires
of-requires c =
    let read : IsRead c.in-Ok.found.params c.in-Ok.found.value.now = read_of c.in-Ok.found.params c.args.path.now _ _ c.args.self.now.built c.utf8.path c.in-Ok.ensures.found c.in-Ok.ensures.path in
    record { texts = read.texts; by_name = read.by_name }

pub returns-in-Ok-clause-text : goal.returns-in-Ok-clause-text
returns-in-Ok-clause-text c =
    let read : IsRead c.in-Ok.found.params c.in-Ok.found.value.now = read_of c.in-Ok.found.params c.args.path.now _ _ c.args.self.now.built c.utf8.path c.in-Ok.ensures.found c.in-Ok.ensures.path in
    rw (c.of.ensures, c.as_str.ensures) read.text
