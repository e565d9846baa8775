use Rattle.std.proofs.Common.{◌≡◌, inr}
use Rattle.ebs_members.specs.Sources.{path_of}
use Rattle.ebs_members.proofs.Queries.{wants_less}
use Rattle.ebs_rest.proofs.Texts.{lossy_kept, makes_by_path}
use Rattle.ebs_rest.proofs.routes.Routes.call_of.Goals as goal

pub call_at-requires : goal.call_at-requires
call_at-requires c = lossy_kept _ _ (rw (c.path_and_query.ensures.path, c.as_slice.ensures) at c.in-Some.ensures)

pub returns-in-Some-clause-memory : goal.returns-in-Some-clause-memory
returns-in-Some-clause-memory c =
    let is : path_of c.args.message.target ≡ c.in-Some.path.now = lossy_kept _ _ (rw (c.path_and_query.ensures.path, c.as_slice.ensures) at c.in-Some.ensures) in
    let made = rw c.replace-body.ensures.value at c.call_at.ensures.memory in
    wants_less _ made (λ by_path. inr (makes_by_path c.args.message c.in-Some.path.now is by_path))

pub returns-in-Some-clause-value : goal.returns-in-Some-clause-value
returns-in-Some-clause-value c = rw c.replace-body.ensures.value at c.call_at.ensures.value

pub returns-clause-value : goal.returns-clause-value
returns-clause-value c = rw c.replace-body.ensures.value at c.call_at_bytes.ensures.value
